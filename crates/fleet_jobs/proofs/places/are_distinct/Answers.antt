use Rattle.std.proofs.Common.{◌∙◌, sym}
use Rattle.fleet_jobs.specs.Sources.{name_of}
use Rattle.fleet_jobs.proofs.Standing.{distinct_to, twice_at}
use Rattle.fleet_jobs.proofs.places.are_distinct.Goals as goal

pub returns-then-contains : goal.returns-then-contains
returns-then-contains c =
    twice_at name_of c.args.nodes.now c.nodes.node-index c.node-item.result c.nodes.seen c.nodes-test.true c.node-item.is c.nodes.invariant.0 (sym c.contains.ensures ∙ c.if-contains.true)

pub nodes-preserved : goal.nodes-preserved
nodes-preserved c =
    distinct_to name_of c.args.nodes.now c.nodes.node-index c.node-item.result c.nodes.seen c.add.new.self c.nodes-test.true c.node-item.is c.nodes.invariant
    (sym c.contains.ensures ∙ c.if-contains.false) c.in_ok-add.ensures.ok
