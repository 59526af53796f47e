use Rattle.std.proofs.Common.{sym, ◌∙◌}
use Rattle.fleet_read.specs.Stored.{IsHeldView}
use Rattle.fleet_read.proofs.Taken.{left_hidden, left_held, left_none, left_one}
use Rattle.fleet_read.proofs.read.take_tables.Goals as goal

pub returns-then-is_hiding-clause-taken : goal.returns-then-is_hiding-clause-taken
returns-then-is_hiding-clause-taken c =
    left_hidden c.args.store.now.world.store c.args.key.now c.args.views c.views.view-iterator c.args.read.now c.views.read c.views.invariant.1 (sym c.is_hiding.ensures ∙ c.if-is_hiding.true)

pub views-preserved : goal.views-preserved
views-preserved c = (
  (left_held (IsHeldView c.args.store.now.world.store) c.views.view-iterator c.in-Some.view.now _ c.in-Some.ensures.steps c.views.invariant.0).1,
  left_one c.args.store.now.world.store c.args.key.now c.args.views c.views.view-iterator c.in-Some.view.now _ c.args.read.now c.views.read c.take_table.new.read c.views.invariant.1 c.in-Some.ensures.steps c.in_ok-take_table.ensures.taken,
)

pub returns-clause-taken : goal.returns-clause-taken
returns-clause-taken c = left_none c.args.store.now.world.store c.args.key.now c.args.views c.views.view-iterator c.args.read.now c.views.read c.views.invariant.1 c.in-None.ensures.steps.0
