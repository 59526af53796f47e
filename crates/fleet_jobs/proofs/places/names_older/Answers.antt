use Rattle.std.proofs.Common.{◌∙◌, sym, ap, not, ◌||◌}
use Rattle.std.specs.List.{list_all}
use Rattle.fleet_model.specs.Nodes.{is_l0, names_contain}
use Rattle.fleet_jobs.specs.Sources.{name_of}
use Rattle.fleet_jobs.proofs.Standing.{older_here}
use Rattle.fleet_jobs.proofs.places.names_older.Goals as goal

pub returns-then-contains : goal.returns-then-contains
returns-then-contains c =
    let sources = c.args.sources.now in
    c.has_flushes.ensures
    ∙ ap (list_all (λ node. not (is_l0 (name_of node)) || names_contain sources (name_of node))) c.after_first.ensures
    ∙ older_here name_of sources c.rest.rest.now c.index-rest-0.result c.index-rest-0.is (sym c.is_flush.ensures ∙ c.if-is_flush.true) (sym c.contains.ensures ∙ c.if-contains.true)
    ∙ sym c.rest.invariant
