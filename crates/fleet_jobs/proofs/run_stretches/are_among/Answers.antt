use Rattle.std.proofs.Common.{◌∙◌, sym, ap, map, List}
use Rattle.std.specs.Prelude.{is_some}
use Rattle.fleet_model.specs.Sources.{after_front}
use Rattle.fleet_tree.specs.declared.run.SortedRun.{SortedRun}
use Rattle.fleet_jobs.specs.Sources.{name_of}
use Rattle.fleet_jobs.proofs.RunStretches.{names_of_runs, stand_in_front}
use Rattle.fleet_jobs.proofs.run_stretches.are_among.Goals as goal

pub returns-then-are_in_front : goal.returns-then-are_in_front
returns-then-are_in_front c =
    let sources = map name_of c.args.sources.now in
    let front = sym c.if-are_in_front.true ∙ c.are_in_front.ensures ∙ ap (λ (runs : List SortedRun). is_some (after_front sources (names_of_runs runs))) c.clone.ensures in
    stand_in_front sources c.places.rest front ∙ ap is_some (sym c.places.invariant)
