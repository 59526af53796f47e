use Rattle.std.proofs.Common.{◌∙◌, sym, ap, map, drop, List}
use Rattle.std.specs.Prelude.{is_some}
use Rattle.std.specs.Option.{option_copied}
use Rattle.fleet_model.specs.Nodes.{Run}
use Rattle.fleet_model.specs.Sources.{after_front}
use Rattle.fleet_jobs.specs.Sources.{name_of}
use Rattle.fleet_tree.specs.declared.run.SortedRun.{SortedRun}
use Rattle.fleet_book.specs.Finishes.{is_named}
use Rattle.fleet_book.proofs.Exchanged.{exchanged_runs, same_runs}
use Rattle.fleet_book.proofs.exchange.exchanged_part.Goals as goal

pub returns-clause-runs : goal.returns-clause-runs
returns-clause-runs c =
    let named = c.after_flushes-named.result.now in
    let front = c.if-not-are_in_front.ensures
    ∙ ap (λ (runs : List SortedRun). is_some (after_front (map name_of named) (map (λ run. Run run.id) runs))) c.iter_from.ensures in
    exchanged_runs c.args.sources.now named
    (λ id. same_runs c.args.sources.now id ∙ ap (λ sources. is_named sources (Run id)) (sym c.after_flushes-named.ensures))
    c.args.runs.now c.first_place-place.result (option_copied c.args.output) (sym c.if-not-fits.ensures) front
