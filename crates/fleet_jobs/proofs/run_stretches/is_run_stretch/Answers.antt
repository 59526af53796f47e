use Rattle.std.proofs.Common.{◌∙◌, sym, ap}
use Rattle.std.specs.Prelude.{is_some}
use Rattle.std.specs.Option.{option_copied}
use Rattle.fleet_jobs.proofs.RunStretches.{from_first, none_needed, not_from_flush}
use Rattle.fleet_jobs.proofs.run_stretches.is_run_stretch.Goals as goal

pub returns-in-Some-maybe_unwrap_sorted_run : goal.returns-in-Some-maybe_unwrap_sorted_run
returns-in-Some-maybe_unwrap_sorted_run c =
    let first = ap option_copied (sym c.in-Some.is) ∙ c.first.ensures.value in
    c.are_among.ensures
    ∙ ap is_some (from_first c.args.sources.now c.in-Some.first.now c.in-Some-maybe_unwrap_sorted_run.id c.place_of.result c.args.runs.now c.iter_from.result first (sym c.in-Some-maybe_unwrap_sorted_run.is ∙ c.maybe_unwrap_sorted_run.ensures) c.place_of.ensures.place c.iter_from.ensures)

pub returns-in-None : goal.returns-in-None
returns-in-None c = not_from_flush c.args.sources.now c.in-Some.first.now c.args.runs.now (ap option_copied (sym c.in-Some.is) ∙ c.first.ensures.value) (sym c.in-None.is ∙ c.maybe_unwrap_sorted_run.ensures)

pub returns-in_default : goal.returns-in_default
returns-in_default c = none_needed c.args.sources.now c.args.runs.now (ap option_copied (sym c.in_default.is) ∙ c.first.ensures.value)
