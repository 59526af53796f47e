use Rattle.std.proofs.Common.{◌∙◌, sym, ap, List, map}
use Rattle.std.specs.Prelude.{Some, None}
use Rattle.fleet_jobs.specs.Sources.{name_of}
use Rattle.fleet_jobs.specs.Specs.{spec_of}
use Rattle.fleet_jobs.specs.declared.source_id.SourceId.{SourceId}
use Rattle.fleet_jobs.specs.declared.spec.CompactionSpec.{CompactionSpec}
use Rattle.fleet_sched.proofs.TreeViews.{into_named, names_of_runs}
use Rattle.fleet_sched.proofs.defaults.full_spec.Goals as goal

pub returns-in_default : goal.returns-in_default
returns-in_default c =
    let names = ap (λ (sources : List SourceId). map name_of sources) c.as_slice.ensures.value ∙ c.in_ok-sources.ensures ∙ ap names_of_runs c.iter.ensures in
    into_named c.args.segment.now c.args.tree.now (map name_of c.as_slice.result.now) None names (sym c.in_default.is ∙ c.lowest_run.ensures)

pub returns : goal.returns
returns c =
    let names = ap (λ (sources : List SourceId). map name_of sources) c.as_slice.ensures.value ∙ c.in_ok-sources.ensures ∙ ap names_of_runs c.iter.ensures in
    ap (λ (spec : CompactionSpec). Some (spec_of spec)) c.for_segment.ensures
    ∙ cc c.in_ok-segment.ensures.cases
    ∙ into_named c.args.segment.now c.args.tree.now (map name_of c.as_slice.result.now) (Some c.in-Some.lowest) names (sym c.in-Some.is ∙ c.lowest_run.ensures)
