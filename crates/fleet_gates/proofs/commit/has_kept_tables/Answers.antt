use Rattle.std.proofs.Common.{◌∙◌, ap}
use Rattle.fleet_model.specs.Jobs.{ids_eq}
use Rattle.fleet_model.specs.Trees.{tables_now}
use Rattle.fleet_tree.specs.Trees.{trees_of}
use Rattle.fleet_jobs.specs.Specs.{spec_of}
use Rattle.fleet_gates.proofs.commit.has_kept_tables.Goals as goal

pub returns : goal.returns
returns c = λ flushes.
    let trees = trees_of flushes c.args.core.now in
    let tables = c.as_slice.ensures.value ∙ c.in_ok-tables.ensures flushes ∙ ap (λ spec. tables_now trees (spec_of spec)) c.spec.ensures in
    c.eq.ensures
    ∙ ap (λ ids. ids_eq ids c.source_tables-2.result.now) tables
    ∙ ap (ids_eq (tables_now trees (spec_of c.args.job.now.spec))) c.source_tables-2.ensures
