use Rattle.std.proofs.Common.{sym, subst, map}
use Rattle.std.proofs.lemmas.Result.{err_from_is_err_and}
use Rattle.row_model.specs.JobRows.{JobRows}
use Rattle.fleet_fold.specs.JobState as job_state
use Rattle.fleet_iter.specs.MergeState as merge
use Rattle.fleet_range.specs.Keys.{range_of}
use Rattle.fleet_rows.specs.Row.{rows_of}
use Rattle.fleet_rows.specs.Settings.{settings_of}
use Rattle.fleet_table.specs.Iterator.{state_of}
use Rattle.fleet_exec.specs.Cut.{IsFinished, RefusesRangeUnless}
use Rattle.fleet_exec.specs.Ranges.{rows_from}
use Rattle.fleet_exec.proofs.Bounded.{range_bounds}
use Rattle.fleet_exec.proofs.Made.{made_is_left, all_bounded, finishes, refuses_finish}
use Rattle.fleet_exec.proofs.finish.finish_range.Goals as goal

pub take_tables-requires-clause-bounded : goal.take_tables-requires-clause-bounded
take_tables-requires-clause-bounded g c _ _ =
    let folds = g.O.MergeOperator.merged (g.O.MergeOperator.settings c.args.operator.now) in
    let job = c.args.job.now in
    let sources = c.args.sources.now in
    let s = job_state.state_of g.O.MergeOperator.settings g.O.MergeOperator.merged (merge.state_of state_of) c.in_ok-left.left in
    all_bounded folds (settings_of job.settings) job.cursor (rows_from (range_of job.range) job.cursor sources) 0 s c.in_ok-left.ensures.job c.is_lawful.ensures (range_bounds (range_of job.range) job.cursor sources c.are_bounded.ensures)

pub returns-in_err-take_tables-clause-err : goal.returns-in_err-take_tables-clause-err
returns-in_err-take_tables-clause-err g c =
    let folds = g.O.MergeOperator.merged (g.O.MergeOperator.settings c.args.operator.now) in
    let job = c.args.job.now in
    let sources = c.args.sources.now in
    let rows = rows_from (range_of job.range) job.cursor sources in
    let s = job_state.state_of g.O.MergeOperator.settings g.O.MergeOperator.merged (merge.state_of state_of) c.in_ok-left.left in
    let p = err_from_is_err_and c.from_residual-in_err-take_tables.result c.from_residual-in_err-take_tables.ensures.1 in
    let e = c.in_err-take_tables.field-0.0 in
    rw (p.1, p.2) (subst (λ (made : JobRows). RefusesRangeUnless folds rows made e) (sym (made_is_left folds (settings_of job.settings) (range_of job.range) sources job.cursor c.requires))
    (refuses_finish folds (settings_of job.settings) job.cursor rows 0 s c.in_ok-left.ensures.job e c.in_err-take_tables.ensures.err))

pub returns-clause-ok : goal.returns-clause-ok
returns-clause-ok g c =
    let folds = g.O.MergeOperator.merged (g.O.MergeOperator.settings c.args.operator.now) in
    let job = c.args.job.now in
    let sources = c.args.sources.now in
    let rows = rows_from (range_of job.range) job.cursor sources in
    let s = job_state.state_of g.O.MergeOperator.settings g.O.MergeOperator.merged (merge.state_of state_of) c.in_ok-left.left in
    subst (λ (made : JobRows). IsFinished c.args.size made (map rows_of c.in_ok-take_tables.field-0)) (sym (made_is_left folds (settings_of job.settings) (range_of job.range) sources job.cursor c.requires))
    (finishes folds (settings_of job.settings) job.cursor rows 0 s c.in_ok-left.ensures.job c.args.size (map rows_of c.in_ok-take_tables.field-0) c.in_ok-take_tables.ensures.ok c.in_ok-take_tables.ensures.whole)
