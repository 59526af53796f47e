use Rattle.std.proofs.Common.{◌≡◌, sym, subst, [], List, arith}
use Rattle.std.proofs.lemmas.Grind.{common_steps}
use Rattle.std.proofs.lemmas.Result.{err_from_is_err_and}
use Rattle.row_model.specs.JobRows.{JobRows}
use Rattle.row_model.specs.Rows.{Row}
use Rattle.fleet_fold.specs.Jobs.{GivesJob}
use Rattle.fleet_fold.specs.JobState as job_state
use Rattle.fleet_iter.specs.MergeState as merge
use Rattle.fleet_range.specs.Keys.{range_of}
use Rattle.fleet_rows.specs.Settings.{settings_of}
use Rattle.fleet_table.specs.Iterator.{state_of}
use Rattle.fleet_exec.specs.Ranges.{rows_from}
use Rattle.fleet_exec.specs.Tables.{RefusesTableUnless, GivesTable}
use Rattle.std.specs.Prelude.{None, Some}
use Rattle.fleet_exec.proofs.Made.{made_is_left, next_is, none_is, refuses_next}
use Rattle.fleet_exec.proofs.tables.next_table.Goals as goal

pub returns-in_err-table-clause-refused : goal.returns-in_err-table-clause-refused
returns-in_err-table-clause-refused g c =
    let folds = g.O.MergeOperator.merged (g.O.MergeOperator.settings c.args.operator.now) in
    let job = c.args.job.now in
    let settings = settings_of job.settings in
    let range = range_of job.range in
    let s = job_state.state_of g.O.MergeOperator.settings g.O.MergeOperator.merged (merge.state_of state_of) c.in_ok-left.left in
    let gives = subst (λ (all : List (List (List Row))). GivesJob folds settings (rows_from range job.cursor all) s) c.as_slice.ensures c.in_ok-left.ensures.job in
    let rows = rows_from range job.cursor c.args.sources.now in
    let p = err_from_is_err_and c.from_residual-in_err-table.result c.from_residual-in_err-table.ensures.1 in
    let e = c.in_err-table.field-0.0 in
    rw (p.1, p.2) (subst (λ (made : JobRows). RefusesTableUnless folds settings job.cursor rows made c.args.rows e) (sym (made_is_left folds settings range c.args.sources.now job.cursor c.requires.sources))
    (refuses_next folds settings job.cursor rows c.args.rows s gives e c.in_err-table.ensures.err))

pub returns-then-is_empty-clause-table : goal.returns-then-is_empty-clause-table
returns-then-is_empty-clause-table g c =
    let folds = g.O.MergeOperator.merged (g.O.MergeOperator.settings c.args.operator.now) in
    let job = c.args.job.now in
    let settings = settings_of job.settings in
    let range = range_of job.range in
    let state = job_state.state_of g.O.MergeOperator.settings g.O.MergeOperator.merged (merge.state_of state_of) in
    let gives = subst (λ (all : List (List (List Row))). GivesJob folds settings (rows_from range job.cursor all) (state c.in_ok-left.left)) c.as_slice.ensures c.in_ok-left.ensures.job in
    let none : c.in_ok-table.table.items ≡ [] = grind (arith, common_steps) in
    subst (λ (made : JobRows). GivesTable made c.args.rows None) (sym (made_is_left folds settings range c.args.sources.now job.cursor c.requires.sources))
    (none_is folds settings job.cursor (rows_from range job.cursor c.args.sources.now) c.args.rows (state c.in_ok-left.left) gives c.in_ok-table.table.items (state c.take_rows.new.source) c.in_ok-table.ensures.ok c.requires.some none)

pub returns-clause-table : goal.returns-clause-table
returns-clause-table g c =
    let folds = g.O.MergeOperator.merged (g.O.MergeOperator.settings c.args.operator.now) in
    let job = c.args.job.now in
    let settings = settings_of job.settings in
    let range = range_of job.range in
    let state = job_state.state_of g.O.MergeOperator.settings g.O.MergeOperator.merged (merge.state_of state_of) in
    let gives = subst (λ (all : List (List (List Row))). GivesJob folds settings (rows_from range job.cursor all) (state c.in_ok-left.left)) c.as_slice.ensures c.in_ok-left.ensures.job in
    subst (λ (made : JobRows). GivesTable made c.args.rows (Some c.in_ok-table.table.items)) (sym (made_is_left folds settings range c.args.sources.now job.cursor c.requires.sources))
    (next_is folds settings job.cursor (rows_from range job.cursor c.args.sources.now) c.args.rows (state c.in_ok-left.left) gives c.in_ok-table.table.items (state c.take_rows.new.source) c.in_ok-table.ensures.ok (λ e. grind (arith, common_steps, e)))
