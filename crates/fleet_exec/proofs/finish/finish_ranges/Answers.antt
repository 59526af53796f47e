use Rattle.std.proofs.Common.{◌≡◌, ◌∙◌, ◌<◌, sym, ap, subst, ℕ, List, map, length, get_or, Ok, Result}
use Rattle.std.proofs.lemmas.List.{length-map}
use Rattle.std.proofs.lemmas.Result.{err_from_is_err_and}
use Rattle.row_model.specs.Rows.{Row}
use Rattle.fleet_rows.specs.declared.row.RowEntry.{RowEntry}
use Rattle.fleet_rows.specs.declared.errors.SlateDBError.{SlateDBError}
use Rattle.fleet_exec.specs.Cut.{FinishesRange}
use Rattle.fleet_exec.specs.declared.range_job.RangeJob.{RangeJob}
use Rattle.fleet_exec.proofs.Finished.{all_finished, first_refuses}
use Rattle.fleet_exec.proofs.finish.finish_ranges.Goals as goal

pub returns-in_err-all_made-clause-refused : goal.returns-in_err-all_made-clause-refused
returns-in_err-all_made-clause-refused g c =
    let folds = g.O.MergeOperator.merged (g.O.MergeOperator.settings c.args.operator.now) in
    let jobs = c.args.jobs.now in
    let made = c.in_ok-made.made.items in
    let p = err_from_is_err_and c.from_residual-in_err-all_made.result c.from_residual-in_err-all_made.ensures.1 in
    let e = c.in_err-all_made.field-0.0 in
    let A : List (List (List Row)) → _ = λ all. (i : ℕ) (job : RangeJob) (d : Result (List (List RowEntry)) SlateDBError) → i < length jobs → FinishesRange folds all c.args.max_sst_size (get_or jobs i job) (get_or made i d) in
    let each = subst A c.as_slice-runs.ensures c.in_ok-made.ensures.each in
    rw (p.1, p.2) (λ other. first_refuses folds c.args.sources.now c.args.max_sst_size jobs made (sym c.in_ok-made.made.ok.0 ∙ c.in_ok-made.ensures.len) each e other (c.in_err-all_made.ensures.err other))

pub returns-clause-tables : goal.returns-clause-tables
returns-clause-tables g c =
    let folds = g.O.MergeOperator.merged (g.O.MergeOperator.settings c.args.operator.now) in
    let jobs = c.args.jobs.now in
    let made = c.in_ok-made.made.items in
    let ranges = c.in_ok-all_made.field-0.items in
    let is : made ≡ map (λ range. Ok range) ranges = c.in_ok-all_made.ensures.ok in
    let count : length (map (λ range. Ok range) ranges) ≡ length ranges = length-map _ _ in
    let A : List (List (List Row)) → _ = λ all. (i : ℕ) (job : RangeJob) (d : Result (List (List RowEntry)) SlateDBError) → i < length jobs → FinishesRange folds all c.args.max_sst_size (get_or jobs i job) (get_or made i d) in
    let B : List (Result (List (List RowEntry)) SlateDBError) → _ = λ w. (i : ℕ) (job : RangeJob) (d : Result (List (List RowEntry)) SlateDBError) → i < length jobs → FinishesRange folds c.args.sources.now c.args.max_sst_size (get_or jobs i job) (get_or w i d) in
    let each = subst B is (subst A c.as_slice-runs.ensures c.in_ok-made.ensures.each) in
    all_finished folds c.args.sources.now c.args.max_sst_size jobs ranges (sym count ∙ (ap length (sym is) ∙ (sym c.in_ok-made.made.ok.0 ∙ c.in_ok-made.ensures.len))) each
