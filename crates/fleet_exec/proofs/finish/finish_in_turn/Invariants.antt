use Rattle.std.proofs.Common.{◌≡◌, ◌<◌, ℕ, List, length, get_or}
use Rattle.std.specs.Prelude.{Result}
use Rattle.fleet_rows.specs.declared.row.RowEntry.{RowEntry}
use Rattle.fleet_rows.specs.declared.errors.SlateDBError.{SlateDBError}
use Rattle.fleet_exec.specs.Cut.{FinishesRange}
use Rattle.fleet_exec.specs.declared.range_job.RangeJob.{RangeJob}
use Rattle.fleet_exec.proofs.finish.finish_in_turn.Given as goal

-- The ranges before this place are finished.
abbrev pub invariant-turns : goal.invariant-turns
invariant-turns g l =
    let folds = g.O.MergeOperator.merged (g.O.MergeOperator.settings l.operator) in
    record {
      count : length l.made.items ≡ l.i;
      each : (i : ℕ) (job : RangeJob) (d : Result (List (List RowEntry)) SlateDBError) → i < length l.made.items → FinishesRange folds l.sources l.size (get_or l.jobs i job) (get_or l.made.items i d);
    }
