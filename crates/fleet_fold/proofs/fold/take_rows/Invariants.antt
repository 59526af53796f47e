use Rattle.std.proofs.Common.{◌≡◌, None, length}
use Rattle.row_model.specs.Rows.{Row}
use Rattle.fleet_fold.specs.Retention.{IsReadable}
use Rattle.fleet_iter.specs.Iteration.{IteratorState}
use Rattle.fleet_fold.specs.Groups.{JoinsSoFar}
use Rattle.fleet_fold.proofs.fold.take_rows.Given as goal

-- The group has taken all rows that were read, and no row is read ahead.
abbrev pub invariant-rows : goal.invariant-rows
invariant-rows g l =
    let s = g.T.RowSource.state l.inner in
    let old = g.T.RowSource.state l.fn.inner in
    let merge = g.B.BatchMerger.fold l.operator in
    record {
      sound : g.T.RowSource.sound l.inner;
      readable : IsReadable s;
      whole : s.whole ≡ old.whole;
      steady : s.steady ≡ old.steady;
      none : l.ahead ≡ None;
      so_far : (first : Row) (before : IteratorState) → JoinsSoFar merge l.rule first before l.fn.group old → JoinsSoFar merge l.rule first before l.group s;
    }

abbrev pub decreases-rows : goal.decreases-rows
decreases-rows g l = length (g.T.RowSource.state l.inner).rows
