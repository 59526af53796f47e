use Rattle.std.proofs.Common.{◌≡◌, None, [], true, false, length}
use Rattle.fleet_iter.specs.Iteration.{AreRising}
use Rattle.fleet_fold.specs.Retention.{IsReadable, from_ahead}
use Rattle.fleet_fold.specs.Filter.{filtered_rows}
use Rattle.fleet_fold.proofs.filtering.next_left.Given as goal

-- The filter leaves of the rows still to be shown what it left of all rows at first.
abbrev pub invariant-rows : goal.invariant-rows
invariant-rows g l =
    let s = g.T.RowSource.state l.inner in
    let old = g.T.RowSource.state l.fn.inner in
    let answers = g.F.RowFilter.answers in
    let closing = g.F.RowFilter.closing in
    record {
      sound : g.T.RowSource.sound l.inner;
      readable : IsReadable s;
      rising : AreRising (from_ahead l.next s);
      whole : s.whole ≡ old.whole;
      is_open : g.F.RowFilter.is_closed l.filter ≡ false;
      ended : l.next ≡ None → (s.rows ≡ []) × (s.whole ≡ true);
      rows : filtered_rows (answers l.filter) (closing l.filter) (from_ahead l.next s) ≡ filtered_rows (answers l.fn.filter) (closing l.fn.filter) (from_ahead l.fn.first old);
    }

abbrev pub decreases-rows : goal.decreases-rows
decreases-rows g l = length (from_ahead l.next (g.T.RowSource.state l.inner))
