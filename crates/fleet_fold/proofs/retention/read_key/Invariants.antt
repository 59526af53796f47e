use Rattle.std.proofs.Common.{◌≡◌, ◌++◌, None, length}
use Rattle.fleet_rows.specs.Row.{rows_of}
use Rattle.fleet_fold.specs.Retention.{from_ahead, HaveOneKey, IsReadable}
use Rattle.fleet_fold.proofs.retention.read_key.Given as goal

-- The rows that were read have one key, and with the rows left they are all rows that there were.
abbrev pub invariant-rows : goal.invariant-rows
invariant-rows g l =
    let s = g.T.RowSource.state l.inner in
    let old = g.T.RowSource.state l.fn.inner in
    record {
      sound : g.T.RowSource.sound l.inner;
      readable : IsReadable s;
      whole : s.whole ≡ old.whole;
      steady : s.steady ≡ old.steady;
      refusal : s.refusal ≡ old.refusal;
      none : l.ahead ≡ None;
      parts : from_ahead l.fn.ahead old ≡ rows_of l.rows.items ++ s.rows;
      alike : HaveOneKey (rows_of l.rows.items);
    }

abbrev pub decreases-rows : goal.decreases-rows
decreases-rows g l = length (g.T.RowSource.state l.inner).rows
