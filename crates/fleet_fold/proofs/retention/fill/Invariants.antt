use Rattle.std.proofs.Common.{◌≡◌, ◌++◌, length}
use Rattle.std.specs.Prelude.{reverse}
use Rattle.fleet_iter.specs.Iteration.{AreRising}
use Rattle.fleet_rows.specs.Row.{rows_of}
use Rattle.fleet_rows.specs.Settings.{settings_of}
use Rattle.fleet_fold.specs.Retention.{from_ahead, kept_given, IsReadable}
use Rattle.fleet_fold.proofs.retention.fill.Given as goal

-- The buffer and what is kept of the rows left are together what was to be given at first.
abbrev pub invariant-keys : goal.invariant-keys
invariant-keys g l =
    let s = g.T.RowSource.state l.inner in
    let old = g.T.RowSource.state l.fn.inner in
    let settings = settings_of l.settings in
    record {
      sound : g.T.RowSource.sound l.inner;
      readable : IsReadable s;
      whole : s.whole ≡ old.whole;
      steady : s.steady ≡ old.steady;
      refusal : s.refusal ≡ old.refusal;
      rows : rows_of (reverse l.fn.buffer.items) ++ kept_given settings old.whole (from_ahead l.fn.ahead old) ≡ rows_of (reverse l.buffer.items) ++ kept_given settings old.whole (from_ahead l.ahead s);
      rising : AreRising (from_ahead l.fn.ahead old) → AreRising (from_ahead l.ahead s);
    }

abbrev pub decreases-keys : goal.decreases-keys
decreases-keys g l = length (from_ahead l.ahead (g.T.RowSource.state l.inner))
