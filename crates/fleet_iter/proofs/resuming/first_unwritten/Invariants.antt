use Rattle.std.proofs.Common.{◌≡◌, length, true, None}
use Rattle.fleet_iter.specs.Iteration.{without_first}
use Rattle.fleet_iter.specs.Resume.{is_written}
use Rattle.fleet_iter.proofs.resuming.first_unwritten.Given as goal

-- The rows that are not written up to the cursor are those that there were at first.
abbrev pub invariant-rows : goal.invariant-rows
invariant-rows g l =
    let now = g.T.RowSource.state l.source in
    let first = g.T.RowSource.state l.fn.source in
    record {
      sound : g.T.RowSource.sound l.source;
      alive : now.failure ≡ None;
      initialised : now.initialised ≡ true;
      manner : (now.whole ≡ first.whole) × (now.steady ≡ first.steady);
      refusal : now.refusal ≡ first.refusal;
      rows : without_first (is_written (l.key, l.seq)) now.rows ≡ without_first (is_written (l.key, l.seq)) first.rows;
    }

abbrev pub decreases-rows : goal.decreases-rows
decreases-rows g l = length (g.T.RowSource.state l.source).rows
