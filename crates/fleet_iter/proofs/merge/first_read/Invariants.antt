use Rattle.std.proofs.Common.{◌≡◌, length, true, None}
use Rattle.fleet_iter.specs.Iteration.{from_key}
use Rattle.fleet_iter.specs.Merge.{manner}
use Rattle.fleet_iter.proofs.merge.first_read.Given as goal

-- The rows from the key on are those that there were at first.
abbrev pub invariant-rows : goal.invariant-rows
invariant-rows g l =
    let now = g.T.RowSource.state l.source in
    let first = g.T.RowSource.state l.fn.source in
    record {
      sound : g.T.RowSource.sound l.source;
      alive : now.failure ≡ None;
      initialised : now.initialised ≡ true;
      same_manner : manner now ≡ manner first;
      rows : from_key l.key now.rows ≡ from_key l.key first.rows;
    }

abbrev pub decreases-rows : goal.decreases-rows
decreases-rows g l = length (g.T.RowSource.state l.source).rows
