use Rattle.std.proofs.Common.{◌≡◌, length}
use Rattle.fleet_fold.proofs.LoneRows.{PassesSoFar}
use Rattle.fleet_fold.proofs.retention.pass_key.Given as goal

-- The row that was read ahead stays, and some rows of its key are passed.
abbrev pub invariant-rows : goal.invariant-rows
invariant-rows g l =
    let s = g.T.RowSource.state l.inner in
    let old = g.T.RowSource.state l.fn.inner in
    record {
      sound : g.T.RowSource.sound l.inner;
      same : l.ahead ≡ l.fn.ahead;
      so_far : PassesSoFar l.fn.ahead old s;
    }

abbrev pub decreases-rows : goal.decreases-rows
decreases-rows g l = length (g.T.RowSource.state l.inner).rows
