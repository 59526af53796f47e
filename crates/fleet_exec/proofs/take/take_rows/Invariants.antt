use Rattle.std.proofs.Common.{◌≡◌, ◌≤◌, ◌++◌, ◌-◌, length}
use Rattle.fleet_rows.specs.Row.{rows_of}
use Rattle.fleet_exec.specs.Taking.{left_after, ReadsOn}
use Rattle.fleet_exec.proofs.take.take_rows.Given as goal

abbrev pub invariant-rows : goal.invariant-rows
invariant-rows g l =
    let s = g.T.RowSource.state l.source in
    let old = g.T.RowSource.state l.fn.source in
    record {
      sound : g.T.RowSource.sound l.source;
      reads : ReadsOn old s;
      few : length l.rows.items ≤ l.most;
      rows : left_after l.cursor old.rows ≡ rows_of l.rows.items ++ left_after l.cursor s.rows;
    }

abbrev pub decreases-rows : goal.decreases-rows
decreases-rows g l = l.most - length l.rows.items
