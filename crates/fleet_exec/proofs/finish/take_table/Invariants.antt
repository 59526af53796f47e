use Rattle.std.proofs.Common.{◌≡◌, ◌≤◌, length}
use Rattle.std.specs.List.{AllByRecursion}
use Rattle.row_model.specs.Bounds.{IsInBounds}
use Rattle.row_model.specs.Written.Tables.{cut_from, cut_tables}
use Rattle.fleet_rows.specs.Row.{rows_of}
use Rattle.fleet_exec.specs.Cut.{open_with}
use Rattle.fleet_exec.specs.Taking.{left_after, ReadsOn}
use Rattle.fleet_exec.proofs.finish.take_table.Given as goal

-- The rows of this table and the tables that are cut from the rows left are the tables of all rows.
abbrev pub invariant-rows : goal.invariant-rows
invariant-rows g l =
    let s = g.T.RowSource.state l.source in
    let old = g.T.RowSource.state l.fn.source in
    record {
      sound : g.T.RowSource.sound l.source;
      reads : ReadsOn old s;
      filled : l.filled ≤ l.size;
      bounded : AllByRecursion IsInBounds (left_after l.cursor s.rows);
      tables : cut_tables l.size (left_after l.cursor old.rows) ≡ open_with (rows_of l.table.items) (cut_from l.size l.filled (left_after l.cursor s.rows));
    }

abbrev pub decreases-rows : goal.decreases-rows
decreases-rows g l = length (left_after l.cursor (g.T.RowSource.state l.source).rows)
