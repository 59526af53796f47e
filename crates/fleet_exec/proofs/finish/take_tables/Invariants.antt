use Rattle.std.proofs.Common.{◌≡◌, ◌++◌, length, map}
use Rattle.std.specs.List.{AllByRecursion}
use Rattle.row_model.specs.Bounds.{IsInBounds}
use Rattle.row_model.specs.Written.Tables.{cut_tables}
use Rattle.fleet_rows.specs.Row.{rows_of}
use Rattle.fleet_exec.specs.Taking.{left_after, ReadsOn}
use Rattle.fleet_exec.proofs.finish.take_tables.Given as goal

abbrev pub invariant-tables : goal.invariant-tables
invariant-tables g l =
    let s = g.T.RowSource.state l.source in
    let old = g.T.RowSource.state l.fn.source in
    record {
      sound : g.T.RowSource.sound l.source;
      reads : ReadsOn old s;
      bounded : AllByRecursion IsInBounds (left_after l.cursor s.rows);
      tables : cut_tables l.size (left_after l.cursor old.rows) ≡ map rows_of l.tables ++ cut_tables l.size (left_after l.cursor s.rows);
    }

abbrev pub decreases-tables : goal.decreases-tables
decreases-tables g l = length (cut_tables l.size (left_after l.cursor (g.T.RowSource.state l.source).rows))
