use Rattle.std.proofs.Common.{◌≤◌, ◌-◌}
use Rattle.std.specs.List.{prefix_len}
use Rattle.fleet_table.specs.Cursors.{is_before_spot, IsCursor}
use Rattle.fleet_table.proofs.table_bytes.TableBytes.scan.Given as goal

abbrev pub invariant-rows : goal.invariant-rows
invariant-rows l = record {
  stands : IsCursor l.self l.cursor;
  start : l.cursor.row ≤ prefix_len (is_before_spot l.key l.ties) l.self;
}

abbrev pub decreases-rows : goal.decreases-rows
decreases-rows l = l.end - l.cursor.row
