use Rattle.std.proofs.Common.{◌<◌, ◌≤◌, ◌-◌, length}
use Rattle.std.specs.List.{prefix_len}
use Rattle.row_model.specs.Written.TableBytes.{blocks_of_rows}
use Rattle.fleet_table.specs.Cursors.{is_before_spot, rows_before}
use Rattle.fleet_table.proofs.table_bytes.TableBytes.find_block.Given as goal

abbrev pub invariant-halves : goal.invariant-halves
invariant-halves l = record {
  some : l.low < l.high;
  within : l.high ≤ length (blocks_of_rows 0 l.self);
  start : rows_before l.low l.self ≤ prefix_len (is_before_spot l.key l.ties) l.self;
  end : prefix_len (is_before_spot l.key l.ties) l.self ≤ rows_before l.high l.self;
}

abbrev pub decreases-halves : goal.decreases-halves
decreases-halves l = l.high - l.low
