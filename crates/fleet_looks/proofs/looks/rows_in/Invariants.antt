use Rattle.std.proofs.Common.{◌≡◌, flat_map, take}
use Rattle.fleet_rows.specs.Row.{rows_of}
use Rattle.fleet_store.specs.Tables.{held_rows}
use Rattle.fleet_read.specs.Stored.{rows_or_none}
use Rattle.fleet_looks.proofs.looks.rows_in.Given as goal

abbrev pub invariant-tables : goal.invariant-tables
invariant-tables l = rows_of l.rows.items ≡ flat_map (λ table. rows_or_none (held_rows table.id l.store.world.store)) (take l.table-index l.tables)
