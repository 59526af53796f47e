use Rattle.std.proofs.Common.{◌≡◌, take}
use Rattle.fleet_range.specs.Keys.{range_of}
use Rattle.fleet_output.specs.Gets.{ids_in}
use Rattle.fleet_output.proofs.gets.tables_in.Given as goal

abbrev pub invariant-tables : goal.invariant-tables
invariant-tables l = l.ids.items ≡ ids_in (range_of l.range) (take l.table-index l.tables)
