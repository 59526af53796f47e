use Rattle.std.proofs.Common.{take}
use Rattle.std.specs.List.{AllByRecursion}
use Rattle.row_model.specs.Bounds.{IsInBounds}
use Rattle.fleet_exec.specs.Ranges.{source_rows}
use Rattle.fleet_exec.proofs.finish.run_is_bounded.Given as goal

abbrev pub invariant-tables : goal.invariant-tables
invariant-tables l = AllByRecursion IsInBounds (source_rows (take l.table-index l.run))
