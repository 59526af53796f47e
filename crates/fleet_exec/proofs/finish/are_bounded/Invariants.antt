use Rattle.std.proofs.Common.{take}
use Rattle.std.specs.Prelude.{flat_map}
use Rattle.std.specs.List.{AllByRecursion}
use Rattle.row_model.specs.Bounds.{IsInBounds}
use Rattle.fleet_exec.specs.Ranges.{source_rows}
use Rattle.fleet_exec.proofs.finish.are_bounded.Given as goal

abbrev pub invariant-sources : goal.invariant-sources
invariant-sources l = AllByRecursion IsInBounds (flat_map source_rows (take l.source-index l.sources))
