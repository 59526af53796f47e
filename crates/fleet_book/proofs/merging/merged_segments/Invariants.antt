use Rattle.std.proofs.Common.{◌≡◌, take}
use Rattle.std.specs.Prelude.{map}
use Rattle.fleet_book.specs.Finishes.{merged_segment}
use Rattle.fleet_book.proofs.merging.merged_segments.Given as goal

abbrev pub invariant-stored : goal.invariant-stored
invariant-stored l = l.merged.items ≡ map (merged_segment l.own) (take l.segment-index l.stored)
