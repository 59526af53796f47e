use Rattle.std.proofs.Common.{◌≡◌, take}
use Rattle.std.specs.Prelude.{map}
use Rattle.std.specs.Option.{option_copied}
use Rattle.fleet_book.specs.Finishes.{segment_after}
use Rattle.fleet_book.proofs.finish.segments_after.Given as goal

abbrev pub invariant-segments : goal.invariant-segments
invariant-segments l = l.after.items ≡ map (segment_after l.spec (option_copied l.output)) (take l.segment-index l.segments)
