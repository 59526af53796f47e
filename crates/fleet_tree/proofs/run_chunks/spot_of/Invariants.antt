use Rattle.std.proofs.Common.{◌≡◌, ◌+◌, length, take}
use Rattle.fleet_tree.specs.Lists.{joined}
use Rattle.fleet_tree.proofs.run_chunks.spot_of.Given as goal

-- So many chunks were passed, and their items are before the place.
abbrev pub invariant-chunks : goal.invariant-chunks
invariant-chunks l = (l.spot.chunk ≡ l.chunk-index) × (l.place ≡ length (joined (take l.chunk-index l.chunks)) + l.spot.place)
