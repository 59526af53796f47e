use Rattle.std.proofs.Common.{◌≡◌, ◌++◌, take}
use Rattle.fleet_tree.proofs.run_chunks.add_copies.Given as goal

abbrev pub invariant-chunks : goal.invariant-chunks
invariant-chunks l = l.added.items ≡ l.initial.added.items ++ take l.chunk-index l.chunks
