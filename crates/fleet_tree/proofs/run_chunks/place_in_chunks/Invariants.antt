use Rattle.std.proofs.Common.{◌≡◌, ◌==◌, ◌+◌, drop, length, true}
use Rattle.std.specs.List.{position_or_len}
use Rattle.fleet_tree.specs.Falling.{are_falling}
use Rattle.fleet_tree.specs.Lists.{joined}
use Rattle.fleet_tree.proofs.run_chunks.place_in_chunks.Given as goal

-- No run so far has the id.
abbrev pub invariant-chunks : goal.invariant-chunks
invariant-chunks l =
    let left = joined (drop l.chunk-index l.chunks) in
    (are_falling left ≡ true)
    × (l.before + length left ≡ length (joined l.chunks))
    × (l.before + position_or_len (λ run. run.id == l.id) left ≡ position_or_len (λ run. run.id == l.id) (joined l.chunks))
