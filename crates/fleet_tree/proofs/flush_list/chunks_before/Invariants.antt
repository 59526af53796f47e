use Rattle.std.proofs.Common.{◌≡◌, ◌==◌, ◌++◌, drop, not, take_while}
use Rattle.std.specs.List.{flat_map}
use Rattle.fleet_tree.proofs.flush_list.chunks_before.Given as goal

abbrev pub invariant-chunks : goal.invariant-chunks
invariant-chunks l =
    flat_map (λ chunk. chunk) l.before.items ++ take_while (λ view. not (view.id == l.id)) (flat_map (λ chunk. chunk) (drop l.chunk-index l.chunks))
    ≡ take_while (λ view. not (view.id == l.id)) (flat_map (λ chunk. chunk) l.chunks)
