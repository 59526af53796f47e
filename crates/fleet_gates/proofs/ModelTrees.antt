-- Which segments have trees.
use Rattle.std.proofs.Common.{◌≡◌, refl, ℕ, List, [], ◌∷◌, map, Bool, true, false, cond}
use Rattle.std.specs.Prelude.{bytes_eq, find, is_some, option_map, Some}
use Rattle.fleet_model.specs.Nodes.{segment_at}
use Rattle.fleet_tree.specs.Trees.{RunFlushes, segment_of}
use Rattle.fleet_tree.specs.declared.tree.LsmTreeState.{LsmTreeState}

pub there_are : (flushes : RunFlushes) (p : List ℕ) (trees : List (List ℕ × LsmTreeState))
    → is_some (option_map (λ s. s.1) (find (λ s. bytes_eq p s.0) trees)) ≡ is_some (segment_at p (map (segment_of flushes) trees))
there_are flushes p [] = refl
there_are flushes p (s ∷ trees) = by (bytes_eq p s.0) (there_are flushes p trees)
  where
    by : (b : Bool) → is_some (option_map (λ s. s.1) (find (λ s. bytes_eq p s.0) trees)) ≡ is_some (segment_at p (map (segment_of flushes) trees))
        → is_some (option_map (λ s. s.1) (cond b (Some s) (find (λ s. bytes_eq p s.0) trees))) ≡ is_some (cond b (Some (segment_of flushes s)) (segment_at p (map (segment_of flushes) trees)))
    by true rest = refl
    by false rest = rest
