-- The trees that were looked at.
use Rattle.std.proofs.Common.{◌≡◌, refl, sym, ◌∙◌, ap, subst, ℕ, ◌+◌, ◌<◌, List, [], ◌∷◌, ◌++◌, get_or, length, map, take}
use Rattle.std.proofs.lemmas.List.{map-append, take_more}
use Rattle.fleet_model.specs.Handles.{Handle}
use Rattle.fleet_model.specs.Nodes.{Trees, runs_of}
use Rattle.sched_model.specs.Levels.{LevelOptions, LevelPicking, pick_flushes, pick_runs, pick_trees}
use Rattle.fleet_tree.specs.Trees.{RunFlushes, segment_of}
use Rattle.fleet_tree.specs.declared.tree.LsmTreeState.{LsmTreeState}
use Rattle.fleet_level.specs.Picks.{SamePicks}
use Rattle.fleet_level.proofs.SamePicks.{then_same, trees_same}

module _ (o : LevelOptions) (handles : List Handle) where
  trees-append : (xs ys : Trees) (p : LevelPicking) → pick_trees o handles (xs ++ ys) p ≡ pick_trees o handles ys (pick_trees o handles xs p)
  trees-append [] ys p = refl
  trees-append (s ∷ xs) ys p = trees-append xs ys (pick_runs o handles s.prefix 0 (runs_of s.tree) (pick_flushes o handles s p))

  -- One tree more.
  pub tree_more : (flushes : RunFlushes) (root : List ℕ × LsmTreeState) (trees : List (List ℕ × LsmTreeState)) (i : ℕ) (s : List ℕ × LsmTreeState) (begun now made : LevelPicking) → i < length trees → s ≡ get_or trees i s
      → SamePicks now (pick_trees o handles (map (segment_of flushes) (root ∷ take i trees)) begun) → SamePicks made (pick_trees o handles (segment_of flushes s ∷ []) now)
      → SamePicks made (pick_trees o handles (map (segment_of flushes) (root ∷ take (i + 1) trees)) begun)
  tree_more flushes root trees i s begun now made below is so step =
      let more : take (i + 1) trees ≡ take i trees ++ s ∷ [] = take_more trees i s below ∙ ap (λ y. take i trees ++ y ∷ []) (sym is) in
      let before = map (segment_of flushes) (root ∷ take i trees) in
      let same : pick_trees o handles (map (segment_of flushes) (root ∷ take (i + 1) trees)) begun ≡ pick_trees o handles (segment_of flushes s ∷ []) (pick_trees o handles before begun) =
      ap (λ l. pick_trees o handles (map (segment_of flushes) (root ∷ l)) begun) more
      ∙ ap (λ l. pick_trees o handles l begun) (map-append (segment_of flushes) (root ∷ take i trees) (s ∷ []))
      ∙ trees-append before (segment_of flushes s ∷ []) begun in
      subst (λ p. SamePicks made p) (sym same) (then_same step (trees_same o handles (segment_of flushes s ∷ []) now (pick_trees o handles before begun) so))
