-- Whether a tree begins with a flush.
use Rattle.std.proofs.Common.{◌≡◌, refl, sym, subst, ℕ, Bool, true, false, List, [], ◌∷◌, ◌++◌, map}
use Rattle.fleet_tree.specs.Trees.{tree_of}
use Rattle.fleet_tree.specs.Views.{View}
use Rattle.fleet_tree.specs.declared.run.SortedRun.{SortedRun}
use Rattle.fleet_tree.specs.declared.tree.LsmTreeState.{LsmTreeState}
use Rattle.fleet_tests.specs.Others.{begins_with_flush}

-- A tree without flushes begins with none.
pub begins_with_none : (flushes : ℕ → List ℕ) (tree : LsmTreeState) → tree.l0 ≡ [] → begins_with_flush (tree_of flushes tree) ≡ false
begins_with_none flushes tree none = subst (λ (views : List View). begins_with_flush (tree_of flushes (record tree { l0 = views })) ≡ false) (sym none) (by tree.compacted)
  where
    by : (runs : List SortedRun) → begins_with_flush (tree_of flushes (record tree { l0 = []; compacted = runs })) ≡ false
    by [] = refl
    by (run ∷ runs) = refl

-- A tree with flushes begins with one.
pub begins_with_one : (flushes : ℕ → List ℕ) (tree : LsmTreeState) → (tree.l0 ≡ [] → ⊥) → begins_with_flush (tree_of flushes tree) ≡ true
begins_with_one flushes tree some = by tree.l0 some
  where
    by : (views : List View) → (views ≡ [] → ⊥) → begins_with_flush (tree_of flushes (record tree { l0 = views })) ≡ true
    by [] none = absurd (none refl)
    by (view ∷ views) none = refl
