-- The flushes and the runs of a program's tree, as nodes of the model's.
use Rattle.std.proofs.Common.{◌≡◌, refl, sym, ap, ℕ, List, [], ◌∷◌, ◌++◌, map, Bool}
use Rattle.std.specs.Prelude.{◌||◌, OnOk, Option, Some, None, Result, Ok, Err, slice_get}
use Rattle.std.specs.List.{list_any}
use Rattle.fleet_model.specs.Nodes.{NodeName, L0, Tree, flushes_of, names, runs_of}
use Rattle.fleet_tree.specs.Trees.{flush_node, run_node, tree_of}
use Rattle.fleet_tree.specs.Views.{View}
use Rattle.fleet_tree.specs.declared.run.SortedRun.{SortedRun}
use Rattle.fleet_tree.specs.declared.tree.LsmTreeState.{LsmTreeState}

module _ (flushes : ℕ → List ℕ) where
  runs_alone : (runs : List SortedRun) → runs_of (map (run_node flushes) runs) ≡ map (run_node flushes) runs
  runs_alone [] = refl
  runs_alone (run ∷ runs) = ap (λ (t : Tree). run_node flushes run ∷ t) (runs_alone runs)

  runs_after : (views : List View) (runs : List SortedRun) → runs_of (map (flush_node flushes) views ++ map (run_node flushes) runs) ≡ map (run_node flushes) runs
  runs_after [] runs = runs_alone runs
  runs_after (view ∷ views) runs = runs_after views runs

  pub runs_are : (tree : LsmTreeState) → runs_of (tree_of flushes tree) ≡ map (run_node flushes) tree.compacted
  runs_are tree = runs_after tree.l0 tree.compacted

  no_flushes : (runs : List SortedRun) → names (flushes_of (map (run_node flushes) runs)) ≡ []
  no_flushes [] = refl
  no_flushes (run ∷ runs) = no_flushes runs

  flushes_before : (views : List View) (runs : List SortedRun) → names (flushes_of (map (flush_node flushes) views ++ map (run_node flushes) runs)) ≡ map (λ view. L0 view.id) views
  flushes_before [] runs = no_flushes runs
  flushes_before (view ∷ views) runs = ap (λ (l : List NodeName). L0 view.id ∷ l) (flushes_before views runs)

  pub flushes_are : (tree : LsmTreeState) → names (flushes_of (tree_of flushes tree)) ≡ map (λ view. L0 view.id) tree.l0
  flushes_are tree = flushes_before tree.l0 tree.compacted

pub any_of_map : {X Y : Type 0} (test : Y → Bool) (f : X → Y) (xs : List X) → list_any test (map f xs) ≡ list_any (λ x. test (f x)) xs
any_of_map test f [] = refl
any_of_map test f (x ∷ xs) = ap (λ b. test (f x) || b) (any_of_map test f xs)

-- What follows from a fact of a result that is Ok.
pub on_ok : {A E : Type 0} {P Q : Type 0} (result : Result A E) → (P → Q) → OnOk result P → OnOk result Q
on_ok (Ok x) follows fact = follows fact
on_ok (Err e) follows fact = tt

-- A list with a first item.
pub with_first : {X : Type 0} (xs : List X) (x : X) → Some x ≡ slice_get xs 0 → (rest : List X) × (xs ≡ x ∷ rest)
with_first [] x e = absurd (cc e)
with_first {X = X} (y ∷ xs) x e = (xs, ap (λ (z : Option X). front_or z) (sym e))
  where
    front_or : Option X → List X
    front_or None = []
    front_or (Some z) = z ∷ xs
