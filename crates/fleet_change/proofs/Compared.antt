-- What is compared of two manifests is what the model compares.
use Rattle.std.proofs.Common.{◌≡◌, refl, sym, ◌∙◌, ap, ℕ, List, [], ◌∷◌, ◌++◌, map, Bool, true, false}
use Rattle.std.specs.Prelude.{◌==◌, ◌&&◌, bytes_eq, nat_eq}
use Rattle.std.specs.Cmp.Derive.Mapped.{pointwise-map}
use Rattle.std.specs.Cmp.Lexicographic.{pointwise}
use Rattle.fleet_model.specs.Nodes.{Trees}
use Rattle.fleet_model.specs.Store.{Manifest}
use Rattle.fleet_model.specs.Work.PollStates.{PollState}
use Rattle.step_model.specs.Steps.PollSteps.{is_unchanged, node_eq}
use Rattle.step_model.specs.Steps.PollSteps as model
use Rattle.fleet_tree.specs.Trees.{RunFlushes, flush_node, run_node, segment_of, trees_of, trees_with_prefix}
use Rattle.fleet_tree.specs.Views.{View}
use Rattle.fleet_tree.specs.declared.manifest.ManifestCore.{ManifestCore}
use Rattle.fleet_tree.specs.declared.run.SortedRun.{SortedRun}
use Rattle.fleet_tree.specs.declared.tree.LsmTreeState.{LsmTreeState}
use Rattle.fleet_store.specs.Manifests.{bare_node, bare_segment}
use Rattle.fleet_change.specs.Same.{HasTreesOf, same_flush, same_manifest, same_nodes, same_run, same_table, same_tree}

-- ---- booleans

and_and : (a b c : Bool) → ((a && b) && c) ≡ (a && (b && c))
and_and true b c = refl
and_and false b c = refl

and_true : (a : Bool) → (a && true) ≡ a
and_true true = refl
and_true false = refl

and_false : (a : Bool) → (a && false) ≡ false
and_false true = refl
and_false false = refl

-- ---- nodes

module _ (f g : ℕ → List ℕ) where
  runs_are : (runs others : List SortedRun) → pointwise node_eq (map (run_node f) runs) (map (run_node g) others) ≡ pointwise same_run runs others
  runs_are [] [] = refl
  runs_are [] (other ∷ others) = refl
  runs_are (run ∷ runs) [] = refl
  runs_are (run ∷ runs) (other ∷ others) =
      ap (λ b. ((run.id == other.id) && b) && pointwise node_eq (map (run_node f) runs) (map (run_node g) others)) (tables_are run.views other.views)
      ∙ ap (λ b. same_run run other && b) (runs_are runs others)
    where
      tables_are : (views more : List View) → bytes_eq (map (λ (v : View). v.sst.id) views) (map (λ (v : View). v.sst.id) more) ≡ pointwise same_table views more
      tables_are views more = pointwise-map (λ (v : View). v.sst.id) nat_eq views more

  -- No flush is a run.
  none_alike : (runs : List SortedRun) (view : View) (views : List View) (others : List SortedRun) → pointwise node_eq (map (run_node f) runs) (map (flush_node g) (view ∷ views) ++ map (run_node g) others) ≡ false
  none_alike [] view views others = refl
  none_alike (run ∷ runs) view views others = refl

  none_alike_turned : (view : View) (views : List View) (runs others : List SortedRun) → pointwise node_eq (map (flush_node f) (view ∷ views) ++ map (run_node f) runs) (map (run_node g) others) ≡ false
  none_alike_turned view views runs [] = refl
  none_alike_turned view views runs (other ∷ others) = refl

  nodes_are : (views more : List View) (runs others : List SortedRun) → pointwise node_eq (map (flush_node f) views ++ map (run_node f) runs) (map (flush_node g) more ++ map (run_node g) others)
      ≡ (pointwise same_flush views more && pointwise same_run runs others)
  nodes_are [] [] runs others = runs_are runs others
  nodes_are [] (other ∷ more) runs others = none_alike runs other more others
  nodes_are (view ∷ views) [] runs others = none_alike_turned view views runs others
  nodes_are (view ∷ views) (other ∷ more) runs others =
      ap (λ b. ((view.id == other.id) && b) && pointwise node_eq (map (flush_node f) views ++ map (run_node f) runs) (map (flush_node g) more ++ map (run_node g) others)) (and_true (view.sst.id == other.sst.id))
      ∙ ap (λ b. same_flush view other && b) (nodes_are views more runs others)
      ∙ sym (and_and (same_flush view other) (pointwise same_flush views more) (pointwise same_run runs others))

-- ---- trees

module _ (flushes others : RunFlushes) where
  trees_are : (these those : List (List ℕ × LsmTreeState)) → pointwise model.same_tree (map (segment_of flushes) these) (map (segment_of others) those) ≡ pointwise same_tree these those
  trees_are [] [] = refl
  trees_are [] (that ∷ those) = refl
  trees_are (this ∷ these) [] = refl
  trees_are (this ∷ these) (that ∷ those) =
      ap (λ b. b && pointwise model.same_tree (map (segment_of flushes) these) (map (segment_of others) those)) (nodes_are (flushes this.0) (others that.0) this.1.l0 that.1.l0 this.1.compacted that.1.compacted)
      ∙ ap (λ b. same_tree this that && b) (trees_are these those)

-- Which flushes went into nodes makes no difference.
bare_are : (trees others : Trees) → pointwise model.same_tree (map bare_segment trees) (map bare_segment others) ≡ pointwise model.same_tree trees others
bare_are [] [] = refl
bare_are [] (other ∷ others) = refl
bare_are (s ∷ trees) [] = refl
bare_are (s ∷ trees) (other ∷ others) =
    ap (λ b. b && pointwise model.same_tree (map bare_segment trees) (map bare_segment others)) (pointwise-map bare_node node_eq s.tree other.tree)
    ∙ ap (λ b. model.same_tree s other && b) (bare_are trees others)

-- ---- manifests

-- A program's poll leaves the manifest exactly if the model's does.
pub unchanged_is : (got now : ManifestCore) (flushes : RunFlushes) (manifest : Manifest) (p : PollState) → HasTreesOf got manifest → p.trees ≡ trees_of flushes now → p.horizon ≡ now.horizon → same_manifest got now ≡ is_unchanged manifest p
unchanged_is got now flushes manifest p has trees horizon =
    let none : RunFlushes = λ prefix run. [] in
    let pairs : pointwise same_tree (trees_with_prefix got) (trees_with_prefix now) ≡ pointwise model.same_tree manifest.trees p.trees =
    sym (trees_are none flushes (trees_with_prefix got) (trees_with_prefix now))
    ∙ sym (bare_are (trees_of none got) (trees_of flushes now))
    ∙ ap (λ ts. pointwise model.same_tree ts (map bare_segment (trees_of flushes now))) has.trees
    ∙ bare_are manifest.trees (trees_of flushes now)
    ∙ ap (pointwise model.same_tree manifest.trees) (sym trees) in
    regroup (same_nodes got.tree now.tree) (pointwise same_tree got.segments now.segments) (got.horizon == now.horizon)
    ∙ ap (λ b. b && (got.horizon == now.horizon)) pairs
    ∙ ap (λ h. pointwise model.same_tree manifest.trees p.trees && (h == now.horizon)) has.horizon
    ∙ ap (λ h. pointwise model.same_tree manifest.trees p.trees && (manifest.horizon == h)) (sym horizon)
  where
    regroup : (a b c : Bool) → (a && b && c) ≡ ((a && b) && c)
    regroup true b c = refl
    regroup false b c = refl
