-- A coordinator takes a stored manifest as the model does.
use Rattle.std.proofs.Common.{◌≡◌, refl, sym, ◌∙◌, ap, List, [], ◌∷◌, ◌++◌, map, Bool, true, false, cond, not}
use Rattle.std.specs.Prelude.{ℕ, ◌==◌, IfSome, find, option_map, bytes_eq, Option, Some, None}
use Rattle.std.proofs.lemmas.Cmp.{nat_eq_equiv}
use Rattle.std.proofs.lemmas.Slice.Eq.{bytes_eq-Decides}
use Rattle.std.proofs.lemmas.List.Sums.{take_while-cons}
use Rattle.fleet_model.specs.Nodes.{Segment, Tree, Trees, runs_of, segment_at}
use Rattle.step_model.specs.Steps.Merging as model
use Rattle.fleet_tree.specs.Trees.{RunFlushes, flush_node, run_node, newer_than, tree_of, trees_of, trees_with_prefix}
use Rattle.fleet_tree.specs.Trees as table
use Rattle.fleet_tree.specs.Views.{View}
use Rattle.fleet_tree.specs.declared.manifest.ManifestCore.{ManifestCore}
use Rattle.fleet_tree.specs.declared.run.SortedRun.{SortedRun}
use Rattle.fleet_tree.specs.declared.tree.LsmTreeState.{LsmTreeState}
use Rattle.fleet_book.specs.Finishes.{merged_core, merged_segment, merged_tree}
use Rattle.fleet_book.specs.Laws.{MergedManifestsAreTheModels, model_manifest}

module _ (flushes : ℕ → List ℕ) where
  no_flushes : (mark : Option ℕ) (runs : List SortedRun) → model.flushes_before mark (map (run_node flushes) runs) ≡ []
  no_flushes mark [] = refl
  no_flushes None (r ∷ runs) = refl
  no_flushes (Some flush) (r ∷ runs) = refl

  -- The flushes that are newer than the watermark.
  newer : (mark : Option ℕ) (runs : List SortedRun) (views : List View)
      → model.flushes_before mark (map (flush_node flushes) views ++ map (run_node flushes) runs) ≡ map (flush_node flushes) (newer_than mark views)
  newer None runs [] = no_flushes None runs
  newer None runs (v ∷ views) = ap (λ (t : Tree). flush_node flushes v ∷ t) (newer None runs views)
  newer (Some flush) runs [] = no_flushes (Some flush) runs
  newer (Some flush) runs (v ∷ views) =
      ap choice (nat_eq_equiv.symm flush v.id)
      ∙ by (v.id == flush) (newer (Some flush) runs views)
      ∙ sym (ap (map (flush_node flushes)) (take_while-cons (λ view. not (view.id == flush)) v views))
    where
      choice : Bool → Tree
      choice b = cond b [] (flush_node flushes v ∷ model.flushes_before (Some flush) (map (flush_node flushes) views ++ map (run_node flushes) runs))

      by : (b : Bool) → model.flushes_before (Some flush) (map (flush_node flushes) views ++ map (run_node flushes) runs) ≡ map (flush_node flushes) (newer_than (Some flush) views)
          → choice b ≡ map (flush_node flushes) (cond (not b) (v ∷ newer_than (Some flush) views) [])
      by true rest = refl
      by false rest = ap (λ (t : Tree). flush_node flushes v ∷ t) rest

  runs_only : (runs : List SortedRun) → runs_of (map (run_node flushes) runs) ≡ map (run_node flushes) runs
  runs_only [] = refl
  runs_only (r ∷ runs) = ap (λ (t : Tree). run_node flushes r ∷ t) (runs_only runs)

  runs_left : (views : List View) (runs : List SortedRun) → runs_of (map (flush_node flushes) views ++ map (run_node flushes) runs) ≡ map (run_node flushes) runs
  runs_left [] runs = runs_only runs
  runs_left (v ∷ views) runs = runs_left views runs

module _ (flushes : RunFlushes) where
  -- One segment, given the coordinator's own segment of its prefix.
  one : (own : Option (List ℕ × LsmTreeState)) (s : List ℕ × LsmTreeState) → IfSome own (λ o. o.0 ≡ s.0)
      → table.segment_of flushes (s.0, merged_tree (option_map (λ o. o.1) own) s.1) ≡ model.merged_segment (option_map (table.segment_of flushes) own) (table.segment_of flushes s)
  one None s same = refl
  one (Some own) s same =
      ap made (ap (λ p. map (flush_node (flushes s.0)) (newer_than mark s.1.l0) ++ map (run_node (flushes p)) own.1.compacted) (sym same)
      ∙ sym (ap (λ (t : Tree). t ++ runs_of (tree_of (flushes own.0) own.1)) (newer (flushes s.0) mark s.1.compacted s.1.l0)
      ∙ ap (λ (t : Tree). map (flush_node (flushes s.0)) (newer_than mark s.1.l0) ++ t) (runs_left (flushes own.0) own.1.l0 own.1.compacted)))
    where
      mark : Option ℕ
      mark = own.1.last_compacted_l0_sst_view_id

      made : Tree → Segment
      made tree = record { prefix = s.0; tree = tree; last_seq = s.1.last_seq; watermark = mark }

  found : (p : List ℕ) (ss : List (List ℕ × LsmTreeState)) → option_map (table.segment_of flushes) (find (λ s. bytes_eq p s.0) ss) ≡ segment_at p (map (table.segment_of flushes) ss)
  found p [] = refl
  found p (s ∷ ss) = by (bytes_eq p s.0) (found p ss)
    where
      by : (b : Bool) → option_map (table.segment_of flushes) (find (λ s. bytes_eq p s.0) ss) ≡ segment_at p (map (table.segment_of flushes) ss)
          → option_map (table.segment_of flushes) (cond b (Some s) (find (λ s. bytes_eq p s.0) ss)) ≡ cond b (Some (table.segment_of flushes s)) (segment_at p (map (table.segment_of flushes) ss))
      by true rest = refl
      by false rest = rest

  -- What is found has the prefix that was looked for.
  found_at : (p : List ℕ) (ss : List (List ℕ × LsmTreeState)) → IfSome (find (λ s. bytes_eq p s.0) ss) (λ o. o.0 ≡ p)
  found_at p [] = tt
  found_at p (s ∷ ss) = by (bytes_eq p s.0) refl (found_at p ss)
    where
      by : (b : Bool) → bytes_eq p s.0 ≡ b → IfSome (find (λ s. bytes_eq p s.0) ss) (λ o. o.0 ≡ p) → IfSome (cond b (Some s) (find (λ s. bytes_eq p s.0) ss)) (λ o. o.0 ≡ p)
      by true e rest = sym ((bytes_eq-Decides p s.0).0 e)
      by false e rest = rest

  segments : (own : ManifestCore) (ss : List (List ℕ × LsmTreeState))
      → map (table.segment_of flushes) (map (merged_segment own) ss) ≡ model.merged_trees (trees_of flushes own) (map (table.segment_of flushes) ss)
  segments own [] = refl
  segments own (s ∷ ss) =
      ap (λ (ts : Trees). table.segment_of flushes (merged_segment own s) ∷ ts) (segments own ss)
      ∙ ap (λ (t : Segment). t ∷ model.merged_trees (trees_of flushes own) (map (table.segment_of flushes) ss))
      (one (find (λ o. bytes_eq s.0 o.0) (trees_with_prefix own)) s (found_at s.0 (trees_with_prefix own)) ∙ ap (λ o. model.merged_segment o (table.segment_of flushes s)) (found s.0 (trees_with_prefix own)))

  merged : (own stored : ManifestCore) → trees_of flushes (merged_core own stored) ≡ model.merged_trees (trees_of flushes own) (trees_of flushes stored)
  merged own stored = segments own (trees_with_prefix stored)

pub merged_manifests_are_the_models : MergedManifestsAreTheModels
merged_manifests_are_the_models flushes own stored =
    ap (λ trees. record (model_manifest flushes stored) { trees = trees }) (merged flushes own.manifest.core stored.manifest.core)
