-- The tables of sources are those of the model's source nodes.
use Rattle.std.proofs.Common.{◌≡◌, refl, sym, ◌∙◌, ap, ℕ, List, [], ◌∷◌, ◌++◌, ◌+◌, ◌<◌, length, get_or, take, map, Bool, true, false, cond}
use Rattle.std.specs.Prelude.{◌==◌, bytes_eq, find, flat_map, option_map, Option, Some, None}
use Rattle.std.specs.List.{cons_option}
use Rattle.std.specs.Option.{option_to_list}
use Rattle.std.proofs.lemmas.Cmp.{nat_eq_equiv}
use Rattle.std.proofs.lemmas.List.{take_more}
use Rattle.std.proofs.lemmas.List.Concat.{flat_map-append}
use Rattle.fleet_model.specs.Nodes.{L0, Run, Node, node_named, segment_at, tree_at, tree_or_empty}
use Rattle.fleet_model.specs.Trees.{source_nodes, source_pieces, tables_now}
use Rattle.fleet_tree.specs.Trees.{RunFlushes, flush_node, run_node, segment_of, tree_of, trees_of, trees_with_prefix}
use Rattle.fleet_tree.specs.Views.{View}
use Rattle.fleet_tree.specs.declared.manifest.ManifestCore.{ManifestCore}
use Rattle.fleet_tree.specs.declared.run.SortedRun.{SortedRun}
use Rattle.fleet_tree.specs.declared.tree.LsmTreeState.{LsmTreeState}
use Rattle.fleet_jobs.specs.Sources.{name_of}
use Rattle.fleet_jobs.specs.Specs.{segment_of as prefix_of, sources_of, spec_of}
use Rattle.fleet_jobs.specs.declared.source_id.SourceId.{SourceId}
use Rattle.fleet_jobs.specs.declared.source_id.SourceId.TheVariants.{SortedRun as OfRun, SstView}
use Rattle.fleet_jobs.specs.declared.spec.CompactionSpec.{CompactionSpec}
use Rattle.fleet_gates.specs.Tables.{flush_table, tables_if_there, tables_in, tables_of}

-- The tables of a node, or none if there is no node.
abbrev pieces_of : Option Node → List ℕ
pieces_of None = []
pieces_of (Some node) = node.pieces

pieces_in_front : (o : Option Node) (nodes : List Node) → flat_map (λ node. node.pieces) (cons_option o nodes) ≡ pieces_of o ++ flat_map (λ node. node.pieces) nodes
pieces_in_front None nodes = refl
pieces_in_front (Some node) nodes = refl

module _ (flushes : ℕ → List ℕ) where
  no_flush : (n : ℕ) (runs : List SortedRun) → pieces_of (node_named (L0 n) (map (run_node flushes) runs)) ≡ []
  no_flush n [] = refl
  no_flush n (r ∷ runs) = no_flush n runs

  flush_pieces : (n : ℕ) (views : List View) (runs : List SortedRun)
      → pieces_of (node_named (L0 n) (map (flush_node flushes) views ++ map (run_node flushes) runs)) ≡ option_to_list (flush_table n views)
  flush_pieces n [] runs = no_flush n runs
  flush_pieces n (v ∷ views) runs = ap (λ b. pieces_of (cond b (Some (flush_node flushes v)) (node_named (L0 n) (map (flush_node flushes) views ++ map (run_node flushes) runs)))) (nat_eq_equiv.symm n v.id) ∙ by (v.id == n) (flush_pieces n views runs)
    where
      by : (b : Bool) → pieces_of (node_named (L0 n) (map (flush_node flushes) views ++ map (run_node flushes) runs)) ≡ option_to_list (flush_table n views)
          → pieces_of (cond b (Some (flush_node flushes v)) (node_named (L0 n) (map (flush_node flushes) views ++ map (run_node flushes) runs)))
          ≡ option_to_list (option_map (λ view. view.sst.id) (cond b (Some v) (find (λ view. view.id == n) views)))
      by true rest = refl
      by false rest = rest

  only_run_pieces : (n : ℕ) (runs : List SortedRun) → pieces_of (node_named (Run n) (map (run_node flushes) runs)) ≡ tables_if_there (option_map (λ run. run.views) (find (λ run. run.id == n) runs))
  only_run_pieces n [] = refl
  only_run_pieces n (r ∷ runs) = ap (λ b. pieces_of (cond b (Some (run_node flushes r)) (node_named (Run n) (map (run_node flushes) runs)))) (nat_eq_equiv.symm n r.id) ∙ by (r.id == n) (only_run_pieces n runs)
    where
      by : (b : Bool) → pieces_of (node_named (Run n) (map (run_node flushes) runs)) ≡ tables_if_there (option_map (λ run. run.views) (find (λ run. run.id == n) runs))
          → pieces_of (cond b (Some (run_node flushes r)) (node_named (Run n) (map (run_node flushes) runs)))
          ≡ tables_if_there (option_map (λ run. run.views) (cond b (Some r) (find (λ run. run.id == n) runs)))
      by true rest = refl
      by false rest = rest

  run_pieces : (n : ℕ) (views : List View) (runs : List SortedRun)
      → pieces_of (node_named (Run n) (map (flush_node flushes) views ++ map (run_node flushes) runs)) ≡ tables_if_there (option_map (λ run. run.views) (find (λ run. run.id == n) runs))
  run_pieces n [] runs = only_run_pieces n runs
  run_pieces n (v ∷ views) runs = run_pieces n views runs

  named_pieces : (source : SourceId) (tree : LsmTreeState) → pieces_of (node_named (name_of source) (tree_of flushes tree)) ≡ tables_of tree source
  named_pieces (OfRun id) tree = run_pieces id tree.l0 tree.compacted
  named_pieces (SstView id) tree = flush_pieces id tree.l0 tree.compacted

  pieces_in : (sources : List SourceId) (tree : LsmTreeState) → source_pieces (map name_of sources) (tree_of flushes tree) ≡ tables_in tree sources
  pieces_in [] tree = refl
  pieces_in (source ∷ sources) tree =
      pieces_in_front (node_named (name_of source) (tree_of flushes tree)) (source_nodes (map name_of sources) (tree_of flushes tree))
      ∙ ap (λ ids. ids ++ source_pieces (map name_of sources) (tree_of flushes tree)) (named_pieces source tree)
      ∙ ap (λ ids. tables_of tree source ++ ids) (pieces_in sources tree)

-- The tables of sources in a tree. Without a tree there are none.
abbrev pub tables_if : List SourceId → Option LsmTreeState → List ℕ
tables_if sources None = []
tables_if sources (Some tree) = tables_in tree sources

no_pieces : (sources : List SourceId) → source_pieces (map name_of sources) [] ≡ []
no_pieces [] = refl
no_pieces (source ∷ sources) = no_pieces sources

pub tables_are : (flushes : RunFlushes) (p : List ℕ) (sources : List SourceId) (trees : List (List ℕ × LsmTreeState))
    → tables_if sources (option_map (λ s. s.1) (find (λ s. bytes_eq p s.0) trees)) ≡ source_pieces (map name_of sources) (tree_at p (map (segment_of flushes) trees))
tables_are flushes p sources [] = sym (no_pieces sources)
tables_are flushes p sources (s ∷ trees) = by (bytes_eq p s.0) (tables_are flushes p sources trees)
  where
    by : (b : Bool) → tables_if sources (option_map (λ s. s.1) (find (λ s. bytes_eq p s.0) trees)) ≡ source_pieces (map name_of sources) (tree_at p (map (segment_of flushes) trees))
        → tables_if sources (option_map (λ s. s.1) (cond b (Some s) (find (λ s. bytes_eq p s.0) trees)))
        ≡ source_pieces (map name_of sources) (tree_or_empty (cond b (Some (segment_of flushes s)) (segment_at p (map (segment_of flushes) trees))))
    by true rest = sym (pieces_in (flushes s.0) sources s.1)
    by false rest = rest

-- The tables of a job's sources are those of the tree that is found for its segment.
pub tables_at : (flushes : RunFlushes) (core : ManifestCore) (spec : CompactionSpec) (p : List ℕ) (sources : List SourceId) (found : Option LsmTreeState) → p ≡ prefix_of spec → sources ≡ sources_of spec
    → found ≡ option_map (λ s. s.1) (find (λ s. bytes_eq p s.0) (trees_with_prefix core)) → tables_if sources found ≡ tables_now (trees_of flushes core) (spec_of spec)
tables_at flushes core spec p sources found at named is =
    ap (tables_if sources) is
    ∙ tables_are flushes p sources (trees_with_prefix core)
    ∙ ap (λ q. source_pieces (map name_of sources) (tree_at q (trees_of flushes core))) at
    ∙ ap (λ xs. source_pieces (map name_of xs) (tree_at (prefix_of spec) (trees_of flushes core))) named

end_of_none : {A : Type 0} (xs : List A) → xs ++ [] ≡ xs
end_of_none [] = refl
end_of_none (x ∷ xs) = ap (λ l. x ∷ l) (end_of_none xs)

-- The tables of sources and of one source more.
pub tables_more : (tree : LsmTreeState) (sources : List SourceId) (i : ℕ) (source : SourceId) (before after : List ℕ) → i < length sources → source ≡ get_or sources i source
    → before ≡ tables_in tree (take i sources) → after ≡ before ++ tables_of tree source → after ≡ tables_in tree (take (i + 1) sources)
tables_more tree sources i source before after below is so more =
    more
    ∙ ap (λ ids. ids ++ tables_of tree source) so
    ∙ ap (λ ids. tables_in tree (take i sources) ++ ids) (sym (end_of_none (tables_of tree source)))
    ∙ sym (flat_map-append (tables_of tree) (take i sources) (source ∷ []))
    ∙ sym (ap (tables_in tree) (take_more sources i source below ∙ ap (λ y. take i sources ++ y ∷ []) (sym is)))
