-- What is printed of the program's ranges, rows, jobs and trees is what the model prints of its own.
use Rattle.std.proofs.Common.{◌≡◌, ℕ, List, [], ◌∷◌, ◌++◌, map, refl, ap, ◌∙◌, sym}
use Rattle.fleet_model.specs.Nodes.{Node, L0, Run, names}
use Rattle.fleet_plan.specs.Parts.{Part}
use Rattle.fleet_tree.specs.Views.{View}
use Rattle.fleet_tree.specs.Trees.{RunFlushes, flush_node, run_node, tree_of, segment_of, trees_of, trees_with_prefix}
use Rattle.fleet_tree.specs.declared.run.SortedRun.{SortedRun}
use Rattle.fleet_tree.specs.declared.tree.LsmTreeState.{LsmTreeState}
use Rattle.fleet_tree.specs.declared.manifest.ManifestCore.{ManifestCore}
use Rattle.fleet_jobs.specs.Contexts.{noted_range, table_ids}
use Rattle.script_model.specs.Words.{bytes_text, nodes_text}
use Rattle.script_model.specs.Replies.{tables_text, segment_text}
use Rattle.fleet_text.specs.Printed.{tree_nodes, tree_text}

-- What is made of each item in two steps.
pub mapped_twice : {A B C : Type 0} (f : A → B) (g : B → C) (xs : List A) → map (λ x. g (f x)) xs ≡ map g (map f xs)
mapped_twice f g [] = refl
mapped_twice f g (x ∷ xs) = ap (λ rest. g (f x) ∷ rest) (mapped_twice f g xs)

pub parts_ranges : (parts : List Part) → map (λ (part : Part). tables_text (table_ids part.output_ssts)) parts ≡ map tables_text (map (λ range. range.1) (map noted_range parts))
parts_ranges [] = refl
parts_ranges (part ∷ parts) = ap (λ texts. tables_text (table_ids part.output_ssts) ∷ texts) (parts_ranges parts)

map-append : {A B : Type 0} (f : A → B) (xs ys : List A) → map f (xs ++ ys) ≡ map f xs ++ map f ys
map-append f [] ys = refl
map-append f (x ∷ xs) ys = ap (λ rest. f x ∷ rest) (map-append f xs ys)

flush_names : (flushes : ℕ → List ℕ) (views : List View) → map (λ (node : Node). node.name) (map (flush_node flushes) views) ≡ map (λ (view : View). L0 view.id) views
flush_names flushes [] = refl
flush_names flushes (view ∷ views) = ap (λ rest. L0 view.id ∷ rest) (flush_names flushes views)

run_names : (flushes : ℕ → List ℕ) (runs : List SortedRun) → map (λ (node : Node). node.name) (map (run_node flushes) runs) ≡ map (λ (run : SortedRun). Run run.id) runs
run_names flushes [] = refl
run_names flushes (run ∷ runs) = ap (λ rest. Run run.id ∷ rest) (run_names flushes runs)

-- The nodes of a tree are named alike, whatever went into its runs.
pub names_of_tree : (flushes : ℕ → List ℕ) (t : LsmTreeState) → tree_nodes t ≡ names (tree_of flushes t)
names_of_tree flushes t =
    let first = flush_names flushes t.l0 in
    let second = run_names flushes t.compacted in
    sym (map-append (λ (node : Node). node.name) (map (flush_node flushes) t.l0) (map (run_node flushes) t.compacted) ∙ ap (λ l. l ++ map (λ (node : Node). node.name) (map (run_node flushes) t.compacted)) first ∙ ap (λ l. map (λ (view : View). L0 view.id) t.l0 ++ l) second)

segments_text : (flushes : RunFlushes) (trees : List (List ℕ × LsmTreeState)) → map tree_text trees ≡ map segment_text (map (segment_of flushes) trees)
segments_text flushes [] = refl
segments_text flushes (s ∷ trees) =
    ap (λ nodes. ((bytes_text s.0 ++ 58 ∷ []) ++ nodes_text nodes) ∷ map tree_text trees) (names_of_tree (flushes s.0) s.1) ∙ ap (λ rest. segment_text (segment_of flushes s) ∷ rest) (segments_text flushes trees)

pub trees_texts : (flushes : RunFlushes) (core : ManifestCore) → map tree_text (trees_with_prefix core) ≡ map segment_text (trees_of flushes core)
trees_texts flushes core = segments_text flushes (trees_with_prefix core)
