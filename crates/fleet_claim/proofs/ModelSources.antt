-- The sources of a job, as a manifest has them, are the model's.
use Rattle.std.proofs.Common.{◌≡◌, refl, sym, ◌∙◌, ap, ℕ, ◌==◌, List, [], ◌∷◌, ◌++◌, map}
use Rattle.std.specs.Prelude.{find, flat_map, Option, Some, None}
use Rattle.std.specs.List.{cons_option}
use Rattle.std.specs.Option.{option_to_list}
use Rattle.std.proofs.lemmas.List.{append-nil, map-append}
use Rattle.fleet_model.specs.Work.Attempts.{is_last}
use Rattle.fleet_model.specs.Nodes.{Node, NodeName, L0, Run, Tree, node_named, tree_at}
use Rattle.fleet_model.specs.Sources.{run_ids}
use Rattle.fleet_model.specs.Trees.{source_nodes, source_pieces}
use Rattle.fleet_tree.specs.Trees.{RunFlushes, trees_of}
use Rattle.fleet_tree.specs.Views.{View}
use Rattle.fleet_tree.specs.declared.manifest.ManifestCore.{ManifestCore}
use Rattle.fleet_tree.specs.declared.run.SortedRun.{SortedRun}
use Rattle.fleet_tree.specs.declared.tree.LsmTreeState.{LsmTreeState}
use Rattle.fleet_jobs.specs.Laws.{view_tables}
use Rattle.fleet_jobs.specs.Sources.{name_of}
use Rattle.fleet_jobs.specs.Taken.{l0_in, named_runs, named_views, runs_in, tree_in}
use Rattle.fleet_jobs.specs.declared.source_id.SourceId.{SourceId}
use Rattle.fleet_jobs.specs.declared.source_id.SourceId.TheVariants.{SortedRun as OfRun, SstView}
use Rattle.fleet_jobs.specs.declared.spec.CompactionSpec.{CompactionSpec}
use Rattle.fleet_jobs.specs.declared.spec.CompactionSpec.TheVariants.{Tiered}
use Rattle.fleet_jobs.proofs.ModelTaken.{taken_tables_are_the_models}
use Rattle.fleet_claim.specs.Sources.{is_last_after, run_views, views_at, views_in}

-- ---- the last run

runs_more : (xs ys : List NodeName) → run_ids (xs ++ ys) ≡ run_ids xs ++ run_ids ys
runs_more [] ys = refl
runs_more (L0 name ∷ xs) ys = runs_more xs ys
runs_more (Run id ∷ xs) ys = ap (λ is. id ∷ is) (runs_more xs ys)

last_of_more : (run id : ℕ) (ids : List ℕ) → is_last run (ids ++ id ∷ []) ≡ (id == run)
last_of_more run id [] = refl
last_of_more run id (a ∷ []) = refl
last_of_more run id (a ∷ b ∷ ids) = last_of_more run id (b ∷ ids)

-- The last run of some nodes and then of one more.
pub last_more : (run : ℕ) (names : List NodeName) (name : NodeName) → is_last_after (is_last run (run_ids names)) run name ≡ is_last run (run_ids (names ++ name ∷ []))
last_more run names (L0 id) = sym (ap (is_last run) (runs_more names (L0 id ∷ []) ∙ append-nil (run_ids names)))
last_more run names (Run id) = sym (ap (is_last run) (runs_more names (Run id ∷ [])) ∙ last_of_more run id (run_ids names))

-- ---- the tables of sources

-- The spec of a job with one source.
abbrev one_source : List ℕ → SourceId → CompactionSpec
one_source segment source = Tiered (record { segment = segment; sources = source ∷ []; destination = 0 })

abbrev taken_of : Option LsmTreeState → SourceId → List View
taken_of tree source = named_views (source ∷ []) (l0_in tree) ++ flat_map (λ run. run.views) (named_runs (source ∷ []) (runs_in tree))

one_view : (found : Option View) → (option_to_list found ++ []) ++ [] ≡ option_to_list found ++ []
one_view None = refl
one_view (Some view) = refl

one_run : (found : Option SortedRun) → flat_map (λ (run : SortedRun). run.views) (option_to_list found ++ []) ≡ run_views found ++ []
one_run None = refl
one_run (Some run) = refl

taken_one : (tree : Option LsmTreeState) (source : SourceId) → taken_of tree source ≡ views_in tree (source ∷ [])
taken_one None (SstView id) = refl
taken_one None (OfRun id) = refl
taken_one (Some tree) (SstView id) = one_view (find (λ view. view.id == id) tree.l0)
taken_one (Some tree) (OfRun id) = one_run (find (λ run. run.id == id) tree.compacted)

views_more : (tree : Option LsmTreeState) (source : SourceId) (sources : List SourceId) → views_in tree (source ∷ sources) ≡ views_in tree (source ∷ []) ++ views_in tree sources
views_more None source sources = refl
views_more (Some tree) source sources = ap (λ views. views ++ flat_map (views_at tree) sources) (sym (append-nil (views_at tree source)))

pieces_more : (name : NodeName) (names : List NodeName) (tree : Tree) → source_pieces (name ∷ names) tree ≡ source_pieces (name ∷ []) tree ++ source_pieces names tree
pieces_more name names tree = by (node_named name tree)
  where
    by : (found : Option Node) → flat_map (λ (node : Node). node.pieces) (cons_option found (source_nodes names tree)) ≡ flat_map (λ (node : Node). node.pieces) (cons_option found []) ++ source_pieces names tree
    by None = refl
    by (Some node) = ap (λ pieces. pieces ++ source_pieces names tree) (sym (append-nil node.pieces))

one_named : (source : SourceId) → (flushes : RunFlushes) (segment : List ℕ) (core : ManifestCore) → view_tables (taken_of (tree_in segment core) source) ≡ source_pieces (name_of source ∷ []) (tree_at segment (trees_of flushes core))
one_named (SstView id) flushes segment core = taken_tables_are_the_models flushes (one_source segment (SstView id)) core refl
one_named (OfRun id) flushes segment core = taken_tables_are_the_models flushes (one_source segment (OfRun id)) core refl

-- The tables of the sources' views are the pieces of the model's source nodes.
pub source_tables : (flushes : RunFlushes) (segment : List ℕ) (core : ManifestCore) (sources : List SourceId)
    → view_tables (views_in (tree_in segment core) sources) ≡ source_pieces (map name_of sources) (tree_at segment (trees_of flushes core))
source_tables flushes segment core [] = by (tree_in segment core)
  where
    by : (tree : Option LsmTreeState) → view_tables (views_in tree []) ≡ []
    by None = refl
    by (Some tree) = refl
source_tables flushes segment core (source ∷ sources) =
    let tree = tree_in segment core in
    ap view_tables (views_more tree source sources)
    ∙ map-append (λ view. view.sst.id) (views_in tree (source ∷ [])) (views_in tree sources)
    ∙ ap (λ ids. ids ++ view_tables (views_in tree sources)) (ap view_tables (sym (taken_one tree source)) ∙ one_named source flushes segment core)
    ∙ ap (λ ids. source_pieces (name_of source ∷ []) (tree_at segment (trees_of flushes core)) ++ ids) (source_tables flushes segment core sources)
    ∙ sym (pieces_more (name_of source) (map name_of sources) (tree_at segment (trees_of flushes core)))
