-- What a scheduler is shown of the manifest and the records that were got: the model's view of the store.
use Rattle.std.proofs.Common.{◌≡◌, refl, sym, ◌∙◌, ap, subst, ℕ, Bool, true, false, cond, List, [], ◌∷◌, ◌++◌, inl, inr, Option, Some, None, arith}
use Rattle.std.specs.Prelude.{◌<◌, filter, flat_map, map, not, option_map}
use Rattle.std.proofs.lemmas.List.{map-append}
use Rattle.std.specs.List.{AllByRecursion, concat}
use Rattle.std.proofs.lemmas.Bool.Decides.{Decides-eqb}
use Rattle.row_model.specs.Fold.{Operator}
use Rattle.row_model.specs.Lists.{Pairs}
use Rattle.fleet_model.specs.Handles.{context_tables, handles_of, job_tables, named_tables, tree_tables}
use Rattle.fleet_model.specs.Jobs.{is_active, is_finished}
use Rattle.fleet_model.specs.Nodes.{L0, Node, NodeName, Run, Segment, Tables, Tree, Trees, name_eq, names, node_named, tree_at, tree_or_empty}
use Rattle.fleet_model.specs.Work.Scheduler.{View, shown_view}
use Rattle.fleet_model.specs.Store.{Manifest}
use Rattle.fleet_model.specs.Invariants.TreesFit.{IsTree, StandsBefore}
use Rattle.step_model.specs.Kept.Keeps.{Keeps}
use Rattle.step_model.specs.Past.{World}
use Rattle.step_model.specs.Kept.TablesKept.{IsFlush}
use Rattle.step_laws.proofs.Elements.{IsIn, all_at, all_from}
use Rattle.step_laws.proofs.FlushFollows.{found_segment}
use Rattle.step_laws.proofs.FlushTrees.{Rising, rising_from}
use Rattle.course_laws.proofs.Calls.{pairs_filter}
use Rattle.step_laws.proofs.Polls.{in_map}
use Rattle.fleet_tree.specs.Handles.{handle_of}
use Rattle.fleet_tree.specs.Manifests.{manifest_of}
use Rattle.fleet_tree.specs.Trees.{RunFlushes, flush_node, run_node, segment_of, tree_of, trees_of, trees_with_prefix}
use Rattle.fleet_tree.specs.Views as own
use Rattle.fleet_tree.specs.declared.handle.SsTableHandle.{SsTableHandle}
use Rattle.fleet_tree.specs.declared.manifest.VersionedManifest.{VersionedManifest}
use Rattle.fleet_tree.specs.declared.run.SortedRun.{SortedRun}
use Rattle.fleet_tree.specs.declared.tree.LsmTreeState.{LsmTreeState}
use Rattle.fleet_jobs.specs.Parts.ContextParts.{ContextParts}
use Rattle.fleet_plan.specs.Parts.{Part}
use Rattle.fleet_jobs.specs.Contexts.{context_of, noted_range, ranges_in, table_ids}
use Rattle.fleet_jobs.specs.Parts.JobParts.{JobParts}
use Rattle.fleet_jobs.specs.Jobs.{is_open, job_handles, job_of, jobs_of}
use Rattle.fleet_jobs.specs.Status.{status_of}
use Rattle.fleet_book.specs.VersionedRecords.{VersionedRecords}
use Rattle.fleet_book.specs.Records.{AreRising}
use Rattle.fleet_book.specs.Versions.{records_of, with_jobs}
use Rattle.fleet_book.specs.declared.compactions.Compactions.{Compactions}
use Rattle.fleet_book.specs.declared.view.CompactorStateView.{CompactorStateView}
use Rattle.fleet_store.specs.Handles.{IsDescribed, NamesTable}
use Rattle.fleet_store.specs.Manifests.{IsManifest, bare_node, bare_segment, tree_views}
use Rattle.fleet_store.specs.Records.{DescribeTables}
use Rattle.fleet_sched.specs.Views.{handles_in, tree_handles, view_of}
use Rattle.fleet_coordinator.proofs.FlushRules.{bare_flushes}

-- ---- the flushes of runs, from the stored trees

abbrev flushes_or_none : Option Node → List ℕ
flushes_or_none None = []
flushes_or_none (Some node) = node.flushes

-- The flushes that went into a run of these trees.
abbrev pub stored_flushes : Trees → RunFlushes
stored_flushes trees prefix run = flushes_or_none (node_named (Run run) (tree_at prefix trees))

-- The flushes of the node are its own name, or those that are given for its run.
abbrev Knows : (ℕ → List ℕ) → Node → NodeName → Type 0
Knows f node (L0 name) = node.flushes ≡ name ∷ []
Knows f node (Run id) = node.flushes ≡ f id

-- ---- records with equal parts

abbrev made_node : NodeName → List ℕ → List ℕ → Node
made_node name flushes pieces = record { name = name; flushes = flushes; pieces = pieces }

equal_nodes : (n n' : NodeName) (f f' p p' : List ℕ) → n ≡ n' → f ≡ f' → p ≡ p' → made_node n f p ≡ made_node n' f' p'
equal_nodes n n' f f' p p' a b d = rw (a, b, d) refl

abbrev made_segment : List ℕ → Tree → Option ℕ → Option ℕ → Segment
made_segment prefix tree last mark = record { prefix = prefix; tree = tree; last_seq = last; watermark = mark }

equal_segments : (p p' : List ℕ) (t t' : Tree) (l l' m m' : Option ℕ) → p ≡ p' → t ≡ t' → l ≡ l' → m ≡ m' → made_segment p t l m ≡ made_segment p' t' l' m'
equal_segments p p' t t' l l' m m' a b d e = rw (a, b, d, e) refl

-- Manifests that are equal but for their trees are equal if their trees are.
equal_manifests : (one other : Manifest) → record one { trees = [] } ≡ record other { trees = [] } → one.trees ≡ other.trees → one ≡ other
equal_manifests one other same trees = ap (λ ts. record one { trees = ts }) trees ∙ ap (λ (m : Manifest). record m { trees = other.trees }) same

-- ---- nodes

module _ (f : ℕ → List ℕ) where
  -- A node of a program with the flushes that are given is the stored node, if the bare nodes are equal.
  same_run : (r : SortedRun) (node : Node) → bare_node (run_node (λ run. []) r) ≡ bare_node node → Knows f node node.name → run_node f r ≡ node
  same_run r node same knows =
      let name : Run r.id ≡ node.name = ap (λ (n : Node). n.name) same in
      let pieces : map (λ view. view.sst.id) r.views ≡ node.pieces = ap (λ (n : Node). n.pieces) same in
      let flushes : node.flushes ≡ f r.id = subst (Knows f node) (sym name) knows in
      equal_nodes (Run r.id) node.name (f r.id) node.flushes (map (λ view. view.sst.id) r.views) node.pieces name (sym flushes) pieces

  same_runs : (runs : List SortedRun) (nodes : Tree) → map bare_node (map (run_node (λ run. [])) runs) ≡ map bare_node nodes → AllByRecursion (λ node. Knows f node node.name) nodes → map (run_node f) runs ≡ nodes
  same_runs [] [] same all = refl
  same_runs [] (node ∷ nodes) same all = absurd (cc same)
  same_runs (r ∷ runs) [] same all = absurd (cc same)
  same_runs (r ∷ runs) (node ∷ nodes) same all = rw (same_run r node (cc same) all.0, same_runs runs nodes (cc same) all.1) refl

  same_view : (v : own.View) (node : Node) → bare_node (flush_node (λ run. []) v) ≡ bare_node node → Knows f node node.name → flush_node f v ≡ node
  same_view v node same knows =
      let name : L0 v.id ≡ node.name = ap (λ (n : Node). n.name) same in
      let pieces : v.sst.id ∷ [] ≡ node.pieces = ap (λ (n : Node). n.pieces) same in
      let flushes : node.flushes ≡ v.id ∷ [] = subst (Knows f node) (sym name) knows in
      equal_nodes (L0 v.id) node.name (v.id ∷ []) node.flushes (v.sst.id ∷ []) node.pieces name (sym flushes) pieces

  same_nodes : (views : List own.View) (runs : List SortedRun) (nodes : Tree) → map bare_node (map (flush_node (λ run. [])) views ++ map (run_node (λ run. [])) runs) ≡ map bare_node nodes
      → AllByRecursion (λ node. Knows f node node.name) nodes → map (flush_node f) views ++ map (run_node f) runs ≡ nodes
  same_nodes [] runs nodes same all = same_runs runs nodes same all
  same_nodes (v ∷ views) runs [] same all = absurd (cc same)
  same_nodes (v ∷ views) runs (node ∷ nodes) same all = rw (same_view v node (cc same) all.0, same_nodes views runs nodes (cc same) all.1) refl

-- ---- trees

module _ (flushes : RunFlushes) where
  same_segment : (one : List ℕ × LsmTreeState) (s : Segment) → bare_segment (segment_of bare_flushes one) ≡ bare_segment s → AllByRecursion (λ node. Knows (flushes s.prefix) node node.name) s.tree → segment_of flushes one ≡ s
  same_segment one s same all =
      let prefix : one.0 ≡ s.prefix = ap (λ (s : Segment). s.prefix) same in
      let last : one.1.last_seq ≡ s.last_seq = ap (λ (s : Segment). s.last_seq) same in
      let mark : one.1.last_compacted_l0_sst_view_id ≡ s.watermark = ap (λ (s : Segment). s.watermark) same in
      let tree : tree_of (flushes one.0) one.1 ≡ s.tree =
      same_nodes (flushes one.0) one.1.l0 one.1.compacted s.tree (ap (λ (s : Segment). s.tree) same) (subst (λ p. AllByRecursion (λ node. Knows (flushes p) node node.name) s.tree) (sym prefix) all) in
      equal_segments one.0 s.prefix (tree_of (flushes one.0) one.1) s.tree one.1.last_seq s.last_seq one.1.last_compacted_l0_sst_view_id s.watermark prefix tree last mark

  pub same_segments : (ones : List (List ℕ × LsmTreeState)) (trees : Trees) → map bare_segment (map (segment_of bare_flushes) ones) ≡ map bare_segment trees
      → AllByRecursion (λ s. AllByRecursion (λ node. Knows (flushes s.prefix) node node.name) s.tree) trees → map (segment_of flushes) ones ≡ trees
  same_segments [] [] same all = refl
  same_segments [] (s ∷ trees) same all = absurd (cc same)
  same_segments (one ∷ ones) [] same all = absurd (cc same)
  same_segments (one ∷ ones) (s ∷ trees) same all = rw (same_segment one s (cc same) all.0, same_segments ones trees (cc same) all.1) refl

-- ---- each run is found

name_is : (id : ℕ) (name : NodeName) → name_eq (Run id) name ≡ true → name ≡ Run id
name_is id (L0 other) e = absurd (cc e)
name_is id (Run other) e = ap Run (sym ((Decides-eqb id other).0 e))

-- A run in a tree whose nodes are in order is found by its id.
run_here : (id : ℕ) (tree : Tree) (node : Node) → Pairs StandsBefore (names tree) → IsIn node tree → node.name ≡ Run id → node_named (Run id) tree ≡ Some node
run_here id [] node order there is = absurd there
run_here id (first ∷ tree) node order (inl same) is = by (name_eq (Run id) first.name) refl
  where
    by : (b : Bool) → name_eq (Run id) first.name ≡ b → cond b (Some first) (node_named (Run id) tree) ≡ Some node
    by true e = ap Some same
    by false e = absurd (refused (name_eq (Run id) first.name) e (ap (name_eq (Run id)) (ap (λ (n : Node). n.name) same ∙ is) ∙ itself))
      where
        refused : (b : Bool) → b ≡ false → b ≡ true → ⊥
        refused b f t = absurd (cc (sym f ∙ t))

        itself : name_eq (Run id) (Run id) ≡ true
        itself = (Decides-eqb id id).1 refl
run_here id (first ∷ tree) node order (inr there) is = by (name_eq (Run id) first.name) refl (run_here id tree node order.1 there is)
  where
    clash : first.name ≡ Run id → StandsBefore first.name node.name → ⊥
    clash e before = falls (subst (StandsBefore (Run id)) is (subst (λ n. StandsBefore n node.name) e before))
      where
        falls : id < id → ⊥
        falls low = absurd (omega (arith, low))

    by : (b : Bool) → name_eq (Run id) first.name ≡ b → node_named (Run id) tree ≡ Some node → cond b (Some first) (node_named (Run id) tree) ≡ Some node
    by true e rest = absurd (clash (name_is id first.name e) (all_at (StandsBefore first.name) (names tree) node.name order.0 (in_map (λ (n : Node). n.name) tree node there)))
    by false e rest = rest

module _ (merge : Operator) (world : World) (kept : Keeps merge world) where
  abbrev trees : Trees
  trees = world.store.manifest.trees

  rise : Rising trees
  rise = rising_from trees kept.stored.sound.prefixes

  knows_node : (s : Segment) → IsIn s trees → (node : Node) → IsIn node s.tree → (name : NodeName) → node.name ≡ name → IsFlush world.store.history node name → Knows (stored_flushes trees s.prefix) node name
  knows_node s there node inside (L0 name) is flush = flush.2
  knows_node s there node inside (Run id) is flush =
      sym (ap (λ found. flushes_or_none (node_named (Run id) (tree_or_empty found))) (found_segment s.prefix trees s rise there refl)
      ∙ ap flushes_or_none (run_here id s.tree node (all_at (IsTree world.store.tables) trees s kept.stored.trees.each there).names_in_order inside is))

  -- The stored flushes are right for each node.
  pub all_known : AllByRecursion (λ s. AllByRecursion (λ node. Knows (stored_flushes trees s.prefix) node node.name) s.tree) trees
  all_known =
      all_from _ trees (λ s there. all_from _ s.tree (λ node inside. knows_node s there node inside node.name refl
      (all_at (λ node. IsFlush world.store.history node node.name) s.tree node (all_at (λ (s : Segment). AllByRecursion (λ node. IsFlush world.store.history node node.name) s.tree) trees s kept.facts.pieces.flushes there) inside)))

-- ---- handles

-- What is described has the handles of the tables of its ids.
described_handles : (tables : Tables) (handles : List SsTableHandle) → AllByRecursion (IsDescribed tables) handles → map handle_of handles ≡ handles_of tables (table_ids handles)
described_handles tables [] all = refl
described_handles tables (handle ∷ handles) all = rw (all.0.describes, described_handles tables handles all.1) refl

-- ---- handles of trees

run_views : (views : List own.View) → table_ids (map (λ view. view.sst) views) ≡ map (λ view. view.sst.id) views
run_views [] = refl
run_views (v ∷ views) = ap (λ ids. v.sst.id ∷ ids) (run_views views)

module _ (f : ℕ → List ℕ) where
  run_tables : (runs : List SortedRun) → table_ids (flat_map (λ run. map (λ view. view.sst) run.views) runs) ≡ flat_map (λ node. node.pieces) (map (run_node f) runs)
  run_tables [] = refl
  run_tables (r ∷ runs) =
      map-append (λ (handle : SsTableHandle). handle.id) (map (λ view. view.sst) r.views) (flat_map (λ run. map (λ view. view.sst) run.views) runs)
      ∙ ap (λ ids. ids ++ table_ids (flat_map (λ run. map (λ view. view.sst) run.views) runs)) (run_views r.views)
      ∙ ap (λ ids. map (λ view. view.sst.id) r.views ++ ids) (run_tables runs)

  node_tables : (views : List own.View) (runs : List SortedRun) → table_ids (map (λ view. view.sst) views ++ flat_map (λ run. map (λ view. view.sst) run.views) runs)
      ≡ flat_map (λ node. node.pieces) (map (flush_node f) views ++ map (run_node f) runs)
  node_tables [] runs = run_tables runs
  node_tables (v ∷ views) runs = ap (λ ids. v.sst.id ∷ ids) (node_tables views runs)

all_tables : (flushes : RunFlushes) (ones : List (List ℕ × LsmTreeState)) → table_ids (flat_map (λ s. tree_handles s.1) ones) ≡ flat_map tree_tables (map (segment_of flushes) ones)
all_tables flushes [] = refl
all_tables flushes (one ∷ ones) =
    map-append (λ (handle : SsTableHandle). handle.id) (tree_handles one.1) (flat_map (λ s. tree_handles s.1) ones)
    ∙ ap (λ ids. ids ++ table_ids (flat_map (λ s. tree_handles s.1) ones)) (node_tables (flushes one.0) one.1.l0 one.1.compacted)
    ∙ ap (λ ids. tree_tables (segment_of flushes one) ++ ids) (all_tables flushes ones)

module _ (tables : Tables) where
  two_parts : (xs ys : List SsTableHandle) → AllByRecursion (IsDescribed tables) xs → AllByRecursion (IsDescribed tables) ys → AllByRecursion (IsDescribed tables) (xs ++ ys)
  two_parts [] ys one two = two
  two_parts (x ∷ xs) ys one two = (one.0, two_parts xs ys one.1 two)

  front_part : (xs ys : List own.View) → AllByRecursion (NamesTable tables) (xs ++ ys) → AllByRecursion (NamesTable tables) xs
  front_part [] ys all = tt
  front_part (x ∷ xs) ys all = (all.0, front_part xs ys all.1)

  back_part : (xs ys : List own.View) → AllByRecursion (NamesTable tables) (xs ++ ys) → AllByRecursion (NamesTable tables) ys
  back_part [] ys all = all
  back_part (x ∷ xs) ys all = back_part xs ys all.1

  view_described : (views : List own.View) → AllByRecursion (NamesTable tables) views → AllByRecursion (IsDescribed tables) (map (λ view. view.sst) views)
  view_described [] all = tt
  view_described (v ∷ views) all = (all.0.described, view_described views all.1)

  runs_described : (runs : List SortedRun) → AllByRecursion (NamesTable tables) (flat_map (λ run. run.views) runs) → AllByRecursion (IsDescribed tables) (flat_map (λ run. map (λ view. view.sst) run.views) runs)
  runs_described [] all = tt
  runs_described (r ∷ runs) all =
      two_parts (map (λ view. view.sst) r.views) (flat_map (λ run. map (λ view. view.sst) run.views) runs) (view_described r.views (front_part r.views (flat_map (λ run. run.views) runs) all))
      (runs_described runs (back_part r.views (flat_map (λ run. run.views) runs) all))

  tree_described : (tree : LsmTreeState) → AllByRecursion (NamesTable tables) (tree_views tree) → AllByRecursion (IsDescribed tables) (tree_handles tree)
  tree_described tree all =
      two_parts (map (λ view. view.sst) tree.l0) (flat_map (λ run. map (λ view. view.sst) run.views) tree.compacted) (view_described tree.l0 (front_part tree.l0 (flat_map (λ run. run.views) tree.compacted) all))
      (runs_described tree.compacted (back_part tree.l0 (flat_map (λ run. run.views) tree.compacted) all))

  trees_described : (ones : List (List ℕ × LsmTreeState)) → AllByRecursion (NamesTable tables) (flat_map (λ s. tree_views s.1) ones) → AllByRecursion (IsDescribed tables) (flat_map (λ s. tree_handles s.1) ones)
  trees_described [] all = tt
  trees_described (one ∷ ones) all =
      two_parts (tree_handles one.1) (flat_map (λ s. tree_handles s.1) ones) (tree_described one.1 (front_part (tree_views one.1) (flat_map (λ s. tree_views s.1) ones) all))
      (trees_described ones (back_part (tree_views one.1) (flat_map (λ s. tree_views s.1) ones) all))

-- ---- handles of jobs

range_tables : (parts : List Part) → table_ids (flat_map (λ range. range.output_ssts) parts) ≡ flat_map (λ range. range.1) (map noted_range parts)
range_tables [] = refl
range_tables (part ∷ parts) =
    map-append (λ (handle : SsTableHandle). handle.id) part.output_ssts (flat_map (λ range. range.output_ssts) parts) ∙ ap (λ ids. table_ids part.output_ssts ++ ids) (range_tables parts)

ctx_tables : (ctx : Option ContextParts) → table_ids (flat_map (λ range. range.output_ssts) (ranges_in ctx)) ≡ context_tables (option_map context_of ctx)
ctx_tables None = refl
ctx_tables (Some ctx) = range_tables ctx.ranges

output_tables : (outputs : List (List SsTableHandle)) → table_ids (flat_map (λ tables. tables) outputs) ≡ concat (map table_ids outputs)
output_tables [] = refl
output_tables (tables ∷ outputs) = map-append (λ (handle : SsTableHandle). handle.id) tables (flat_map (λ tables. tables) outputs) ∙ ap (λ ids. table_ids tables ++ ids) (output_tables outputs)

one_job : (job : JobParts) → table_ids (job_handles job) ≡ job_tables (job_of job)
one_job job =
    map-append (λ (handle : SsTableHandle). handle.id) (flat_map (λ range. range.output_ssts) (ranges_in job.ctx)) (flat_map (λ tables. tables) job.outputs)
    ∙ ap (λ ids. ids ++ table_ids (flat_map (λ tables. tables) job.outputs)) (ctx_tables job.ctx) ∙ ap (λ ids. context_tables (option_map context_of job.ctx) ++ ids) (output_tables job.outputs)

jobs_tables : (jobs : List JobParts) → table_ids (flat_map job_handles jobs) ≡ flat_map job_tables (jobs_of jobs)
jobs_tables [] = refl
jobs_tables (job ∷ jobs) =
    map-append (λ (handle : SsTableHandle). handle.id) (job_handles job) (flat_map job_handles jobs) ∙ ap (λ ids. ids ++ table_ids (flat_map job_handles jobs)) (one_job job)
    ∙ ap (λ ids. job_tables (job_of job) ++ ids) (jobs_tables jobs)

-- ---- jobs that are not over

open_jobs : (jobs : List JobParts) → jobs_of (filter is_open jobs) ≡ filter is_active (jobs_of jobs)
open_jobs [] = refl
open_jobs (job ∷ jobs) = by (is_finished (status_of job.status)) (open_jobs jobs)
  where
    by : (over : Bool) → jobs_of (filter is_open jobs) ≡ filter is_active (jobs_of jobs)
        → jobs_of (cond (not over) (job ∷ filter is_open jobs) (filter is_open jobs)) ≡ cond (cond over false true) (job_of job ∷ filter is_active (jobs_of jobs)) (filter is_active (jobs_of jobs))
    by true rest = rest
    by false rest = ap (λ jobs. job_of job ∷ jobs) rest

pub open_twice : (jobs : List JobParts) → filter is_open (filter is_open jobs) ≡ filter is_open jobs
open_twice [] = refl
open_twice (job ∷ jobs) = by (is_open job) refl (open_twice jobs)
  where
    by : (b : Bool) → is_open job ≡ b → filter is_open (filter is_open jobs) ≡ filter is_open jobs → filter is_open (cond b (job ∷ filter is_open jobs) (filter is_open jobs)) ≡ cond b (job ∷ filter is_open jobs) (filter is_open jobs)
    by true e rest = rw e (ap (λ jobs. job ∷ jobs) rest)
    by false e rest = rest

module _ (tables : Tables) where
  handles_front : (xs ys : List SsTableHandle) → AllByRecursion (IsDescribed tables) (xs ++ ys) → AllByRecursion (IsDescribed tables) xs
  handles_front [] ys all = tt
  handles_front (x ∷ xs) ys all = (all.0, handles_front xs ys all.1)

  handles_back : (xs ys : List SsTableHandle) → AllByRecursion (IsDescribed tables) (xs ++ ys) → AllByRecursion (IsDescribed tables) ys
  handles_back [] ys all = all
  handles_back (x ∷ xs) ys all = handles_back xs ys all.1

  open_described : (jobs : List JobParts) → AllByRecursion (IsDescribed tables) (flat_map job_handles jobs) → AllByRecursion (IsDescribed tables) (flat_map job_handles (filter is_open jobs))
  open_described [] all = tt
  open_described (job ∷ jobs) all = by (is_open job) (open_described jobs (handles_back (job_handles job) (flat_map job_handles jobs) all))
    where
      by : (b : Bool) → AllByRecursion (IsDescribed tables) (flat_map job_handles (filter is_open jobs)) → AllByRecursion (IsDescribed tables) (flat_map job_handles (cond b (job ∷ filter is_open jobs) (filter is_open jobs)))
      by true rest = two_parts tables (job_handles job) (flat_map job_handles (filter is_open jobs)) (handles_front (job_handles job) (flat_map job_handles jobs) all) rest
      by false rest = rest

-- ---- the view

module _ (merge : Operator) (world : World) (kept : Keeps merge world) (m : VersionedManifest) (is : IsManifest m world.store) (got : VersionedRecords) (described : DescribeTables got.compactions.jobs world.store) where
  abbrev stored : Manifest
  stored = world.store.manifest

  abbrev flushes : RunFlushes
  flushes = stored_flushes stored.trees

  abbrev state : CompactorStateView
  state = record { manifest = m; compactions = Some got }

  trees_are : trees_of flushes m.manifest.core ≡ stored.trees
  trees_are = same_segments flushes (trees_with_prefix m.manifest.core) stored.trees (ap (λ (m : Manifest). m.trees) is.same) (all_known merge world kept)

  manifest_is : manifest_of flushes m.id m.manifest.compactor_epoch m.manifest.core ≡ stored
  manifest_is = equal_manifests (manifest_of flushes m.id m.manifest.compactor_epoch m.manifest.core) stored (ap (λ (m : Manifest). record m { trees = [] }) is.same) trees_are

  jobs_are : jobs_of (filter is_open got.compactions.jobs) ≡ filter is_active (jobs_of got.compactions.jobs)
  jobs_are = open_jobs got.compactions.jobs

  ids_are : table_ids (handles_in state) ≡ named_tables stored.trees (filter is_active (jobs_of got.compactions.jobs))
  ids_are =
      map-append (λ (handle : SsTableHandle). handle.id) (flat_map (λ s. tree_handles s.1) (trees_with_prefix m.manifest.core)) (flat_map job_handles (filter is_open got.compactions.jobs))
      ∙ ap (λ ids. ids ++ table_ids (flat_map job_handles (filter is_open got.compactions.jobs))) (all_tables flushes (trees_with_prefix m.manifest.core) ∙ ap (flat_map tree_tables) trees_are)
      ∙ ap (λ ids. flat_map tree_tables stored.trees ++ ids) (jobs_tables (filter is_open got.compactions.jobs) ∙ ap (flat_map job_tables) jobs_are)

  handles_are : map handle_of (handles_in state) ≡ handles_of world.store.tables (named_tables stored.trees (filter is_active (jobs_of got.compactions.jobs)))
  handles_are =
      described_handles world.store.tables (handles_in state)
      (two_parts world.store.tables (flat_map (λ s. tree_handles s.1) (trees_with_prefix m.manifest.core)) (flat_map job_handles (filter is_open got.compactions.jobs)) (trees_described world.store.tables (trees_with_prefix m.manifest.core) is.views)
      (open_described world.store.tables got.compactions.jobs described)) ∙ ap (handles_of world.store.tables) ids_are

  -- The scheduler is shown the model's view of the store.
  pub view_is : view_of flushes state ≡ shown_view world.store.tables stored (records_of got) (records_of got).jobs
  view_is = let manifest = manifest_is in let jobs = jobs_are in let handles = handles_are in cc (manifest, jobs, handles)

-- ---- the records that are shown

pub open_rising : (jobs : List JobParts) → AreRising jobs → AreRising (filter is_open jobs)
open_rising jobs rise = pairs_filter (λ a b. a.id < b.id) is_open jobs rise

-- The scheduler is shown the same without the jobs that are over.
pub same_view_of : (flushes : RunFlushes) (m : VersionedManifest) (got shown : VersionedRecords) → shown ≡ with_jobs (filter is_open got.compactions.jobs) got
    → view_of flushes (record { manifest = m; compactions = Some shown }) ≡ view_of flushes (record { manifest = m; compactions = Some got })
same_view_of flushes m got shown is =
    ap (λ r. view_of flushes (record { manifest = m; compactions = Some r })) is ∙ ap (viewed flushes m got) (open_twice got.compactions.jobs)
  where
    viewed : RunFlushes → VersionedManifest → VersionedRecords → List JobParts → View
    viewed flushes m got jobs = record {
      manifest = manifest_of flushes m.id m.manifest.compactor_epoch m.manifest.core;
      records_version = got.id;
      records_epoch = got.compactions.compactor_epoch;
      jobs = jobs_of jobs;
      handles = map handle_of (flat_map (λ s. tree_handles s.1) (trees_with_prefix m.manifest.core) ++ flat_map job_handles jobs);
    }

pub shown_records : (got : VersionedRecords) (copy : Compactions) (id : ℕ) (jobs : List JobParts) → jobs ≡ filter is_open copy.jobs → copy ≡ got.compactions → id ≡ got.id
    → record { id = id; compactions = record { compactor_epoch = copy.compactor_epoch; jobs = jobs } } ≡ with_jobs (filter is_open got.compactions.jobs) got
shown_records got copy id jobs are same at =
    ap (made id copy.compactor_epoch) are ∙ ap (λ (r : Compactions). made id r.compactor_epoch (filter is_open r.jobs)) same ∙ ap (λ n. made n got.compactions.compactor_epoch (filter is_open got.compactions.jobs)) at
  where
    made : (id epoch : ℕ) → List JobParts → VersionedRecords
    made id epoch jobs = record { id = id; compactions = record { compactor_epoch = epoch; jobs = jobs } }
