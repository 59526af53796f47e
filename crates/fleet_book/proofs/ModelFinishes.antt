-- Finishes of jobs change trees as the model's steps do.
use Rattle.std.proofs.Common.{◌≡◌, refl, sym, ◌∙◌, ap, subst, List, [], ◌∷◌, ◌++◌, map, Bool, true, false, cond, not, ◌||◌}
use Rattle.std.specs.Prelude.{ℕ, nat_lt, find, flat_map, bytes_eq, Option, Some, None}
use Rattle.std.specs.List.{AllByRecursion}
use Rattle.std.proofs.lemmas.List.Elements.{filter-append}
use Rattle.std.specs.List.Sorted.{IsStrictlySortedBy}
use Rattle.std.specs.declared.cmp.Ordering.TheVariants.{Less}
use Rattle.std.proofs.lemmas.Slice.Eq.{bytes_eq-Decides}
use Rattle.row_laws.proofs.Elements.{all_weaken}
use Rattle.row_laws.proofs.KeyRows.{key_alike}
use Rattle.row_model.specs.Rows.{key_cmp}
use Rattle.fleet_model.specs.Nodes.{NodeName, L0, Run, Node, Tree, Segment, name_eq, names_contain, segment_at, tree_at, tree_or_empty}
use Rattle.fleet_model.specs.Trees.{by_first_key, l0_or, on_segment, source_nodes, source_pieces, stepped_tree, stepped_in, to_run, watermark_after, with_run_for, without_nodes}
use Rattle.fleet_model.specs.Trees as model
use Rattle.fleet_tree.specs.Trees.{RunFlushes, flush_node, run_node, tree_of, trees_of, trees_with_prefix}
use Rattle.fleet_tree.specs.Trees as table
use Rattle.fleet_tree.specs.Views.{View}
use Rattle.fleet_tree.specs.declared.run.SortedRun.{SortedRun}
use Rattle.fleet_tree.specs.declared.tree.LsmTreeState.{LsmTreeState}
use Rattle.fleet_book.specs.Finishes.{core_after, finished_tree, id_or, is_named, kept_runs, kept_views, mark_after, put_run, segment_after}
use Rattle.fleet_book.specs.Laws.{AreMoved, DrainsAreTheModels, FlushesFollow, JoinsAreTheModels, MovesAreTheModels, TrivialMovesAreTheModels}
use Rattle.fleet_jobs.specs.Laws.{names_of, view_tables}
use Rattle.fleet_jobs.proofs.ModelMoved.{moved_runs_are_the_models}
use Rattle.fleet_jobs.proofs.ModelTaken.{taken_tables_are_the_models}
use Rattle.fleet_jobs.specs.Sources.{name_of}
use Rattle.fleet_jobs.specs.Specs.{destination_of, segment_of, sources_of}
use Rattle.fleet_jobs.specs.Taken.{taken_tables}
use Rattle.fleet_jobs.specs.declared.source_id.SourceId.{SourceId}
use Rattle.fleet_jobs.specs.declared.spec.CompactionSpec.{CompactionSpec}

pub named_is : (name : NodeName) (sources : List SourceId) → names_contain (map name_of sources) name ≡ is_named sources name
named_is name [] = refl
named_is name (s ∷ sources) = by (name_eq (name_of s) name) (named_is name sources)
  where
    by : (b : Bool) → names_contain (map name_of sources) name ≡ is_named sources name → cond b true (names_contain (map name_of sources) name) ≡ (b || is_named sources name)
    by true rest = refl
    by false rest = rest

module _ (flushes : ℕ → List ℕ) (sources : List SourceId) where
  without_views : (views : List View) → without_nodes (map name_of sources) (map (flush_node flushes) views) ≡ map (flush_node flushes) (kept_views sources views)
  without_views [] = refl
  without_views (v ∷ views) =
      ap (λ b. cond (not b) (flush_node flushes v ∷ without_nodes (map name_of sources) (map (flush_node flushes) views)) (without_nodes (map name_of sources) (map (flush_node flushes) views))) (named_is (L0 v.id) sources)
      ∙ by (is_named sources (L0 v.id)) (without_views views)
    where
      by : (b : Bool) → without_nodes (map name_of sources) (map (flush_node flushes) views) ≡ map (flush_node flushes) (kept_views sources views)
          → cond (not b) (flush_node flushes v ∷ without_nodes (map name_of sources) (map (flush_node flushes) views)) (without_nodes (map name_of sources) (map (flush_node flushes) views)) ≡ map (flush_node flushes) (cond (not b) (v ∷ kept_views sources views) (kept_views sources views))
      by true rest = rest
      by false rest = ap (λ t. flush_node flushes v ∷ t) rest

  without_runs : (runs : List SortedRun) → without_nodes (map name_of sources) (map (run_node flushes) runs) ≡ map (run_node flushes) (kept_runs sources runs)
  without_runs [] = refl
  without_runs (r ∷ runs) =
      ap (λ b. cond (not b) (run_node flushes r ∷ without_nodes (map name_of sources) (map (run_node flushes) runs)) (without_nodes (map name_of sources) (map (run_node flushes) runs))) (named_is (Run r.id) sources)
      ∙ by (is_named sources (Run r.id)) (without_runs runs)
    where
      by : (b : Bool) → without_nodes (map name_of sources) (map (run_node flushes) runs) ≡ map (run_node flushes) (kept_runs sources runs)
          → cond (not b) (run_node flushes r ∷ without_nodes (map name_of sources) (map (run_node flushes) runs)) (without_nodes (map name_of sources) (map (run_node flushes) runs)) ≡ map (run_node flushes) (cond (not b) (r ∷ kept_runs sources runs) (kept_runs sources runs))
      by true rest = rest
      by false rest = ap (λ t. run_node flushes r ∷ t) rest

  pub drained : (t : LsmTreeState) → tree_of flushes (finished_tree sources None t) ≡ without_nodes (map name_of sources) (tree_of flushes t)
  drained t =
      sym (filter-append (λ node. not (names_contain (map name_of sources) node.name)) (map (flush_node flushes) t.l0) (map (run_node flushes) t.compacted)
      ∙ ap (λ vs. vs ++ without_nodes (map name_of sources) (map (run_node flushes) t.compacted)) (without_views t.l0)
      ∙ ap (λ rs. map (flush_node flushes) (kept_views sources t.l0) ++ rs) (without_runs t.compacted))

  no_mark : (mark : Option ℕ) (runs : List SortedRun) → watermark_after (map name_of sources) (map (run_node flushes) runs) mark ≡ mark
  no_mark mark [] = refl
  no_mark mark (r ∷ runs) = by (names_contain (map name_of sources) (Run r.id)) (no_mark mark runs)
    where
      by : (b : Bool) → watermark_after (map name_of sources) (map (run_node flushes) runs) mark ≡ mark → cond b mark (watermark_after (map name_of sources) (map (run_node flushes) runs) mark) ≡ mark
      by true rest = refl
      by false rest = rest

  -- The model's watermark is the newest flush that is a source, or the old watermark if no flush is.
  mark_is : (mark : Option ℕ) (runs : List SortedRun) (views : List View)
      → watermark_after (map name_of sources) (map (flush_node flushes) views ++ map (run_node flushes) runs) mark ≡ id_or mark (find (λ view. is_named sources (L0 view.id)) views)
  mark_is mark runs [] = no_mark mark runs
  mark_is mark runs (v ∷ views) =
      ap (λ b. cond b (Some v.id) (watermark_after (map name_of sources) (map (flush_node flushes) views ++ map (run_node flushes) runs) mark)) (named_is (L0 v.id) sources)
      ∙ by (is_named sources (L0 v.id)) (mark_is mark runs views)
    where
      by : (b : Bool) → watermark_after (map name_of sources) (map (flush_node flushes) views ++ map (run_node flushes) runs) mark ≡ id_or mark (find (λ view. is_named sources (L0 view.id)) views)
          → cond b (Some v.id) (watermark_after (map name_of sources) (map (flush_node flushes) views ++ map (run_node flushes) runs) mark) ≡ id_or mark (cond b (Some v) (find (λ view. is_named sources (L0 view.id)) views))
      by true rest = refl
      by false rest = rest

module _ (before after : ℕ → List ℕ) where
  abbrev IsKept : SortedRun → Type 0
  IsKept run = after run.id ≡ before run.id

  run_same : (r : SortedRun) → IsKept r → run_node before r ≡ run_node after r
  run_same r e = ap (λ fl. let node : Node = record { name = Run r.id; flushes = fl; pieces = map (λ view. view.sst.id) r.views } in node) (sym e)

  runs_same : (rs : List SortedRun) → AllByRecursion IsKept rs → map (run_node before) rs ≡ map (run_node after) rs
  runs_same [] all = refl
  runs_same (r ∷ rs) all = ap (λ n. n ∷ map (run_node before) rs) (run_same r all.0) ∙ ap (λ ns. run_node after r ∷ ns) (runs_same rs all.1)

  put_past : (id : ℕ) (node : Node) (rest : Tree) (vs : List View) → model.put_run id node (map (flush_node before) vs ++ rest) ≡ map (flush_node before) vs ++ model.put_run id node rest
  put_past id node rest [] = refl
  put_past id node rest (v ∷ vs) = ap (λ t. flush_node before v ∷ t) (put_past id node rest vs)

  put_runs : (output : SortedRun) (rs : List SortedRun) → AllByRecursion IsKept rs → model.put_run output.id (run_node after output) (map (run_node before) rs) ≡ map (run_node after) (put_run output rs)
  put_runs output [] all = refl
  put_runs output (r ∷ rs) all = by (nat_lt r.id output.id) (put_runs output rs all.1)
    where
      by : (b : Bool) → model.put_run output.id (run_node after output) (map (run_node before) rs) ≡ map (run_node after) (put_run output rs)
          → cond b (run_node after output ∷ run_node before r ∷ map (run_node before) rs) (run_node before r ∷ model.put_run output.id (run_node after output) (map (run_node before) rs)) ≡ map (run_node after) (cond b (output ∷ r ∷ rs) (r ∷ put_run output rs))
      by true rest = ap (λ ns. run_node after output ∷ ns) (runs_same (r ∷ rs) all)
      by false rest = ap (λ n. n ∷ model.put_run output.id (run_node after output) (map (run_node before) rs)) (run_same r all.0) ∙ ap (λ ns. run_node after r ∷ ns) rest

  pub joined : (sources : List SourceId) (output : SortedRun) (t : LsmTreeState)
      → after output.id ≡ flat_map (λ node. node.flushes) (source_nodes (map name_of sources) (tree_of before t))
      → AllByRecursion IsKept (kept_runs sources t.compacted)
      → tree_of after (finished_tree sources (Some output) t) ≡ with_run_for (map name_of sources) output.id (view_tables output.views) (tree_of before t)
  joined sources output t gathered kept =
      sym (ap (λ fl. model.put_run output.id (record { name = Run output.id; flushes = fl; pieces = view_tables output.views }) (without_nodes (map name_of sources) (tree_of before t))) (sym gathered)
      ∙ ap (λ tr. model.put_run output.id (run_node after output) tr) (sym (drained before sources t))
      ∙ put_past output.id (run_node after output) (map (run_node before) (kept_runs sources t.compacted)) (kept_views sources t.l0)
      ∙ ap (λ rs. map (flush_node before) (kept_views sources t.l0) ++ rs) (put_runs output (kept_runs sources t.compacted) kept))

  pub same : (t : LsmTreeState) → AllByRecursion IsKept t.compacted → tree_of after t ≡ tree_of before t
  same t kept = ap (λ rs. map (flush_node before) t.l0 ++ rs) (sym (runs_same t.compacted kept))

module _ (before after : RunFlushes) where
  -- If a finish changes the tree of its own segment as a change of the model does and leaves other trees,
  -- it changes each segment as the model does.
  pub segment_is : (spec : CompactionSpec) (output : Option SortedRun) (change : Tree → Tree) (p : List ℕ) (t : LsmTreeState)
      → (bytes_eq (segment_of spec) p ≡ true → tree_of (after p) (finished_tree (sources_of spec) output t) ≡ change (tree_of (before p) t))
      → (bytes_eq (segment_of spec) p ≡ false → tree_of (after p) t ≡ tree_of (before p) t)
      → table.segment_of after (segment_after spec output (p, t)) ≡ on_segment (segment_of spec) (names_of spec) change (table.segment_of before (p, t))
  segment_is spec output change p t here there = by (bytes_eq (segment_of spec) p) refl
    where
      made : Tree → Option ℕ → Segment
      made tree mark = record { prefix = p; tree = tree; last_seq = t.last_seq; watermark = mark }

      by : (b : Bool) → bytes_eq (segment_of spec) p ≡ b
          → table.segment_of after (p, cond b (finished_tree (sources_of spec) output t) t)
          ≡ cond b (made (change (tree_of (before p) t)) (watermark_after (names_of spec) (tree_of (before p) t) t.last_compacted_l0_sst_view_id)) (table.segment_of before (p, t))
      by true e =
          ap (λ tree. made tree (mark_after (sources_of spec) t)) (here e)
          ∙ ap (made (change (tree_of (before p) t))) (sym (mark_is (before p) (sources_of spec) t.last_compacted_l0_sst_view_id t.compacted t.l0))
      by false e = ap (λ tree. made tree t.last_compacted_l0_sst_view_id) (there e)

maps : {A B C D : Type 0} (f : B → D) (g : A → B) (h : C → D) (k : A → C) (xs : List A) → AllByRecursion (λ x. f (g x) ≡ h (k x)) xs → map f (map g xs) ≡ map h (map k xs)
maps f g h k [] all = refl
maps f g h k (x ∷ xs) all = ap (λ y. y ∷ map f (map g xs)) all.0 ∙ ap (λ ys. h (k x) ∷ ys) (maps f g h k xs all.1)

all_of : {A : Type 0} {P : A → Type 0} (xs : List A) → ((x : A) → P x) → AllByRecursion P xs
all_of [] each = tt
all_of (x ∷ xs) each = (each x, all_of xs each)

pub drains_are_the_models : DrainsAreTheModels
drains_are_the_models flushes tables outputs job core =
    maps (table.segment_of flushes) (segment_after job.spec None) (on_segment (segment_of job.spec) (names_of job.spec) (without_nodes (names_of job.spec))) (table.segment_of flushes) (trees_with_prefix core)
    (all_of (trees_with_prefix core) (λ s. segment_is flushes flushes job.spec None (without_nodes (names_of job.spec)) s.0 s.1 (λ e. drained (flushes s.0) (sources_of job.spec) s.1) (λ e. refl)))

module _ (before after : RunFlushes) (spec : CompactionSpec) (output : SortedRun) where
  kept_in : (b : Bool) (s : List ℕ × LsmTreeState) → bytes_eq (segment_of spec) s.0 ≡ b → FlushesFollow before after spec output.id s
      → AllByRecursion (λ run. after s.0 run.id ≡ before s.0 run.id) (cond b (finished_tree (sources_of spec) None s.1) s.1).compacted
  kept_in b s e follows = subst (λ c. AllByRecursion (λ run. after s.0 run.id ≡ before s.0 run.id) (cond c (finished_tree (sources_of spec) None s.1) s.1).compacted) e follows.kept

  joined_in : (s : List ℕ × LsmTreeState) → FlushesFollow before after spec output.id s → bytes_eq (segment_of spec) s.0 ≡ true
      → tree_of (after s.0) (finished_tree (sources_of spec) (Some output) s.1) ≡ with_run_for (names_of spec) output.id (view_tables output.views) (tree_of (before s.0) s.1)
  joined_in s follows e = joined (before s.0) (after s.0) (sources_of spec) output s.1 (follows.gathered e) (kept_in true s e follows)

  same_in : (s : List ℕ × LsmTreeState) → FlushesFollow before after spec output.id s → bytes_eq (segment_of spec) s.0 ≡ false → tree_of (after s.0) s.1 ≡ tree_of (before s.0) s.1
  same_in s follows e = same (before s.0) (after s.0) s.1 (kept_in false s e follows)

both : {A : Type 0} (P Q : A → Type 0) (xs : List A) → AllByRecursion P xs → AllByRecursion Q xs → AllByRecursion (λ x. P x × Q x) xs
both P Q [] ps qs = tt
both P Q (x ∷ xs) ps qs = ((ps.0, qs.0), both P Q xs ps.1 qs.1)

-- A finish of a merge changes the trees as the model's join does.
pub joins_are_the_models : JoinsAreTheModels
joins_are_the_models before after tables job output core makes follow =
    let spec = job.spec in
    let names = names_of spec in
    let change : ℕ → Tree → Tree = λ id. with_run_for names id (view_tables output.views) in
    subst (λ d. trees_of after (core_after job (Some output) core) ≡ map (on_segment (segment_of spec) names (to_run change d)) (trees_of before core)) (sym makes)
    (maps (table.segment_of after) (segment_after spec (Some output)) (on_segment (segment_of spec) names (change output.id)) (table.segment_of before) (trees_with_prefix core)
    (all_weaken (FlushesFollow before after spec output.id)
    (λ s. table.segment_of after (segment_after spec (Some output) s) ≡ on_segment (segment_of spec) names (change output.id) (table.segment_of before s))
    (λ s follows. segment_is before after spec (Some output) (change output.id) s.0 s.1 (joined_in before after spec output s follows) (same_in before after spec output s follows))
    (trees_with_prefix core) follow))

-- A finish of moved tables changes the trees as the model's move does.
pub moves_are_the_models : MovesAreTheModels
moves_are_the_models before after tables outputs job output core makes follow moved =
    let spec = job.spec in
    let names = names_of spec in
    let change : Option ℕ → Tree → Tree = λ d tree. to_run (λ id. with_run_for names id (by_first_key tables (source_pieces names tree))) d tree in
    subst (λ d. trees_of after (core_after job (Some output) core) ≡ map (on_segment (segment_of spec) names (change d)) (trees_of before core)) (sym makes)
    (maps (table.segment_of after) (segment_after spec (Some output)) (on_segment (segment_of spec) names (change (Some output.id))) (table.segment_of before) (trees_with_prefix core)
    (all_weaken (λ s. FlushesFollow before after spec output.id s × AreMoved before tables spec output.views s)
    (λ s. table.segment_of after (segment_after spec (Some output) s) ≡ on_segment (segment_of spec) names (change (Some output.id)) (table.segment_of before s))
    (λ s facts. segment_is before after spec (Some output) (change (Some output.id)) s.0 s.1
    (λ e. joined_in before after spec output s facts.0 e ∙ ap (λ pieces. with_run_for names output.id pieces (tree_of (before s.0) s.1)) (facts.1 e))
    (same_in before after spec output s facts.0))
    (trees_with_prefix core) (both (FlushesFollow before after spec output.id) (AreMoved before tables spec output.views) (trees_with_prefix core) follow moved)))

module _ (flushes : RunFlushes) (p : List ℕ) where
  -- The segment has the tree that its prefix finds.
  abbrev IsAt : List (List ℕ × LsmTreeState) → List ℕ × LsmTreeState → Type 0
  IsAt trees s = bytes_eq p s.0 ≡ true → tree_at p (map (table.segment_of flushes) trees) ≡ tree_of (flushes s.0) s.1

  clash : (a b : List ℕ) → bytes_eq p a ≡ true → bytes_eq p b ≡ true → key_cmp a b ≡ Less → ⊥
  clash a b e f low =
      let same = sym ((bytes_eq-Decides p a).0 e) ∙ (bytes_eq-Decides p b).0 f in
      let equal = key_alike a in
      let below : key_cmp a a ≡ Less = subst (λ k. key_cmp a k ≡ Less) (sym same) low in
      cc (equal, below)

  at_later : (s : List ℕ × LsmTreeState) (trees later : List (List ℕ × LsmTreeState)) → AllByRecursion (λ k. key_cmp s.0 k ≡ Less) (map (λ t. t.0) later) → AllByRecursion (IsAt trees) later
      → AllByRecursion (IsAt (s ∷ trees)) later
  at_later s trees [] above all = tt
  at_later s trees (t ∷ later) above all = ((λ e. by e (bytes_eq p s.0) refl), at_later s trees later above.1 all.1)
    where
      by : bytes_eq p t.0 ≡ true → (b : Bool) → bytes_eq p s.0 ≡ b → tree_or_empty (cond b (Some (table.segment_of flushes s)) (segment_at p (map (table.segment_of flushes) trees))) ≡ tree_of (flushes t.0) t.1
      by e true f = absurd (clash s.0 t.0 f e above.0)
      by e false f = all.0 e

  at_each : (trees : List (List ℕ × LsmTreeState)) → IsStrictlySortedBy key_cmp (map (λ s. s.0) trees) → AllByRecursion (IsAt trees) trees
  unfolding IsStrictlySortedBy
  at_each [] sorted = tt
  at_each (s ∷ trees) sorted = (
    (λ e. ap (λ b. tree_or_empty (cond b (Some (table.segment_of flushes s)) (segment_at p (map (table.segment_of flushes) trees)))) e),
    at_later s trees trees sorted.0 (at_each trees sorted.1),
  )

pub trivial_moves_are_the_models : TrivialMovesAreTheModels
trivial_moves_are_the_models before after tables outputs job output core sorted in_order fit moved follow =
    let spec = job.spec in
    let run = moved_runs_are_the_models tables (destination_of spec) (taken_tables spec core) output fit moved in
    let taken = taken_tables_are_the_models before spec core in_order in
    moves_are_the_models before after tables outputs job output core run.0 follow
    (all_weaken (IsAt before (segment_of spec) (trees_with_prefix core)) (AreMoved before tables spec output.views)
    (λ s found e. run.1 ∙ ap (by_first_key tables) (taken ∙ ap (source_pieces (names_of spec)) (found e)))
    (trees_with_prefix core) (at_each before (segment_of spec) (trees_with_prefix core) sorted))
