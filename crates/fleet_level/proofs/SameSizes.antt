-- More handles than those of the trees change no pick.
use Rattle.std.proofs.Common.{◌≡◌, refl, sym, ◌∙◌, ap, subst, ℕ, List, [], ◌∷◌, ◌++◌, ◌+◌, map, Bool, true, false, cond, not, eq-eqb}
use Rattle.std.specs.Prelude.{◌==◌, ◌&&◌, ◌||◌, find, is_some, length, nat_le, nat_lt, sum_by, Option, Some, None}
use Rattle.std.specs.List.{AllByRecursion, list_any}
use Rattle.std.specs.Option.{option_or}
use Rattle.std.proofs.lemmas.List.{map-append}
use Rattle.std.proofs.lemmas.List.Folds.{find-append}
use Rattle.std.proofs.lemmas.List.Sums.{sum_by-cons}
use Rattle.row_model.specs.Written.Sizes.{saturated_sum}
use Rattle.fleet_model.specs.Handles.{Handle}
use Rattle.fleet_model.specs.Nodes.{Segment, Tree, flushes_of, names, names_contain, runs_of}
use Rattle.sched_model.specs.Levels.{LevelOptions, LevelPicking, limit, node_size, pick_flushes, pick_flushes_into, pick_into_run, pick_pair, pick_runs, pick_trees, run_id, size_of_table, size_or_none, with_fresh_pick, with_level_pick}
use Rattle.fleet_tree.specs.Handles.{handle_of}
use Rattle.fleet_tree.specs.Trees.{RunFlushes, run_node, segment_of}
use Rattle.fleet_tree.specs.Views.{View}
use Rattle.fleet_tree.specs.declared.handle.SsTableHandle.{SsTableHandle}
use Rattle.fleet_tree.specs.declared.run.SortedRun.{SortedRun}
use Rattle.fleet_tree.specs.declared.tree.LsmTreeState.{LsmTreeState}
use Rattle.fleet_sched.specs.Views.{tree_handles}
use Rattle.fleet_level.specs.Sizes.{tables_of_runs, tables_of_trees}
use Rattle.fleet_level.proofs.TreeParts.{runs_are}

-- These runs have the same sizes by both lists of handles.
abbrev SameSizes : List Handle → List Handle → Tree → Type 0
SameSizes handles others runs = AllByRecursion (λ run. node_size handles run ≡ node_size others run) runs

module _ (o : LevelOptions) (handles others : List Handle) where
  runs_alike : (segment : List ℕ) (place : ℕ) (runs : Tree) → SameSizes handles others runs → (p : LevelPicking) → pick_runs o handles segment place runs p ≡ pick_runs o others segment place runs p
  runs_alike segment place [] same p = refl
  runs_alike segment place (run ∷ []) same p = refl
  runs_alike segment place (run ∷ next ∷ runs) same p =
      ap (λ size. pick_runs o handles segment (place + 1) (next ∷ runs)
      (cond (nat_lt (limit o place) size && not (names_contain p.used run.name || names_contain p.used next.name))
      (with_level_pick (record { segment = segment; sources = run.name ∷ next.name ∷ []; destination = run_id next.name }) p) p)) same.0
      ∙ runs_alike segment (place + 1) (next ∷ runs) same.1 (pick_pair o others segment place run next p)

  flushes_alike : (s : Segment) (runs : Tree) → runs_of s.tree ≡ runs → SameSizes handles others runs → (p : LevelPicking) → pick_flushes o handles s p ≡ pick_flushes o others s p
  flushes_alike s runs is same p =
      let flushes = names (flushes_of s.tree) in
      ap (λ q. cond (nat_le o.l0_trigger (length flushes) && not (list_any (names_contain p.used) flushes)) q p)
      (ap (λ rs. pick_flushes_into o handles s.prefix flushes rs p) is ∙ by runs same ∙ sym (ap (λ rs. pick_flushes_into o others s.prefix flushes rs p) is))
    where
      by : (runs : Tree) → SameSizes handles others runs → pick_flushes_into o handles s.prefix (names (flushes_of s.tree)) runs p ≡ pick_flushes_into o others s.prefix (names (flushes_of s.tree)) runs p
      by [] same = refl
      by (run ∷ runs) same =
          ap (λ size. cond (nat_le size o.base) (pick_into_run s.prefix (names (flushes_of s.tree)) run.name p) (with_fresh_pick s.prefix (names (flushes_of s.tree)) p)) same.0

  segment_alike : (s : Segment) (runs : Tree) → runs_of s.tree ≡ runs → SameSizes handles others runs → (p : LevelPicking)
      → pick_runs o handles s.prefix 0 (runs_of s.tree) (pick_flushes o handles s p) ≡ pick_runs o others s.prefix 0 (runs_of s.tree) (pick_flushes o others s p)
  segment_alike s runs is same p =
      ap (pick_runs o handles s.prefix 0 (runs_of s.tree)) (flushes_alike s runs is same p)
      ∙ runs_alike s.prefix 0 (runs_of s.tree) (subst (SameSizes handles others) (sym is) same) (pick_flushes o others s p)

-- One of these handles has this id.
abbrev Has : List Handle → ℕ → Type 0
Has handles id = is_some (find (λ (h : Handle). h.id == id) handles) ≡ true

front_has : (xs ys : List Handle) (id : ℕ) → Has xs id → Has (xs ++ ys) id
front_has xs ys id has = ap is_some (find-append (λ (h : Handle). h.id == id) xs ys) ∙ by (find (λ (h : Handle). h.id == id) xs) has
  where
    by : (found : Option Handle) → is_some found ≡ true → is_some (option_or found (find (λ (h : Handle). h.id == id) ys)) ≡ true
    by (Some h) has = refl
    by None has = absurd (cc has)

back_has : (xs ys : List Handle) (id : ℕ) → Has ys id → Has (xs ++ ys) id
back_has xs ys id has = ap is_some (find-append (λ (h : Handle). h.id == id) xs ys) ∙ by (find (λ (h : Handle). h.id == id) xs)
  where
    by : (found : Option Handle) → is_some (option_or found (find (λ (h : Handle). h.id == id) ys)) ≡ true
    by (Some h) = refl
    by None = has

first_has : (h : Handle) (handles : List Handle) → Has (h ∷ handles) h.id
first_has h handles = by (h.id == h.id) (eq-eqb h.id h.id refl)
  where
    by : (b : Bool) → b ≡ true → is_some (cond b (Some h) (find (λ (x : Handle). x.id == h.id) handles)) ≡ true
    by true e = refl
    by false e = absurd (cc e)

-- A table among the first handles has the same size with more handles.
size_alike : (all more : List Handle) (id : ℕ) → Has all id → size_of_table (all ++ more) id ≡ size_of_table all id
size_alike all more id has = ap size_or_none (find-append (λ (h : Handle). h.id == id) all more ∙ by (find (λ (h : Handle). h.id == id) all) has)
  where
    by : (found : Option Handle) → is_some found ≡ true → option_or found (find (λ (h : Handle). h.id == id) more) ≡ found
    by (Some h) has = refl
    by None has = absurd (cc has)

-- The handles have each table that these tables have.
abbrev Within : List SsTableHandle → List Handle → Type 0
Within tables all = (id : ℕ) → Has (map handle_of tables) id → Has all id

module _ (all more : List Handle) where
  -- More handles change no sum of sizes of views whose tables are among the first ones.
  sums_alike : (views : List View) → Within (map (λ view. view.sst) views) all
      → sum_by (size_of_table (all ++ more)) (map (λ view. view.sst.id) views) ≡ sum_by (size_of_table all) (map (λ view. view.sst.id) views)
  sums_alike [] within = refl
  sums_alike (view ∷ views) within =
      let rest = map (λ (v : View). v.sst) views in
      let one = size_alike all more view.sst.id (within view.sst.id (first_has (handle_of view.sst) (map handle_of rest))) in
      let others = sums_alike views (λ id has. within id (back_has (handle_of view.sst ∷ []) (map handle_of rest) id has)) in
      sum_by-cons (size_of_table (all ++ more)) view.sst.id (map (λ (v : View). v.sst.id) views)
      ∙ ap (λ n. n + sum_by (size_of_table (all ++ more)) (map (λ (v : View). v.sst.id) views)) one
      ∙ ap (λ n. size_of_table all view.sst.id + n) others
      ∙ sym (sum_by-cons (size_of_table all) view.sst.id (map (λ (v : View). v.sst.id) views))

  -- The tables of a part are within those of the whole.
  front_within : (xs ys : List SsTableHandle) → Within (xs ++ ys) all → Within xs all
  front_within xs ys within id has = within id (subst (λ l. Has l id) (sym (map-append handle_of xs ys)) (front_has (map handle_of xs) (map handle_of ys) id has))

  back_within : (xs ys : List SsTableHandle) → Within (xs ++ ys) all → Within ys all
  back_within xs ys within id has = within id (subst (λ l. Has l id) (sym (map-append handle_of xs ys)) (back_has (map handle_of xs) (map handle_of ys) id has))

  runs_sized : (flushes : ℕ → List ℕ) (runs : List SortedRun) → Within (tables_of_runs runs) all → SameSizes (all ++ more) all (map (run_node flushes) runs)
  runs_sized flushes [] within = tt
  runs_sized flushes (run ∷ runs) within =
      let own = map (λ (view : View). view.sst) run.views in
      (ap saturated_sum (sums_alike run.views (front_within own (tables_of_runs runs) within)), runs_sized flushes runs (back_within own (tables_of_runs runs) within))

  pub trees_alike : (o : LevelOptions) (flushes : RunFlushes) (trees : List (List ℕ × LsmTreeState)) → Within (tables_of_trees trees) all → (p : LevelPicking)
      → pick_trees o (all ++ more) (map (segment_of flushes) trees) p ≡ pick_trees o all (map (segment_of flushes) trees) p
  trees_alike o flushes [] within p = refl
  trees_alike o flushes (s ∷ trees) within p =
      let own = front_within (tree_handles s.1) (tables_of_trees trees) within in
      let runs = back_within (map (λ (view : View). view.sst) s.1.l0) (tables_of_runs s.1.compacted) own in
      let seen = segment_of flushes s in
      ap (pick_trees o (all ++ more) (map (segment_of flushes) trees))
      (segment_alike o (all ++ more) all seen (map (run_node (flushes s.0)) s.1.compacted) (runs_are (flushes s.0) s.1) (runs_sized (flushes s.0) s.1.compacted runs) p)
      ∙ trees_alike o flushes trees (back_within (tree_handles s.1) (tables_of_trees trees) within) (pick_runs o all seen.prefix 0 (runs_of seen.tree) (pick_flushes o all seen p))
