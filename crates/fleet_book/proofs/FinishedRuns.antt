-- Which runs are in a tree after a job.
use Rattle.std.proofs.Common.{◌≡◌, refl, sym, ◌∙◌, ap, subst, ℕ, ◌<◌, List, [], ◌∷◌, ◌++◌, map, Bool, true, false, not, ◌||◌, ◌&&◌, cond, arith}
use Rattle.std.specs.Prelude.{◌==◌, bytes_eq, find, nat_le, nat_lt, option_map, Option, Some, None}
use Rattle.std.specs.List.{AllByRecursion, list_all}
use Rattle.std.proofs.lemmas.Bool.{eqb-false, eqb-true, eq-eqb, ltb-false, ltb-true}
use Rattle.row_laws.proofs.Elements.{all_weaken}
use Rattle.fleet_model.specs.Jobs.{contains}
use Rattle.fleet_model.specs.Nodes.{NodeName, L0, Run, name_eq}
use Rattle.fleet_model.specs.Sources.{is_lowest_or_above, older_nodes, reaches_oldest, run_ids}
use Rattle.fleet_model.specs.Work.Gates.{is_nonempty}
use Rattle.fleet_tree.specs.Trees.{trees_with_prefix}
use Rattle.fleet_tree.specs.Views.{View}
use Rattle.fleet_tree.specs.declared.manifest.ManifestCore.{ManifestCore}
use Rattle.fleet_tree.specs.declared.run.SortedRun.{SortedRun}
use Rattle.fleet_tree.specs.declared.tree.LsmTreeState.{LsmTreeState}
use Rattle.fleet_jobs.specs.Parts.JobParts.{JobParts}
use Rattle.fleet_jobs.specs.Places.{may_merge, nodes_if_there, nodes_in, stand_among}
use Rattle.fleet_jobs.specs.Sources.{name_of}
use Rattle.fleet_jobs.specs.Specs.{destination_of, segment_of, sources_of}
use Rattle.fleet_jobs.specs.Taken.{run_with, runs_in, tree_in}
use Rattle.fleet_jobs.specs.declared.source_id.SourceId.{SourceId}
use Rattle.fleet_jobs.specs.declared.spec.CompactionSpec.{CompactionSpec}
use Rattle.fleet_book.specs.Finishes.{core_after, finished_tree, is_named, kept_runs, put_run, segment_after}
use Rattle.fleet_book.specs.Laws.{FinishedRunsStay, RunsFall, RunsStay}

both_true : (a b : Bool) → (a && b) ≡ true → (a ≡ true) × (b ≡ true)
both_true true b e = (refl, e)
both_true false b e = absurd (cc e)

-- No run has this id.
abbrev NoneHas : ℕ → List SortedRun → Type 0
NoneHas id runs = AllByRecursion (λ run. (run.id == id) ≡ false) runs

-- ---- the run that is put

abbrev IsBelow : ℕ → SortedRun → Type 0
IsBelow id run = run.id < id

all_put : (id : ℕ) (output : SortedRun) (runs : List SortedRun) → output.id < id → AllByRecursion (IsBelow id) runs → AllByRecursion (IsBelow id) (put_run output runs)
all_put id output [] low all = (low, tt)
all_put id output (run ∷ runs) low all = by (nat_lt run.id output.id) (all_put id output runs low all.1)
  where
    by : (b : Bool) → AllByRecursion (IsBelow id) (put_run output runs) → AllByRecursion (IsBelow id) (cond b (output ∷ run ∷ runs) (run ∷ put_run output runs))
    by true rest = (low, all)
    by false rest = (all.0, rest)

put_falls : (output : SortedRun) (runs : List SortedRun) → RunsFall runs → NoneHas output.id runs → RunsFall (put_run output runs)
put_falls output [] fall none = (tt, tt)
put_falls output (run ∷ runs) fall none = by (nat_lt run.id output.id) refl (put_falls output runs fall.1 none.1)
  where
    by : (b : Bool) → nat_lt run.id output.id ≡ b → RunsFall (put_run output runs) → RunsFall (cond b (output ∷ run ∷ runs) (run ∷ put_run output runs))
    by true e rest = let low = ltb-true run.id output.id e in ((low, all_weaken (IsBelow run.id) (IsBelow output.id) (λ other lower. omega (arith, lower, low)) runs fall.0), fall)
    by false e rest =
        let high = ltb-false run.id output.id e in
        let apart = eqb-false run.id output.id none.0 in
        (all_put run.id output runs (grind (arith, high, apart)) fall.0, rest)

put_found : (output : SortedRun) (runs : List SortedRun) → NoneHas output.id runs → find (λ run. run.id == output.id) (put_run output runs) ≡ Some output
put_found output [] none = ap (λ b. cond b (Some output) None) (eq-eqb output.id output.id refl)
put_found output (run ∷ runs) none = by (nat_lt run.id output.id) (put_found output runs none.1)
  where
    by : (b : Bool) → find (λ other. other.id == output.id) (put_run output runs) ≡ Some output → find (λ other. other.id == output.id) (cond b (output ∷ run ∷ runs) (run ∷ put_run output runs)) ≡ Some output
    by true rest = ap (λ b. cond b (Some output) (find (λ other. other.id == output.id) (run ∷ runs))) (eq-eqb output.id output.id refl)
    by false rest = ap (λ b. cond b (Some run) (find (λ other. other.id == output.id) (put_run output runs))) none.0 ∙ rest

put_leaves : (output : SortedRun) (runs : List SortedRun) (id : ℕ) → (output.id == id) ≡ false → find (λ run. run.id == id) (put_run output runs) ≡ find (λ run. run.id == id) runs
put_leaves output [] id other = ap (λ b. cond b (Some output) None) other
put_leaves output (run ∷ runs) id other = by (nat_lt run.id output.id) (put_leaves output runs id other)
  where
    by : (b : Bool) → find (λ r. r.id == id) (put_run output runs) ≡ find (λ r. r.id == id) runs → find (λ r. r.id == id) (cond b (output ∷ run ∷ runs) (run ∷ put_run output runs)) ≡ find (λ r. r.id == id) (run ∷ runs)
    by true rest = ap (λ b. cond b (Some output) (find (λ r. r.id == id) (run ∷ runs))) other
    by false rest = ap (λ o. cond (run.id == id) (Some run) o) rest

-- ---- the runs that are kept

module _ (sources : List SourceId) where
  kept_below : (id : ℕ) (runs : List SortedRun) → AllByRecursion (IsBelow id) runs → AllByRecursion (IsBelow id) (kept_runs sources runs)
  kept_below id [] all = tt
  kept_below id (run ∷ runs) all = by (is_named sources (Run run.id)) (kept_below id runs all.1)
    where
      by : (b : Bool) → AllByRecursion (IsBelow id) (kept_runs sources runs) → AllByRecursion (IsBelow id) (cond (not b) (run ∷ kept_runs sources runs) (kept_runs sources runs))
      by true rest = rest
      by false rest = (all.0, rest)

  kept_fall : (runs : List SortedRun) → RunsFall runs → RunsFall (kept_runs sources runs)
  kept_fall [] fall = tt
  kept_fall (run ∷ runs) fall = by (is_named sources (Run run.id)) (kept_below run.id runs fall.0) (kept_fall runs fall.1)
    where
      by : (b : Bool) → AllByRecursion (IsBelow run.id) (kept_runs sources runs) → RunsFall (kept_runs sources runs) → RunsFall (cond (not b) (run ∷ kept_runs sources runs) (kept_runs sources runs))
      by true all rest = rest
      by false all rest = (all, rest)

  -- A source is not kept.
  source_goes : (id : ℕ) → is_named sources (Run id) ≡ true → (runs : List SortedRun) → NoneHas id (kept_runs sources runs)
  source_goes id source [] = tt
  source_goes id source (run ∷ runs) = by (is_named sources (Run run.id)) refl (source_goes id source runs)
    where
      other : is_named sources (Run run.id) ≡ false → (b : Bool) → (run.id == id) ≡ b → b ≡ false
      other e true f = sym (ap (λ n. is_named sources (Run n)) (eqb-true run.id id f) ∙ source) ∙ e
      other e false f = refl

      by : (b : Bool) → is_named sources (Run run.id) ≡ b → NoneHas id (kept_runs sources runs) → NoneHas id (cond (not b) (run ∷ kept_runs sources runs) (kept_runs sources runs))
      by true e rest = rest
      by false e rest = (other e (run.id == id) refl, rest)

  -- A run with an id above all runs is not kept.
  above_goes : (id : ℕ) (views : List View) (runs : List SortedRun) → list_all (λ other. nat_lt other id) (run_ids (map (λ view. L0 view.id) views ++ map (λ run. Run run.id) runs)) ≡ true → NoneHas id (kept_runs sources runs)
  above_goes id (view ∷ views) runs above = above_goes id views runs above
  above_goes id [] [] above = tt
  above_goes id [] (run ∷ runs) above = by (is_named sources (Run run.id)) (above_goes id [] runs parts.1)
    where
      parts : (nat_lt run.id id ≡ true) × (list_all (λ other. nat_lt other id) (run_ids (map (λ (r : SortedRun). Run r.id) runs)) ≡ true)
      parts = both_true (nat_lt run.id id) _ above

      other : (b : Bool) → (run.id == id) ≡ b → b ≡ false
      other true f = let low = ltb-true run.id id parts.0 in let same = eqb-true run.id id f in absurd (omega (arith, low, same))
      other false f = refl

      by : (b : Bool) → NoneHas id (kept_runs sources runs) → NoneHas id (cond (not b) (run ∷ kept_runs sources runs) (kept_runs sources runs))
      by true rest = rest
      by false rest = (other (run.id == id) refl, rest)

-- A run whose id is among the names of the sources is a source.
pub named_run : (id : ℕ) (sources : List SourceId) → contains (run_ids (map name_of sources)) id ≡ true → is_named sources (Run id) ≡ true
named_run id [] there = there
named_run id (source ∷ sources) there = by (name_of source) there (named_run id sources)
  where
    either : (b : Bool) → cond b true (contains (run_ids (map name_of sources)) id) ≡ true → (contains (run_ids (map name_of sources)) id ≡ true → is_named sources (Run id) ≡ true) → (b || is_named sources (Run id)) ≡ true
    either true e rest = refl
    either false e rest = rest e

    by : (name : NodeName) → contains (run_ids (name ∷ map name_of sources)) id ≡ true → (contains (run_ids (map name_of sources)) id ≡ true → is_named sources (Run id) ≡ true) → (name_eq name (Run id) || is_named sources (Run id)) ≡ true
    by (L0 n) e rest = rest e
    by (Run n) e rest = either (n == id) e rest

-- No run that is kept has the id of the run that is made.
none_has : (sources : List SourceId) (id : ℕ) (tree : LsmTreeState) → is_lowest_or_above id (run_ids (map name_of sources)) (run_ids (nodes_in tree)) ≡ true → NoneHas id (kept_runs sources tree.compacted)
none_has sources id tree fits = by (run_ids (map name_of sources)) refl fits
  where
    by : (ids : List ℕ) → run_ids (map name_of sources) ≡ ids → is_lowest_or_above id ids (run_ids (nodes_in tree)) ≡ true → NoneHas id (kept_runs sources tree.compacted)
    by [] e above = above_goes sources id tree.l0 tree.compacted above
    by (one ∷ ids) e lowest =
        let there = both_true (contains (one ∷ ids) id) (list_all (λ run. nat_le id run) (one ∷ ids)) lowest in
        source_goes sources id (named_run id sources (ap (λ l. contains l id) e ∙ there.0)) tree.compacted

-- If the sources may be merged into a run, the runs fall after the merge, that run is among them, and
-- each run that is no source is as it was.
runs_stay : (sources : List SourceId) (output : SortedRun) (tree : LsmTreeState) → may_merge (nodes_in tree) (map name_of sources) output.id ≡ true → RunsFall tree.compacted
    → RunsStay sources output tree.compacted (put_run output (kept_runs sources tree.compacted))
runs_stay sources output tree may fall =
    let names = map name_of sources in
    let fits = both_true (is_nonempty names && reaches_oldest names (older_nodes names (nodes_in tree))) (is_lowest_or_above output.id (run_ids names) (run_ids (nodes_in tree))) may in
    let none = none_has sources output.id tree fits.1 in
    record {
      fall = put_falls output (kept_runs sources tree.compacted) (kept_fall sources tree.compacted fall) none;
      made = put_found output (kept_runs sources tree.compacted) none;
      others = λ id other. put_leaves output (kept_runs sources tree.compacted) id other;
    }

-- ---- the tree of the job's segment

-- After a finish, the tree of the job's segment is its finished tree.
tree_after_is : (spec : CompactionSpec) (output : SortedRun) (trees : List (List ℕ × LsmTreeState))
    → option_map (λ s. s.1) (find (λ s. bytes_eq (segment_of spec) s.0) (map (segment_after spec (Some output)) trees))
    ≡ option_map (finished_tree (sources_of spec) (Some output)) (option_map (λ s. s.1) (find (λ s. bytes_eq (segment_of spec) s.0) trees))
tree_after_is spec output [] = refl
tree_after_is spec output (s ∷ trees) = by (bytes_eq (segment_of spec) s.0) (tree_after_is spec output trees)
  where
    by : (b : Bool)
        → option_map (λ t. t.1) (find (λ t. bytes_eq (segment_of spec) t.0) (map (segment_after spec (Some output)) trees))
        ≡ option_map (finished_tree (sources_of spec) (Some output)) (option_map (λ t. t.1) (find (λ t. bytes_eq (segment_of spec) t.0) trees))
        → option_map (λ t. t.1) (cond b (Some (s.0, cond b (finished_tree (sources_of spec) (Some output) s.1) s.1)) (find (λ t. bytes_eq (segment_of spec) t.0) (map (segment_after spec (Some output)) trees)))
        ≡ option_map (finished_tree (sources_of spec) (Some output)) (option_map (λ t. t.1) (cond b (Some s) (find (λ t. bytes_eq (segment_of spec) t.0) trees)))
    by true rest = refl
    by false rest = rest

-- Without a tree no source stands.
no_tree : (sources : List SourceId) (run : ℕ) → may_merge [] (map name_of sources) run ≡ true → ⊥
no_tree [] run e = cc e
no_tree (source ∷ sources) run e = cc e

-- If the runs fall and the sources stand, the runs fall after the job too, and no run is lost.
pub finished_runs_stay : FinishedRunsStay
finished_runs_stay job output core makes stand fall =
    let sources = sources_of job.spec in
    let tree = tree_in (segment_of job.spec) core in
    let stands = subst (λ d. stand_among (nodes_if_there tree) (map name_of sources) d ≡ true) makes stand in
    subst (λ o. RunsStay sources output (runs_in tree) (runs_in o)) (sym (tree_after_is job.spec output (trees_with_prefix core))) (by tree stands fall)
  where
    by : (tree : Option LsmTreeState) → may_merge (nodes_if_there tree) (map name_of (sources_of job.spec)) output.id ≡ true → RunsFall (runs_in tree)
        → RunsStay (sources_of job.spec) output (runs_in tree) (runs_in (option_map (finished_tree (sources_of job.spec) (Some output)) tree))
    by None stands falls = absurd (no_tree (sources_of job.spec) output.id stands)
    by (Some tree) stands falls = runs_stay (sources_of job.spec) output tree stands falls
