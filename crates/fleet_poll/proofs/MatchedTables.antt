-- The tables that trees and jobs name, after a job is finished or fails.
use Rattle.std.proofs.Common.{◌≡◌, refl, subst, ℕ, List, [], ◌∷◌, ◌++◌, map, Bool, true, false, not, cond}
use Rattle.std.specs.Prelude.{◌==◌, bytes_eq, flat_map, nat_lt, Option, Some, None}
use Rattle.std.specs.List.{AllByRecursion}
use Rattle.fleet_model.specs.Jobs.{contains}
use Rattle.fleet_model.specs.Nodes.{L0, Run, Tables}
use Rattle.fleet_tree.specs.Views.{View}
use Rattle.fleet_tree.specs.declared.handle.SsTableHandle.{SsTableHandle}
use Rattle.fleet_tree.specs.declared.manifest.ManifestCore.{ManifestCore}
use Rattle.fleet_tree.specs.declared.run.SortedRun.{SortedRun}
use Rattle.fleet_tree.specs.declared.tree.LsmTreeState.{LsmTreeState}
use Rattle.fleet_jobs.specs.Contexts.{ranges_in}
use Rattle.fleet_jobs.specs.Jobs.{job_handles}
use Rattle.fleet_jobs.specs.Parts.JobParts.{JobParts}
use Rattle.fleet_jobs.specs.Specs.{destination_of, segment_of, sources_of}
use Rattle.fleet_jobs.specs.declared.source_id.SourceId.{SourceId}
use Rattle.fleet_jobs.specs.declared.spec.CompactionSpec.{CompactionSpec}
use Rattle.fleet_book.specs.Finishes.{core_after, finished_tree, is_named, kept_runs, kept_views, put_run, segment_after, tree_after, with_output}
use Rattle.fleet_book.specs.Records.{put_record, record_with}
use Rattle.fleet_poll.specs.Made.{joined_run, own_views, run_of_tables, written_tables}
use Rattle.fleet_poll.specs.Polls.{changed_record}
use Rattle.fleet_poll.specs.Seen.{MatchTables, MatchesTable, TreesMatch, ViewMatches, ViewsMatch, views_of}

pub all_both : {A : Type 0} (P : A → Type 0) (xs ys : List A) → AllByRecursion P xs → AllByRecursion P ys → AllByRecursion P (xs ++ ys)
all_both P [] ys one two = two
all_both P (x ∷ xs) ys one two = (one.0, all_both P xs ys one.1 two)

pub all_front : {A : Type 0} (P : A → Type 0) (xs ys : List A) → AllByRecursion P (xs ++ ys) → AllByRecursion P xs
all_front P [] ys all = tt
all_front P (x ∷ xs) ys all = (all.0, all_front P xs ys all.1)

pub all_back : {A : Type 0} (P : A → Type 0) (xs ys : List A) → AllByRecursion P (xs ++ ys) → AllByRecursion P ys
all_back P [] ys all = all
all_back P (x ∷ xs) ys all = all_back P xs ys all.1

-- The tables of a run, if there is one.
abbrev pub output_views : Option SortedRun → List View
output_views None = []
output_views (Some run) = run.views

-- ---- trees

module _ (tables : Tables) (sources : List SourceId) where
  views_kept : (views : List View) → ViewsMatch tables views → ViewsMatch tables (kept_views sources views)
  views_kept [] matched = tt
  views_kept (view ∷ views) matched = by (is_named sources (L0 view.id)) (views_kept views matched.1)
    where
      by : (b : Bool) → ViewsMatch tables (kept_views sources views) → ViewsMatch tables (cond (not b) (view ∷ kept_views sources views) (kept_views sources views))
      by true rest = rest
      by false rest = (matched.0, rest)

  runs_kept : (runs : List SortedRun) → ViewsMatch tables (flat_map (λ run. run.views) runs) → ViewsMatch tables (flat_map (λ run. run.views) (kept_runs sources runs))
  runs_kept [] matched = tt
  runs_kept (run ∷ runs) matched = by (is_named sources (Run run.id)) (runs_kept runs (all_back (ViewMatches tables) run.views (flat_map (λ r. r.views) runs) matched))
    where
      by : (b : Bool) → ViewsMatch tables (flat_map (λ r. r.views) (kept_runs sources runs)) → ViewsMatch tables (flat_map (λ r. r.views) (cond (not b) (run ∷ kept_runs sources runs) (kept_runs sources runs)))
      by true rest = rest
      by false rest = all_both (ViewMatches tables) run.views (flat_map (λ r. r.views) (kept_runs sources runs)) (all_front (ViewMatches tables) run.views (flat_map (λ r. r.views) runs) matched) rest

  put_matched : (run : SortedRun) (runs : List SortedRun) → ViewsMatch tables run.views → ViewsMatch tables (flat_map (λ r. r.views) runs) → ViewsMatch tables (flat_map (λ r. r.views) (put_run run runs))
  put_matched run [] one matched = all_both (ViewMatches tables) run.views [] one tt
  put_matched run (other ∷ others) one matched = by (nat_lt other.id run.id) (put_matched run others one (all_back (ViewMatches tables) other.views (flat_map (λ r. r.views) others) matched))
    where
      by : (b : Bool) → ViewsMatch tables (flat_map (λ r. r.views) (put_run run others)) → ViewsMatch tables (flat_map (λ r. r.views) (cond b (run ∷ other ∷ others) (other ∷ put_run run others)))
      by true rest = all_both (ViewMatches tables) run.views (flat_map (λ r. r.views) (other ∷ others)) one matched
      by false rest = all_both (ViewMatches tables) other.views (flat_map (λ r. r.views) (put_run run others)) (all_front (ViewMatches tables) other.views (flat_map (λ r. r.views) others) matched) rest

  output_matched : (output : Option SortedRun) (runs : List SortedRun) → ViewsMatch tables (output_views output) → ViewsMatch tables (flat_map (λ r. r.views) runs) → ViewsMatch tables (flat_map (λ r. r.views) (with_output output runs))
  output_matched None runs one matched = matched
  output_matched (Some run) runs one matched = put_matched run runs one matched

  finished_tree_matched : (output : Option SortedRun) (tree : LsmTreeState) → ViewsMatch tables (output_views output) → ViewsMatch tables (views_of tree) → ViewsMatch tables (views_of (finished_tree sources output tree))
  finished_tree_matched output tree one matched =
      let runs = flat_map (λ (r : SortedRun). r.views) tree.compacted in
      all_both (ViewMatches tables) (kept_views sources tree.l0) (flat_map (λ r. r.views) (with_output output (kept_runs sources tree.compacted)))
      (views_kept tree.l0 (all_front (ViewMatches tables) tree.l0 runs matched))
      (output_matched output (kept_runs sources tree.compacted) one (runs_kept tree.compacted (all_back (ViewMatches tables) tree.l0 runs matched)))

module _ (tables : Tables) (spec : CompactionSpec) (output : Option SortedRun) (one : ViewsMatch tables (output_views output)) where
  tree_matched : (prefix : List ℕ) (tree : LsmTreeState) → ViewsMatch tables (views_of tree) → ViewsMatch tables (views_of (tree_after spec output prefix tree))
  tree_matched prefix tree matched = by (bytes_eq (segment_of spec) prefix)
    where
      by : (b : Bool) → ViewsMatch tables (views_of (cond b (finished_tree (sources_of spec) output tree) tree))
      by true = finished_tree_matched tables (sources_of spec) output tree one matched
      by false = matched

  segments_matched : (segments : List (List ℕ × LsmTreeState)) → AllByRecursion (λ s. ViewsMatch tables (views_of s.1)) segments → AllByRecursion (λ s. ViewsMatch tables (views_of s.1)) (map (segment_after spec output) segments)
  segments_matched [] matched = tt
  segments_matched (s ∷ segments) matched = (tree_matched s.0 s.1 matched.0, segments_matched segments matched.1)

-- If the tables of the trees match the tables that were put, and those of the run that is made do, so do those of the trees
-- after it.
pub finished_trees_matched : (tables : Tables) (job : JobParts) (output : Option SortedRun) (core : ManifestCore) → ViewsMatch tables (output_views output) → TreesMatch tables core → TreesMatch tables (core_after job output core)
finished_trees_matched tables job output core one matched = (tree_matched tables job.spec output one [] core.tree matched.0, segments_matched tables job.spec output one core.segments matched.1)

-- ---- jobs

-- A run names its own tables by their own ids.
own_matched : (tables : Tables) (handles : List SsTableHandle) → MatchTables tables handles → ViewsMatch tables (own_views handles)
own_matched tables [] matched = tt
own_matched tables (handle ∷ handles) matched = (record { identity = refl; handle = matched.0 }, own_matched tables handles matched.1)

-- The tables that a job's worker wrote are among those that its record names.
pub written_matched : (tables : Tables) (job : JobParts) → MatchTables tables (job_handles job) → MatchTables tables (written_tables job)
written_matched tables job matched = all_back (MatchesTable tables) (flat_map (λ range. range.output_ssts) (ranges_in job.ctx)) (written_tables job) matched

pub joined_matched : (tables : Tables) (job : JobParts) → MatchTables tables (job_handles job) → ViewsMatch tables (output_views (joined_run job))
joined_matched tables job matched = by (destination_of job.spec)
  where
    by : (destination : Option ℕ) → ViewsMatch tables (output_views (run_of_tables destination (written_tables job)))
    by None = tt
    by (Some id) = own_matched tables (written_tables job) (written_matched tables job matched)

-- What holds of all jobs holds of the one that is found.
pub found_holds : (P : JobParts → Type 0) (id : ℕ) (jobs : List JobParts) (job : JobParts) → record_with id jobs ≡ Some job → AllByRecursion P jobs → P job
found_holds P id [] job found all = absurd (cc found)
found_holds P id (first ∷ jobs) job found all = by (first.id == id) found (λ later. found_holds P id jobs job later all.1)
  where
    by : (b : Bool) → cond b (Some first) (record_with id jobs) ≡ Some job → (record_with id jobs ≡ Some job → P job) → P job
    by true h rest = let same : first ≡ job = cc h in subst P same all.0
    by false h rest = rest h

pub put_holds : (P : JobParts → Type 0) (new : JobParts) (jobs : List JobParts) → P new → AllByRecursion P jobs → AllByRecursion P (put_record new jobs)
put_holds P new [] one all = (one, tt)
put_holds P new (job ∷ jobs) one all = by (nat_lt job.id new.id) (put_holds P new jobs one all.1)
  where
    replaced : (b : Bool) → AllByRecursion P (cond b (new ∷ jobs) (new ∷ job ∷ jobs))
    replaced true = (one, all.1)
    replaced false = (one, all)

    by : (b : Bool) → AllByRecursion P (put_record new jobs) → AllByRecursion P (cond b (job ∷ put_record new jobs) (cond (job.id == new.id) (new ∷ jobs) (new ∷ job ∷ jobs)))
    by true rest = (all.0, rest)
    by false rest = replaced (job.id == new.id)

pub changed_hold : (P : JobParts → Type 0) (change : JobParts → JobParts) (these : List ℕ) (jobs : List JobParts) → ((job : JobParts) → P job → P (change job)) → AllByRecursion P jobs → AllByRecursion P (map (changed_record change these) jobs)
changed_hold P change these [] keeps all = tt
changed_hold P change these (job ∷ jobs) keeps all = (by (contains these job.id), changed_hold P change these jobs keeps all.1)
  where
    by : (b : Bool) → P (cond b (change job) job)
    by true = keeps job all.0
    by false = all.0
