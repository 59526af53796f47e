-- What the model's scheduler is shown is what a program shows.
use Rattle.std.proofs.Common.{◌≡◌, refl, sym, ◌∙◌, ap, ℕ, List, [], ◌∷◌, ◌++◌, map, Bool, true, false, not, cond, Option, Some, None}
use Rattle.std.specs.Prelude.{filter, flat_map, option_map}
use Rattle.std.specs.List.{AllByRecursion}
use Rattle.std.proofs.lemmas.List.{map-append}
use Rattle.fleet_model.specs.Handles.{Handle, context_tables, handles_of, job_tables, named_tables, tree_tables}
use Rattle.fleet_model.specs.Jobs.{Jobs, JobSpec, is_active, is_finished}
use Rattle.fleet_model.specs.Nodes.{Tables}
use Rattle.fleet_model.specs.Store.{Manifest}
use Rattle.fleet_model.specs.Work.PollStates.{PollInput, accepts, view_of as model_view}
use Rattle.fleet_model.specs.Work.Scheduler.{Scheduler, View}
use Rattle.fleet_tree.specs.Handles.{handle_of}
use Rattle.fleet_tree.specs.Manifests.{manifest_of}
use Rattle.fleet_tree.specs.Trees.{RunFlushes, flush_node, run_node, segment_of, trees_of, trees_with_prefix}
use Rattle.fleet_tree.specs.Views as own
use Rattle.fleet_tree.specs.declared.handle.SsTableHandle.{SsTableHandle}
use Rattle.fleet_tree.specs.declared.run.SortedRun.{SortedRun}
use Rattle.fleet_tree.specs.declared.tree.LsmTreeState.{LsmTreeState}
use Rattle.fleet_jobs.specs.Parts.ContextParts.{ContextParts}
use Rattle.fleet_jobs.specs.Contexts.{context_of, noted_range, ranges_in, table_ids}
use Rattle.fleet_jobs.specs.Parts.JobParts.{JobParts}
use Rattle.fleet_jobs.specs.Jobs.{is_open, job_handles, job_of, jobs_of}
use Rattle.fleet_jobs.specs.Status.{status_of}
use Rattle.fleet_book.specs.States.{own_jobs}
use Rattle.fleet_book.proofs.Shown.{open_again}
use Rattle.fleet_sched.specs.Views.{handles_in, tree_handles, view_of}
use Rattle.fleet_gates.specs.Shown.{accepted_on}
use Rattle.fleet_poll.specs.Made.{own_core}
use Rattle.fleet_poll.specs.Polls.{poll_of}
use Rattle.fleet_poll.specs.Seen.{JobsMatch, MatchTables, MatchesTable, Sees, ViewMatches, ViewsMatch, views_of}
use Rattle.fleet_poll.specs.Shown.{open_view}
use Rattle.fleet_poll.specs.declared.poll.Poll.{Poll}
use Rattle.fleet_poll.proofs.Joined.{written_ids}
use Rattle.fleet_poll.proofs.MatchedTables.{all_back, all_both, all_front}

-- The handles of the tables of a run.
abbrev run_handles : SortedRun → List SsTableHandle
run_handles run = map (λ view. view.sst) run.views

-- ---- ids of tables

ids_both : (xs ys : List SsTableHandle) → table_ids (xs ++ ys) ≡ table_ids xs ++ table_ids ys
ids_both xs ys = map-append (λ (handle : SsTableHandle). handle.id) xs ys

view_ids : (views : List own.View) → table_ids (map (λ view. view.sst) views) ≡ map (λ view. view.sst.id) views
view_ids [] = refl
view_ids (v ∷ views) = ap (λ ids. v.sst.id ∷ ids) (view_ids views)

module _ (f : ℕ → List ℕ) where
  run_ids : (runs : List SortedRun) → table_ids (flat_map run_handles runs) ≡ flat_map (λ node. node.pieces) (map (run_node f) runs)
  run_ids [] = refl
  run_ids (r ∷ runs) =
      ids_both (run_handles r) (flat_map run_handles runs)
      ∙ ap (λ ids. ids ++ table_ids (flat_map run_handles runs)) (view_ids r.views)
      ∙ ap (λ ids. map (λ view. view.sst.id) r.views ++ ids) (run_ids runs)

  node_ids : (views : List own.View) (runs : List SortedRun) → table_ids (map (λ view. view.sst) views ++ flat_map run_handles runs)
      ≡ flat_map (λ node. node.pieces) (map (flush_node f) views ++ map (run_node f) runs)
  node_ids [] runs = run_ids runs
  node_ids (v ∷ views) runs = ap (λ ids. v.sst.id ∷ ids) (node_ids views runs)

tree_ids : (flushes : RunFlushes) (trees : List (List ℕ × LsmTreeState)) → table_ids (flat_map (λ s. tree_handles s.1) trees) ≡ flat_map tree_tables (map (segment_of flushes) trees)
tree_ids flushes [] = refl
tree_ids flushes (s ∷ trees) =
    ids_both (tree_handles s.1) (flat_map (λ s. tree_handles s.1) trees)
    ∙ ap (λ ids. ids ++ table_ids (flat_map (λ s. tree_handles s.1) trees)) (node_ids (flushes s.0) s.1.l0 s.1.compacted)
    ∙ ap (λ ids. tree_tables (segment_of flushes s) ++ ids) (tree_ids flushes trees)

-- If the ids of each part's handles are those of the model's part, so it is of all parts.
flat_ids : {A B : Type 0} (model : A → B) (handles : A → List SsTableHandle) (ids : B → List ℕ) → ((x : A) → table_ids (handles x) ≡ ids (model x)) → (xs : List A) → table_ids (flat_map handles xs) ≡ flat_map ids (map model xs)
flat_ids model handles ids same [] = refl
flat_ids model handles ids same (x ∷ xs) = ids_both (handles x) (flat_map handles xs) ∙ ap (λ l. l ++ table_ids (flat_map handles xs)) (same x) ∙ ap (λ l. ids (model x) ++ l) (flat_ids model handles ids same xs)

context_ids : (ctx : Option ContextParts) → table_ids (flat_map (λ range. range.output_ssts) (ranges_in ctx)) ≡ context_tables (option_map context_of ctx)
context_ids None = refl
context_ids (Some ctx) = flat_ids noted_range (λ range. range.output_ssts) (λ range. range.1) (λ part. refl) ctx.ranges

job_ids : (job : JobParts) → table_ids (job_handles job) ≡ job_tables (job_of job)
job_ids job =
    ids_both (flat_map (λ range. range.output_ssts) (ranges_in job.ctx)) (flat_map (λ tables. tables) job.outputs)
    ∙ ap (λ ids. ids ++ table_ids (flat_map (λ tables. tables) job.outputs)) (context_ids job.ctx)
    ∙ ap (λ ids. context_tables (option_map context_of job.ctx) ++ ids) (written_ids job.outputs)

all_job_ids : (jobs : List JobParts) → table_ids (flat_map job_handles jobs) ≡ flat_map job_tables (jobs_of jobs)
all_job_ids [] = refl
all_job_ids (job ∷ jobs) =
    ids_both (job_handles job) (flat_map job_handles jobs)
    ∙ ap (λ ids. ids ++ table_ids (flat_map job_handles jobs)) (job_ids job)
    ∙ ap (λ ids. job_tables (job_of job) ++ ids) (all_job_ids jobs)

-- ---- handles

matched_handles : (tables : Tables) (handles : List SsTableHandle) → MatchTables tables handles → map handle_of handles ≡ handles_of tables (table_ids handles)
matched_handles tables [] matched = refl
matched_handles tables (handle ∷ handles) matched = rw (matched.0.describes, matched_handles tables handles matched.1) refl

view_handles_matched : (tables : Tables) (views : List own.View) → ViewsMatch tables views → MatchTables tables (map (λ view. view.sst) views)
view_handles_matched tables [] matched = tt
view_handles_matched tables (view ∷ views) matched = (matched.0.handle, view_handles_matched tables views matched.1)

run_handles_matched : (tables : Tables) (runs : List SortedRun) → ViewsMatch tables (flat_map (λ run. run.views) runs) → MatchTables tables (flat_map run_handles runs)
run_handles_matched tables [] matched = tt
run_handles_matched tables (run ∷ runs) matched =
    all_both (MatchesTable tables) (run_handles run) (flat_map run_handles runs) (view_handles_matched tables run.views (all_front (ViewMatches tables) run.views (flat_map (λ r. r.views) runs) matched))
    (run_handles_matched tables runs (all_back (ViewMatches tables) run.views (flat_map (λ r. r.views) runs) matched))

tree_handles_matched : (tables : Tables) (tree : LsmTreeState) → ViewsMatch tables (views_of tree) → MatchTables tables (tree_handles tree)
tree_handles_matched tables tree matched =
    all_both (MatchesTable tables) (map (λ view. view.sst) tree.l0) (flat_map run_handles tree.compacted) (view_handles_matched tables tree.l0 (all_front (ViewMatches tables) tree.l0 (flat_map (λ r. r.views) tree.compacted) matched))
    (run_handles_matched tables tree.compacted (all_back (ViewMatches tables) tree.l0 (flat_map (λ r. r.views) tree.compacted) matched))

all_trees_matched : (tables : Tables) (trees : List (List ℕ × LsmTreeState)) → AllByRecursion (λ s. ViewsMatch tables (views_of s.1)) trees → MatchTables tables (flat_map (λ s. tree_handles s.1) trees)
all_trees_matched tables [] matched = tt
all_trees_matched tables (s ∷ trees) matched = all_both (MatchesTable tables) (tree_handles s.1) (flat_map (λ t. tree_handles t.1) trees) (tree_handles_matched tables s.1 matched.0) (all_trees_matched tables trees matched.1)

all_flat : {A : Type 0} (tables : Tables) (f : A → List SsTableHandle) (xs : List A) → AllByRecursion (λ x. MatchTables tables (f x)) xs → MatchTables tables (flat_map f xs)
all_flat tables f [] matched = tt
all_flat tables f (x ∷ xs) matched = all_both (MatchesTable tables) (f x) (flat_map f xs) matched.0 (all_flat tables f xs matched.1)

open_matched : (tables : Tables) (jobs : List JobParts) → JobsMatch tables jobs → JobsMatch tables (filter is_open jobs)
open_matched tables [] matched = tt
open_matched tables (job ∷ jobs) matched = by (is_open job) (open_matched tables jobs matched.1)
  where
    by : (b : Bool) → JobsMatch tables (filter is_open jobs) → JobsMatch tables (cond b (job ∷ filter is_open jobs) (filter is_open jobs))
    by true rest = (matched.0, rest)
    by false rest = rest

-- ---- jobs that are not over

open_are : (jobs : List JobParts) → jobs_of (filter is_open jobs) ≡ filter is_active (jobs_of jobs)
open_are [] = refl
open_are (job ∷ jobs) = by (is_finished (status_of job.status)) (open_are jobs)
  where
    by : (over : Bool) → jobs_of (filter is_open jobs) ≡ filter is_active (jobs_of jobs)
        → jobs_of (cond (not over) (job ∷ filter is_open jobs) (filter is_open jobs)) ≡ cond (cond over false true) (job_of job ∷ filter is_active (jobs_of jobs)) (filter is_active (jobs_of jobs))
    by true rest = rest
    by false rest = ap (λ js. job_of job ∷ js) rest

-- ---- the view

abbrev pub made_view : Manifest → (version epoch : ℕ) → Jobs → List Handle → View
made_view manifest version epoch jobs handles = record { manifest = manifest; records_version = version; records_epoch = epoch; jobs = jobs; handles = handles }

module _ (flushes : RunFlushes) (input : PollInput) (s : Scheduler) (poll : Poll) (sees : Sees input s poll.state) where
  abbrev still_open : List JobParts
  still_open = filter is_open (own_jobs poll.state)

  manifest_is : record input.manifest { trees = trees_of flushes (own_core poll.state); horizon = (own_core poll.state).horizon }
      ≡ manifest_of flushes poll.state.manifest.id poll.state.manifest.manifest.compactor_epoch (own_core poll.state)
  manifest_is = ap (λ (m : Manifest). record m { trees = trees_of flushes (own_core poll.state); horizon = (own_core poll.state).horizon }) sees.manifest

  ids_are : table_ids (handles_in (open_view poll.state)) ≡ named_tables (trees_of flushes (own_core poll.state)) (filter is_active (jobs_of (own_jobs poll.state)))
  ids_are =
      ids_both (flat_map (λ s. tree_handles s.1) (trees_with_prefix (own_core poll.state))) (flat_map job_handles (filter is_open still_open))
      ∙ ap (λ ids. ids ++ table_ids (flat_map job_handles (filter is_open still_open))) (tree_ids flushes (trees_with_prefix (own_core poll.state)))
      ∙ ap (λ ids. flat_map tree_tables (trees_of flushes (own_core poll.state)) ++ ids) (ap (λ js. table_ids (flat_map job_handles js)) (open_again (own_jobs poll.state)) ∙ all_job_ids still_open ∙ ap (flat_map job_tables) (open_are (own_jobs poll.state)))

  handles_are : map handle_of (handles_in (open_view poll.state)) ≡ handles_of input.tables (named_tables (trees_of flushes (own_core poll.state)) (filter is_active (jobs_of (own_jobs poll.state))))
  handles_are =
      matched_handles input.tables (handles_in (open_view poll.state))
      (all_both (MatchesTable input.tables) (flat_map (λ s. tree_handles s.1) (trees_with_prefix (own_core poll.state))) (flat_map job_handles (filter is_open still_open))
      (all_trees_matched input.tables (trees_with_prefix (own_core poll.state)) sees.trees)
      (all_flat input.tables job_handles (filter is_open still_open) (open_matched input.tables still_open (open_matched input.tables (own_jobs poll.state) sees.jobs))))
      ∙ ap (handles_of input.tables) ids_are

  -- The model's scheduler is shown what the program shows.
  pub shown_is : model_view input (poll_of flushes poll) ≡ view_of flushes (open_view poll.state)
  shown_is =
      let active = filter is_active (jobs_of (own_jobs poll.state)) in
      let named = handles_of input.tables (named_tables (trees_of flushes (own_core poll.state)) active) in
      let manifest = manifest_of flushes poll.state.manifest.id poll.state.manifest.manifest.compactor_epoch (own_core poll.state) in
      let version = poll.state.compactions.id in
      let epoch = poll.state.compactions.compactions.compactor_epoch in
      ap (λ m. made_view m input.records.version input.records.epoch active named) manifest_is
      ∙ ap (λ n. made_view manifest n input.records.epoch active named) sees.version
      ∙ ap (λ n. made_view manifest version n active named) sees.epoch
      ∙ ap (λ js. made_view manifest version epoch js named) (sym (open_are (own_jobs poll.state)) ∙ ap jobs_of (sym (open_again (own_jobs poll.state))))
      ∙ ap (made_view manifest version epoch (jobs_of (filter is_open still_open))) (sym handles_are)

  -- The model accepts a job exactly if the program's scheduler does.
  pub accepted_alike : (spec : JobSpec) → accepts input (poll_of flushes poll) spec ≡ accepted_on flushes (open_view poll.state) s spec
  accepted_alike spec = ap (λ v. input.scheduler.validate v spec) shown_is ∙ ap (λ (t : Scheduler). t.validate (view_of flushes (open_view poll.state)) spec) sees.scheduler_is
