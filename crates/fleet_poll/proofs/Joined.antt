-- What a poll has reached after a join.
use Rattle.std.proofs.Common.{◌≡◌, refl, sym, ◌∙◌, ap, ℕ, List, [], ◌∷◌, ◌++◌, map, Bool, true, false, cond}
use Rattle.std.specs.Prelude.{flat_map, IfSome, Option, Some, None}
use Rattle.std.specs.List.{concat}
use Rattle.std.specs.Option.{ForSome}
use Rattle.std.proofs.lemmas.List.{map-append}
use Rattle.fleet_model.specs.History as model
use Rattle.fleet_model.specs.Jobs.{Compacted, changed_jobs, has_status, is_drain_to}
use Rattle.fleet_model.specs.Work.Polls.{commit_by}
use Rattle.fleet_model.specs.Work.PollStates.{PollInput, PollState}
use Rattle.fleet_model.specs.Work.Records.{to_completed}
use Rattle.fleet_model.specs.Trees.{horizon_after, stepped_in}
use Rattle.fleet_tree.specs.Trees.{RunFlushes, trees_of}
use Rattle.fleet_tree.specs.Views.{View}
use Rattle.fleet_tree.specs.declared.handle.SsTableHandle.{SsTableHandle}
use Rattle.fleet_tree.specs.declared.run.SortedRun.{SortedRun}
use Rattle.fleet_jobs.specs.Contexts.{table_ids}
use Rattle.fleet_jobs.specs.Parts.JobParts.{JobParts}
use Rattle.fleet_jobs.specs.Jobs.{job_of, jobs_of}
use Rattle.fleet_jobs.specs.Laws.{view_tables}
use Rattle.fleet_jobs.specs.Places.{sources_stand}
use Rattle.fleet_jobs.specs.Specs.{destination_of, spec_of}
use Rattle.fleet_history.specs.Changes.{step_of}
use Rattle.fleet_history.specs.declared.manifest_change.Step.{Step}
use Rattle.fleet_history.specs.declared.manifest_change.Step.TheVariants.{Join}
use Rattle.fleet_book.specs.Finishes.{finished_state, run_step}
use Rattle.fleet_book.specs.Records.{AreRising, record_with}
use Rattle.fleet_book.specs.StateParts.{StateParts}
use Rattle.fleet_book.specs.States.{own_jobs}
use Rattle.fleet_book.proofs.ModelFinishes.{joins_are_the_models}
use Rattle.fleet_poll.specs.Made.{PrefixesRise, flushes_after, joined_run, own_core, own_views, run_of_tables, written_tables}
use Rattle.fleet_poll.specs.Polls.{poll_of}
use Rattle.fleet_poll.specs.declared.poll.Poll.{Poll}
use Rattle.fleet_poll.proofs.Changed.{found_has_id}
use Rattle.fleet_poll.proofs.Finished.{finished_in}
use Rattle.fleet_poll.proofs.Followed.{follow}

-- ---- the run that is made

own_ids : (tables : List SsTableHandle) → view_tables (own_views tables) ≡ table_ids tables
own_ids [] = refl
own_ids (table ∷ tables) = ap (λ ids. table.id ∷ ids) (own_ids tables)

pub written_ids : (outputs : List (List SsTableHandle)) → table_ids (flat_map (λ tables. tables) outputs) ≡ concat (map table_ids outputs)
written_ids [] = refl
written_ids (tables ∷ outputs) = map-append (λ (t : SsTableHandle). t.id) tables (flat_map (λ ts. ts) outputs) ∙ ap (λ ids. table_ids tables ++ ids) (written_ids outputs)

joined_to : (destination : Option ℕ) (tables : List SsTableHandle) (run : SortedRun) → Some run ≡ run_of_tables destination tables → (destination ≡ Some run.id) × (run.views ≡ own_views tables)
joined_to None tables run e = absurd (cc e)
joined_to (Some id) tables run e = (ap id_in (sym e), ap views_in e)
  where
    id_in : Option SortedRun → Option ℕ
    id_in None = None
    id_in (Some r) = Some r.id

    views_in : Option SortedRun → List View
    views_in None = []
    views_in (Some r) = r.views

pub joined_makes : (found : Option JobParts) (run : SortedRun) → IfSome found (λ job. Some run ≡ joined_run job) → ForSome found (λ job. destination_of job.spec ≡ Some run.id)
joined_makes None run is job e = absurd (cc e)
joined_makes (Some other) run is job e = ap (λ j. destination_of j.spec) (sym same) ∙ (joined_to (destination_of other.spec) (written_tables other) run is).0
  where
    same : other ≡ job
    same = cc e

-- ---- the poll

-- A Compacted job that makes a run raises the horizon as a join does.
join_horizon : (floor given : ℕ) (cut destination : Option ℕ) (horizon id run : ℕ) (is_joined : Bool) → destination ≡ Some run → is_joined ≡ true → given ≡ floor
    → horizon_after floor (cond (is_drain_to destination) (model.Drain id) (run_step is_joined id)) cut horizon ≡ horizon_after given (model.Join id) cut horizon
join_horizon floor given cut None horizon id run is_joined e f same = absurd (cc e)
join_horizon floor given cut (Some made) horizon id run false e f same = absurd (cc f)
join_horizon floor given cut (Some made) horizon id run true e f same = ap (λ n. horizon_after n (model.Join id) cut horizon) (sym same)

-- After a join, the poll has reached what the model's commit of the job leaves.
pub joined_in : (flushes : RunFlushes) (input : PollInput) (poll : Poll) (state : StateParts) (steps : List Step) (committed : List ℕ) (id : ℕ) (found : Option JobParts) (run : SortedRun)
    → AreRising (own_jobs poll.state) → record_with id (own_jobs poll.state) ≡ found → ForSome found (λ job. has_status Compacted (job_of job) ≡ true)
    → ForSome found (λ job. sources_stand job.spec (own_core poll.state) ≡ true) → IfSome found (λ job. Some run ≡ joined_run job)
    → IfSome found (λ job. state ≡ finished_state job (Some run) poll.state) → steps ≡ poll.steps ++ Join id ∷ [] → committed ≡ poll.committed ++ id ∷ []
    → PrefixesRise (own_core poll.state) → input.manifest.floor ≡ (own_core poll.state).recent_snapshot_min_seq
    → IfSome found (λ job. poll_of (flushes_after job.spec (own_core poll.state) flushes) (record poll { state = state; steps = steps; committed = committed }) ≡ commit_by input (job_of job) None (poll_of flushes poll))
joined_in flushes input poll state steps committed id None run rising e compacted stand made is more listed rise floor = tt
joined_in flushes input poll state steps committed id (Some job) run rising e compacted stand made is more listed rise floor =
    let core = own_core poll.state in
    let after = flushes_after job.spec core flushes in
    let same : job.id ≡ id = found_has_id id (own_jobs poll.state) job e in
    let makes = joined_to (destination_of job.spec) (written_tables job) run made in
    let ids : view_tables run.views ≡ concat (map table_ids job.outputs) = ap view_tables makes.1 ∙ own_ids (written_tables job) ∙ written_ids job.outputs in
    let trees = joins_are_the_models flushes after input.tables job run core makes.0 (follow flushes job.spec core run.id makes.0 (stand job refl) rise)
    ∙ ap (λ tables. stepped_in input.tables (model.Join job.id) (spec_of job.spec) tables (trees_of flushes core)) ids in
    let horizon = join_horizon core.recent_snapshot_min_seq input.manifest.floor job.cut (destination_of job.spec) core.horizon job.id run.id _ makes.0 (compacted job refl) floor in
    let finished = finished_in flushes after poll state steps id job (Some run) _ _ (Join id) (model.Join job.id) rising e is trees horizon more (ap model.Join (sym same)) in
    ap {A = PollState} {B = PollState} (λ p. record p { done = committed }) finished
    ∙ ap (λ done. record (poll_of flushes poll) {
      trees = stepped_in input.tables (model.Join job.id) (spec_of job.spec) (concat (map table_ids job.outputs)) (trees_of flushes core);
      horizon = horizon_after input.manifest.floor (model.Join job.id) job.cut core.horizon;
      jobs = changed_jobs to_completed (job.id ∷ []) (jobs_of (own_jobs poll.state));
      steps = map step_of poll.steps ++ model.Join job.id ∷ [];
      done = done;
    }) (listed ∙ ap (λ i. poll.committed ++ i ∷ []) (sym same))
