-- What a poll has reached after a job is finished.
use Rattle.std.proofs.Common.{◌≡◌, refl, sym, ◌∙◌, ap, ℕ, List, [], ◌∷◌, ◌++◌, map, Bool, true, false, ◌&&◌, cond}
use Rattle.std.specs.Prelude.{IfSome, Option, Some, None}
use Rattle.std.specs.Option.{ForSome}
use Rattle.std.proofs.lemmas.List.{map-append}
use Rattle.fleet_model.specs.History as model
use Rattle.fleet_model.specs.Work.Gates.{is_nonempty}
use Rattle.fleet_model.specs.Jobs.{Compacted, Jobs, changed_jobs, has_status, is_drain_to}
use Rattle.fleet_model.specs.Nodes.{Trees}
use Rattle.fleet_model.specs.Work.Polls.{move_job}
use Rattle.fleet_model.specs.Work.PollStates.{PollInput, PollState}
use Rattle.fleet_model.specs.Work.Records.{to_completed}
use Rattle.fleet_model.specs.Trees.{horizon_after, stepped_in}
use Rattle.fleet_tree.specs.Trees.{RunFlushes, trees_of}
use Rattle.fleet_tree.specs.Views.{View}
use Rattle.fleet_tree.specs.declared.manifest.ManifestCore.{ManifestCore}
use Rattle.fleet_tree.specs.declared.run.SortedRun.{SortedRun}
use Rattle.fleet_jobs.specs.Parts.JobParts.{JobParts}
use Rattle.fleet_jobs.specs.Jobs.{job_of, jobs_of, with_status}
use Rattle.fleet_jobs.specs.Laws.{KeysFit}
use Rattle.fleet_jobs.specs.Moves.{are_disjoint, by_start, moved_run}
use Rattle.fleet_jobs.specs.Places.{sources_stand}
use Rattle.fleet_jobs.specs.Specs.{destination_of, spec_of}
use Rattle.fleet_jobs.specs.Taken.{taken_tables}
use Rattle.fleet_jobs.specs.declared.status.CompactionStatus.TheVariants as own
use Rattle.fleet_history.specs.Changes.{step_of}
use Rattle.fleet_history.specs.declared.manifest_change.Step.{Step}
use Rattle.fleet_history.specs.declared.manifest_change.Step.TheVariants.{Move}
use Rattle.fleet_book.specs.Finishes.{core_after, finished_state, horizon_by, run_step}
use Rattle.fleet_book.specs.Records.{AreRising, put_record, record_with}
use Rattle.fleet_book.specs.StateParts.{StateParts}
use Rattle.fleet_book.specs.States.{own_jobs}
use Rattle.fleet_book.proofs.ModelFinishes.{trivial_moves_are_the_models}
use Rattle.fleet_poll.specs.Made.{PrefixesRise, flushes_after, run_if_moved}
use Rattle.fleet_poll.specs.Polls.{poll_of}
use Rattle.fleet_poll.specs.declared.poll.Poll.{Poll}
use Rattle.fleet_poll.proofs.Changed.{found_has_id}
use Rattle.fleet_poll.proofs.Followed.{follow, sources_in_order}
use Rattle.fleet_poll.proofs.Records.{changed_are, put_changed}

-- The record of a job that is completed.
abbrev completed : JobParts → JobParts
completed job = with_status own.Completed job

-- The jobs after one of them is completed.
pub completed_jobs : (id : ℕ) (jobs : List JobParts) (job : JobParts) → AreRising jobs → record_with id jobs ≡ Some job
    → jobs_of (put_record (completed job) jobs) ≡ changed_jobs to_completed (job.id ∷ []) (jobs_of jobs)
completed_jobs id jobs job rising found =
    let same = found_has_id id jobs job found in
    let there : record_with job.id jobs ≡ Some job = ap (λ i. record_with i jobs) same ∙ found in
    ap jobs_of (put_changed completed jobs job (completed job) rising there refl) ∙ changed_are completed to_completed (job.id ∷ []) jobs (λ other. refl)

-- What the model's poll has reached after a job is finished, given the trees, the horizon and the step.
pub finished_in : (before after : RunFlushes) (poll : Poll) (state : StateParts) (steps : List Step) (id : ℕ) (job : JobParts) (output : Option SortedRun) (trees : Trees) (horizon : ℕ) (step : Step) (taken : model.Step)
    → AreRising (own_jobs poll.state) → record_with id (own_jobs poll.state) ≡ Some job → state ≡ finished_state job output poll.state
    → trees_of after (core_after job output poll.state.manifest.manifest.core) ≡ trees → horizon_by job poll.state.manifest.manifest.core ≡ horizon
    → steps ≡ poll.steps ++ step ∷ [] → step_of step ≡ taken
    → poll_of after (record poll { state = state; steps = steps })
    ≡ record (poll_of before poll) { trees = trees; horizon = horizon; jobs = changed_jobs to_completed (job.id ∷ []) (jobs_of (own_jobs poll.state)); steps = map step_of poll.steps ++ taken ∷ [] }
finished_in before after poll state steps id job output trees horizon step taken rising found is same_trees same_horizon more same_step =
    let p = poll_of before poll in
    let by : Trees → ℕ → Jobs → List model.Step → PollState = λ ts h js ss. record p { trees = ts; horizon = h; jobs = js; steps = ss } in
    let here = ap (λ s. trees_of after s.manifest.manifest.core) is ∙ same_trees in
    let high = ap (λ s. s.manifest.manifest.core.horizon) is ∙ same_horizon in
    let jobs = ap (λ s. jobs_of (own_jobs s)) is ∙ completed_jobs id (own_jobs poll.state) job rising found in
    let last = ap (map step_of) more ∙ map-append step_of poll.steps (step ∷ []) ∙ ap (λ s. map step_of poll.steps ++ s ∷ []) same_step in
    ap (λ ts. by ts state.manifest.manifest.core.horizon (jobs_of (own_jobs state)) (map step_of steps)) here
    ∙ ap (λ h. by trees h (jobs_of (own_jobs state)) (map step_of steps)) high
    ∙ ap (λ js. by trees horizon js (map step_of steps)) jobs
    ∙ ap (λ ss. by trees horizon (changed_jobs to_completed (job.id ∷ []) p.jobs) ss) last

-- ---- moves

-- A move makes the run of its destination.
moved_to : (destination : Option ℕ) (views : List View) (run : SortedRun) → moved_run destination views ≡ Some run → destination ≡ Some run.id
moved_to None views run e = absurd (cc e)
moved_to (Some id) views run e = by (is_nonempty (by_start views) && are_disjoint (by_start views)) e
  where
    made : SortedRun
    made = record { id = id; views = by_start views }

    id_in : Option SortedRun → Option ℕ
    id_in None = None
    id_in (Some r) = Some r.id

    by : (b : Bool) → cond b (Some made) None ≡ Some run → Some id ≡ Some run.id
    by true h = ap id_in h
    by false h = absurd (cc h)

pub moved_makes : (found : Option JobParts) (core : ManifestCore) (run : SortedRun) → Some run ≡ run_if_moved found core → ForSome found (λ job. destination_of job.spec ≡ Some run.id)
moved_makes found core run is job e = moved_to (destination_of job.spec) (taken_tables job.spec core) run (sym (is ∙ ap (λ f. run_if_moved f core) e))

-- A job that is not Compacted and makes a run leaves the horizon as it is.
move_horizon : (floor : ℕ) (cut destination : Option ℕ) (horizon id run : ℕ) (is_joined : Bool) → destination ≡ Some run → is_joined ≡ false
    → horizon_after floor (cond (is_drain_to destination) (model.Drain id) (run_step is_joined id)) cut horizon ≡ horizon
move_horizon floor cut None horizon id run is_joined e f = absurd (cc e)
move_horizon floor cut (Some made) horizon id run true e f = absurd (cc f)
move_horizon floor cut (Some made) horizon id run false e f = refl

-- After a move, the poll has reached what the model's move of the job leaves.
pub moved_in : (flushes : RunFlushes) (input : PollInput) (poll : Poll) (state : StateParts) (steps : List Step) (moved : List ℕ) (id : ℕ) (found : Option JobParts) (run : SortedRun)
    → AreRising (own_jobs poll.state) → record_with id (own_jobs poll.state) ≡ found → ForSome found (λ job. has_status Compacted (job_of job) ≡ false)
    → ForSome found (λ job. sources_stand job.spec poll.state.manifest.manifest.core ≡ true) → Some run ≡ run_if_moved found poll.state.manifest.manifest.core
    → IfSome found (λ job. state ≡ finished_state job (Some run) poll.state) → steps ≡ poll.steps ++ Move id ∷ [] → moved ≡ poll.moved ++ id ∷ []
    → PrefixesRise poll.state.manifest.manifest.core
    → IfSome found (λ job. KeysFit input.tables (taken_tables job.spec poll.state.manifest.manifest.core)
    → poll_of (flushes_after job.spec poll.state.manifest.manifest.core flushes) (record poll { state = state; steps = steps; moved = moved }) ≡ move_job input (job_of job) (poll_of flushes poll))
moved_in flushes input poll state steps moved id None run rising e waits stand made is more listed rise = tt
moved_in flushes input poll state steps moved id (Some job) run rising e waits stand made is more listed rise = λ fit.
    let core = poll.state.manifest.manifest.core in
    let after = flushes_after job.spec core flushes in
    let same : job.id ≡ id = found_has_id id (own_jobs poll.state) job e in
    let makes = moved_makes (Some job) core run made job refl in
    let trees = trivial_moves_are_the_models flushes after input.tables [] job run core rise (sources_in_order job.spec core run.id makes (stand job refl)) fit (sym made) (follow flushes job.spec core run.id makes (stand job refl) rise) in
    let horizon = move_horizon core.recent_snapshot_min_seq job.cut (destination_of job.spec) core.horizon job.id run.id _ makes (waits job refl) in
    let finished = finished_in flushes after poll state steps id job (Some run) _ _ (Move id) (model.Move job.id) rising e is trees horizon more (ap model.Move (sym same)) in
    ap {A = PollState} {B = PollState} (λ p. record p { moved = moved }) finished
    ∙ ap (λ ids. record (poll_of flushes poll) {
      trees = stepped_in input.tables (model.Move job.id) (spec_of job.spec) [] (trees_of flushes core);
      jobs = changed_jobs to_completed (job.id ∷ []) (jobs_of (own_jobs poll.state));
      steps = map step_of poll.steps ++ model.Move job.id ∷ [];
      moved = ids;
    }) (listed ∙ ap (λ i. poll.moved ++ i ∷ []) (sym same))
