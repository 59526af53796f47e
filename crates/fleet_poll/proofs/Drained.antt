-- What a poll has reached after a drain.
use Rattle.std.proofs.Common.{◌≡◌, refl, sym, ◌∙◌, ap, ℕ, List, [], ◌∷◌, ◌++◌, map, Bool, cond}
use Rattle.std.specs.Prelude.{IfSome, Option, Some, None}
use Rattle.std.specs.Option.{ForSome}
use Rattle.fleet_model.specs.History as model
use Rattle.fleet_model.specs.Jobs.{changed_jobs, is_drain_to}
use Rattle.fleet_model.specs.Work.Polls.{drain_job}
use Rattle.fleet_model.specs.Work.PollStates.{PollInput, PollState}
use Rattle.fleet_model.specs.Work.Records.{to_completed}
use Rattle.fleet_model.specs.Trees.{horizon_after, stepped_in}
use Rattle.fleet_tree.specs.Trees.{RunFlushes, trees_of}
use Rattle.fleet_jobs.specs.Parts.JobParts.{JobParts}
use Rattle.fleet_jobs.specs.Jobs.{job_of, jobs_of}
use Rattle.fleet_jobs.specs.Specs.{destination_of, spec_of}
use Rattle.fleet_history.specs.Changes.{step_of}
use Rattle.fleet_history.specs.declared.manifest_change.Step.{Step}
use Rattle.fleet_history.specs.declared.manifest_change.Step.TheVariants.{Drain}
use Rattle.fleet_book.specs.Finishes.{finished_state, run_step}
use Rattle.fleet_book.specs.Records.{AreRising, record_with}
use Rattle.fleet_book.specs.StateParts.{StateParts}
use Rattle.fleet_book.specs.States.{own_jobs}
use Rattle.fleet_book.proofs.ModelFinishes.{drains_are_the_models}
use Rattle.fleet_poll.specs.Polls.{poll_of}
use Rattle.fleet_poll.specs.declared.poll.Poll.{Poll}
use Rattle.fleet_poll.proofs.Changed.{found_has_id}
use Rattle.fleet_poll.proofs.Finished.{finished_in}

-- A drain leaves the horizon as it is.
drain_horizon : (floor : ℕ) (cut destination : Option ℕ) (horizon : ℕ) (id : ℕ) (is_joined : Bool) → destination ≡ None
    → horizon_after floor (cond (is_drain_to destination) (model.Drain id) (run_step is_joined id)) cut horizon ≡ horizon
drain_horizon floor cut None horizon id is_joined e = refl
drain_horizon floor cut (Some run) horizon id is_joined e = absurd (cc e)

-- After a drain, the poll has reached what the model's drain of the job leaves.
pub drained_in : (flushes : RunFlushes) (input : PollInput) (poll : Poll) (state : StateParts) (steps : List Step) (drained : List ℕ) (id : ℕ) (found : Option JobParts)
    → AreRising (own_jobs poll.state) → record_with id (own_jobs poll.state) ≡ found → ForSome found (λ job. destination_of job.spec ≡ None)
    → IfSome found (λ job. state ≡ finished_state job None poll.state) → steps ≡ poll.steps ++ Drain id ∷ [] → drained ≡ poll.drained ++ id ∷ []
    → IfSome found (λ job. poll_of flushes (record poll { state = state; steps = steps; drained = drained }) ≡ drain_job input (job_of job) (poll_of flushes poll))
drained_in flushes input poll state steps drained id None rising e drain is more listed = tt
drained_in flushes input poll state steps drained id (Some job) rising e drain is more listed =
    let core = poll.state.manifest.manifest.core in
    let same : job.id ≡ id = found_has_id id (own_jobs poll.state) job e in
    let trees = drains_are_the_models flushes input.tables [] job core in
    let horizon = drain_horizon core.recent_snapshot_min_seq job.cut (destination_of job.spec) core.horizon job.id _ (drain job refl) in
    let finished = finished_in flushes flushes poll state steps id job None _ _ (Drain id) (model.Drain job.id) rising e is trees horizon more (ap model.Drain (sym same)) in
    ap {A = PollState} {B = PollState} (λ p. record p { drained = drained }) finished
    ∙ ap (λ ids. record (poll_of flushes poll) {
      trees = stepped_in input.tables (model.Drain job.id) (spec_of job.spec) [] (trees_of flushes core);
      jobs = changed_jobs to_completed (job.id ∷ []) (jobs_of (own_jobs poll.state));
      steps = map step_of poll.steps ++ model.Drain job.id ∷ [];
      drained = ids;
    }) (listed ∙ ap (λ i. poll.drained ++ i ∷ []) (sym same))
