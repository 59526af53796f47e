-- The law on claims: what a claim does that is not refused, be it a line of its own or a step of a settle line.
use Rattle.std.specs.Prelude.{◌≡◌, ℕ, ◌+◌, true, if◌then◌else◌, List, map, Some}
use Rattle.fleet_model.specs.Jobs.{Jobs, ids}
use Rattle.fleet_model.specs.History.{Claim}
use Rattle.fleet_model.specs.Store.{stored_jobs}
use Rattle.fleet_model.specs.Work.Records.{jobs_after}
use Rattle.fleet_model.specs.Work.Gates.{is_nonempty}
use Rattle.fleet_model.specs.Work.Parties.{Attempt, LiveWorker, worker_with, with_attempts, without_attempts}
use Rattle.fleet_model.specs.Work.Claims.{stopped_jobs, claimed_jobs, claimed_attempt}
use Rattle.step_model.specs.Steps.ClaimSteps.{at_moment}
use Rattle.script_model.specs.Script.{ClaimJobs}
use Rattle.script_model.specs.States.{Inputs, State}
use Rattle.script_model.specs.Replies.{claim_reply}
use Rattle.script_model.specs.Lines.Settles.{is_ok}
use Rattle.line_laws.specs.Ran.{CourseRan}

-- The jobs that a claim of the worker takes in this state, and those that it stops.
abbrev pub taken_in : State → LiveWorker → Jobs
taken_in s w = claimed_jobs s.options.slots w (stored_jobs s.store)

abbrev pub stopped_in : State → LiveWorker → List ℕ
stopped_in s w = ids (stopped_jobs w (stored_jobs s.store))

-- The attempts that it begins: one at each job that it takes, under the manifest that is stored.
abbrev pub begun_in : State → LiveWorker → List Attempt
begun_in s w = map (claimed_attempt (record {
  release = w.release;
  manifest = s.store.manifest;
  moment = s.moment;
  retention = s.options.retention;
  most = s.options.ranges;
  tables = s.store.tables;
})) (taken_in s w)

-- The stored jobs after a claim of these jobs: each of them runs with the worker at its next attempt.
abbrev pub with_claimed : (moment : ℕ) (w : LiveWorker) (these jobs : Jobs) → Jobs
with_claimed moment w these jobs =
    if is_nonempty these then jobs_after (at_moment moment)
    (Claim w.number (map (λ job. (job.id, job.attempt + 1)) these)) jobs
    else jobs

-- A live worker claims and stops exactly the jobs of its rule, and the reply has them. After the claim
-- it runs what it ran and did not stop, and the attempts that it began.
pub record ClaimRan (n : ℕ) (old : State) (answer : List ℕ) (new : State) : Type 0 where
  pub worker : LiveWorker
  pub live : worker_with n old.parties ≡ Some worker
  pub printed : answer ≡ claim_reply (begun_in old worker) (stopped_in old worker)
  pub jobs : stored_jobs new.store ≡ with_claimed old.moment worker (taken_in old worker) (stored_jobs old.store)
  pub runs : worker_with n new.parties
      ≡ Some
      (record worker {
        attempts = with_attempts (begun_in old worker)
            (without_attempts (stopped_in old worker) worker.attempts);
      })

-- Each course of a claim that is not refused does so.
abbrev pub ClaimsTake : Type 0
ClaimsTake = (inputs : Inputs) (old new : State) (n : ℕ) (answer : List ℕ)
    → CourseRan inputs old (ClaimJobs n) answer new → is_ok answer ≡ true → ClaimRan n old answer new
