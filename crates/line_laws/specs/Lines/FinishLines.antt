-- The law on finishes: what a finish does that is not refused, be it a line of its own or a step of a settle line.
use Rattle.std.specs.Prelude.{◌≡◌, ℕ, true, List, [], ◌∷◌, Some, codes}
use Rattle.fleet_model.specs.Jobs.{changed_jobs, trimmed_jobs}
use Rattle.fleet_model.specs.Store.{stored_jobs}
use Rattle.fleet_model.specs.Work.Records.{finished_by}
use Rattle.fleet_model.specs.Work.Parties.{Attempt, LiveWorker, worker_with, without_attempts, is_live}
use Rattle.step_model.specs.Steps.FinishSteps.{all_outputs, unrecorded_of_finish}
use Rattle.script_model.specs.Script.{FinishJob}
use Rattle.script_model.specs.States.{Inputs, State}
use Rattle.script_model.specs.LineCourses.{job_at}
use Rattle.script_model.specs.Replies.{reply, ranges_text}
use Rattle.script_model.specs.Lines.Settles.{is_ok}
use Rattle.line_laws.specs.Ran.{CourseRan}

-- A live worker ended an attempt that is live, and the reply has its outputs: for each range the tables
-- that the attempt had noted, and then those that the finish made. The job of the attempt waits for its
-- commit, no other job changes, but jobs that ended may be dropped, the trees stay, and the worker runs what it
-- ran beside.
pub record FinishRan (n job : ℕ) (old : State) (answer : List ℕ) (new : State) : Type 0 where
  pub worker : LiveWorker
  pub attempt : Attempt
  pub ran : job_at old n job ≡ Some (worker, attempt)
  pub live : is_live (stored_jobs old.store) worker.number attempt ≡ true
  pub made : List (List ℕ)
  pub printed : answer ≡ reply (codes "ok" ∷ ranges_text (all_outputs attempt.context.ranges made) ∷ [])
  pub jobs : stored_jobs new.store
      ≡ trimmed_jobs
      (changed_jobs (finished_by worker.number (unrecorded_of_finish old.moment worker attempt)
      (all_outputs attempt.context.ranges made)) (attempt.job ∷ []) (stored_jobs old.store))
  pub manifest : new.store.manifest ≡ old.store.manifest
  pub runs : worker_with n new.parties
      ≡ Some (record worker { attempts = without_attempts (attempt.job ∷ []) worker.attempts })

-- Each course of a finish that is not refused does so.
abbrev pub FinishesEnd : Type 0
FinishesEnd = (inputs : Inputs) (old new : State) (n job : ℕ) (answer : List ℕ)
    → CourseRan inputs old (FinishJob n job) answer new → is_ok answer ≡ true → FinishRan n job old answer new
