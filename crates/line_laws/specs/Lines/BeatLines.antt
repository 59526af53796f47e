-- The laws on heartbeats and stops: what they do that are not refused.
use Rattle.std.specs.Prelude.{◌≡◌, ℕ, true, if◌then◌else◌, List, [], ◌∷◌, None, Some, codes}
use Rattle.fleet_model.specs.Jobs.{Jobs}
use Rattle.fleet_model.specs.History.{Beat, Release}
use Rattle.fleet_model.specs.Store.{Store, stored_jobs}
use Rattle.fleet_model.specs.Work.Gates.{is_nonempty}
use Rattle.fleet_model.specs.Work.Parties.{Attempt, LiveWorker, worker_with, without_worker, attempt_jobs, named_attempts, live_attempts, not_owned}
use Rattle.fleet_model.specs.Work.Records.{jobs_after}
use Rattle.step_model.specs.Steps.BeatSteps.{published_by}
use Rattle.step_model.specs.Steps.ClaimSteps.{at_moment}
use Rattle.script_model.specs.Script.{Heartbeat, StopWorker}
use Rattle.script_model.specs.States.{Inputs, State}
use Rattle.script_model.specs.Replies.{reply, jobs_text, beat_reply}
use Rattle.script_model.specs.LineSteps.{OneCourse}
use Rattle.script_model.specs.Lines.Settles.{is_ok}

-- The attempts of the worker that are live in this state.
abbrev pub live_in : State → LiveWorker → List Attempt
live_in s w = live_attempts (stored_jobs s.store) w

-- Nothing but the records and the history changed in the store.
abbrev pub OnlyRecords : (old new : Store) → Type 0
OnlyRecords old new = new ≡ record old { records = new.records; history = new.history }

-- The jobs after a heartbeat with these live attempts: their leases are renewed, and their contexts are published.
abbrev pub with_beaten : (moment : ℕ) → LiveWorker → List Attempt → Jobs → Jobs
with_beaten moment w live jobs =
    if is_nonempty live
    then jobs_after (record { moment = moment; published = published_by live; kept_cut = None; tables_of = λ spec. [] })
    (Beat w.number (named_attempts live)) jobs
    else jobs

-- A live worker beat for exactly its live attempts and stopped the others, and the reply has both. It runs the live
-- ones from then on.
pub record BeatRan (n : ℕ) (old : State) (answer : List ℕ) (new : State) : Type 0 where
  pub worker : LiveWorker
  pub live : worker_with n old.parties ≡ Some worker
  pub printed : answer
      ≡ beat_reply (attempt_jobs (live_in old worker)) (attempt_jobs (not_owned (stored_jobs old.store) worker))
  pub jobs : stored_jobs new.store ≡ with_beaten old.moment worker (live_in old worker) (stored_jobs old.store)
  pub store : OnlyRecords old.store new.store
  pub runs : worker_with n new.parties ≡ Some (record worker { attempts = live_in old worker })

-- Each course of a heartbeat that is not refused does so, from any state.
abbrev pub BeatsPublish : Type 0
BeatsPublish = (inputs : Inputs) (number : ℕ) (old new : State) (n : ℕ) (answer : List ℕ)
    → OneCourse inputs number old (Heartbeat n) answer new → is_ok answer ≡ true → BeatRan n old answer new

-- The jobs after a release of these live attempts: they wait for a worker again, and keep their contexts.
abbrev pub with_released : LiveWorker → List Attempt → Jobs → Jobs
with_released w live jobs =
    if is_nonempty live then jobs_after (at_moment 0) (Release w.number (named_attempts live)) jobs else jobs

-- A live worker gave exactly its live attempts back, and the reply has their jobs. It is no longer live.
pub record StopRan (n : ℕ) (old : State) (answer : List ℕ) (new : State) : Type 0 where
  pub worker : LiveWorker
  pub live : worker_with n old.parties ≡ Some worker
  pub printed : answer
      ≡ reply (codes "ok" ∷ codes "released" ∷ jobs_text (attempt_jobs (live_in old worker)) ∷ [])
  pub jobs : stored_jobs new.store ≡ with_released worker (live_in old worker) (stored_jobs old.store)
  pub store : OnlyRecords old.store new.store
  pub parties : new.parties ≡ without_worker n old.parties

-- Each course of a line that stops a worker does so, if it is not refused, from any state.
abbrev pub StopsRelease : Type 0
StopsRelease = (inputs : Inputs) (number : ℕ) (old new : State) (n : ℕ) (answer : List ℕ)
    → OneCourse inputs number old (StopWorker n) answer new → is_ok answer ≡ true → StopRan n old answer new
