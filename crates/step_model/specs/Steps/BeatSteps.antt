-- The steps by which a worker sends a heartbeat and gives jobs back.
use Rattle.std.specs.Prelude.{ℕ, if◌then◌else◌, List, [], ◌∷◌, filter, Option, Some, None}
use Rattle.fleet_model.specs.Jobs.{Context, Jobs}
use Rattle.fleet_model.specs.History.{Beat, Release}
use Rattle.fleet_model.specs.Store.{Records}
use Rattle.fleet_model.specs.Work.Records.{Unrecorded, jobs_after}
use Rattle.fleet_model.specs.Work.Parties.{Attempt, LiveWorker, attempt_at, attempt_jobs, named_attempts, live_attempts, not_owned, is_live}
use Rattle.fleet_model.specs.Work.Gates.{is_nonempty}
use Rattle.step_model.specs.Courses.Course.{Course, Ends, gets_records, puts_records}
use Rattle.step_model.specs.Courses.Tries.{Try, tries}
use Rattle.step_model.specs.Courses.StepEnds.{StepEnd, Reports, most_refused}
use Rattle.step_model.specs.Steps.ClaimSteps.{at_moment}

-- The report of a heartbeat: the jobs that the heartbeat named, the jobs that the worker stops
-- because it no longer owns them, and the attempts that the worker runs from now on.
pub record Beaten : Type 0 where
  pub beat : List ℕ
  pub not_owner : List ℕ
  pub attempts : List Attempt

-- The context of an attempt, or None where there is no attempt.
abbrev pub context_of : Option Attempt → Option Context
context_of None = None
context_of (Some a) = Some a.context

-- The context that a heartbeat with these attempts publishes for a job: that of the job's attempt,
-- or None if no attempt is at the job.
abbrev pub published_by : List Attempt → ℕ → Option Context
published_by attempts job = context_of (attempt_at job attempts)

-- The report of a heartbeat over the stored jobs. The worker keeps its live attempts and stops the
-- others.
abbrev pub beat_report : LiveWorker → Jobs → Beaten
beat_report w jobs = record {
  beat = attempt_jobs (live_attempts jobs w);
  not_owner = attempt_jobs (not_owned jobs w);
  attempts = live_attempts jobs w;
}

-- A heartbeat with these live attempts. If there is at least one, the heartbeat puts the records:
-- it renews the leases of the attempts to the moment and publishes their contexts.
abbrev pub beat_of : (moment : ℕ) (w : LiveWorker) (got : Records) (live : List Attempt)
    (again : ℕ → Course (StepEnd Beaten)) → Course (StepEnd Beaten)
beat_of moment w got [] again = Ends (Reports (beat_report w got.jobs))
beat_of moment w got (a ∷ live) again =
    let change = Beat w.number (named_attempts (a ∷ live)) in
    let unrecorded : Unrecorded =
    record { moment = moment; published = published_by (a ∷ live); kept_cut = None; tables_of = λ spec. [] } in
    puts_records got change got.epoch (jobs_after unrecorded change got.jobs)
    (Ends (Reports (beat_report w got.jobs))) again

-- A heartbeat after its get of the records. If there are no records, no attempt is live.
abbrev pub beat_by : (moment : ℕ) (w : LiveWorker) (got : Option Records) (again : ℕ → Course (StepEnd Beaten))
    → Course (StepEnd Beaten)
beat_by moment w None again = Ends (Reports (beat_report w []))
beat_by moment w (Some got) again = beat_of moment w got (live_attempts got.jobs w) again

-- One try of a heartbeat.
abbrev pub beat_try : (moment : ℕ) → LiveWorker → Try Beaten
beat_try moment w again = gets_records (λ got. beat_by moment w got again)

-- A heartbeat renews the leases of the worker's live attempts to the moment and publishes their
-- contexts. A worker without attempts calls nothing.
unfoldable pub heartbeat : ℕ → LiveWorker → Course (StepEnd Beaten)
heartbeat moment w =
    if is_nonempty w.attempts then tries (beat_try moment w) most_refused 0 else Ends (Reports (beat_report w []))

-- The release of these live attempts. The step puts the records if there is at least one, and then
-- goes on with the released jobs.
abbrev pub release_live : {A : Type 0} → (w : LiveWorker) (got : Records) (live : List Attempt)
    (next : List ℕ → Course (StepEnd A)) (again : ℕ → Course (StepEnd A)) → Course (StepEnd A)
release_live w got [] next again = next []
release_live w got (a ∷ live) next again =
    let change = Release w.number (named_attempts (a ∷ live)) in
    puts_records got change got.epoch (jobs_after (at_moment 0) change got.jobs) (next (attempt_jobs (a ∷ live))) again

-- A release after its get of the records. It gives back the live ones of these attempts, and none
-- if there are no records.
abbrev pub release_by : {A : Type 0} → (w : LiveWorker) (attempts : List Attempt) (got : Option Records)
    (next : List ℕ → Course (StepEnd A)) (again : ℕ → Course (StepEnd A)) → Course (StepEnd A)
release_by w attempts None next again = next []
release_by w attempts (Some got) next again =
    release_live w got (filter (is_live got.jobs w.number) attempts) next again

-- One try of a release.
abbrev pub release_try : {A : Type 0} → LiveWorker → List Attempt → (List ℕ → Course (StepEnd A)) → Try A
release_try w attempts next again = gets_records (λ got. release_by w attempts got next again)

-- A worker that stops gives back its live attempts and reports their jobs. A worker without
-- attempts calls nothing.
unfoldable pub release_all : LiveWorker → Course (StepEnd (List ℕ))
release_all w =
    if is_nonempty w.attempts then tries (release_try w w.attempts (λ released. Ends (Reports released))) most_refused 0
    else Ends (Reports [])
