-- The law on what a claim did that reports, over any store.
use Rattle.std.specs.Prelude.{◌≡◌, ℕ, ◌+◌, false, not, [], ◌∷◌, map, filter, Option, Some, None}
use Rattle.std.specs.List.{AllByRecursion}
use Rattle.fleet_model.specs.Jobs.{Job, Jobs, ids, job_with}
use Rattle.fleet_model.specs.History.{Worker, Claim}
use Rattle.fleet_model.specs.Store.{Records, Store, stored_jobs}
use Rattle.fleet_model.specs.Work.Attempts.{ClaimInput}
use Rattle.fleet_model.specs.Work.Records.{jobs_after}
use Rattle.fleet_model.specs.Work.Parties.{LiveWorker, runs_attempt, with_attempts, without_attempts}
use Rattle.fleet_model.specs.Work.Claims.{stopped_jobs, claimed_jobs, claimed_attempt}
use Rattle.fleet_model.specs.Exchanges.{Exchange, PutsRecords}
use Rattle.step_model.specs.Past.{World}
use Rattle.step_model.specs.Rivals.{Caller, Rivals, after_call}
use Rattle.step_model.specs.Kept.Keeps.{Keeps}
use Rattle.step_model.specs.Fits.{WorkerHolds}
use Rattle.step_model.specs.Courses.CourseRuns.{Gives, Runs}
use Rattle.step_model.specs.Courses.StepEnds.{Reports}
use Rattle.step_model.specs.Steps.ClaimSteps.{WorkerOptions, Claimed, at_moment, can_start, claim}
use Rattle.step_laws.specs.Runs.{CallsKeep}
use Rattle.course_laws.specs.Afterwards.{ComesAfter}

-- What a claim depends on that got the manifest of this store.
abbrev pub claim_input : (options : WorkerOptions) (moment : ℕ) (w : LiveWorker) (shown : Store) → ClaimInput
claim_input options moment w shown = record {
  release = w.release;
  manifest = shown.manifest;
  moment = moment;
  retention = options.retention;
  most = options.most_ranges;
  tables = shown.tables;
}

-- The put of the records by which a claim takes these jobs, over the records that it got.
abbrev pub claim_put : (moment : ℕ) (w : LiveWorker) (got : Records) (these : Jobs) → Exchange
claim_put moment w got these =
    let change = Claim w.number (map (λ job. (job.id, job.attempt + 1)) these) in
    PutsRecords got.version change got.epoch (jobs_after (at_moment moment) change got.jobs)

-- If the job cannot start under the manifest of this store, its attempt is not live there.
abbrev pub IsLost : LiveWorker → Store → Job → Type 0
IsLost w shown job = can_start shown.manifest job ≡ false
    → runs_attempt w.number (job.attempt + 1) (job_with job.id (stored_jobs shown)) ≡ false

-- A claim that took these jobs put the records that it got, and then got a manifest. It began an attempt at
-- each job that can start under this manifest, and released the others. Their attempts were lost by then.
pub record TookJobs (who : Caller) (options : WorkerOptions) (moment : ℕ) (w : LiveWorker) (found : World)
    (got : Records) (these : Jobs) (report : Claimed) : Type 0 where
  pub at : World
  pub after : ComesAfter found at
  pub stored : at.store.records ≡ Some got
  pub shown : World
  pub others : Rivals who (after_call who.line who.party (claim_put moment w got these) None at) shown
  pub begun : report.begun
      ≡ map (claimed_attempt (claim_input options moment w shown.store)) (filter (can_start shown.store.manifest) these)
  pub released : report.released ≡ ids (filter (λ job. not (can_start shown.store.manifest job)) these)
  pub lost : AllByRecursion (IsLost w shown.store) these

-- A claim that took no job put nothing, and began and released nothing.
abbrev pub TookThese : (who : Caller) (options : WorkerOptions) (moment : ℕ) (w : LiveWorker) (found : World)
    (got : Records) (these : Jobs) (report : Claimed) → Type 0
TookThese who options moment w found got [] report = (report.begun ≡ []) × (report.released ≡ [])
TookThese who options moment w found got (job ∷ jobs) report =
    TookJobs who options moment w found got (job ∷ jobs) report

-- A claim takes the jobs of its rule, if there are records.
abbrev pub TookOf : (who : Caller) (options : WorkerOptions) (moment : ℕ) (w : LiveWorker) (found : World)
    (got : Option Records) (report : Claimed) → Type 0
TookOf who options moment w found None report = (report.begun ≡ []) × (report.released ≡ [])
TookOf who options moment w found (Some got) report =
    TookThese who options moment w found got (claimed_jobs options.slots w got.jobs) report

-- A claim that reports found some records at its last try. It stopped and took exactly the jobs of its rule
-- by these records. It runs what it ran and did not stop, and the attempts that it began.
pub record ClaimDid (who : Caller) (options : WorkerOptions) (moment : ℕ) (w : LiveWorker) (old : World)
    (report : Claimed) : Type 0 where
  pub found : World
  pub after : ComesAfter old found
  pub stopped : report.stopped ≡ ids (stopped_jobs w (stored_jobs found.store))
  pub took : TookOf who options moment w found found.store.records report
  pub attempts : report.attempts ≡ with_attempts report.begun (without_attempts report.stopped w.attempts)

-- A claim of a worker that fits did so if it reports, if every lawful call keeps the invariant.
abbrev pub ClaimsReport : Type 0
ClaimsReport =
    (who : Caller) (old new : World) (options : WorkerOptions) (moment : ℕ) (w : LiveWorker) (report : Claimed)
    → CallsKeep who.merge → who.party ≡ Worker w.number → Keeps who.merge old → WorkerHolds who.merge old w
    → Runs who (claim options moment w) old new (Gives (Reports report))
    → ClaimDid who options moment w old report
