-- How a worker claims jobs.
use Rattle.std.specs.Prelude.{◌≡◌, ℕ, true, false, nat_lt, not, if◌then◌else◌, List, [], ◌∷◌, filter, flat_map, map, Result, Ok, Err}
use Rattle.std.specs.List.{AllByRecursion}
use Rattle.std.specs.Option.{option_to_list}
use Rattle.fleet_model.specs.Work.Claims.{claimed_jobs, may_take, stopped_jobs}
use Rattle.fleet_model.specs.Exchanges.{Plain}
use Rattle.fleet_model.specs.History as model
use Rattle.fleet_model.specs.History.{GetManifest}
use Rattle.fleet_model.specs.Jobs.{Jobs, contains, ids}
use Rattle.fleet_model.specs.Work.Parties.{LiveWorker}
use Rattle.step_model.specs.Steps.ClaimSteps.{Claimed, WorkerOptions, starts_claimed}
use Rattle.step_model.specs.Courses.Course.{Course, Calls, Ends, calls_each}
use Rattle.step_model.specs.Courses.CourseRuns.{IsLawfulCourse}
use Rattle.step_model.specs.Courses.StepEnds.{StepEnd, Reports}
use Rattle.step_model.specs.Views.{StoreView}
use Rattle.fleet_jobs.specs.Parts.JobParts.{JobParts}
use Rattle.fleet_jobs.specs.Jobs.{job_of, jobs_of}
use Rattle.fleet_jobs.specs.Workers.{release_of}
use Rattle.fleet_book.specs.Records.{AreRising}
use Rattle.fleet_book.specs.VersionedRecords.{VersionedRecords}
use Rattle.fleet_history.specs.Changes.{record_change_of}
use Rattle.fleet_history.specs.declared.note.Note.{Note}
use Rattle.fleet_rows.specs.declared.errors.SlateDBError.{SlateDBError}
use Rattle.fleet_claim.specs.Beginnings.{AreStarts, noted_events}
use Rattle.fleet_claim.specs.Choices.{taken_records}
use Rattle.fleet_claim.specs.Puts.{ClaimsRecords, next_numbers}
use Rattle.fleet_claim.specs.declared.beginning.ClaimedAttempt.{ClaimedAttempt}
use Rattle.fleet_claim.specs.declared.beginning.Starts.{Starts}
use Rattle.fleet_tree.specs.declared.manifest.VersionedManifest.{VersionedManifest}
use Rattle.fleet_claim.specs.declared.options.CompactionWorkerOptions.{CompactionWorkerOptions}
use Rattle.fleet_step.specs.Steps.{Leads, TryRan}
use Rattle.fleet_worker.specs.Workers.{AttemptParts, WorkerParts, attempt_of, live_of, run_at}
use Rattle.fleet_worker.specs.declared.claim.ClaimPut.{ClaimPut}
use Rattle.fleet_worker.specs.declared.claim.ClaimReport.{ClaimReport}
use Rattle.fleet_worker.specs.declared.claim.ClaimStart.{ClaimStart}

-- ---- the attempts of the worker

-- The attempt that a claim begins, as the worker runs it.
abbrev pub parts_of : ClaimedAttempt → AttemptParts
parts_of a = record { job = a.job; number = a.number; sources = a.sources; tables = a.tables; ctx = a.ctx }

-- Inserts an attempt in front of the first attempt at a job with a greater id.
abbrev pub put_part : AttemptParts → List AttemptParts → List AttemptParts
put_part a [] = a ∷ []
put_part a (b ∷ attempts) = if nat_lt a.job b.job then a ∷ b ∷ attempts else b ∷ put_part a attempts

-- Inserts new attempts among the attempts, by their jobs.
abbrev pub with_parts : (new attempts : List AttemptParts) → List AttemptParts
with_parts [] attempts = attempts
with_parts (a ∷ new) attempts = with_parts new (put_part a attempts)

-- The attempts that are not at one of these jobs.
abbrev pub without_parts : List ℕ → List AttemptParts → List AttemptParts
without_parts jobs attempts = filter (λ a. not (contains jobs a.job)) attempts

-- The ids of the jobs of these attempts.
abbrev pub part_jobs : List AttemptParts → List ℕ
part_jobs attempts = map (λ a. a.job) attempts

-- The attempts that a worker runs after a claim that stopped these jobs and began these attempts.
abbrev pub next_parts : List ℕ → List ClaimedAttempt → List AttemptParts → List AttemptParts
next_parts stopped begun attempts = with_parts (map parts_of begun) (without_parts stopped attempts)

-- The attempts at these jobs, job by job.
abbrev pub attempts_at : List ℕ → List AttemptParts → List AttemptParts
attempts_at jobs attempts = flat_map (λ job. option_to_list (run_at attempts job)) jobs

-- ---- the end of a claim

-- The report of a claim after which the worker runs these attempts names as claimed exactly the jobs of the attempts
-- that began: the worker runs one at each.
abbrev pub NamesBegun : List AttemptParts → ClaimReport → Type 0
NamesBegun attempts report = part_jobs (attempts_at report.claimed attempts) ≡ report.claimed

-- The model's report of a claim after which the worker runs these attempts. It began those at the jobs that its report
-- names as claimed.
abbrev pub claimed_with : List AttemptParts → ClaimReport → Claimed
claimed_with attempts report = record {
  begun = map attempt_of (attempts_at report.claimed attempts);
  stopped = report.stopped;
  released = report.released;
  attempts = map attempt_of attempts;
}

-- The end of a claim after which the worker runs these attempts.
abbrev pub claim_ends : List AttemptParts → ClaimReport → StepEnd Claimed
claim_ends attempts report = Reports (claimed_with attempts report)

-- The end of a claim with this report and these attempts.
abbrev pub claim_ends_with : ClaimReport × List AttemptParts → StepEnd Claimed
claim_ends_with answer = claim_ends answer.1 answer.0

-- ---- the parts of a claim

-- The jobs that a claim takes over these records, and the ids of those that it stops.
pub record IsChoice (options : CompactionWorkerOptions) (w : WorkerParts) (jobs : List JobParts)
    (claimed : List JobParts) (stopped : List ℕ) : Type 0 where
  pub records : claimed ≡ taken_records options.max_concurrent_compactions (part_jobs w.attempts) w.release jobs
  pub takes : jobs_of claimed ≡ claimed_jobs options.max_concurrent_compactions (live_of w) (jobs_of jobs)
  pub stops : stopped ≡ ids (stopped_jobs (live_of w) (jobs_of jobs))
  pub rising : AreRising claimed

-- The put of a claim of these jobs.
pub record IsClaimPut (moment : ℕ) (w : WorkerParts) (got : VersionedRecords) (claimed : List JobParts)
    (put : ClaimPut) : Type 0 where
  pub at : put.version ≡ got.id
  pub change : record_change_of put.why ≡ model.Claim w.number (next_numbers claimed)
  pub made : ClaimsRecords w.number moment (next_numbers claimed) got.compactions put.value

-- The rest of a claim after its put: it gets the manifest, and the claimed jobs start under it.
abbrev pub after_put : (options : WorkerOptions) (moment : ℕ) (w : LiveWorker) (jobs : Jobs) (stopped : List ℕ)
    → Course (StepEnd Claimed)
after_put options moment w jobs stopped = Calls (Plain GetManifest) (λ met. starts_claimed (record {
  release = w.release;
  manifest = met.manifest;
  moment = moment;
  retention = options.retention;
  most = options.most_ranges;
  tables = met.tables;
}) w jobs stopped)

-- A worker of this release may take each of these jobs.
abbrev pub MayTakeAll : WorkerParts → List JobParts → Type 0
MayTakeAll w jobs = AllByRecursion (λ job. may_take (release_of w.release) (job_of job) ≡ true) jobs

-- The jobs rise, and the worker runs none of them.
pub record AreNew (w : WorkerParts) (jobs : List JobParts) : Type 0 where
  pub rising : AreRising jobs
  pub apart : AllByRecursion (λ job. contains (part_jobs w.attempts) job.id ≡ false) jobs

-- The claimed jobs start so under this manifest.
pub record IsClaimStart (options : CompactionWorkerOptions) (moment : ℕ) (w : WorkerParts)
    (manifest : VersionedManifest) (claimed : List JobParts) (stopped : List ℕ) (start : ClaimStart) : Type 0 where
  pub starts : Starts
  pub are : AreStarts w.release options moment manifest claimed starts
  pub plans : start.notes.items ≡ starts.notes.items
  pub reports : start.report
      ≡ record { claimed = map (λ a. a.job) starts.begun.items; stopped = stopped; released = starts.released.items }
  pub next : start.attempts ≡ next_parts stopped starts.begun.items w.attempts

-- The end of a claim that began nothing: it stopped these jobs.
pub record BeginsNothing (w : WorkerParts) (stopped : List ℕ) (report : ClaimReport)
    (attempts : List AttemptParts) : Type 0 where
  pub reports : report ≡ record { claimed = []; stopped = stopped; released = [] }
  pub left : attempts ≡ without_parts stopped w.attempts

-- ---- notes

-- The notes were made, one after the other, or one of them failed.
abbrev pub NotesEach : List Note → (old new : StoreView) → Result Unit SlateDBError → Type 0
NotesEach notes old new (Ok done) = (rest : Course (StepEnd Claimed))
    → Leads (calls_each (noted_events notes) rest) old rest new
NotesEach notes old new (Err error) =
    (rest : Course (StepEnd Claimed)) (again : ℕ → Course (StepEnd Claimed))
    → TryRan claim_ends_with (calls_each (noted_events notes) rest) again old new (Err error)

-- The notes may be made whatever calls of others come in between.
abbrev pub MayNoteEach : List Note → StoreView → Type 0
MayNoteEach notes view =
    (answer : StepEnd Claimed) × IsLawfulCourse view.who view.world (calls_each (noted_events notes) (Ends answer))
