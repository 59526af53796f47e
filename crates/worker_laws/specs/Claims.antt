-- The law on claims.
use Rattle.std.specs.Prelude.{◌≡◌, ℕ, false, IsTrue, IfSome, ◌++◌, Some}
use Rattle.std.specs.List.{AllByRecursion}
use Rattle.fleet_model.specs.Jobs.{knows_cut, contains, job_with}
use Rattle.fleet_model.specs.History.{Worker}
use Rattle.fleet_model.specs.Store.{stored_jobs}
use Rattle.fleet_model.specs.Work.Attempts.{context_or}
use Rattle.fleet_model.specs.Work.Parties.{Attempt, LiveWorker, attempt_jobs, runs_attempt}
use Rattle.step_model.specs.Past.{World}
use Rattle.step_model.specs.Rivals.{Caller}
use Rattle.step_model.specs.Kept.Keeps.{Keeps}
use Rattle.step_model.specs.Fits.{WorkerHolds}
use Rattle.step_model.specs.Courses.CourseRuns.{Gives, Runs}
use Rattle.step_model.specs.Courses.StepEnds.{Reports}
use Rattle.step_model.specs.Steps.ClaimSteps.{WorkerOptions, Claimed, claim}
use Rattle.step_laws.specs.Runs.{CallsKeep}
use Rattle.worker_laws.specs.After.{FitsAfter}

-- If the attempt is live and its job has a published context, the attempt has this context. It then
-- has a cut exactly if the worker's release knows cuts.
abbrev pub TakesOver : World → LiveWorker → Attempt → Type 0
TakesOver world w a =
    IfSome (job_with a.job (stored_jobs world.store))
    (λ job. IsTrue (runs_attempt w.number a.number (Some job))
    → a.context ≡ context_or (knows_cut w.release) job.context a.context)

-- What is so of a claim's report: its attempts take over published contexts, and the worker runs no
-- job that it stopped or did not start.
pub record ClaimSays (world : World) (w : LiveWorker) (report : Claimed) : Type 0 where
  pub begun : AllByRecursion (TakesOver world w) report.begun
  pub idle : AllByRecursion (λ id. contains (attempt_jobs report.attempts) id ≡ false)
      (report.stopped ++ report.released)

-- A worker that fits also fits after its claim, if every lawful call keeps the invariant. The
-- attempts that it began are among those of the report.
abbrev pub ClaimsKeepFit : Type 0
ClaimsKeepFit = (who : Caller) (old : World) (options : WorkerOptions) (moment : ℕ) (w : LiveWorker)
    → CallsKeep who.merge → who.party ≡ Worker w.number → Keeps who.merge old → WorkerHolds who.merge old w
    → FitsAfter who w (λ (report : Claimed). report.attempts) old (claim options moment w)
    × ((new : World) (report : Claimed) → Runs who (claim options moment w) old new (Gives (Reports report))
    → ClaimSays new w report)
