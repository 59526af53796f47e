-- The law on heartbeats.
use Rattle.std.specs.Prelude.{◌≡◌, IsTrue, ℕ, Some}
use Rattle.std.specs.List.{AllByRecursion}
use Rattle.fleet_model.specs.History.{Worker}
use Rattle.fleet_model.specs.Work.Parties.{Attempt, LiveWorker, runs_attempt}
use Rattle.step_model.specs.Past.{World}
use Rattle.step_model.specs.Rivals.{Caller}
use Rattle.step_model.specs.Kept.Keeps.{Keeps}
use Rattle.step_model.specs.Fits.{WorkerHolds}
use Rattle.step_model.specs.Courses.CourseRuns.{Gives, Runs}
use Rattle.step_model.specs.Courses.StepEnds.{Reports}
use Rattle.step_model.specs.LawfulRecords.{IsStoredAs}
use Rattle.step_model.specs.Steps.BeatSteps.{Beaten, heartbeat}
use Rattle.step_laws.specs.Runs.{CallsKeep}
use Rattle.worker_laws.specs.After.{FitsAfter}

-- The job of the attempt is Running with the worker at the attempt, and the attempt's context is
-- published.
abbrev pub IsBeaten : World → ℕ → Attempt → Type 0
IsBeaten world worker a =
    IsStoredAs world a.job (λ job. IsTrue (runs_attempt worker a.number (Some job)) × (job.context ≡ Some a.context))

-- After a heartbeat that reports, each attempt that the worker runs is live and its context is
-- published. So the worker keeps no attempt that was not live.
abbrev pub AllAreBeaten : (who : Caller) (w : LiveWorker) (old : World) (moment : ℕ) → Type 0
AllAreBeaten who w old moment = (new : World) (report : Beaten)
    → Runs who (heartbeat moment w) old new (Gives (Reports report))
    → AllByRecursion (IsBeaten new w.number) report.attempts

-- A worker that fits also fits after its heartbeat, if every lawful call keeps the invariant. All
-- attempts that it keeps are beaten.
abbrev pub BeatsKeepFit : Type 0
BeatsKeepFit = (who : Caller) (old : World) (moment : ℕ) (w : LiveWorker) → CallsKeep who.merge
    → who.party ≡ Worker w.number → Keeps who.merge old → WorkerHolds who.merge old w
    → FitsAfter who w (λ (report : Beaten). report.attempts) old (heartbeat moment w) × AllAreBeaten who w old moment
