-- The laws on what heartbeats and releases did that report, over any store.
use Rattle.std.specs.Prelude.{◌≡◌, ℕ, List}
use Rattle.fleet_model.specs.History.{Worker}
use Rattle.fleet_model.specs.Store.{stored_jobs}
use Rattle.fleet_model.specs.Work.Parties.{LiveWorker, attempt_jobs, live_attempts, not_owned}
use Rattle.step_model.specs.Past.{World}
use Rattle.step_model.specs.Rivals.{Caller}
use Rattle.step_model.specs.Kept.Keeps.{Keeps}
use Rattle.step_model.specs.Fits.{WorkerHolds}
use Rattle.step_model.specs.Courses.CourseRuns.{Gives, Runs}
use Rattle.step_model.specs.Courses.StepEnds.{Reports}
use Rattle.step_model.specs.Steps.BeatSteps.{Beaten, heartbeat, release_all}
use Rattle.step_laws.specs.Runs.{CallsKeep}
use Rattle.course_laws.specs.Afterwards.{ComesAfter}

-- A heartbeat that reports found some records at its last try. It named exactly the attempts that were live by
-- these records, and the worker runs them on. It stopped exactly the others.
pub record BeatDid (w : LiveWorker) (old : World) (report : Beaten) : Type 0 where
  pub found : World
  pub after : ComesAfter old found
  pub beat : report.beat ≡ attempt_jobs (live_attempts (stored_jobs found.store) w)
  pub not_owner : report.not_owner ≡ attempt_jobs (not_owned (stored_jobs found.store) w)
  pub attempts : report.attempts ≡ live_attempts (stored_jobs found.store) w

-- A release that reports gave back exactly the attempts that were live by the records of its last try.
pub record ReleaseDid (w : LiveWorker) (old : World) (released : List ℕ) : Type 0 where
  pub found : World
  pub after : ComesAfter old found
  pub gave : released ≡ attempt_jobs (live_attempts (stored_jobs found.store) w)

-- They did so, if every lawful call keeps the invariant. The worker that sends a heartbeat fits.
pub record BeatsReport : Type 0 where
  pub beats : (who : Caller) (old new : World) (moment : ℕ) (w : LiveWorker) (report : Beaten)
      → CallsKeep who.merge → who.party ≡ Worker w.number → Keeps who.merge old → WorkerHolds who.merge old w
      → Runs who (heartbeat moment w) old new (Gives (Reports report)) → BeatDid w old report
  pub releases : (who : Caller) (old new : World) (w : LiveWorker) (released : List ℕ)
      → CallsKeep who.merge → who.party ≡ Worker w.number → Keeps who.merge old
      → Runs who (release_all w) old new (Gives (Reports released)) → ReleaseDid w old released
