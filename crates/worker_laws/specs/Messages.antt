-- The laws on what a worker holds after messages about its attempts.
use Rattle.std.specs.Prelude.{◌≡◌, ℕ, false, IfSome, List, ◌++◌}
use Rattle.std.specs.List.{AllZip, AllByRecursion}
use Rattle.row_model.specs.Lists.{IsPrefixOf}
use Rattle.row_model.specs.Fold.{Operator}
use Rattle.row_model.specs.Ranges.{Range}
use Rattle.fleet_model.specs.Jobs.{Context}
use Rattle.fleet_model.specs.History.{Worker}
use Rattle.fleet_model.specs.Store.{stored_jobs}
use Rattle.fleet_model.specs.Work.Attempts.{range_rows, noted_rows}
use Rattle.fleet_model.specs.Work.Parties.{Attempt, LiveWorker, is_live}
use Rattle.step_model.specs.Past.{World}
use Rattle.step_model.specs.Rivals.{Caller}
use Rattle.step_model.specs.Kept.Keeps.{Keeps}
use Rattle.step_model.specs.Fits.{WorkerHolds}
use Rattle.step_model.specs.Courses.CourseRuns.{Gives, Runs}
use Rattle.step_model.specs.Courses.StepEnds.{Reports}
use Rattle.step_model.specs.Steps.FinishSteps.{FinishedJob}
use Rattle.step_model.specs.Steps.MessageSteps.{attempt_run, take_finished, take_failed, take_progress}
use Rattle.step_laws.specs.Runs.{CallsKeep}
use Rattle.course_laws.specs.Messages.{IsUnused, ResultFits}
use Rattle.worker_laws.specs.After.{FitsAfter}
use Rattle.worker_laws.specs.FinishReports.{FinishDid}

-- The range stays, and unused tables are noted after its old ones. Together they have the first rows that
-- the range makes.
pub record GoesOn (merge : Operator) (world : World) (w : LiveWorker) (a : Attempt) (old now : Range × List ℕ)
    : Type 0 where
  pub range : now.0 ≡ old.0
  pub new : List ℕ
  pub begins : now.1 ≡ old.1 ++ new
  pub unused : AllByRecursion (IsUnused world w) new
  pub first : IsPrefixOf (noted_rows world.store.tables now.1)
      (range_rows merge world.store.tables a.context.settings a.sources now.0).rows

-- A context is progress of an attempt if it has the attempt's settings and each of its ranges goes on.
pub record ProgressFits (merge : Operator) (world : World) (w : LiveWorker) (context : Context) (a : Attempt)
    : Type 0 where
  pub settings : context.settings ≡ a.context.settings
  pub has_cut : context.has_cut ≡ a.context.has_cut
  pub ranges : AllZip (GoesOn merge world w a) a.context.ranges context.ranges

-- After a message that an attempt failed, the attempt is not live if the step reports.
abbrev pub EndsLive : World → LiveWorker → Attempt → Type 0
EndsLive new w a = is_live (stored_jobs new.store) w.number a ≡ false

-- A worker that fits also fits after the steps by which it takes messages, if every lawful call keeps the
-- invariant. The result of an attempt that the worker runs must be whole, and progress of it must fit. An
-- attempt that finished ends as after a finish, and one that failed is not live any more.
pub record MessagesKeepFit : Type 0 where
  pub finished : (who : Caller) (old : World) (moment : ℕ) (w : LiveWorker) (job number : ℕ) (result : List (List ℕ))
      → CallsKeep who.merge → who.party ≡ Worker w.number → Keeps who.merge old
      → WorkerHolds who.merge old w → IfSome (attempt_run w job number) (ResultFits who.merge old w result)
      → FitsAfter who w (λ (report : FinishedJob). report.attempts) old (take_finished moment w job number result)
      × ((new : World) (report : FinishedJob)
      → Runs who (take_finished moment w job number result) old new (Gives (Reports report))
      → IfSome (attempt_run w job number) (λ a. FinishDid who moment w a new report))
  pub failed : (who : Caller) (old : World) (w : LiveWorker) (job number : ℕ) → CallsKeep who.merge
      → who.party ≡ Worker w.number → Keeps who.merge old → WorkerHolds who.merge old w
      → FitsAfter who w (λ (attempts : List Attempt). attempts) old (take_failed w job number)
      × ((new : World) (attempts : List Attempt)
      → Runs who (take_failed w job number) old new (Gives (Reports attempts))
      → IfSome (attempt_run w job number) (EndsLive new w))
  pub progress : (who : Caller) (old : World) (w : LiveWorker) (job number : ℕ) (context : Context)
      → Keeps who.merge old → WorkerHolds who.merge old w
      → IfSome (attempt_run w job number) (ProgressFits who.merge old w context)
      → FitsAfter who w (λ (attempts : List Attempt). attempts) old (take_progress w job number context)
