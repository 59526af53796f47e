-- The laws on messages about a worker's attempts.
use Rattle.std.specs.Prelude.{◌≡◌, ℕ, false, true, IsTrue, IfSome, List, ◌++◌}
use Rattle.std.specs.List.{AllZip, AllByRecursion}
use Rattle.row_model.specs.Fold.{Operator}
use Rattle.row_model.specs.Ranges.{Range}
use Rattle.fleet_model.specs.Jobs.{Context, contains}
use Rattle.fleet_model.specs.History.{Worker}
use Rattle.fleet_model.specs.Store.{is_held}
use Rattle.fleet_model.specs.Work.Attempts.{range_rows, noted_rows}
use Rattle.fleet_model.specs.Work.Parties.{Attempt, LiveWorker}
use Rattle.step_model.specs.Past.{World}
use Rattle.step_model.specs.Rivals.{Caller}
use Rattle.step_model.specs.Kept.Keeps.{Keeps}
use Rattle.step_model.specs.Fits.{WorkerHolds, noted_tables}
use Rattle.step_model.specs.Steps.MessageSteps.{attempt_run, take_finished, take_failed, take_progress}
use Rattle.step_model.specs.Courses.CourseRuns.{IsLawfulCourse}
use Rattle.step_laws.specs.Runs.{CallsKeep}
use Rattle.rival_laws.specs.Free.{IsFree}

-- The worker put the table under a drawn id, the table is held, nothing names it, and the worker has
-- noted it for none of its attempts.
pub record IsUnused (world : World) (w : LiveWorker) (table : ℕ) : Type 0 where
  pub free : IsFree (Worker w.number) world table
  pub held : IsTrue (is_held world.store table)
  pub unnoted : AllByRecursion (λ b. contains (noted_tables b) table ≡ false) w.attempts

-- The tables of a range begin with those that the attempt has noted for it. The others are unused.
-- Together they have all rows that the range makes, and the operator refuses no fold of them.
pub record IsWhole (merge : Operator) (world : World) (w : LiveWorker) (a : Attempt) (range : Range × List ℕ)
    (tables : List ℕ) : Type 0 where
  pub new : List ℕ
  pub begins : tables ≡ range.1 ++ new
  pub unused : AllByRecursion (IsUnused world w) new
  pub rows : (range_rows merge world.store.tables a.context.settings a.sources range.0).rows
      ≡ noted_rows world.store.tables tables
  pub refuses_none : (range_rows merge world.store.tables a.context.settings a.sources range.0).whole ≡ true

-- The result of an attempt has one list of tables for each of its ranges, and each is whole.
abbrev pub ResultFits : (merge : Operator) (world : World) (w : LiveWorker) (result : List (List ℕ)) (a : Attempt)
    → Type 0
ResultFits merge world w result a = AllZip (IsWhole merge world w a) a.context.ranges result

-- The step by which a worker that fits takes a message about an attempt is a lawful course, if every
-- lawful call keeps the invariant. The result of an attempt that the worker runs must be whole.
pub record MessagesAreLawful : Type 0 where
  pub finished : (who : Caller) (world : World) (moment : ℕ) (w : LiveWorker) (job number : ℕ) (result : List (List ℕ))
      → CallsKeep who.merge → who.party ≡ Worker w.number → Keeps who.merge world
      → WorkerHolds who.merge world w → IfSome (attempt_run w job number) (ResultFits who.merge world w result)
      → IsLawfulCourse who world (take_finished moment w job number result)
  pub failed : (who : Caller) (world : World) (w : LiveWorker) (job number : ℕ) → who.party ≡ Worker w.number
      → IsLawfulCourse who world (take_failed w job number)
  pub progress : (who : Caller) (world : World) (w : LiveWorker) (job number : ℕ) (context : Context)
      → IsLawfulCourse who world (take_progress w job number context)
