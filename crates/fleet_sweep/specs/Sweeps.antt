-- How a sweep ends, and when it may be made.
use Rattle.std.specs.Prelude.{◌≡◌, ℕ, ◌++◌, true, false, List, Option, Some, None, Result, Ok, Err}
use Rattle.fleet_model.specs.History.{Sweeper}
use Rattle.fleet_model.specs.Store.{Store}
use Rattle.fleet_model.specs.Sweeps.{swept_tables}
use Rattle.step_model.specs.Entries.{is_pending}
use Rattle.step_model.specs.Kept.Keeps.{Keeps}
use Rattle.step_model.specs.Courses.Course.{Course, Ends}
use Rattle.step_model.specs.Courses.CourseRuns.{End, Gives, MeetsFault, LacksMemory}
use Rattle.step_model.specs.LawfulRecords.{OfSome}
use Rattle.step_model.specs.Steps.SweepSteps.{deletes_each, sweep}
use Rattle.step_model.specs.Views.{StoreView}
use Rattle.fleet_rows.specs.declared.errors.SlateDBError.{SlateDBError}
use Rattle.fleet_rows.specs.declared.errors.SlateDBError.TheVariants.{StoreFault, Memory}
use Rattle.fleet_step.specs.Steps.{Leads, RunsTo}

-- The end of a run that the result of a sweep tells. Errors that are no end of a sweep tell none.
abbrev pub sweep_end : Result (List ℕ) SlateDBError → Option (End (List ℕ))
sweep_end (Ok tables) = Some (Gives tables)
sweep_end (Err StoreFault) = Some MeetsFault
sweep_end (Err Memory) = Some LacksMemory
sweep_end (Err _) = None

-- The rest of a sweep ran, and its result tells how the run ended.
pub record RestRan (rest : Course (List ℕ)) (old new : StoreView) (result : Result (List ℕ) SlateDBError) : Type 0 where
  pub to_end : OfSome (RunsTo rest old new) (sweep_end result)

-- A sweep that keeps these pins ran, and its result tells how the run ended. It answers the tables that it deleted.
abbrev pub SweepRan : (pins : List ℕ) → (old new : StoreView) → Result (List ℕ) SlateDBError → Type 0
SweepRan pins old new result = RestRan (sweep pins) old new result

-- The sweep has found the tables that it is to delete, or it has ended.
abbrev pub FindsSwept : (pins : List ℕ) → (old new : StoreView) → Result (List ℕ) SlateDBError → Type 0
FindsSwept pins old new (Ok tables) = Leads (sweep pins) old (deletes_each tables (Ends tables)) new
FindsSwept pins old new (Err error) = SweepRan pins old new (Err error)

-- A sweep may be made over this store: the entries carry the sweeper, nobody else calls the store, the store
-- meets the invariant, and no flush is about to bring a table to a tree.
pub record MaySweep (view : StoreView) : Type 0 where
  pub party : view.who.party ≡ Sweeper
  pub alone : view.who.alone ≡ true
  pub keeps : Keeps view.who.merge view.world
  pub none_pending : (table : ℕ) → is_pending view.world.store.history table ≡ false

-- The store after a sweep that deleted these tables: they are those that nothing can need, they are no longer held,
-- and the manifest, the records and all other tables are as before.
pub record IsSwept (pins swept : List ℕ) (old new : Store) : Type 0 where
  pub exact : swept ≡ swept_tables pins old
  pub deleted : new.deleted ≡ old.deleted ++ swept
  pub manifest : new.manifest ≡ old.manifest
  pub records : new.records ≡ old.records
  pub tables : new.tables ≡ old.tables
