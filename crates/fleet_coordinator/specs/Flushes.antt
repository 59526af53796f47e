-- How the writer flushes.
use Rattle.std.specs.Prelude.{◌≡◌, ◌≢◌, ◌⊎◌, ℕ, suc, Bool, true, false, IsTrue, [], Option, Some, None, Result, Ok, Err, ⊤}
use Rattle.fleet_model.specs.Exchanges.{PutsTable}
use Rattle.fleet_model.specs.Handles.{describe}
use Rattle.fleet_model.specs.History.{Writer}
use Rattle.fleet_model.specs.Nodes.{is_among, table_rows}
use Rattle.fleet_model.specs.Tracker.{least_seq_of}
use Rattle.fleet_model.specs.Trees.{greatest_seq}
use Rattle.step_model.specs.Courses.CourseRuns.{IsLawfulCourse}
use Rattle.step_model.specs.Steps.FlushSteps.{FlushAsk, flushes_from}
use Rattle.step_model.specs.Kept.Keeps.{Keeps}
use Rattle.step_model.specs.Courses.StepEnds as model
use Rattle.step_model.specs.Courses.StepEnds.{StepEnd, Reports, BadFlush, most_refused}
use Rattle.step_model.specs.Views.{StoreView}
use Rattle.fleet_rows.specs.Row.{rows_of}
use Rattle.fleet_rows.specs.declared.errors.SlateDBError.{SlateDBError}
use Rattle.fleet_rows.specs.declared.errors.SlateDBError.TheVariants.{Memory}
use Rattle.fleet_tree.specs.Handles.{handle_of}
use Rattle.fleet_tree.specs.Laws.{IsFlushed}
use Rattle.fleet_tree.specs.Views.{View}
use Rattle.fleet_tree.specs.declared.manifest.Manifest.{Manifest}
use Rattle.fleet_tree.specs.declared.manifest.VersionedManifest.{VersionedManifest}
use Rattle.fleet_store.specs.Asks.{MayCall, PutsTableRows}
use Rattle.fleet_coordinator.specs.declared.flushing.MadeFlush.{MadeFlush}
use Rattle.fleet_coordinator.specs.declared.flushing.FlushAsk as own
use Rattle.fleet_coordinator.specs.declared.flushing.FlushFault.{FlushFault}
use Rattle.fleet_coordinator.specs.declared.flushing.FlushFault.TheVariants.{Name, Segment, Order, Sequence, Floor, Tick}

-- The writer calls the store.
abbrev pub IsWriter : StoreView → Type 0
IsWriter view = view.who.party ≡ Writer

-- The model's fault of a flush.
abbrev pub fault_of : FlushFault → model.FlushFault
fault_of Name = model.BadName
fault_of Segment = model.BadSegment
fault_of Order = model.BadOrder
fault_of Sequence = model.BadSequence
fault_of Floor = model.BadFloor
fault_of Tick = model.BadTick

-- How a flush ends that answers this fault, or none.
abbrev pub ends : Option FlushFault → StepEnd ⊤
ends None = Reports tt
ends (Some fault) = BadFlush (fault_of fault)

-- The model's flush.
abbrev pub ask_of : own.FlushAsk → FlushAsk
ask_of ask =
    record { name = ask.name; segment = ask.segment; floor = ask.floor; tick = ask.tick; rows = rows_of ask.rows }

-- The same, once its table is made.
abbrev pub asked_of : MadeFlush → FlushAsk
asked_of flush =
    record { name = flush.name; segment = flush.segment; floor = flush.floor; tick = flush.tick; rows = flush.table }

-- The flush has rows, and keeps the least and the greatest sequence of them.
pub record HasSeqs (flush : MadeFlush) : Type 0 where
  pub some : flush.table ≢ []
  pub least : flush.least_seq ≡ least_seq_of flush.table
  pub greatest : greatest_seq None flush.table ≡ Some flush.greatest_seq

-- The table of the flush that was asked for is made.
pub record IsFlushOf (ask : FlushAsk) (flush : MadeFlush) : Type 0 where
  pub same : asked_of flush ≡ ask
  pub seqs : HasSeqs flush

-- The table of the flush is put, with its rows.
pub record IsPutTable (view : StoreView) (ask : FlushAsk) : Type 0 where
  pub there : IsTrue (is_among view.world.store.tables ask.name)
  pub rows : table_rows view.world.store.tables ask.name ≡ ask.rows

-- The table may be put, unless it is put already.
abbrev pub MayPutOnce : StoreView → FlushAsk → (is_put : Bool) → Type 0
MayPutOnce view ask true = ⊤
MayPutOnce view ask false = MayCall view (λ met. PutsTable ask.name ask.rows)

-- The table was put, unless it was put already or memory ran out first.
abbrev pub PutsOnce : (old new : StoreView) → FlushAsk → (is_put : Bool) → Result Unit SlateDBError → Type 0
PutsOnce old new ask true result = (new ≡ old) × (result ≡ Ok tt)
PutsOnce old new ask false result =
    PutsTableRows old new ask.name ask.rows result ⊎ ((new ≡ old) × (result ≡ Err Memory))

-- The put of the manifest brings the flush to the manifest that was got.
pub record IsFlushPut (moment retention : ℕ) (got : VersionedManifest) (flush : MadeFlush) (version : ℕ)
    (value : Manifest) : Type 0 where
  pub at : version ≡ got.id
  pub epoch : value.compactor_epoch ≡ got.manifest.compactor_epoch
  pub view : View
  pub name : view.id ≡ flush.name
  pub own : view.sst.id ≡ flush.name
  pub described : handle_of view.sst ≡ describe flush.name flush.table
  pub flushed : IsFlushed (record {
    segment = flush.segment;
    view = view;
    last_seq = flush.greatest_seq;
    least_seq = flush.least_seq;
    floor = flush.floor;
    tick = flush.tick;
    moment = moment;
    retention = retention;
  }) got.manifest.core value.core

-- The flush may begin its tries over this store: the store meets the invariant, and the tries are a lawful course.
pub record MayFlush (view : StoreView) (moment retention : ℕ) (ask : FlushAsk) : Type 0 where
  pub keeps : Keeps view.who.merge view.world
  pub lawful : IsLawfulCourse view.who view.world (flushes_from moment retention ask most_refused false 0)

-- The flush may make a try over this store. If its table was put, it is there.
pub record MayTry (view : StoreView) (moment retention : ℕ) (ask : FlushAsk) (is_put : Bool) : Type 0 where
  pub keeps : Keeps view.who.merge view.world
  pub left : ℕ
  pub lawful : IsLawfulCourse view.who view.world (flushes_from moment retention ask (suc left) is_put 0)
  pub held : is_put ≡ true → IsPutTable view ask
