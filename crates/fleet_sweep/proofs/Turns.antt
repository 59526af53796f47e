-- The turns of a sweep: what its answers cite, exit by exit.
use Rattle.std.proofs.Common.{ℕ, List, Option, Some, None, Result, Ok, Err}
use Rattle.fleet_model.specs.Exchanges.{Exchange}
use Rattle.fleet_model.specs.Store.{Store}
use Rattle.step_model.specs.Courses.Course.{Course, Ends, Calls}
use Rattle.step_model.specs.LawfulRecords.{OfSome}
use Rattle.step_model.specs.Views.{StoreView}
use Rattle.fleet_rows.specs.declared.errors.SlateDBError.{SlateDBError}
use Rattle.fleet_rows.specs.declared.errors.SlateDBError.TheVariants.{IteratorNotInitialized, IteratorFailed, MergeOperatorMissing, InvalidSequenceOrder, MergeOperator, CompactionFilter, InvalidCompaction, InvalidDBState, StoreFault, Conflict, Fenced, NotOwner, Generate, Memory}
use Rattle.fleet_store.specs.Called.{Called, Never}
use Rattle.fleet_step.specs.Steps.{Leads, RunsTo}
use Rattle.fleet_step.proofs.Steps.{gives, lacks, not_made_runs, struck_runs, then_runs}
use Rattle.fleet_sweep.specs.Sweeps.{RestRan, sweep_end}

some_map : {A : Type 0} (P Q : A → Type 0) → ((x : A) → P x → Q x) → (o : Option A) → OfSome P o → OfSome Q o
some_map P Q f None p = absurd p
some_map P Q f (Some x) p = f x p

-- What a sweep does from here on, after what it did so far.
pub then_rest : {course rest : Course (List ℕ)} {old mid new : StoreView} {result : Result (List ℕ) SlateDBError} → Leads course old rest mid → RestRan rest mid new result → RestRan course old new result
then_rest {course = course} {rest = rest} {old = old} {mid = mid} {new = new} {result = result} lead ran =
    record { to_end = some_map (RunsTo rest mid new) (RunsTo course old new) (λ end runs. then_runs lead runs) (sweep_end result) ran.to_end }

-- It ends here, and answers these tables.
pub answers : (tables : List ℕ) (view : StoreView) → RestRan (Ends tables) view view (Ok tables)
answers tables view = record { to_end = gives tables view }

-- Memory may run out anywhere.
pub wants : (rest : Course (List ℕ)) (view : StoreView) → RestRan rest view view (Err Memory)
wants rest view = record { to_end = lacks rest view }

-- A call that fails ends it.
pub fails : {C : Type 0} {x : Exchange} {old new : StoreView} {P : Store → C → Type 0} (e : SlateDBError) → Called old new (λ met. x) P Never (Err e) → (next : Store → Course (List ℕ)) → RestRan (Calls x next) old new (Err e)
fails {x = x} {old = old} {new = new} StoreFault called next = record { to_end = struck_runs x next old new called.same called.rise called.met called.rivals called.ended }
fails {x = x} {old = old} {new = new} Memory called next = record { to_end = not_made_runs x next old new called.same called.rise called.met called.rivals called.ended }
fails (Conflict seen) called next = absurd called.ended.0
fails IteratorNotInitialized called next = absurd called.ended
fails IteratorFailed called next = absurd called.ended
fails MergeOperatorMissing called next = absurd called.ended
fails (InvalidSequenceOrder current after) called next = absurd called.ended
fails (MergeOperator error) called next = absurd called.ended
fails (CompactionFilter error) called next = absurd called.ended
fails InvalidCompaction called next = absurd called.ended
fails InvalidDBState called next = absurd called.ended
fails (Fenced stored) called next = absurd called.ended
fails NotOwner called next = absurd called.ended
fails (Generate message) called next = absurd called.ended
