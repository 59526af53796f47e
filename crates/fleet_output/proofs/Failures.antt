-- Which errors gets and puts of tables give.
use Rattle.std.proofs.Common.{◌≡◌, ◌≢◌, refl, ap, ℕ, inl, inr, List, [], ◌∷◌, None, Err}
use Rattle.std.specs.Prelude.{◌⊎◌}
use Rattle.row_model.specs.Rows.{Row}
use Rattle.fleet_model.specs.Exchanges.{Exchange}
use Rattle.fleet_model.specs.Store.{Store}
use Rattle.step_model.specs.Views.{StoreView}
use Rattle.fleet_rows.specs.declared.errors.SlateDBError.{SlateDBError}
use Rattle.fleet_rows.specs.declared.errors.SlateDBError.TheVariants.{IteratorNotInitialized, IteratorFailed, MergeOperatorMissing, InvalidSequenceOrder, MergeOperator, CompactionFilter, InvalidCompaction, InvalidDBState, Fenced, StoreFault, NotOwner, Conflict, Generate, Memory}
use Rattle.fleet_store.specs.Asks.{PutsTableRows}
use Rattle.fleet_store.specs.Called.{Called, Never}
use Rattle.fleet_step.specs.Steps.{refused_at}
use Rattle.fleet_output.specs.Gets.{FailsNext, GotUntil}
use Rattle.fleet_output.specs.Puts.{PutsNew}

-- A fault struck a call, or memory ran out.
abbrev pub IsStopped : SlateDBError → Type 0
IsStopped e = (e ≡ StoreFault) ⊎ (e ≡ Memory)

-- A call that is never refused fails only so.
call_stops : {A : Type 0} {old new : StoreView} {x : Store → Exchange} {P : Store → A → Type 0} (e : SlateDBError) → Called old new x P Never (Err e) → IsStopped e
call_stops StoreFault called = inl refl
call_stops Memory called = inr refl
call_stops (Conflict seen) called = absurd called.ended.0
call_stops IteratorNotInitialized called = absurd called.ended
call_stops IteratorFailed called = absurd called.ended
call_stops MergeOperatorMissing called = absurd called.ended
call_stops (InvalidSequenceOrder current after) called = absurd called.ended
call_stops (MergeOperator error) called = absurd called.ended
call_stops (CompactionFilter error) called = absurd called.ended
call_stops InvalidCompaction called = absurd called.ended
call_stops InvalidDBState called = absurd called.ended
call_stops (Fenced stored) called = absurd called.ended
call_stops NotOwner called = absurd called.ended
call_stops (Generate message) called = absurd called.ended

-- So do the gets of tables.
pub gets_stop : (ids : List ℕ) (old new : StoreView) (e : SlateDBError) → GotUntil ids old new e → IsStopped e
gets_stop ids old new e until = by until.later until.stopped
  where
    by : (later : List ℕ) → FailsNext later until.mid new e ⊎ ((e ≡ Memory) × (new ≡ until.mid)) → IsStopped e
    by [] (inl none) = absurd none
    by (id ∷ later) (inl called) = call_stops e called
    by later (inr (memory, same)) = inr memory

-- So does the put of a table.
pub puts_stop : (moment : ℕ) (rows : List Row) (old new : StoreView) (e : SlateDBError) → PutsNew moment rows old new (Err e) → IsStopped e
puts_stop moment rows old new e (inl (memory, same)) = inr memory
puts_stop moment rows old new e (inr (inl called)) = call_stops e called
puts_stop moment rows old new e (inr (inr failed)) = by failed.stopped
  where
    by : PutsTableRows failed.mid new failed.id rows (Err e) ⊎ ((e ≡ Memory) × (new ≡ failed.mid)) → IsStopped e
    by (inl called) = call_stops e called
    by (inr (memory, same)) = inr memory

-- None of these is a refused put.
pub none_refused : (A : Type 0) (e : SlateDBError) → IsStopped e → refused_at {A = A} (Err e) ≡ None
none_refused A e (inl same) = ap (λ e. refused_at {A = A} (Err e)) same
none_refused A e (inr same) = ap (λ e. refused_at {A = A} (Err e)) same

-- An error is out of memory or another one.
pub memory_or : (e : SlateDBError) → (e ≡ Memory) ⊎ (e ≢ Memory)
memory_or Memory = inl refl
memory_or StoreFault = inr (λ e. cc e)
memory_or (Conflict seen) = inr (λ e. cc e)
memory_or IteratorNotInitialized = inr (λ e. cc e)
memory_or IteratorFailed = inr (λ e. cc e)
memory_or MergeOperatorMissing = inr (λ e. cc e)
memory_or (InvalidSequenceOrder current after) = inr (λ e. cc e)
memory_or (MergeOperator error) = inr (λ e. cc e)
memory_or (CompactionFilter error) = inr (λ e. cc e)
memory_or InvalidCompaction = inr (λ e. cc e)
memory_or InvalidDBState = inr (λ e. cc e)
memory_or (Fenced stored) = inr (λ e. cc e)
memory_or NotOwner = inr (λ e. cc e)
memory_or (Generate message) = inr (λ e. cc e)
