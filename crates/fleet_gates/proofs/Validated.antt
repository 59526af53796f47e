-- What the result of `validate` says.
use Rattle.std.proofs.Common.{◌≡◌, refl, sym, ◌∙◌, ap, subst, Bool, false}
use Rattle.std.specs.Prelude.{Result, Err}
use Rattle.fleet_rows.specs.declared.errors.SlateDBError.{SlateDBError}
use Rattle.fleet_rows.specs.declared.errors.SlateDBError.TheVariants.{IteratorNotInitialized, IteratorFailed, MergeOperatorMissing, InvalidSequenceOrder, MergeOperator, CompactionFilter, InvalidCompaction, InvalidDBState, Fenced, StoreFault, NotOwner, Conflict, Generate, Memory}
use Rattle.fleet_sched.specs.Answers.{Validates}

pub refused : (accepted : Bool) (r : Result (Unit {0}) SlateDBError) (e : SlateDBError) → Validates accepted r → r ≡ Err e → e ≡ InvalidCompaction → false ≡ accepted
refused accepted r e says is same = sym (subst (Validates accepted) (is ∙ ap Err same) says)

-- A scheduler's error that is no verdict is out of memory.
only_memory : (accepted : Bool) (e : SlateDBError) → Validates accepted (Err e) → (e ≡ InvalidCompaction → ⊥) → e ≡ Memory
only_memory accepted InvalidCompaction says not = absurd (not refl)
only_memory accepted IteratorNotInitialized says not = says
only_memory accepted IteratorFailed says not = says
only_memory accepted MergeOperatorMissing says not = says
only_memory accepted (InvalidSequenceOrder current next) says not = says
only_memory accepted (MergeOperator inner) says not = says
only_memory accepted (CompactionFilter inner) says not = says
only_memory accepted InvalidDBState says not = says
only_memory accepted (Fenced stored) says not = says
only_memory accepted StoreFault says not = says
only_memory accepted NotOwner says not = says
only_memory accepted (Conflict seen) says not = says
only_memory accepted (Generate message) says not = says
only_memory accepted Memory says not = says

pub not_refused : (accepted : Bool) (r : Result (Unit {0}) SlateDBError) (e : SlateDBError) → Validates accepted r → r ≡ Err e → (e ≡ InvalidCompaction → ⊥) → e ≡ Memory
not_refused accepted r e says is not = only_memory accepted e (subst (Validates accepted) is says) not
