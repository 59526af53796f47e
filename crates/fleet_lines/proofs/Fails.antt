-- Steps that failed, and the parties that are live after them.
use Rattle.std.proofs.Common.{◌≡◌, refl, subst, ℕ, Some, Err}
use Rattle.row_model.specs.Fold.{Operator}
use Rattle.fleet_model.specs.Work.Parties.{Parties}
use Rattle.step_model.specs.LawfulRecords.{OfSome}
use Rattle.step_model.specs.Courses.Course.{Course}
use Rattle.step_model.specs.Courses.CourseRuns.{End, Gives, MeetsFault, LacksMemory}
use Rattle.step_model.specs.Courses.Ran.{Ran}
use Rattle.step_model.specs.Courses.StepEnds.{StepEnd, GivesUp, Fenced, NotOwner, NoRecords, Invalid, Declined, OperatorRefuses}
use Rattle.fleet_rows.specs.declared.errors.MergeOperatorError.TheVariants as merge_error
use Rattle.fleet_rows.specs.declared.errors.SlateDBError.{SlateDBError}
use Rattle.fleet_rows.specs.declared.errors.SlateDBError.TheVariants as error
use Rattle.fleet_history.specs.declared.party.Party.{Party}
use Rattle.fleet_store.specs.Memory.{StoreParts}
use Rattle.fleet_store.specs.Under.{caller_of}
use Rattle.fleet_step.specs.Steps.{end_of}
use Rattle.fleet_coordinator.proofs.RecordPuts.{same_error}
use Rattle.fleet_lines.specs.Steps.{Made, at_line}
use Rattle.fleet_lines.proofs.Made.{live_after}

-- A step that failed ended alike, whatever its answer would have been.
pub failed_alike : {A B C : Type 0} (ends : A → StepEnd C) (others : B → StepEnd C) (course : Course (StepEnd C)) (merge : Operator) (number : ℕ) (p : Party) (old new : StoreParts) (e : SlateDBError) → Made ends course merge number p old new (Err e) → Made others course merge number p old new (Err e)
failed_alike ends others course merge number p old new e made = record { ran = subst (OfSome (Ran (caller_of merge (at_line number p old)) course old.world new.world old.waits new.waits)) (same_error ends others e) made.ran }

-- After a step that failed those parties are live that are so after a refusal, if a fault leaves the same ones.
pub failed_live : {A B : Type 0} (ends : A → StepEnd B) (reported : B → Parties) (gone : Parties) (e : SlateDBError) (end : End (StepEnd B)) → end_of ends (Err e) ≡ Some end → live_after reported gone gone end ≡ gone
failed_live {A} {B} ends reported gone e end is = by e is
  where
    the_end : (a b : End (StepEnd B)) → Some a ≡ Some b → a ≡ b
    the_end a b e = cc e

    at : (a : End (StepEnd B)) → live_after reported gone gone a ≡ gone → Some a ≡ Some end → live_after reported gone gone end ≡ gone
    at a live same = subst (λ (x : End (StepEnd B)). live_after reported gone gone x ≡ gone) (the_end a end same) live

    by : (e : SlateDBError) → end_of ends (Err e) ≡ Some end → live_after reported gone gone end ≡ gone
    by error.StoreFault is = at MeetsFault refl is
    by error.Memory is = at LacksMemory refl is
    by (error.Conflict seen) is = at (Gives (GivesUp seen)) refl is
    by (error.Fenced stored) is = at (Gives (Fenced stored)) refl is
    by error.NotOwner is = at (Gives NotOwner) refl is
    by error.InvalidDBState is = at (Gives NoRecords) refl is
    by error.InvalidCompaction is = at (Gives Invalid) refl is
    by (error.Generate message) is = at (Gives (Declined message)) refl is
    by (error.MergeOperator (merge_error.Callback message)) is = at (Gives (OperatorRefuses message)) refl is
    by (error.MergeOperator merge_error.EmptyBatch) is = absurd (cc is)
    by (error.MergeOperator merge_error.Memory) is = absurd (cc is)
    by error.IteratorNotInitialized is = absurd (cc is)
    by error.IteratorFailed is = absurd (cc is)
    by error.MergeOperatorMissing is = absurd (cc is)
    by (error.InvalidSequenceOrder current after) is = absurd (cc is)
    by (error.CompactionFilter cause) is = absurd (cc is)
