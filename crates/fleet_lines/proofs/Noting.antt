-- The note that a party makes over the store of a fleet that is lent to it.
use Rattle.std.proofs.Common.{◌≡◌, refl, sym, ◌∙◌, ap, subst, ℕ, [], ◌∷◌, Bool, inr, Result, Ok, Err}
use Rattle.std.specs.Prelude.{IsOkUnless, IsTrue, OnOk}
use Rattle.row_model.specs.Fold.{Operator, IsLawful}
use Rattle.fleet_model.specs.History.{Event, is_get_or_put}
use Rattle.step_model.specs.LawfulTables.{PlainFits}
use Rattle.step_model.specs.Kept.Keeps.{Keeps}
use Rattle.step_model.specs.Courses.Course.{Ends, calls_each}
use Rattle.step_model.specs.Courses.CourseRuns.{Gives}
use Rattle.step_model.specs.Courses.Ran.{Ran}
use Rattle.step_model.specs.Views.{StoreView}
use Rattle.fleet_rows.specs.declared.errors.SlateDBError.{SlateDBError}
use Rattle.fleet_rows.specs.declared.errors.SlateDBError.TheVariants as error
use Rattle.fleet_history.specs.Entries.{event_of}
use Rattle.fleet_history.specs.Notes.{event_of_note}
use Rattle.fleet_history.specs.Parties.{party_of}
use Rattle.fleet_history.specs.declared.note.Note.{Note}
use Rattle.fleet_history.specs.declared.party.Party.{Party}
use Rattle.fleet_store.specs.Asks.{MayCall, Notes}
use Rattle.fleet_store.specs.Exchanges.{noted_exchange}
use Rattle.fleet_store.specs.Memory.{StoreParts}
use Rattle.fleet_store.specs.Under.{caller_of, view_of}
use Rattle.fleet_lines.specs.Steps.{Noted, at_line, note_event, nothing}
use Rattle.fleet_lines.proofs.NoteLines.{notes_keep, own_note}

-- A note is no get and no put.
unstruck : (comes : Bool) (p : Party) (e : Event) → e ≡ note_event comes p → IsTrue (is_get_or_put e) → ⊥
unstruck comes p e is counts = let none = (own_note comes p).unstruck in let same = ap is_get_or_put is in absurd (cc (none, same, counts))

module _ (merge mine : Operator) (number lent : ℕ) (p : Party) (comes : Bool) (note : Note) (old mid : StoreParts) (same : mine ≡ merge) (at : mid ≡ at_line number p old) (is : event_of (event_of_note note) ≡ note_event comes p) where
  -- The party may make the note.
  pub may_note : MayCall (view_of mine lent mid) (λ met. noted_exchange note)
  may_note = λ met rivals.
      subst (λ (e : Event). PlainFits (party_of mid.party) met.store e) (sym is)
      (subst (λ (m : StoreParts). PlainFits (party_of m.party) met.store (note_event comes p)) (sym at) ((own_note comes p).fits met.store))

  -- The note was made.
  pub noted_lent : (new : StoreParts) (last : StoreView) (done : Unit) → last.world ≡ new.world → last.waits ≡ new.waits → Notes (view_of mine lent mid) last note (Ok done) → Noted merge number p (note_event comes p ∷ []) old new
  noted_lent new last done world waits called = record {
    ran = subst (λ (e : Event). Ran (caller_of merge (at_line number p old)) (calls_each (e ∷ []) (Ends nothing)) old.world new.world old.waits new.waits (Gives nothing)) is
        (made (subst (λ (o : Operator). Notes (view_of o lent (at_line number p old)) last note (Ok done)) same (subst (λ (m : StoreParts). Notes (view_of mine lent m) last note (Ok done)) at called)));
  }
    where
      made : Notes (view_of merge lent (at_line number p old)) last note (Ok done) → Ran (caller_of merge (at_line number p old)) (calls_each (event_of (event_of_note note) ∷ []) (Ends nothing)) old.world new.world old.waits new.waits (Gives nothing)
      made called = (called.met, (called.rivals, inr (called.ended.1.room, (last.waits, (called.ended.1.spares, (sym called.ended.1.leaves ∙ world, ((λ alone. sym waits), refl)))))))

  -- If it was made, then it is noted.
  pub noted_if : (new : StoreParts) (last : StoreView) (result : Result Unit SlateDBError) → last.world ≡ new.world → last.waits ≡ new.waits → Notes (view_of mine lent mid) last note result → OnOk result (Noted merge number p (note_event comes p ∷ []) old new)
  noted_if new last (Ok done) world waits called = noted_lent new last done world waits called
  noted_if new last (Err e) world waits called = tt

  -- A note fails only for want of memory.
  pub note_fails : (last : StoreView) (result : Result Unit SlateDBError) → Notes (view_of mine lent mid) last note result → IsOkUnless result error.Memory
  note_fails last (Ok done) called = tt
  note_fails last (Err error.Memory) called = refl
  note_fails last (Err error.StoreFault) called = absurd (unstruck comes p (event_of (event_of_note note)) is called.ended.counts)
  note_fails last (Err (error.Conflict seen)) called = absurd called.ended.0
  note_fails last (Err (error.Fenced stored)) called = absurd called.ended
  note_fails last (Err error.NotOwner) called = absurd called.ended
  note_fails last (Err error.InvalidDBState) called = absurd called.ended
  note_fails last (Err error.InvalidCompaction) called = absurd called.ended
  note_fails last (Err (error.Generate message)) called = absurd called.ended
  note_fails last (Err (error.MergeOperator cause)) called = absurd called.ended
  note_fails last (Err error.IteratorNotInitialized) called = absurd called.ended
  note_fails last (Err error.IteratorFailed) called = absurd called.ended
  note_fails last (Err error.MergeOperatorMissing) called = absurd called.ended
  note_fails last (Err (error.InvalidSequenceOrder current after)) called = absurd called.ended
  note_fails last (Err (error.CompactionFilter cause)) called = absurd called.ended

-- The store keeps the invariant over a note that was made.
pub note_keeps : (merge : Operator) (number : ℕ) (p : Party) (comes : Bool) (old new : StoreParts) (result : Result Unit SlateDBError) → IsLawful merge → Keeps merge old.world → OnOk result (Noted merge number p (note_event comes p ∷ []) old new) → OnOk result (Keeps merge new.world)
note_keeps merge number p comes old new (Ok done) lawful kept noted = notes_keep merge number p (note_event comes p ∷ []) old new lawful kept (own_note comes p, tt) noted
note_keeps merge number p comes old new (Err e) lawful kept noted = tt
