-- What a sweep that is alone leaves.
use Rattle.std.proofs.Common.{◌≡◌, refl, sym, ◌∙◌, ap, subst, ℕ, List, [], ◌∷◌, ◌++◌, append_assoc, inl, inr, true, Option, None, Ok}
use Rattle.std.proofs.lemmas.List.{append-nil}
use Rattle.fleet_model.specs.Exchanges.{Exchange, Fault, Plain, ListsTables, DeletesTable}
use Rattle.fleet_model.specs.History.{GetManifest, GetRecords}
use Rattle.fleet_model.specs.Store.{Store}
use Rattle.fleet_model.specs.Sweeps.{swept_tables}
use Rattle.step_model.specs.Past.{World}
use Rattle.step_model.specs.Rivals.{Caller, after_call}
use Rattle.step_model.specs.Courses.Course.{Course, Ends, Calls}
use Rattle.step_model.specs.Courses.CourseRuns.{Gives}
use Rattle.step_model.specs.Courses.Ran.{Ran}
use Rattle.step_model.specs.Steps.SweepSteps.{deletes_each, sweep}
use Rattle.step_model.specs.Views.{StoreView}
use Rattle.step_laws.proofs.RanLaws.{only_met}
use Rattle.fleet_sweep.specs.Sweeps.{IsSwept, MaySweep, SweepRan}
use Rattle.fleet_sweep.proofs.Finding.{after_list, after_manifest, after_records}

-- The world in which a caller that is alone is after a call, with the fault that waits then.
abbrev Goes : {A : Type 0} → Caller → Course A → (mid new : World) → (left : Option Fault) → A → Type 0
Goes who rest mid new left answer = (waits : Option Fault) × Ran who rest mid new waits left (Gives answer)

goes_on : {A : Type 0} (who : Caller) (x : Exchange) (next : Store → Course A) (old new : World) (waits left : Option Fault) (answer : A) → who.alone ≡ true → Ran who (Calls x next) old new waits left (Gives answer)
    → Goes who (next old.store) (after_call who.line who.party x None old) new left answer
goes_on who x next old new waits left answer alone (met, (rivals, inl stops)) = absurd stops
goes_on who x next old new waits left answer alone (met, (rivals, inr (room, (mid, (spares, rest))))) =
    (mid, subst (λ (t : World). Ran who (next t.store) (after_call who.line who.party x None t) new mid left (Gives answer)) (sym (only_met who old met alone rivals)) rest)

-- The store after deletions of these tables.
record Deleted (ids : List ℕ) (old new : Store) : Type 0 where
  deleted : new.deleted ≡ old.deleted ++ ids
  manifest : new.manifest ≡ old.manifest
  records : new.records ≡ old.records
  tables : new.tables ≡ old.tables

-- Deletions one after the other delete these tables, and the answer is as given.
each_deleted : (who : Caller) (ids tables answer : List ℕ) (old new : World) (waits left : Option Fault) → who.alone ≡ true → Ran who (deletes_each ids (Ends tables)) old new waits left (Gives answer)
    → (answer ≡ tables) × Deleted ids old.store new.store
each_deleted who [] tables answer old new waits left alone (same, (waited, ends)) =
    (sym ends, subst (λ (t : World). Deleted [] old.store t.store) same (record { deleted = sym (append-nil old.store.deleted); manifest = refl; records = refl; tables = refl }))
each_deleted who (id ∷ ids) tables answer old new waits left alone ran =
    let one = goes_on who (DeletesTable id) (λ met. deletes_each ids (Ends tables)) old new waits left answer alone ran in
    let rest = each_deleted who ids tables answer (after_call who.line who.party (DeletesTable id) None old) new one.0 left alone one.1 in (
      rest.0,
      record {
        deleted = rest.1.deleted ∙ append_assoc old.store.deleted (id ∷ []) ids;
        manifest = rest.1.manifest;
        records = rest.1.records;
        tables = rest.1.tables;
      },
    )

-- A sweep that is alone and answers has deleted exactly the tables that nothing can need.
swept_by : (who : Caller) (pins answer : List ℕ) (old new : World) (waits left : Option Fault) → who.alone ≡ true → Ran who (sweep pins) old new waits left (Gives answer) → IsSwept pins answer old.store new.store
unfolding sweep
swept_by who pins answer old new waits left alone ran =
    let first = after_call who.line who.party (Plain GetManifest) None old in
    let second = after_call who.line who.party (Plain GetRecords) None first in
    let third = after_call who.line who.party ListsTables None second in
    let tables = swept_tables pins old.store in
    let one = goes_on who (Plain GetManifest) (λ met. after_manifest pins met.manifest) old new waits left answer alone ran in
    let two = goes_on who (Plain GetRecords) (λ met. after_records pins old.store.manifest met.records) first new one.0 left answer alone one.1 in
    let three = goes_on who ListsTables (after_list pins old.store.manifest first.store.records) second new two.0 left answer alone two.1 in
    let last = each_deleted who tables tables answer third new three.0 left alone three.1 in
    record {
      exact = last.0;
      deleted = last.1.deleted ∙ ap (λ ids. old.store.deleted ++ ids) (sym last.0);
      manifest = last.1.manifest;
      records = last.1.records;
      tables = last.1.tables;
    }

-- A sweep that answers has swept.
pub sweep_swept : (pins : List ℕ) (old new : StoreView) (tables : List ℕ) → MaySweep old → SweepRan pins old new (Ok tables) → IsSwept pins tables old.world.store new.world.store
sweep_swept pins old new tables may ran = swept_by old.who pins tables old.world new.world old.waits new.waits may.alone ran.to_end.ran
