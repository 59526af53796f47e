-- Puts for a version that was got: if that version is still stored, then so is the value.
use Rattle.std.proofs.Common.{◌≡◌, refl, sym, ◌∙◌, ap, subst, ℕ, List, [], ◌∷◌, cond, Bool, true, false, Option, Some}
use Rattle.std.specs.Prelude.{IsTrue, ◌&&◌, filter, is_some}
use Rattle.std.specs.List.{AllByRecursion}
use Rattle.row_model.specs.Fold.{Operator}
use Rattle.fleet_model.specs.History.{Party, Writer, Submitter, Coordinator, Worker, Sweeper, Event, Entry, stood, RecordChange}
use Rattle.fleet_model.specs.Store.{Records, jobs_in}
use Rattle.fleet_model.specs.Work.Records.{Unrecorded, jobs_after}
use Rattle.fleet_model.specs.Past.Replay.{epoch_after}
use Rattle.fleet_model.specs.Exchanges.{records_version}
use Rattle.step_model.specs.Past.{World}
use Rattle.step_model.specs.Entries.{party_eq, did_event}
use Rattle.step_model.specs.LawfulRecords.{RecordsFit, ChangeFits, may_make}
use Rattle.step_laws.proofs.Elements.{any_front, is_itself}
use Rattle.course_laws.proofs.Later.{Later}

pub party_itself : (party : Party) → party_eq party party ≡ true
party_itself Writer = refl
party_itself Submitter = refl
party_itself Sweeper = refl
party_itself (Coordinator n) = is_itself n
party_itself (Worker n) = is_itself n

-- What a party did, it did later too.
pub did_later : (is : Event → Bool) (party : Party) (old new : World) → Later old new → IsTrue (did_event is party old.store.history) → IsTrue (did_event is party new.store.history)
did_later is party old new later h =
    subst (λ (history : List Entry). IsTrue (did_event is party history)) (sym later.history)
    (any_front (λ (entry : Entry). party_eq party entry.party && is entry.event && stood entry.answer) old.store.history later.more h)

-- Records that were got are stored, if their version is.
pub got_records : (old new : World) (got : Option Records) → old.store.records ≡ got → Later old new → records_version got ≡ records_version new.store.records → new.store.records ≡ got
got_records old new got is later same = later.records.same (ap records_version is ∙ same) ∙ is

-- A put fits over the records that were got, if its jobs are what the change makes of them.
pub over_got : (merge : Operator) (party : Party) (world : World) (got : Records) (change : RecordChange) (u : Unrecorded) (epoch : ℕ) → world.store.records ≡ Some got
    → ((records : Option Records) → IsTrue (is_some records) → world.store.records ≡ records → IsTrue (may_make world change)) → epoch ≡ epoch_after change (Some got)
    → ChangeFits merge party world u (jobs_after u change got.jobs) change → RecordsFit merge party world change epoch (jobs_after u change got.jobs)
over_got merge party world got change u epoch same may is fits = record {
  there = may (Some got) refl same;
  unrecorded = u;
  makes_jobs = ap (λ r. jobs_after u change (jobs_in r)) (sym same);
  makes_epoch = is ∙ ap (epoch_after change) (sym same);
  fits = fits;
}

-- All elements that a filter leaves pass its test.
pub filter_passes : {A : Type 0} (p : A → Bool) (xs : List A) → AllByRecursion (λ x. p x ≡ true) (filter p xs)
filter_passes p [] = tt
filter_passes {A} p (x ∷ xs) = by (p x) refl (filter_passes p xs)
  where
    by : (b : Bool) → p x ≡ b → AllByRecursion (λ (y : A). p y ≡ true) (filter p xs) → AllByRecursion (λ (y : A). p y ≡ true) (cond b (x ∷ filter p xs) (filter p xs))
    by true e rest = (e, rest)
    by false e rest = rest
