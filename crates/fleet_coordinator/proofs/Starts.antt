-- The turns of a start.
use Rattle.std.proofs.Common.{◌≡◌, refl, sym, ◌∙◌, ap, subst, ℕ, zero, suc, ◌+◌, inl, inr, cond, [], Option, Result, Ok, Err, option_map}
use Rattle.std.specs.Prelude.{IfOk, ◌⊎◌, ◌<◌, ◌≤◌, max, nat_lt}
use Rattle.std.proofs.lemmas.Bool.{le-ltb, lt-ltb}
use Rattle.row_model.specs.Fold.{IsLawful}
use Rattle.fleet_model.specs.Exchanges.{PutsManifest, PutsRecords}
use Rattle.fleet_model.specs.History.{ManifestEpoch, RecordsEpoch}
use Rattle.fleet_model.specs.Jobs.{Jobs}
use Rattle.fleet_model.specs.Store.{Manifest, Records, records_epoch}
use Rattle.step_model.specs.Past.{World}
use Rattle.step_model.specs.Rivals.{Caller, Rivals}
use Rattle.step_model.specs.Lawful.{Lawful}
use Rattle.step_model.specs.LawfulManifests.{ManifestFits}
use Rattle.step_model.specs.Courses.Course.{Course, Ends, Calls, gets_manifest, gets_records, puts_manifest}
use Rattle.step_model.specs.Courses.CourseRuns.{Gives, IsLawfulCourse}
use Rattle.step_model.specs.Steps.PollSteps.{epoch_above, holds_at_start, start, start_try, unless_fenced}
use Rattle.step_model.specs.Courses.Tries.{counted_tries, tries}
use Rattle.step_model.specs.Steps.PollSteps as step
use Rattle.step_model.specs.Courses.StepEnds.{StepEnd, Reports, Fenced}
use Rattle.course_laws.proofs.Starts.{starts, starts_are_lawful}
use Rattle.coordinator_laws.proofs.Coordinators.{starts_fit}
use Rattle.step_model.specs.Kept.Keeps.{Keeps}
use Rattle.fleet_rows.specs.declared.errors.SlateDBError.{SlateDBError}
use Rattle.fleet_rows.specs.declared.errors.SlateDBError.TheVariants as error
use Rattle.fleet_tree.specs.declared.manifest.VersionedManifest.{VersionedManifest}
use Rattle.fleet_book.specs.VersionedRecords.{VersionedRecords}
use Rattle.fleet_book.specs.Versions.{records_of}
use Rattle.fleet_history.specs.declared.manifest_change.ManifestChange.TheVariants as manifest_change
use Rattle.fleet_history.specs.declared.record_change.RecordChange.TheVariants as record_change
use Rattle.fleet_store.specs.Exchanges.{records_put}
use Rattle.fleet_coordinator.specs.declared.coordinator.StartPut.{StartPut}
use Rattle.step_model.specs.Views.{StoreView}
use Rattle.fleet_store.specs.Asks as asks
use Rattle.fleet_store.specs.Asks.{GetsManifest, GetsRecords, ManifestPutFits, RecordsPutFit}
use Rattle.fleet_step.specs.Gets.{GotBoth}
use Rattle.fleet_coordinator.specs.Starts.{HasStarted, IsCoordinator, IsStartPut}
use Rattle.step_laws.proofs.RanLaws.{ran_runs}
use Rattle.fleet_step.specs.Steps.{Leads, StepRan, TryRan, put_then}
use Rattle.step_model.specs.Later.{IsLater}
use Rattle.step_laws.proofs.Later.{later_then, rivals_later}
use Rattle.fleet_store.proofs.Later.{still_manifest}
use Rattle.fleet_step.proofs.Keeping.{step_keeps}
use Rattle.fleet_step.proofs.Puts.{got_described, got_records, may_put, put_fails, put_leads}
use Rattle.fleet_step.proofs.Steps.{begins, then_leads, then_tried}
use Rattle.fleet_step.proofs.Turns.{AreAlike, ends_with, epoch_alike, epoch_shown, get_fails, got_manifest, is_fenced, manifest_is, manifest_put_fails, manifest_put_leads, manifest_then, wants_memory}

-- ---- two gets

module _ {A : Type 0} (next : Manifest → Option Records → Course A) (old new : StoreView) (m : VersionedManifest) (r : Option VersionedRecords) (both : GotBoth old new m (Ok r)) where
  pub got_both : Leads (gets_manifest (λ manifest. gets_records (λ records. next manifest records))) old (next both.first.met.store.manifest (option_map records_of r)) new
  got_both = then_leads (got_manifest both.first (λ manifest. gets_records (λ records. next manifest records))) (got_records both.second (λ records. next both.first.met.store.manifest records))

pub both_fail : {A B : Type 0} (ends : A → StepEnd B) (next : Manifest → Option Records → Course (StepEnd B)) (again : ℕ → Course (StepEnd B)) (old new : StoreView) (e : SlateDBError)
    → GetsManifest old new (Err e) ⊎ ((m : VersionedManifest) × GotBoth old new m (Err e))
    → TryRan ends (gets_manifest (λ manifest. gets_records (λ records. next manifest records))) again old new (Err e)
both_fail ends next again old new e (inl first) = get_fails first
both_fail ends next again old new e (inr (m, both)) =
    then_tried ends (got_manifest both.first (λ manifest. gets_records (λ records. next manifest records)))
    (get_fails both.second.called)

-- How a start goes on after its first two gets, and how it ends after its last ones.
abbrev pub start_next : (ℕ → Course (StepEnd ℕ)) → Manifest → Option Records → Course (StepEnd ℕ)
start_next again manifest records =
    let epoch = epoch_above manifest records in
    puts_manifest manifest.version (ManifestEpoch epoch) (record manifest { epoch = epoch }) (step.puts_epoch records epoch (holds_at_start epoch) again) again

abbrev pub hold_next : ℕ → Manifest → Option Records → Course (StepEnd ℕ)
hold_next epoch manifest records = unless_fenced epoch (max manifest.epoch (records_epoch records)) (Ends (Reports epoch))

-- Memory runs out after the gets.
pub no_memory : (old mid : StoreView) (m : VersionedManifest) (r : Option VersionedRecords) → GotBoth old mid m (Ok r) → (again : ℕ → Course (StepEnd ℕ)) → TryRan Reports (start_try again) again old mid (Err error.Memory)
no_memory old mid m r both again = wants_memory (got_both (start_next again) old mid m r both)

-- ---- the last two gets

module _ (old new : StoreView) (m : VersionedManifest) (r : Option VersionedRecords) (both : GotBoth old new m (Ok r)) (epoch stored : ℕ) (is : stored ≡ max m.manifest.compactor_epoch (records_epoch (option_map records_of r))) (again : ℕ → Course (StepEnd ℕ)) where
  -- The stored epoch is the greater one of those that were got.
  ends_by : unless_fenced epoch (max both.first.met.store.manifest.epoch (records_epoch (option_map records_of r))) (Ends (Reports epoch)) ≡ cond (nat_lt epoch stored) (Ends (Fenced stored)) (Ends (Reports epoch))
  ends_by = ap (λ n. unless_fenced {A = ℕ} epoch n (Ends (Reports epoch))) (ap (λ e. max e (records_epoch (option_map records_of r))) (sym (ap (λ (m : Manifest). m.epoch) both.first.ended.0.same)) ∙ sym is)

  lead : Leads (holds_at_start epoch) old (cond (nat_lt epoch stored) (Ends (Fenced stored)) (Ends (Reports epoch))) new
  lead = subst (λ rest. Leads (holds_at_start epoch) old rest new) ends_by (got_both (hold_next epoch) old new m r both)

  pub fenced_here : epoch < stored → TryRan Reports (holds_at_start epoch) again old new (Err (error.Fenced stored))
  fenced_here below = is_fenced lead stored (ap (λ b. cond b (Ends (Fenced stored)) (Ends (Reports epoch))) (lt-ltb epoch stored below))

  pub holds_here : stored ≤ epoch → TryRan Reports (holds_at_start epoch) again old new (Ok epoch)
  holds_here high = ends_with lead epoch (ap (λ b. cond b (Ends (Fenced stored)) (Ends (Reports epoch))) (le-ltb epoch stored high))

-- ---- the puts

same_put : (e e' v v' : ℕ) (m m' : Manifest) (R : Option Records) (again : ℕ → Course (StepEnd ℕ)) → e ≡ e' → v ≡ v' → m ≡ m'
    → puts_manifest v (ManifestEpoch e) m (step.puts_epoch R e (holds_at_start e) again) again ≡ Calls (PutsManifest v' (ManifestEpoch e') m') (manifest_then v' (step.puts_epoch R e' (holds_at_start e') again) again)
same_put e e' v v' m m' R again a b d = rw (a, b, d) refl

same_records : (e e' v v' : ℕ) (j j' : Jobs) (next : Course (StepEnd ℕ)) (again : ℕ → Course (StepEnd ℕ)) → e ≡ e' → v ≡ v' → j ≡ j'
    → Calls (PutsRecords v (RecordsEpoch e') e' j) (put_then v next again) ≡ Calls (PutsRecords v' (RecordsEpoch e') e j') (put_then v' next again)
same_records e e' v v' j j' next again a b d = rw (a, b, d) refl

module _ (old mid : StoreView) (m : VersionedManifest) (r : Option VersionedRecords) (both : GotBoth old mid m (Ok r)) (put : StartPut) (is : IsStartPut m r put) where
  abbrev R : Option Records
  R = option_map records_of r

  abbrev stored : Manifest
  stored = both.first.met.store.manifest

  abbrev value : Manifest
  value = record stored { epoch = put.epoch }

  epoch_is : epoch_above stored R ≡ put.epoch
  epoch_is = ap (λ e. max e (records_epoch R) + 1) (sym (ap (λ (m : Manifest). m.epoch) both.first.ended.0.same)) ∙ sym is.above

  version_is : stored.version ≡ put.id
  version_is = sym (ap (λ (m : Manifest). m.version) both.first.ended.0.same) ∙ sym is.of

  -- What the manifest's put leads to.
  abbrev after_manifest : (ℕ → Course (StepEnd ℕ)) → Course (StepEnd ℕ)
  after_manifest again = step.puts_epoch R put.epoch (holds_at_start put.epoch) again

  at_manifest : (again : ℕ → Course (StepEnd ℕ)) → Leads (start_try again) old (Calls (PutsManifest put.id (ManifestEpoch put.epoch) value) (manifest_then put.id (after_manifest again) again)) mid
  at_manifest again =
      subst (λ rest. Leads (start_try again) old rest mid) (same_put _ _ _ _ _ _ R again epoch_is version_is (ap (λ e. record stored { epoch = e }) epoch_is))
      (got_both (start_next again) old mid m r both)

  -- The manifest that was got is the stored one as long as its version is.
  later : (met : World) → Rivals mid.who mid.world met → IsLater both.between.world.store met.store
  later met rivals = later_then both.between.world.store mid.world.store met.store (got_records both.second (λ records. Ends zero)).later (rivals_later mid.who mid.world met rivals)

  alike : (met : World) → Rivals mid.who mid.world met → AreAlike put.id put.manifest (manifest_change.Epoch put.epoch) [] value met.store
  alike met rivals =
      subst (λ id. AreAlike id put.manifest (manifest_change.Epoch put.epoch) [] value met.store) (sym is.of)
      (epoch_alike m stored put.epoch put.manifest (manifest_change.Epoch put.epoch) is.sets refl both.between.world.store (manifest_is both.first) (ap (λ (t : World). t.store.manifest) both.first.ended.1.leaves) met.store (later met rivals))

  -- The start is a lawful course.
  lawful : IsCoordinator old → IsLawfulCourse old.who old.world (start_try (counted_tries (λ left seen. start_try) zero))
  lawful by = starts old.who by.number by.party (suc zero) 0 old.world

  -- A coordinator that starts may put its epoch into the manifest.
  pub manifest_fits : IsCoordinator old → ManifestPutFits mid put.id put.manifest (manifest_change.Epoch put.epoch) []
  manifest_fits by =
      let at = at_manifest (counted_tries (λ left seen. start_try) zero) in
      record {
        lawful = λ met rivals same.
            let course = subst (λ (w : Caller). Rivals w mid.world met → Lawful w.merge w.party met (PutsManifest put.id (ManifestEpoch put.epoch) value)) (sym at.same.who) (λ rivals. (at.lawful (lawful by) met rivals tt).0) rivals same in
            subst (λ v. ManifestFits mid.who.party met (ManifestEpoch put.epoch) v) (sym (alike met rivals same)) course;
        shown = λ met rivals same.
            epoch_shown m stored put.epoch put.manifest (manifest_change.Epoch put.epoch) is.sets refl met.store
            (still_manifest both.between.world.store met.store (later met rivals) m (manifest_is both.first) (sym is.of ∙ same));
      }

  module _ (again : ℕ → Course (StepEnd ℕ)) where
    pub manifest_failed : (new : StoreView) (e : SlateDBError) → asks.PutsManifest mid new put.id put.manifest (manifest_change.Epoch put.epoch) [] (Err e) → TryRan Reports (start_try again) again old new (Err e)
    manifest_failed new e made =
        then_tried Reports (at_manifest again) (manifest_put_fails put.id put.manifest (manifest_change.Epoch put.epoch) [] value alike (after_manifest again) again Reports e made)

    module _ (one : StoreView) (next : ℕ) (made : asks.PutsManifest mid one put.id put.manifest (manifest_change.Epoch put.epoch) [] (Ok next)) where
      at_records : Leads (start_try again) old (Calls (records_put put.version put.value (record_change.Epoch put.epoch)) (put_then put.version (holds_at_start put.epoch) again)) one
      at_records =
          subst (λ rest. Leads (start_try again) old rest one)
          (same_records put.value.compactor_epoch put.epoch _ _ _ _ (holds_at_start put.epoch) again is.puts.sets (sym is.puts.at) (sym is.puts.jobs))
          (then_leads (at_manifest again) (manifest_put_leads put.id put.manifest (manifest_change.Epoch put.epoch) [] value alike (after_manifest again) again next made))

      pub records_failed : (new : StoreView) (e : SlateDBError) → asks.PutsRecords one new put.version put.value (record_change.Epoch put.epoch) (Err e) → TryRan Reports (start_try again) again old new (Err e)
      records_failed new e put_made = then_tried Reports at_records (put_fails one new put.version put.value (record_change.Epoch put.epoch) Reports (holds_at_start put.epoch) again e put_made)

      pub then_holds : (two new : StoreView) (answer : ℕ) (result : Result ℕ SlateDBError) → asks.PutsRecords one two put.version put.value (record_change.Epoch put.epoch) (Ok answer)
          → TryRan Reports (holds_at_start put.epoch) again two new result → TryRan Reports (start_try again) again old new result
      then_holds two new answer result put_made held =
          then_tried Reports (then_leads at_records (put_leads one two put.version put.value (record_change.Epoch put.epoch) (holds_at_start put.epoch) again answer put_made)) held

  pub records_fit : IsCoordinator old → (one : StoreView) (next : ℕ) → asks.PutsManifest mid one put.id put.manifest (manifest_change.Epoch put.epoch) [] (Ok next) → RecordsPutFit one put.version put.value (record_change.Epoch put.epoch)
  records_fit by one next made =
      let at = at_records (counted_tries (λ left seen. start_try) zero) one next made in
      let from = manifest_put_leads put.id put.manifest (manifest_change.Epoch put.epoch) [] value alike (after_manifest (counted_tries (λ left seen. start_try) zero)) (counted_tries (λ left seen. start_try) zero) next made in
      record {
        lawful = may_put old.who one put.version put.value (record_change.Epoch put.epoch) (put_then put.version (holds_at_start put.epoch) (counted_tries (λ left seen. start_try) zero)) at.same.who (at.lawful (lawful by));
        shown = λ met rivals same. is.puts.described met.store
            (got_described both.second met.store (later_then mid.world.store one.world.store met.store from.later (rivals_later one.who one.world met rivals)));
      }

-- ---- all tries

pub first_start : (view : StoreView) → Leads start view (tries start_try 64 0) view
unfolding start
first_start view = begins (tries start_try 64 0) view

-- A start is a lawful course, so its coordinator fits after it.
pub has_started : (old new : StoreView) (epoch : ℕ) → IsLawful old.who.merge → Keeps old.who.merge old.world → StepRan Reports start old new (Ok epoch) → HasStarted new epoch
has_started old new epoch merges keeps ran = λ number by.
    let runs = ran.to_end in
    starts_fit old.who old.world new.world number epoch merges (sym (ap (λ (w : Caller). w.party) runs.same.who) ∙ by) keeps (ran_runs old.who start old.world new.world old.waits new.waits (Gives (Reports epoch)) runs.ran)

pub started_fits : (old new : StoreView) (result : Result ℕ SlateDBError) → IsLawful old.who.merge → Keeps old.who.merge old.world → StepRan Reports start old new result → IfOk result (HasStarted new)
started_fits old new (Ok epoch) merges keeps ran = has_started old new epoch merges keeps ran
started_fits old new (Err e) merges keeps ran = tt

-- A start keeps the invariant, however it ends.
pub started_keeps : (old new : StoreView) (result : Result ℕ SlateDBError) → IsCoordinator old → IsLawful old.who.merge → Keeps old.who.merge old.world → StepRan Reports start old new result → Keeps new.who.merge new.world
started_keeps old new result by merges keeps ran = step_keeps Reports start old new result merges keeps (starts_are_lawful old.who old.world by.number by.party) ran
