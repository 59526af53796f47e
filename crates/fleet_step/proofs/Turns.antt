-- The turns of a step: what its answers cite, exit by exit.
use Rattle.std.proofs.Common.{◌≡◌, ◌≢◌, refl, sym, ◌∙◌, ap, subst, ℕ, cond, List, [], Some, None, Result, Ok, Err, eq-eqb}
use Rattle.std.specs.Prelude.{◌==◌, ◌+◌, if◌then◌else◌}
use Rattle.std.proofs.lemmas.Bool.{ne_eqb}
use Rattle.fleet_model.specs.Exchanges.{Exchange, PutsManifest}
use Rattle.fleet_model.specs.History.{ManifestEpoch}
use Rattle.fleet_model.specs.Store.{Manifest, Store}
use Rattle.step_model.specs.Past.{World}
use Rattle.step_model.specs.Rivals.{Rivals}
use Rattle.step_model.specs.Courses.Course.{Course, Ends, Calls, gets_manifest}
use Rattle.step_model.specs.Courses.CourseRuns.{IsLawfulCourse}
use Rattle.step_model.specs.Courses.StepEnds.{StepEnd, Fenced}
use Rattle.fleet_rows.specs.declared.errors.SlateDBError.{SlateDBError}
use Rattle.fleet_rows.specs.declared.errors.SlateDBError.TheVariants as error
use Rattle.fleet_tree.specs.declared.manifest.VersionedManifest.{VersionedManifest}
use Rattle.fleet_tree.specs.declared.manifest.Manifest as own
use Rattle.fleet_jobs.specs.Parts.JobParts.{JobParts}
use Rattle.fleet_book.specs.declared.compactions.Compactions.{Compactions}
use Rattle.fleet_history.specs.Changes.{manifest_change_of}
use Rattle.fleet_history.specs.declared.manifest_change.ManifestChange as own_change
use Rattle.fleet_history.specs.declared.record_change.RecordChange.{RecordChange}
use Rattle.fleet_store.specs.Exchanges.{manifest_put, records_put}
use Rattle.fleet_store.specs.Manifests.{HasTrees, IsManifest, meant_by}
use Rattle.fleet_store.proofs.Alike.{refused_puts_are_alike}
use Rattle.step_model.specs.Views.{StoreView}
use Rattle.fleet_store.specs.Called.{Called, Ended, IsMade, IsStruck}
use Rattle.fleet_store.specs.Asks as asks
use Rattle.fleet_store.specs.Asks.{GetsManifest, GetsRecords, ManifestPutFits, MayCall, PutsRecords, RecordsPutFit}
use Rattle.fleet_store.specs.Records.{DescribeTables}
use Rattle.fleet_step.specs.Steps.{Leads, TryRan, put_answer, put_then, puts_and}
use Rattle.step_model.specs.Later.{IsLater}
use Rattle.step_laws.proofs.Later.{rivals_later}
use Rattle.fleet_store.proofs.Later.{still_manifest}
use Rattle.fleet_step.proofs.Puts.{may_put, put_fails, put_leads}
use Rattle.fleet_step.proofs.Steps.{call_fails, call_leads, gives, reports, then_leads, then_tried, tried, wants}

-- ---- exits, after what the step did so far

module _ {A B : Type 0} {ends : A → StepEnd B} {course rest : Course (StepEnd B)} {again : ℕ → Course (StepEnd B)} {old mid : StoreView} (lead : Leads course old rest mid) where
  -- The step reports.
  pub ends_with : (answer : A) → rest ≡ Ends (ends answer) → TryRan ends course again old mid (Ok answer)
  ends_with answer is = then_tried ends lead (tried ends refl (reports ends rest mid answer is))

  -- Memory runs out.
  pub wants_memory : TryRan ends course again old mid (Err error.Memory)
  wants_memory = then_tried ends lead (tried ends refl (wants ends rest mid))

  -- The coordinator is fenced.
  pub is_fenced : (stored : ℕ) → rest ≡ Ends (Fenced stored) → TryRan ends course again old mid (Err (error.Fenced stored))
  is_fenced stored is = then_tried ends lead (tried ends refl (record { to_end = rw is (gives (Fenced stored) mid) }))

-- ---- puts of the records, after what the step did so far

module _ {C : Type 0} {course rest : Course C} {old mid : StoreView} (lead : Leads course old rest mid) (version : ℕ) (value : Compactions) (why : RecordChange) (next : Course C) (again : ℕ → Course C)
    (is : rest ≡ puts_and (records_put version value why) version next again) where
  pub at_put : Leads course old (puts_and (records_put version value why) version next again) mid
  at_put = subst (λ rest. Leads course old rest mid) is lead

  -- The put fits, if the course is lawful.
  pub records_put_fits : IsLawfulCourse old.who old.world course → ((met : World) → IsLater mid.world.store met.store → DescribeTables value.jobs met.store) → RecordsPutFit mid version value why
  records_put_fits lawful described = record {
    lawful = may_put old.who mid version value why (put_then version next again) lead.same.who (at_put.lawful lawful);
    shown = λ met rivals same. described met (rivals_later mid.who mid.world met rivals);
  }

-- The step ends with the put, or the put was refused.
pub put_ends : {A B : Type 0} {ends : A → StepEnd B} {course rest : Course (StepEnd B)} {again : ℕ → Course (StepEnd B)} {old mid new : StoreView} {made : Result ℕ SlateDBError} (lead : Leads course old rest mid) (answer : A) (version : ℕ) (value : Compactions) (why : RecordChange)
    → rest ≡ puts_and (records_put version value why) version (Ends (ends answer)) again
    → PutsRecords mid new version value why made → TryRan ends course again old new (put_answer made answer)
put_ends {ends = ends} {again = again} {mid = mid} {new = new} {made = Ok n} lead answer version value why is made =
    then_tried ends (then_leads (at_put lead version value why (Ends (ends answer)) again is) (put_leads mid new version value why (Ends (ends answer)) again n made))
    (tried ends refl (reports ends (Ends (ends answer)) new answer refl))
put_ends {ends = ends} {again = again} {mid = mid} {new = new} {made = Err e} lead answer version value why is made =
    then_tried ends (at_put lead version value why (Ends (ends answer)) again is) (put_fails mid new version value why ends (Ends (ends answer)) again e made)

-- ---- gets of the manifest

module _ {old new : StoreView} {got : VersionedManifest} (called : GetsManifest old new (Ok got)) where
  pub got_manifest : {A : Type 0} (next : Manifest → Course A) → Leads (gets_manifest next) old (next called.met.store.manifest) new
  got_manifest next = call_leads called (λ met. next met.manifest)

  -- It is the stored one.
  pub manifest_is : IsManifest got new.world.store
  manifest_is = subst (λ (t : World). IsManifest got t.store) (sym called.ended.1.leaves) (record { same = called.ended.0.same; views = called.ended.0.views })

-- A call that fails ends the step, or its put was refused.
pub get_fails : {A B C : Type 0} {x : Exchange} {old new : StoreView} {P : Store → C → Type 0} {ends : A → StepEnd B} {e : SlateDBError} {again : ℕ → Course (StepEnd B)} {next : Store → Course (StepEnd B)} → Called old new (λ met. x) P (λ met seen. ⊥) (Err e)
    → TryRan ends (Calls x next) again old new (Err e)
get_fails {ends = ends} {e = e} {again = again} {next = next} called = call_fails ends e called next again (λ seen no_put. absurd no_put)

-- ---- puts of the manifest

-- How a course goes on after a put of the manifest: by whether its version is stored.
abbrev pub manifest_then : {A : Type 0} → ℕ → Course A → (ℕ → Course A) → Store → Course A
manifest_then version next again met = if version == met.manifest.version then next else again met.manifest.version

-- The call that is made is the one of the course, wherever its version is stored.
module _ (version : ℕ) (value : own.Manifest) (why : own_change.ManifestChange) (jobs : List JobParts) (meant : Manifest) where
  abbrev made_put : Store → Exchange
  made_put = manifest_put version value why jobs

  abbrev course_put : Exchange
  course_put = PutsManifest version (manifest_change_of why) meant

  -- They are alike over this store.
  abbrev pub AreAlike : Store → Type 0
  AreAlike met = version ≡ met.manifest.version → meant_by jobs (manifest_change_of why) version value met ≡ meant

  made_alike : (met : World) (old new : StoreView) → AreAlike met.store → IsMade (made_put met.store) met old new → IsMade course_put met old new
  made_alike met old new same made = record {
    room = tt;
    leaves = made.leaves ∙ refused_puts_are_alike old.who.line old.who.party version (manifest_change_of why) _ meant None met same;
    spares = made.spares;
    no_fault = made.no_fault;
  }

  struck_alike : (met : World) (old new : StoreView) → AreAlike met.store → IsStruck (made_put met.store) met old new → IsStruck course_put met old new
  struck_alike met old new same struck = record {
    counts = struck.counts;
    stands = struck.stands;
    leaves = struck.leaves ∙ refused_puts_are_alike old.who.line old.who.party version (manifest_change_of why) _ meant (Some struck.stands) met same;
    strikes = struck.strikes;
    fault = struck.fault;
    one_fault = struck.one_fault;
  }

  -- If the manifest that is put and the one in the course are alike for the store, the put has ended as
  -- the one in the course.
  ended_alike : (P Q : ℕ → Type 0) (met : World) (old new : StoreView) → AreAlike met.store → (result : Result ℕ SlateDBError) → Ended (made_put met.store) met old new P Q result → Ended course_put met old new P Q result
  ended_alike P Q met old new same (Ok answer) ended = (ended.0, made_alike met old new same ended.1)
  ended_alike P Q met old new same (Err error.StoreFault) ended = struck_alike met old new same ended
  ended_alike P Q met old new same (Err (error.Conflict seen)) ended = (ended.0, made_alike met old new same ended.1)
  ended_alike P Q met old new same (Err error.Memory) ended = ended
  ended_alike P Q met old new same (Err error.IteratorNotInitialized) ended = absurd ended
  ended_alike P Q met old new same (Err error.IteratorFailed) ended = absurd ended
  ended_alike P Q met old new same (Err error.MergeOperatorMissing) ended = absurd ended
  ended_alike P Q met old new same (Err (error.InvalidSequenceOrder current after)) ended = absurd ended
  ended_alike P Q met old new same (Err (error.MergeOperator cause)) ended = absurd ended
  ended_alike P Q met old new same (Err (error.CompactionFilter cause)) ended = absurd ended
  ended_alike P Q met old new same (Err error.InvalidCompaction) ended = absurd ended
  ended_alike P Q met old new same (Err error.InvalidDBState) ended = absurd ended
  ended_alike P Q met old new same (Err (error.Fenced stored)) ended = absurd ended
  ended_alike P Q met old new same (Err error.NotOwner) ended = absurd ended
  ended_alike P Q met old new same (Err (error.Generate message)) ended = absurd ended

  module _ {B : Type 0} {old new : StoreView} (alike : (met : World) → Rivals old.who old.world met → AreAlike met.store) (next : Course (StepEnd B)) (again : ℕ → Course (StepEnd B)) where
    abbrev course_called : (result : Result ℕ SlateDBError) → asks.PutsManifest old new version value why jobs result
        → Called old new (λ met. course_put) (λ met answer. (version ≡ met.manifest.version) × (answer ≡ version + 1)) (λ met seen. (version ≢ met.manifest.version) × (seen ≡ met.manifest.version)) result
    course_called result called = record {
      same = called.same;
      rise = called.rise;
      whole = called.whole;
      met = called.met;
      rivals = called.rivals;
      ended = ended_alike _ _ called.met old new (alike called.met called.rivals) result called.ended;
    }

    pub manifest_put_leads : (answer : ℕ) → asks.PutsManifest old new version value why jobs (Ok answer) → Leads (Calls course_put (manifest_then version next again)) old next new
    manifest_put_leads answer called =
        let as_course = course_called (Ok answer) called in
        subst (λ rest. Leads (Calls course_put (manifest_then version next again)) old rest new)
        (ap (λ b. cond b next (again called.met.store.manifest.version)) (eq-eqb version called.met.store.manifest.version called.ended.0.0))
        (call_leads as_course (manifest_then version next again))

    pub manifest_put_fails : {A : Type 0} (ends : A → StepEnd B) (e : SlateDBError) → asks.PutsManifest old new version value why jobs (Err e) → TryRan ends (Calls course_put (manifest_then version next again)) again old new (Err e)
    manifest_put_fails ends e called =
        call_fails ends e (course_called (Err e) called) (manifest_then version next again) again (λ seen refused. by called.met.store.manifest.version seen refused)
      where
        by : (stored seen : ℕ) → (version ≢ stored) × (seen ≡ stored) → cond (version == stored) next (again stored) ≡ again seen
        by stored seen (differs, is) = ap (λ b. cond b next (again stored)) (ne_eqb version stored differs) ∙ ap again (sym is)

-- ---- the put of an epoch

-- An epoch in the place of that of a manifest that was got gives the stored manifest with this epoch.
module _ (got : VersionedManifest) (stored : Manifest) (epoch : ℕ) (value : own.Manifest) (why : own_change.ManifestChange) (value_is : value ≡ record got.manifest { compactor_epoch = epoch }) (why_is : manifest_change_of why ≡ ManifestEpoch epoch) where
  pub epoch_alike : (old : Store) → IsManifest got old → old.manifest ≡ stored → (met : Store) → IsLater old met → AreAlike got.id value why [] (record stored { epoch = epoch }) met
  epoch_alike old is same met later version =
      let there = still_manifest old met later got is version in
      let kept : met.manifest ≡ stored = sym (later.manifest_stays (sym (ap (λ (m : Manifest). m.version) is.same) ∙ version)) ∙ same in
      rw (why_is, value_is) (ap (λ (m : Manifest). record m { epoch = epoch; trees = met.manifest.trees }) there.same ∙ ap (λ (m : Manifest). record m { epoch = epoch }) kept)

  pub epoch_shown : (met : Store) → IsManifest got met → HasTrees value [] (manifest_change_of why) met
  epoch_shown met is = rw (why_is, value_is) (record { same = ap (λ (m : Manifest). m.trees) is.same; views = is.views })
