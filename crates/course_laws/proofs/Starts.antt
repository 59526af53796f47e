-- The start of a coordinator is a lawful course.
use Rattle.std.proofs.Common.{◌≡◌, refl, sym, ap, subst, ℕ, zero, suc, ◌+◌, ◌≤◌, List, cond, Bool, true, false, Option, None, arith}
use Rattle.std.specs.Prelude.{IsTrue, ◌==◌, ◌&&◌, nat_lt}
use Rattle.fleet_model.specs.Jobs.{trimmed_jobs}
use Rattle.fleet_model.specs.History.{Party, Coordinator, GetManifest, GetRecords, ManifestEpoch, RecordsEpoch, Entry, stood}
use Rattle.fleet_model.specs.Store.{Manifest, Records, jobs_in, records_epoch}
use Rattle.fleet_model.specs.Exchanges.{Plain, PutsManifest, PutsRecords, records_version}
use Rattle.step_model.specs.Past.{World}
use Rattle.step_model.specs.Entries.{party_eq, did_put_epoch, is_epoch_put}
use Rattle.step_model.specs.Lawful.{Lawful}
use Rattle.step_model.specs.LawfulManifests.{ManifestEpochFits}
use Rattle.step_model.specs.LawfulRecords.{RecordsFit}
use Rattle.step_model.specs.Rivals.{Caller, after_call}
use Rattle.step_model.specs.Courses.CourseRuns.{IsLawfulCourse}
use Rattle.step_model.specs.Courses.Tries.{tries}
use Rattle.step_model.specs.Steps.ClaimSteps.{at_moment}
use Rattle.step_model.specs.Steps.PollSteps.{start, start_try, epoch_above, holds_at_start, unless_fenced}
use Rattle.step_model.specs.Steps.PollSteps as step
use Rattle.step_model.specs.Courses.StepEnds.{StepEnd, Reports, Fenced, most_refused}
use Rattle.step_model.specs.Courses.Course.{Course, Ends}
use Rattle.step_laws.proofs.Elements.{any_push_yes, is_itself}
use Rattle.course_laws.specs.Starts.{StartsAreLawful}
use Rattle.course_laws.proofs.Later.{Later, later_itself, rivals_later, later_met, call_history}
use Rattle.course_laws.proofs.Puts.{party_itself, did_later, got_records}
use Rattle.step_laws.proofs.MidwayCalls.{unnamed}

-- A coordinator may raise the manifest's epoch above those that it got, if the version that it got is stored.
epoch_fits : (party : Party) (number : ℕ) (old new : World) (records : Option Records) → party ≡ Coordinator number → Later old new → old.store.manifest.version ≡ new.store.manifest.version
    → ManifestEpochFits party new (epoch_above old.store.manifest records) (record old.store.manifest { epoch = epoch_above old.store.manifest records })
epoch_fits party number old new records by later version =
    let same = later.manifest.same version in
    let stored : new.store.manifest.epoch ≡ old.store.manifest.epoch = ap (λ (m : Manifest). m.epoch) same in
    record {
      number = number;
      by = by;
      above = omega (arith, stored);
      makes = ap (λ (m : Manifest). record m { epoch = epoch_above old.store.manifest records }) (sym same);
    }

-- A put of an epoch into the records is lawful, if its party put the epoch into the manifest and got a lower one.
records_fit : (who : Caller) (old new : World) (records : Option Records) (epoch : ℕ) → old.store.records ≡ records → Later old new → records_epoch records + 1 ≤ epoch → IsTrue (did_put_epoch who.party new.store.history epoch)
    → Lawful who.merge who.party new (PutsRecords (records_version records) (RecordsEpoch epoch) epoch (trimmed_jobs (jobs_in records)))
records_fit who old new records epoch is later low put = (unnamed who.party new, fits)
  where
    fits : records_version records ≡ records_version new.store.records → RecordsFit who.merge who.party new (RecordsEpoch epoch) epoch (trimmed_jobs (jobs_in records))
    fits version =
        let same = got_records old new records is later version in
        let stored : records_epoch new.store.records ≡ records_epoch records = ap records_epoch same in
        record {
          there = refl;
          unrecorded = at_moment 0;
          makes_jobs = ap (λ r. trimmed_jobs (jobs_in r)) (sym same);
          makes_epoch = refl;
          fits = record { by = put; above = omega (arith, stored, low) };
        }

-- After a put of an epoch for the stored version, the party did put the epoch.
pub put_stood : (who : Caller) (met : World) (version epoch : ℕ) (value : Manifest) → (version == met.store.manifest.version) ≡ true
    → IsTrue (did_put_epoch who.party (after_call who.line who.party (PutsManifest version (ManifestEpoch epoch) value) None met).store.history epoch)
put_stood who met version epoch value e =
    subst (λ (history : List Entry). IsTrue (did_put_epoch who.party history epoch)) (sym (call_history who.line who.party (PutsManifest version (ManifestEpoch epoch) value) None met.store))
    (any_push_yes (λ (entry : Entry). party_eq who.party entry.party && is_epoch_put epoch entry.event && stood entry.answer) met.store.history _ (rw (party_itself who.party, is_itself epoch, e) refl))

ends_lawful : (who : Caller) (world : World) (epoch stored : ℕ) → IsLawfulCourse who world (unless_fenced epoch stored (Ends (Reports epoch)))
ends_lawful who world epoch stored = by (nat_lt epoch stored)
  where
    by : (b : Bool) → IsLawfulCourse who world (cond b (Ends (Fenced stored)) (Ends (Reports epoch)))
    by true = tt
    by false = tt

holds_lawful : (who : Caller) (world : World) (epoch : ℕ) → IsLawfulCourse who world (holds_at_start epoch)
holds_lawful who world epoch = λ met rivals room. (tt, λ next more room. (tt, ends_lawful who _ epoch _))

-- Another try of the start is a lawful course anywhere.
abbrev Tries : Caller → (ℕ → Course (StepEnd ℕ)) → Type 0
Tries who again = (version : ℕ) (world : World) → IsLawfulCourse who world (again version)

over : (who : Caller) (again : ℕ → Course (StepEnd ℕ)) → Tries who again → (met : World) (version epoch : ℕ) (b : Bool) → IsLawfulCourse who met (cond b (holds_at_start epoch) (again version))
over who again tries met version epoch true = holds_lawful who met epoch
over who again tries met version epoch false = tries version met

-- Once a start has put the manifest, whether with effect or not, it is a lawful course, if another try is.
after_manifest : (who : Caller) (again : ℕ → Course (StepEnd ℕ)) → Tries who again → (m r p : World) → Later r p → (b : Bool) → (m.store.manifest.version == p.store.manifest.version) ≡ b
    → let epoch = epoch_above m.store.manifest r.store.records in
    IsLawfulCourse who (after_call who.line who.party (PutsManifest m.store.manifest.version (ManifestEpoch epoch) (record m.store.manifest { epoch = epoch })) None p)
    (cond b (step.puts_epoch r.store.records epoch (holds_at_start epoch) again) (again p.store.manifest.version))
after_manifest who again tries m r p got true e = λ q rivals room.
    let epoch = epoch_above m.store.manifest r.store.records in
    let value : Manifest = record m.store.manifest { epoch = epoch } in
    let x = PutsManifest m.store.manifest.version (ManifestEpoch epoch) value in
    let put = did_later (is_epoch_put epoch) who.party (after_call who.line who.party x None p) q (rivals_later who (after_call who.line who.party x None p) q rivals) (put_stood who p m.store.manifest.version epoch value e) in (
      records_fit who r q r.store.records epoch refl (later_met who x r p q got rivals) (omega arith) put,
      over who again tries _ (records_version q.store.records) epoch (records_version r.store.records == records_version q.store.records),
    )
after_manifest who again tries m r p got false e = tries p.store.manifest.version _

-- A coordinator's start with any number of tries left is a lawful course over any store.
pub starts : (who : Caller) (number : ℕ) → who.party ≡ Coordinator number → (left seen : ℕ) (world : World) → IsLawfulCourse who world (tries start_try left seen)
starts who number by zero seen world = tt
starts who number by (suc left) seen world = λ m before room. (
  tt,
  λ r between room. (
    tt,
    λ p after room.
        let first = later_met who (Plain GetManifest) m m r (later_itself m) between in
        let second = later_met who (Plain GetRecords) m r p first after in
        let got = later_met who (Plain GetRecords) r r p (later_itself r) after in (
          λ version. epoch_fits who.party number m p r.store.records by second version,
          after_manifest who (tries start_try left) (λ version world. starts who number by left version world) m r p got (m.store.manifest.version == p.store.manifest.version) refl,
        ),
  ),
)

pub starts_are_lawful : StartsAreLawful
unfolding start
starts_are_lawful who world number by = starts who number by most_refused 0 world
