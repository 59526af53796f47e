-- Gets and puts of the records, as turns of a step.
use Rattle.std.proofs.Common.{◌≡◌, ◌≢◌, sym, ◌∙◌, ap, subst, ℕ, cond, Option, Ok, Err, eq-eqb, option_map}
use Rattle.std.specs.Prelude.{◌==◌}
use Rattle.std.proofs.lemmas.Bool.{ne_eqb}
use Rattle.fleet_model.specs.Exchanges.{records_version}
use Rattle.fleet_model.specs.Store.{Records, Store}
use Rattle.step_model.specs.Past.{World}
use Rattle.step_model.specs.Rivals.{Caller, Rivals}
use Rattle.step_model.specs.Lawful.{Lawful}
use Rattle.step_model.specs.Courses.Course.{Course, Calls, gets_records}
use Rattle.step_model.specs.Courses.CourseRuns.{IsLawfulCourse}
use Rattle.step_model.specs.Courses.StepEnds.{StepEnd}
use Rattle.fleet_rows.specs.declared.errors.SlateDBError.{SlateDBError}
use Rattle.fleet_book.specs.VersionedRecords.{VersionedRecords}
use Rattle.fleet_book.specs.Versions.{records_of}
use Rattle.fleet_book.specs.declared.compactions.Compactions.{Compactions}
use Rattle.fleet_history.specs.declared.record_change.RecordChange.{RecordChange}
use Rattle.fleet_store.specs.Exchanges.{records_put}
use Rattle.fleet_store.specs.Records.{DescribeTables, jobs_or_none}
use Rattle.step_model.specs.Views.{StoreView}
use Rattle.fleet_store.specs.Asks.{GetsRecords, MayCall, PutsRecords}
use Rattle.fleet_step.specs.Steps.{Leads, TryRan, put_then}
use Rattle.step_model.specs.Later.{IsLater}
use Rattle.fleet_store.proofs.Later.{still_describe}
use Rattle.fleet_step.proofs.Steps.{call_fails, call_leads}

-- ---- a get of the records

module _ {old new : StoreView} {got : Option VersionedRecords} (gets : GetsRecords old new (Ok got)) where
  pub got_records : {A : Type 0} (next : Option Records → Course A) → Leads (gets_records next) old (next (option_map records_of got)) new
  got_records next = subst (λ r. Leads (gets_records next) old (next r) new) (sym gets.called.ended.0.same) (call_leads gets.called (λ met. next met.records))

  -- What the records describe is put at every later store.
  pub got_described : (met : Store) → IsLater new.world.store met → DescribeTables (jobs_or_none got) met
  got_described met later =
      still_describe new.world.store met later (jobs_or_none got) (subst (λ (t : World). DescribeTables (jobs_or_none got) t.store) (sym gets.called.ended.1.leaves) gets.called.ended.0.handles)

-- ---- a put of the records

-- A call is lawful wherever others lead, if the course that makes it is.
pub may_put : {A : Type 0} (who : Caller) (view : StoreView) (version : ℕ) (value : Compactions) (why : RecordChange) (next : Store → Course A) → view.who ≡ who
    → IsLawfulCourse who view.world (Calls (records_put version value why) next) → MayCall view (λ met. records_put version value why)
may_put who view version value why next same lawful =
    subst (λ w. (met : World) → Rivals w view.world met → Lawful w.merge w.party met (records_put version value why)) (sym same) (λ met rivals. (lawful met rivals tt).0)

module _ {A : Type 0} (old new : StoreView) (version : ℕ) (value : Compactions) (why : RecordChange) (next : Course A) (again : ℕ → Course A) where
  pub put_leads : (answer : ℕ) → PutsRecords old new version value why (Ok answer) → Leads (Calls (records_put version value why) (put_then version next again)) old next new
  put_leads answer puts =
      let called = puts.called in
      subst (λ rest. Leads (Calls (records_put version value why) (put_then version next again)) old rest new)
      (ap (λ b. cond b next (again (records_version called.met.store.records))) (eq-eqb version (records_version called.met.store.records) called.ended.0.0))
      (call_leads called (put_then version next again))

pub put_fails : {A B : Type 0} (old new : StoreView) (version : ℕ) (value : Compactions) (why : RecordChange) (ends : A → StepEnd B) (next : Course (StepEnd B)) (again : ℕ → Course (StepEnd B)) (e : SlateDBError)
    → PutsRecords old new version value why (Err e) → TryRan ends (Calls (records_put version value why) (put_then version next again)) again old new (Err e)
put_fails old new version value why ends next again e puts =
    let called = puts.called in
    call_fails ends e called (put_then version next again) again (λ seen refused. by (records_version called.met.store.records) seen refused)
  where
    by : (stored seen : ℕ) → (version ≢ stored) × (seen ≡ stored) → cond (version == stored) next (again stored) ≡ again seen
    by stored seen (differs, is) = ap (λ b. cond b next (again stored)) (ne_eqb version stored differs) ∙ ap again (sym is)
