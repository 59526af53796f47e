-- The turns of a request.
use Rattle.std.proofs.Common.{◌≡◌, refl, sym, ◌∙◌, ap, subst, ℕ, List, Some, None, Result, Ok, Err}
use Rattle.std.specs.Prelude.{IsTrue, Vec, map}
use Rattle.std.specs.declared.alloc.Global.{Global}
use Rattle.std.specs.List.{AllByRecursion}
use Rattle.row_model.specs.Fold.{IsLawful}
use Rattle.fleet_model.specs.Exchanges.{Plain}
use Rattle.fleet_model.specs.History.{GetManifest}
use Rattle.fleet_model.specs.Work.Scheduler.{Generated, Request, Scheduler, Specs, shown_view}
use Rattle.fleet_model.specs.Work.Scheduler as scheduler
use Rattle.step_model.specs.Courses.Course.{Course, Ends}
use Rattle.step_model.specs.Courses.CourseRuns.{IsLawfulCourse}
use Rattle.step_model.specs.Entries.{was_named}
use Rattle.step_model.specs.Kept.Keeps.{Keeps}
use Rattle.step_model.specs.Past.{World}
use Rattle.step_model.specs.Rivals.{Caller, after_call}
use Rattle.step_model.specs.Courses.StepEnds.{StepEnd, Reports, Invalid, Declined}
use Rattle.step_model.specs.Steps.SubmitSteps.{request_by, request_try, submit_request, submits_generated, submits_specs}
use Rattle.step_model.specs.Courses.Tries.{tries}
use Rattle.step_model.specs.Views.{StoreView}
use Rattle.step_laws.proofs.Later as store_law
use Rattle.step_laws.proofs.Runs.{rivals_keep}
use Rattle.commit_laws.proofs.AllCalls.{calls_keep}
use Rattle.course_laws.proofs.Calls.{keeps_after}
use Rattle.course_laws.proofs.Later.{later_by, later_then, rivals_later}
use Rattle.course_laws.proofs.Submits.{submits_are_lawful}
use Rattle.fleet_rows.specs.declared.errors.SlateDBError.{SlateDBError}
use Rattle.fleet_rows.specs.declared.errors.SlateDBError.TheVariants as error
use Rattle.fleet_tree.specs.declared.manifest.VersionedManifest.{VersionedManifest}
use Rattle.fleet_jobs.specs.Jobs.{jobs_of}
use Rattle.fleet_jobs.specs.Specs.{spec_of}
use Rattle.fleet_jobs.specs.declared.spec.CompactionSpec.{CompactionSpec}
use Rattle.fleet_book.specs.VersionedRecords.{VersionedRecords}
use Rattle.fleet_book.specs.Versions.{records_of}
use Rattle.fleet_store.specs.Asks.{GetsManifest, GetsRecords}
use Rattle.fleet_store.specs.Records.{DescribeTables}
use Rattle.fleet_store.proofs.Later.{still_describe}
use Rattle.fleet_sched.specs.Answers.{Generates}
use Rattle.fleet_sched.specs.Views.{view_of}
use Rattle.fleet_tree.specs.Trees.{RunFlushes}
use Rattle.fleet_step.specs.Steps.{Leads, StepRan, TryRan}
use Rattle.fleet_step.proofs.Keeping.{step_keeps}
use Rattle.fleet_step.proofs.Puts.{got_records}
use Rattle.fleet_step.proofs.Steps.{begins, call_leads, gives, then_leads, then_tried, tried, wants}
use Rattle.fleet_coordinator.specs.Submits.{IsSubmitter, MaySubmit}
use Rattle.fleet_coordinator.proofs.ShownViews.{stored_flushes, view_is}
use Rattle.fleet_coordinator.proofs.Submits.{described_got, kept_got, named_got, named_later}

-- ---- a request is a lawful course

module _ (view : StoreView) (moment : ℕ) (asked : Scheduler) (request : Request) (merges : IsLawful view.who.merge) (by : IsSubmitter view) (keeps : Keeps view.who.merge view.world) where
  pub request_lawful : IsLawfulCourse view.who view.world (submit_request moment asked request)
  request_lawful = (submits_are_lawful view.who view.world).requests moment asked request (calls_keep view.who.merge merges) keeps by

  pub request_try_lawful : IsLawfulCourse view.who view.world (request_try moment asked request (tries (request_try moment asked request) 63))
  unfolding submit_request
  request_try_lawful = request_lawful

-- ---- what the scheduler generates

-- The results of a call of the scheduler on what was got, whichever flushes went into the runs.
abbrev pub GeneratedBy : Scheduler → Request → VersionedManifest → VersionedRecords → Result (Vec CompactionSpec Global) SlateDBError → Type 0
GeneratedBy asked request m got result = (flushes : RunFlushes) → Generates (asked.generate (view_of flushes (record { manifest = m; compactions = Some got })) request) result

module _ (moment : ℕ) (asked : Scheduler) (request : Request) (old one two : StoreView) (got : VersionedRecords) (gets : GetsRecords old one (Ok (Some got))) (m : VersionedManifest) (got_manifest : GetsManifest one two (Ok m))
    (merges : IsLawful old.who.merge) (keeps : Keeps old.who.merge old.world) where
  abbrev met : World
  met = got_manifest.met

  abbrev after : World
  after = after_call one.who.line one.who.party (Plain GetManifest) None met

  merges_one : IsLawful one.who.merge
  merges_one = subst (λ (who : Caller). IsLawful who.merge) (sym gets.called.same.who) merges

  kept_met : Keeps one.who.merge met
  kept_met = rivals_keep one.who one.world met (calls_keep one.who.merge merges_one) (kept_got gets merges keeps) got_manifest.rivals

  kept_two : Keeps two.who.merge two.world
  kept_two =
      subst (λ (who : Caller). Keeps who.merge two.world) (sym got_manifest.same.who)
      (subst (Keeps one.who.merge) (sym got_manifest.ended.1.leaves) (keeps_after one.who (Plain GetManifest) met (calls_keep one.who.merge merges_one) kept_met tt))

  described_met : DescribeTables got.compactions.jobs met.store
  described_met = still_describe one.world.store met.store (store_law.rivals_later one.who one.world met got_manifest.rivals) got.compactions.jobs (described_got gets merges keeps)

  described_two : DescribeTables got.compactions.jobs two.world.store
  described_two =
      subst (λ (world : World). DescribeTables got.compactions.jobs world.store) (sym got_manifest.ended.1.leaves)
      (still_describe met.store after.store (store_law.call_later one.who.line one.who.party (Plain GetManifest) None met.store) got.compactions.jobs described_met)

  named_two : AllByRecursion (λ job. IsTrue (was_named two.world.store.history job.id)) (jobs_of got.compactions.jobs)
  named_two =
      subst (λ (world : World). AllByRecursion (λ job. IsTrue (was_named world.store.history job.id)) (jobs_of got.compactions.jobs)) (sym got_manifest.ended.1.leaves)
      (named_later one.world after (later_then one.world met after (rivals_later one.who one.world met got_manifest.rivals) (later_by one.who.line one.who.party (Plain GetManifest) None met)) (jobs_of got.compactions.jobs) (named_got gets merges keeps))

  abbrev shown : Generated
  shown = asked.generate (shown_view met.store.tables met.store.manifest (records_of got) (records_of got).jobs) request

  -- The request came so far.
  at_generated : (again : ℕ → Course (StepEnd (List ℕ))) → Leads (request_try moment asked request again) old (submits_generated moment (records_of got) shown again) two
  at_generated again =
      then_leads (got_records gets (λ records. request_by moment asked request records again))
      (call_leads got_manifest (λ met. submits_generated moment (records_of got) (asked.generate (shown_view met.tables met.manifest (records_of got) (records_of got).jobs) request) again))

  abbrev flushes : RunFlushes
  flushes = stored_flushes met.store.manifest.trees

  answers_shown : asked.generate (view_of flushes (record { manifest = m; compactions = Some got })) request ≡ shown
  answers_shown = ap (λ view. asked.generate view request) (view_is one.who.merge met kept_met m got_manifest.ended.0 got described_met)

  -- The scheduler generated specs.
  module _ (specs : Vec CompactionSpec Global) (generated : GeneratedBy asked request m got (Ok specs)) where
    shown_specs : shown ≡ Specs (map spec_of specs.items)
    shown_specs = sym answers_shown ∙ generated flushes

    pub at_specs : (again : ℕ → Course (StepEnd (List ℕ))) → Leads (request_try moment asked request again) old (submits_specs moment (records_of got) (map spec_of specs.items) again) two
    at_specs again = subst (λ generated. Leads (request_try moment asked request again) old (submits_generated moment (records_of got) generated again) two) shown_specs (at_generated again)

    pub may_submit_generated : IsSubmitter old → MaySubmit two moment got specs.items
    may_submit_generated by = record {
      keeps = kept_two;
      named = named_two;
      described = described_two;
      again = again;
      lawful = subst (λ (who : Caller). IsLawfulCourse who two.world (submits_specs moment (records_of got) (map spec_of specs.items) again)) (sym (at_specs again).same.who) ((at_specs again).lawful (request_try_lawful old moment asked request merges by keeps));
    }
      where
        again : ℕ → Course (StepEnd (List ℕ))
        again = tries (request_try moment asked request) 63

  -- The scheduler refused, or memory ran out.
  module _ (again : ℕ → Course (StepEnd (List ℕ))) where
    ends_so : (answer : StepEnd (List ℕ)) (generated : Generated) → shown ≡ generated → submits_generated moment (records_of got) generated again ≡ Ends answer
        → Leads (request_try moment asked request again) old (Ends answer) two
    ends_so answer generated is ends =
        subst (λ rest. Leads (request_try moment asked request again) old rest two) (ap (λ generated. submits_generated moment (records_of got) generated again) is ∙ ends) (at_generated again)

    lacks_memory : (e : SlateDBError) → e ≡ error.Memory → TryRan Reports (request_try moment asked request again) again old two (Err e)
    lacks_memory e is = rw is (then_tried Reports (at_generated again) (tried Reports refl (wants Reports (submits_generated moment (records_of got) shown again) two)))

    pub refuses : (e : SlateDBError) → GeneratedBy asked request m got (Err e) → TryRan Reports (request_try moment asked request again) again old two (Err e)
    refuses error.InvalidCompaction generated = then_tried Reports (ends_so Invalid scheduler.Invalid (sym answers_shown ∙ generated flushes) refl) (tried Reports refl (record { to_end = gives Invalid two }))
    refuses (error.Generate message) generated = then_tried Reports (ends_so (Declined message) (scheduler.Declined message) (sym answers_shown ∙ generated flushes) refl) (tried Reports refl (record { to_end = gives (Declined message) two }))
    refuses e generated = lacks_memory e (generated flushes)

-- ---- all tries

pub first_request : (view : StoreView) (moment : ℕ) (asked : Scheduler) (request : Request) → Leads (submit_request moment asked request) view (tries (request_try moment asked request) 64 0) view
unfolding submit_request
first_request view moment asked request = begins (tries (request_try moment asked request) 64 0) view

pub requested_keeps : (old new : StoreView) (moment : ℕ) (asked : Scheduler) (request : Request) (result : Result (List ℕ) SlateDBError) → IsSubmitter old → IsLawful old.who.merge → Keeps old.who.merge old.world
    → StepRan Reports (submit_request moment asked request) old new result → Keeps new.who.merge new.world
requested_keeps old new moment asked request result by merges keeps ran = step_keeps Reports (submit_request moment asked request) old new result merges keeps (request_lawful old moment asked request merges by keeps) ran
