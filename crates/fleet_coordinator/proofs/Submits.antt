-- The turns of a submission.
use Rattle.std.proofs.Common.{◌≡◌, ◌≢◌, refl, sym, ◌∙◌, ap, subst, ℕ, suc, Bool, true, false, cond, List, [], ◌∷◌, ◌++◌, length, Some, None, Result, Ok, Err}
use Rattle.std.specs.Prelude.{◌==◌, ◌<◌, ◌≤◌, ◌⊎◌, IsTrue, map, ⊤}
use Rattle.std.specs.List.{AllByRecursion, zip}
use Rattle.std.proofs.lemmas.Bool.Decides.{Decides-eqb}
use Rattle.std.proofs.lemmas.List.{append-nil, append_assoc}
use Rattle.row_model.specs.Fold.{IsLawful}
use Rattle.row_model.specs.Lists.{Pairs}
use Rattle.fleet_model.specs.Exchanges.{Plain, DrawsJob, PutsRecords, next_job_id}
use Rattle.fleet_model.specs.History.{Entry, GetRecords, RecordChange}
use Rattle.fleet_model.specs.Jobs.{JobSpec, Jobs, contains}
use Rattle.fleet_model.specs.Work.Records.{firsts}
use Rattle.fleet_model.specs.Past.Replay.{named_specs}
use Rattle.fleet_model.specs.Store.{jobs_in}
use Rattle.step_model.specs.Courses.Course.{Course, Ends}
use Rattle.step_model.specs.Courses.CourseRuns.{IsLawfulCourse}
use Rattle.step_model.specs.Entries.{is_mentioned, was_named}
use Rattle.step_model.specs.Kept.Keeps.{Keeps}
use Rattle.step_model.specs.Past.{World}
use Rattle.step_model.specs.Rivals.{Caller, after_call}
use Rattle.step_model.specs.Courses.StepEnds.{StepEnd, Reports, NoRecords}
use Rattle.step_model.specs.Steps.SubmitSteps.{submit, submit_by, submit_try, submits_drawn, submits_specs}
use Rattle.step_model.specs.Courses.Tries.{tries}
use Rattle.step_model.specs.Views.{StoreView}
use Rattle.step_laws.proofs.Later as store_law
use Rattle.step_laws.proofs.Runs.{rivals_keep}
use Rattle.commit_laws.proofs.AllCalls.{calls_keep}
use Rattle.course_laws.proofs.Calls.{done_later, keeps_after}
use Rattle.step_laws.proofs.FlushNodes.{refused}
use Rattle.course_laws.proofs.Later.{Later, later_by, later_itself, later_then, rivals_later}
use Rattle.course_laws.proofs.NewIds.{AreFresh, drawn_fresh, not_named, rivals_fresh}
use Rattle.course_laws.proofs.Submits.{submits_are_lawful}
use Rattle.fleet_rows.specs.declared.errors.SlateDBError.{SlateDBError}
use Rattle.fleet_rows.specs.declared.errors.SlateDBError.TheVariants as error
use Rattle.fleet_jobs.specs.Parts.JobParts.{JobParts}
use Rattle.fleet_jobs.specs.Jobs.{jobs_of}
use Rattle.fleet_jobs.specs.Specs.{spec_of}
use Rattle.fleet_jobs.specs.declared.spec.CompactionSpec.{CompactionSpec}
use Rattle.fleet_book.specs.Records.{record_with}
use Rattle.fleet_book.specs.VersionedRecords.{VersionedRecords}
use Rattle.fleet_book.specs.Versions.{records_of}
use Rattle.fleet_store.specs.Asks.{DrawsJobId, GetsRecords, RecordsPutFit}
use Rattle.fleet_store.specs.Exchanges.{records_put}
use Rattle.fleet_store.specs.Records.{DescribeTables}
use Rattle.fleet_store.proofs.Later.{still_describe}
use Rattle.fleet_step.specs.Draws.{Drew, DrewUntil}
use Rattle.fleet_step.specs.Steps.{Leads, StepRan, TryRan, puts_and}
use Rattle.fleet_step.proofs.Draws.{drew_fails, drew_leads}
use Rattle.fleet_step.proofs.Keeping.{step_keeps}
use Rattle.fleet_step.proofs.Puts.{got_described, got_records}
use Rattle.fleet_step.proofs.Steps.{begins, gives, then_ran, then_tried, tried, wants}
use Rattle.fleet_step.proofs.Turns.{records_put_fits}
use Rattle.fleet_coordinator.specs.Submits.{AreNewTo, IsSubmitPut, IsSubmitter, MaySubmit}
use Rattle.fleet_coordinator.specs.declared.submission.SubmitPut.{SubmitPut}

-- ---- exits

-- There are no records.
pub has_no_records : {A B : Type 0} (ends : A → StepEnd B) {course rest : Course (StepEnd B)} {again : ℕ → Course (StepEnd B)} {old mid : StoreView} → Leads course old rest mid → rest ≡ Ends NoRecords
    → TryRan ends course again old mid (Err error.InvalidDBState)
has_no_records ends {mid = mid} lead is = then_tried ends lead (tried ends refl (record { to_end = rw is (gives NoRecords mid) }))

-- ---- in the midst of a step

-- A lawful course that came so far keeps the invariant, since memory could run out here.
pub keeps_midway : {A : Type 0} (course rest : Course (StepEnd A)) (old mid : StoreView) → IsLawful old.who.merge → Keeps old.who.merge old.world → IsLawfulCourse old.who old.world course → Leads course old rest mid
    → Keeps mid.who.merge mid.world
keeps_midway {A} course rest old mid merges keeps lawful lead = step_keeps {A = A} {B = A} Reports course old mid (Err error.Memory) merges keeps lawful (then_ran Reports lead (wants Reports rest mid))

-- ---- a submission is a lawful course

module _ (view : StoreView) (moment : ℕ) (specs : List JobSpec) (merges : IsLawful view.who.merge) (by : IsSubmitter view) (keeps : Keeps view.who.merge view.world) where
  pub submit_lawful : IsLawfulCourse view.who view.world (submit moment specs)
  submit_lawful = (submits_are_lawful view.who view.world).submits moment specs (calls_keep view.who.merge merges) keeps by

  pub try_lawful : IsLawfulCourse view.who view.world (submit_try moment specs (tries (submit_try moment specs) 63))
  unfolding submit
  try_lawful = submit_lawful

-- ---- the get of the records

pub named_later : (old new : World) → Later old new → (jobs : Jobs) → AllByRecursion (λ job. IsTrue (was_named old.store.history job.id)) jobs → AllByRecursion (λ job. IsTrue (was_named new.store.history job.id)) jobs
named_later old new later [] all = tt
named_later old new later (job ∷ jobs) all = (done_later (λ event. contains (firsts (named_specs event)) job.id) old new later all.0, named_later old new later jobs all.1)

module _ {old mid : StoreView} {got : VersionedRecords} (gets : GetsRecords old mid (Ok (Some got))) (merges : IsLawful old.who.merge) (keeps : Keeps old.who.merge old.world) where
  abbrev met : World
  met = gets.called.met

  abbrev after : World
  after = after_call old.who.line old.who.party (Plain GetRecords) None met

  kept_met : Keeps old.who.merge met
  kept_met = rivals_keep old.who old.world met (calls_keep old.who.merge merges) keeps gets.called.rivals

  pub kept_got : Keeps mid.who.merge mid.world
  kept_got =
      subst (λ (who : Caller). Keeps who.merge mid.world) (sym gets.called.same.who)
      (subst (Keeps old.who.merge) (sym gets.called.ended.1.leaves) (keeps_after old.who (Plain GetRecords) met (calls_keep old.who.merge merges) kept_met tt))

  -- Each job that was got was named.
  pub named_got : AllByRecursion (λ job. IsTrue (was_named mid.world.store.history job.id)) (jobs_of got.compactions.jobs)
  named_got =
      subst (λ (world : World). AllByRecursion (λ job. IsTrue (was_named world.store.history job.id)) (jobs_of got.compactions.jobs)) (sym gets.called.ended.1.leaves)
      (named_later met after (later_by old.who.line old.who.party (Plain GetRecords) None met) (jobs_of got.compactions.jobs)
      (subst (λ r. AllByRecursion (λ job. IsTrue (was_named met.store.history job.id)) (jobs_in r)) (sym gets.called.ended.0.same) kept_met.facts.names.named))

  pub described_got : DescribeTables got.compactions.jobs mid.world.store
  described_got = got_described gets mid.world.store (store_law.later_itself mid.world.store)

  -- Jobs of these specs may be submitted over the records that were got.
  pub may_submit : (moment : ℕ) (specs : List CompactionSpec) → IsSubmitter old → MaySubmit mid moment got specs
  may_submit moment specs by = record {
    keeps = kept_got;
    named = named_got;
    described = described_got;
    again = again;
    lawful = subst (λ (who : Caller). IsLawfulCourse who mid.world (submits_specs moment (records_of got) (map spec_of specs) again)) (sym gets.called.same.who)
        ((got_records gets (λ records. submit_by moment (map spec_of specs) records again)).lawful (try_lawful old moment (map spec_of specs) merges by keeps));
  }
    where
      again : ℕ → Course (StepEnd (List ℕ))
      again = tries (submit_try moment (map spec_of specs)) 63

-- ---- the draws

abbrev pub marked : List ℕ → List (ℕ × ⊤)
marked ids = map (λ id. (id, tt)) ids

-- The store is later than the start, it meets the invariant, and the ids that were drawn are new.
pub record Drawing (start : World) (view : StoreView) (pairs : List (ℕ × ⊤)) : Type 0 where
  pub kept : Keeps view.who.merge view.world
  pub later : Later start view.world
  pub fresh : AreFresh view.who.party view.world pairs

module _ (start : World) (moment : ℕ) where
  -- If one more job id is drawn, all drawn ids are new, and the store is still later than the start.
  drew_one : (pairs : List (ℕ × ⊤)) (id : ℕ) (old new : StoreView) → IsLawful old.who.merge → DrawsJobId old new moment (Ok id) → Drawing start old pairs → Drawing start new (pairs ++ (id, tt) ∷ [])
  drew_one pairs id old new merges draw so_far =
      let who = old.who in
      let keep = calls_keep who.merge merges in
      let there = rivals_keep who old.world draw.met keep so_far.kept draw.rivals in
      let room = draw.ended.1.room in
      let after = after_call who.line who.party (DrawsJob moment) None draw.met in
      let later : Later start after = later_then start draw.met after (later_then start old.world draw.met so_far.later (rivals_later who old.world draw.met draw.rivals)) (later_by who.line who.party (DrawsJob moment) None draw.met) in
      let fresh = drawn_fresh who draw.met moment tt pairs there room (rivals_fresh who pairs old.world draw.met keep so_far.kept draw.rivals so_far.fresh) in
      record {
        kept = subst (λ (w : Caller). Keeps w.merge new.world) (sym draw.same.who) (subst (Keeps who.merge) (sym draw.ended.1.leaves) (keeps_after who (DrawsJob moment) draw.met keep there room));
        later = subst (Later start) (sym draw.ended.1.leaves) later;
        fresh = subst (λ (w : Caller). AreFresh {B = ⊤} w.party new.world (pairs ++ (id, tt) ∷ [])) (sym draw.same.who)
            (subst (λ n. AreFresh {B = ⊤} who.party new.world (pairs ++ (n, tt) ∷ [])) (sym draw.ended.0)
            (subst (λ world. AreFresh {B = ⊤} who.party world (pairs ++ (next_job_id moment draw.met.store, tt) ∷ [])) (sym draw.ended.1.leaves) fresh));
      }

  pub drew_all : (ids : List ℕ) (pairs : List (ℕ × ⊤)) (old new : StoreView) → IsLawful old.who.merge → Drew moment ids old new → Drawing start old pairs → Drawing start new (pairs ++ marked ids)
  drew_all [] pairs old new merges same so_far = subst (Drawing start new) (sym (append-nil pairs)) (subst (λ v. Drawing start v pairs) (sym same) so_far)
  drew_all (id ∷ ids) pairs old new merges (mid, (draw, rest)) so_far =
      subst (Drawing start new) (append_assoc pairs ((id, tt) ∷ []) (marked ids))
      (drew_all ids (pairs ++ (id, tt) ∷ []) mid new (subst (λ (w : Caller). IsLawful w.merge) (sym draw.same.who) merges) rest (drew_one pairs id old mid merges draw so_far))

-- ---- drawn ids are new to records whose jobs were all named

module _ (history : List Entry) (jobs : List JobParts) where
  unused : (id : ℕ) → is_mentioned history id ≡ false → (these : List JobParts) → AllByRecursion (λ job. IsTrue (was_named history job.id)) (jobs_of these) → record_with id these ≡ None
  unused id fresh [] named = refl
  unused id fresh (job ∷ these) named = by (job.id == id) refl (unused id fresh these named.1)
    where
      by : (b : Bool) → (job.id == id) ≡ b → record_with id these ≡ None → cond b (Some job) (record_with id these) ≡ None
      by true e rest = absurd (refused (was_named history id) (not_named history id fresh (was_named history id) refl) (subst (λ n. IsTrue (was_named history n)) ((Decides-eqb job.id id).0 e) named.0))
      by false e rest = rest

  pub all_unused : AllByRecursion (λ job. IsTrue (was_named history job.id)) (jobs_of jobs) → (ids : List ℕ) → AllByRecursion (λ p. is_mentioned history p.0 ≡ false) (marked ids) → AllByRecursion (λ id. record_with id jobs ≡ None) ids
  all_unused named [] fresh = tt
  all_unused named (id ∷ ids) fresh = (unused id fresh.0 jobs named, all_unused named ids fresh.1)

differ : (id : ℕ) (ids : List ℕ) → AllByRecursion (λ (q : ℕ × ⊤). id ≢ q.0) (marked ids) → AllByRecursion (λ other. id ≢ other) ids
differ id [] all = tt
differ id (other ∷ ids) all = (all.0, differ id ids all.1)

pub each_once : (ids : List ℕ) → Pairs (λ (p q : ℕ × ⊤). p.0 ≢ q.0) (marked ids) → Pairs (λ a b. a ≢ b) ids
each_once [] once = tt
each_once (id ∷ ids) once = (differ id ids once.0, each_once ids once.1)

-- ---- the put

-- Equal puts are one course.
same_put : (v v' : ℕ) (c c' : RecordChange) (e e' : ℕ) (j j' : Jobs) (r r' : List ℕ) (again : ℕ → Course (StepEnd (List ℕ))) → v ≡ v' → c ≡ c' → e ≡ e' → j ≡ j' → r ≡ r'
    → puts_and (PutsRecords v c e j) v (Ends (Reports r)) again ≡ puts_and (PutsRecords v' c' e' j') v' (Ends (Reports r')) again
same_put v v' c c' e e' j j' r r' again a b x y z = rw (a, b, x, y, z) refl

firsts_are : (ids : List ℕ) (specs : List JobSpec) → length ids ≡ length specs → firsts (zip ids specs) ≡ ids
firsts_are [] specs many = refl
firsts_are (id ∷ ids) [] many = absurd (cc many)
firsts_are (id ∷ ids) (spec ∷ specs) many = ap (λ rest. id ∷ rest) (firsts_are ids specs (cc many))

as_put : (moment : ℕ) (got : VersionedRecords) (ids : List ℕ) (specs : List CompactionSpec) (put : SubmitPut) → IsSubmitPut got ids specs put → (specs ≡ [] → ⊥) → length ids ≡ length (map spec_of specs) → (again : ℕ → Course (StepEnd (List ℕ)))
    → submits_drawn moment (records_of got) (zip ids (map spec_of specs)) again ≡ puts_and (records_put put.version put.value put.why) put.version (Ends (Reports ids)) again
as_put moment got ids [] put is some many again = absurd (some refl)
as_put moment got [] (spec ∷ specs) put is some many again = absurd (cc many)
as_put moment got (id ∷ ids) (spec ∷ specs) put is some many again =
    same_put _ _ _ _ _ _ _ _ _ _ again (sym is.at) (sym is.why) (sym is.epoch) (sym is.jobs) (firsts_are (id ∷ ids) (map spec_of (spec ∷ specs)) many)

-- There are specs, if their number is not 0.
pub some_specs : (specs : List CompactionSpec) → (length specs == 0) ≡ false → specs ≡ [] → ⊥
some_specs [] some none = absurd (cc some)
some_specs (spec ∷ specs) some none = absurd (cc none)

pub many_specs : (specs : List CompactionSpec) → length specs ≡ length (map spec_of specs)
many_specs [] = refl
many_specs (spec ∷ specs) = ap suc (many_specs specs)

module _ (old mid : StoreView) (moment : ℕ) (got : VersionedRecords) (specs : List CompactionSpec) (may : MaySubmit old moment got specs) (merges : IsLawful old.who.merge) (ids : List ℕ) (many : length ids ≡ length specs) (drew : Drew moment ids old mid) where
  drawing : Drawing old.world mid (marked ids)
  drawing = drew_all old.world moment ids [] old mid merges drew (record { kept = may.keeps; later = later_itself old.world; fresh = record { drawn = tt; fresh = tt; once = tt } })

  -- The ids are new.
  pub new_to : AreNewTo got.compactions.jobs ids
  new_to = record {
    unused = all_unused mid.world.store.history got.compactions.jobs (named_later old.world mid.world drawing.later (jobs_of got.compactions.jobs) may.named) ids drawing.fresh.fresh;
    once = each_once ids drawing.fresh.once;
  }

  -- The submission came so far.
  pub at_drawn : (again : ℕ → Course (StepEnd (List ℕ))) → Leads (submits_specs moment (records_of got) (map spec_of specs) again) old (submits_drawn moment (records_of got) (zip ids (map spec_of specs)) again) mid
  at_drawn again = drew_leads moment (map spec_of specs) ids old mid (many ∙ many_specs specs) drew (λ drawn. submits_drawn moment (records_of got) drawn again)

  module _ (put : SubmitPut) (is : IsSubmitPut got ids specs put) (some : specs ≡ [] → ⊥) where
    pub put_is : (again : ℕ → Course (StepEnd (List ℕ))) → submits_drawn moment (records_of got) (zip ids (map spec_of specs)) again ≡ puts_and (records_put put.version put.value put.why) put.version (Ends (Reports ids)) again
    put_is again = as_put moment got ids specs put is some (many ∙ many_specs specs) again

    pub put_fits : RecordsPutFit mid put.version put.value put.why
    put_fits =
        records_put_fits (at_drawn may.again) put.version put.value put.why (Ends (Reports ids)) may.again (put_is may.again) may.lawful
        (λ met later. is.described met.store (still_describe mid.world.store met.store later got.compactions.jobs (still_describe old.world.store mid.world.store (at_drawn may.again).later got.compactions.jobs may.described)))

-- ---- all tries

pub first_submit : (view : StoreView) (moment : ℕ) (specs : List JobSpec) → Leads (submit moment specs) view (tries (submit_try moment specs) 64 0) view
unfolding submit
first_submit view moment specs = begins (tries (submit_try moment specs) 64 0) view

pub submitted_keeps : (old new : StoreView) (moment : ℕ) (specs : List JobSpec) (result : Result (List ℕ) SlateDBError) → IsSubmitter old → IsLawful old.who.merge → Keeps old.who.merge old.world → StepRan Reports (submit moment specs) old new result
    → Keeps new.who.merge new.world
submitted_keeps old new moment specs result by merges keeps ran = step_keeps Reports (submit moment specs) old new result merges keeps (submit_lawful old moment specs merges by keeps) ran

-- The draws fail.
pub draws_fail : (old new : StoreView) (moment : ℕ) (got : VersionedRecords) (specs : List CompactionSpec) (again : ℕ → Course (StepEnd (List ℕ))) (e : SlateDBError) → DrewUntil moment (length specs) old new e
    → TryRan Reports (submits_specs moment (records_of got) (map spec_of specs) again) again old new (Err e)
draws_fail old new moment got specs again e until =
    let many = many_specs specs in
    let few = until.few in
    drew_fails moment Reports again (map spec_of specs) e until.ids old until.mid new until.drew (subst (λ n. length until.ids ≤ n) many few) (subst (λ n. ((length until.ids < n) × DrawsJobId until.mid new moment (Err e)) ⊎ ((e ≡ error.Memory) × (new ≡ until.mid))) many until.stopped)
    (λ drawn. submits_drawn moment (records_of got) drawn again)
