-- Submissions are lawful courses.
use Rattle.std.proofs.Common.{◌≡◌, refl, sym, subst, ℕ, zero, suc, List, [], ◌∷◌, ◌++◌, cond, Bool, true, false, Option, Some, None}
use Rattle.std.specs.Prelude.{◌==◌}
use Rattle.std.proofs.lemmas.List.{append-nil, append_assoc}
use Rattle.fleet_model.specs.Jobs.{JobSpec}
use Rattle.fleet_model.specs.History.{Submitter, GetManifest, GetRecords, Submit}
use Rattle.fleet_model.specs.Store.{Records}
use Rattle.fleet_model.specs.Work.Records.{jobs_after, firsts}
use Rattle.fleet_model.specs.Work.Scheduler.{Scheduler, Request, Generated, Specs, shown_view}
use Rattle.fleet_model.specs.Work.Scheduler as scheduler
use Rattle.fleet_model.specs.Exchanges.{Plain, DrawsJob, PutsRecords, records_version, next_job_id}
use Rattle.step_model.specs.Past.{World}
use Rattle.step_model.specs.Lawful.{Lawful}
use Rattle.step_model.specs.Rivals.{Caller, after_call}
use Rattle.step_model.specs.Kept.Keeps.{Keeps}
use Rattle.step_model.specs.Steps.ClaimSteps.{at_moment}
use Rattle.step_model.specs.Courses.Tries.{tries}
use Rattle.step_model.specs.Steps.SubmitSteps.{submits_drawn, submits_specs, submit_by, submit_try, submit, submits_generated, request_by, request_try, submit_request}
use Rattle.step_model.specs.Courses.StepEnds.{StepEnd, Reports, most_refused}
use Rattle.step_model.specs.Courses.Course.{Course, Ends, draws_jobs}
use Rattle.step_model.specs.Courses.CourseRuns.{IsLawfulCourse}
use Rattle.step_laws.specs.Runs.{CallsKeep}
use Rattle.step_laws.proofs.Runs.{rivals_keep}
use Rattle.course_laws.specs.Submits.{SubmitsAreLawful}
use Rattle.course_laws.proofs.Later.{Later, later_itself, later_by, later_then, rivals_later, later_met}
use Rattle.course_laws.proofs.Calls.{keeps_after}
use Rattle.course_laws.proofs.Puts.{got_records, over_got}
use Rattle.course_laws.proofs.NewIds.{AreFresh, rivals_fresh, drawn_fresh, names_fit, are_new}

-- ---- draws

-- What comes after the draws is lawful where the drawn ids are new.
abbrev Goes : {A B : Type 0} → Caller → World → List (ℕ × B) → (List (ℕ × B) → Course A) → Type 0
Goes {A} {B} who start before next = (world : World) (drawn : List (ℕ × B)) → Keeps who.merge world → Later start world → AreFresh who.party world (before ++ drawn) → IsLawfulCourse who world (next drawn)

-- Draws one after the other are lawful, and the drawn ids are new.
pub draws_lawful : {A B : Type 0} (who : Caller) (moment : ℕ) (start : World) (xs : List B) (before : List (ℕ × B)) (next : List (ℕ × B) → Course A) (world : World) → CallsKeep who.merge → Keeps who.merge world → Later start world
    → AreFresh who.party world before → Goes who start before next → IsLawfulCourse who world (draws_jobs moment xs next)
draws_lawful {A} {B} who moment start [] before next world keep kept later fresh goes = goes world [] kept later (subst (AreFresh who.party world) (sym (append-nil before)) fresh)
draws_lawful {A} {B} who moment start (x ∷ xs) before next world keep kept later fresh goes = λ met rivals room.
    let id = next_job_id moment met.store in
    let there = rivals_keep who world met keep kept rivals in
    let new = after_call who.line who.party (DrawsJob moment) None met in
    let still = rivals_fresh who before world met keep kept rivals fresh in (
      room,
      draws_lawful who moment start xs (before ++ (id, x) ∷ []) (λ drawn. next ((id, x) ∷ drawn)) new keep (keeps_after who (DrawsJob moment) met keep there room)
          (later_then start met new (later_then start world met later (rivals_later who world met rivals)) (later_by who.line who.party (DrawsJob moment) None met))
          (drawn_fresh who met moment x before there room still)
          (λ after drawn kept_after on all. goes after ((id, x) ∷ drawn) kept_after on (subst (AreFresh who.party after) (append_assoc before ((id, x) ∷ []) drawn) all)),
    )

-- ---- the put

put_fits : (who : Caller) (moment : ℕ) (start new : World) (got : Records) (named : List (ℕ × JobSpec)) → who.party ≡ Submitter → start.store.records ≡ Some got → Later start new → AreFresh who.party new named
    → Lawful who.merge who.party new (PutsRecords got.version (Submit named) got.epoch (jobs_after (at_moment moment) (Submit named) got.jobs))
put_fits who moment start new got named by is later fresh = (
  names_fit who.party new named fresh,
  λ version.
      let same = got_records start new (Some got) is later version in
      over_got who.merge who.party new got (Submit named) (at_moment moment) got.epoch same (λ r there stored. rw stored there) refl (record { by = by; new = are_new who.party new named fresh }),
)

-- Another try is a lawful course over each store that meets the invariant.
abbrev Tries : Caller → (ℕ → Course (StepEnd (List ℕ))) → Type 0
Tries who again = (version : ℕ) (world : World) → Keeps who.merge world → IsLawfulCourse who world (again version)

after : (who : Caller) (again : ℕ → Course (StepEnd (List ℕ))) → Tries who again → (world : World) (version : ℕ) (ids : List ℕ) → Keeps who.merge world → (b : Bool) → IsLawfulCourse who world (cond b (Ends (Reports ids)) (again version))
after who again tries world version ids kept true = tt
after who again tries world version ids kept false = tries version world kept

drawn_lawful : (who : Caller) (moment : ℕ) (start : World) (got : Records) (again : ℕ → Course (StepEnd (List ℕ))) → CallsKeep who.merge → who.party ≡ Submitter → start.store.records ≡ Some got → Tries who again
    → Goes who start [] (λ (drawn : List (ℕ × JobSpec)). submits_drawn moment got drawn again)
drawn_lawful who moment start got again keep by is tries world [] kept later fresh = tt
drawn_lawful who moment start got again keep by is tries world (p ∷ named) kept later fresh = λ put rivals room.
    let lawful = put_fits who moment start put got (p ∷ named) by is (later_then start world put later (rivals_later who world put rivals)) (rivals_fresh who (p ∷ named) world put keep kept rivals fresh) in
    let x = PutsRecords got.version (Submit (p ∷ named)) got.epoch (jobs_after (at_moment moment) (Submit (p ∷ named)) got.jobs) in (
      lawful,
      after who again tries (after_call who.line who.party x None put) (records_version put.store.records) (firsts (p ∷ named)) (keeps_after who x put keep (rivals_keep who world put keep kept rivals) lawful) (got.version == records_version put.store.records),
    )

specs_lawful : (who : Caller) (moment : ℕ) (start world : World) (got : Records) (specs : List JobSpec) (again : ℕ → Course (StepEnd (List ℕ))) → CallsKeep who.merge → who.party ≡ Submitter → start.store.records ≡ Some got
    → Tries who again → Later start world → Keeps who.merge world → IsLawfulCourse who world (submits_specs moment got specs again)
specs_lawful who moment start world got specs again keep by is tries later kept =
    draws_lawful who moment start specs [] (λ drawn. submits_drawn moment got drawn again) world keep kept later (record { drawn = tt; fresh = tt; once = tt }) (drawn_lawful who moment start got again keep by is tries)

-- ---- submissions

submit_over : (who : Caller) (moment : ℕ) (specs : List JobSpec) (again : ℕ → Course (StepEnd (List ℕ))) → CallsKeep who.merge → who.party ≡ Submitter → Tries who again → (met : World) (records : Option Records) → Keeps who.merge met
    → met.store.records ≡ records → IsLawfulCourse who (after_call who.line who.party (Plain GetRecords) None met) (submit_by moment specs records again)
submit_over who moment specs again keep by tries met None kept is = tt
submit_over who moment specs again keep by tries met (Some got) kept is =
    specs_lawful who moment met _ got specs again keep by is tries (later_by who.line who.party (Plain GetRecords) None met) (keeps_after who (Plain GetRecords) met keep kept tt)

submit_tries : (who : Caller) (moment : ℕ) (specs : List JobSpec) → CallsKeep who.merge → who.party ≡ Submitter → (left seen : ℕ) (world : World) → Keeps who.merge world → IsLawfulCourse who world (tries (submit_try moment specs) left seen)
submit_tries who moment specs keep by zero seen world kept = tt
submit_tries who moment specs keep by (suc left) seen world kept = λ met rivals room.
    (tt, submit_over who moment specs (tries (submit_try moment specs) left) keep by (λ version next there. submit_tries who moment specs keep by left version next there) met met.store.records (rivals_keep who world met keep kept rivals) refl)

-- ---- requests

generated_lawful : (who : Caller) (moment : ℕ) (start world : World) (got : Records) (generated : Generated) (again : ℕ → Course (StepEnd (List ℕ))) → CallsKeep who.merge → who.party ≡ Submitter → start.store.records ≡ Some got
    → Tries who again → Later start world → Keeps who.merge world → IsLawfulCourse who world (submits_generated moment got generated again)
generated_lawful who moment start world got (Specs specs) again keep by is tries later kept = specs_lawful who moment start world got specs again keep by is tries later kept
generated_lawful who moment start world got scheduler.Invalid again keep by is tries later kept = tt
generated_lawful who moment start world got (scheduler.Declined message) again keep by is tries later kept = tt

request_over : (who : Caller) (moment : ℕ) (asked : Scheduler) (request : Request) (again : ℕ → Course (StepEnd (List ℕ))) → CallsKeep who.merge → who.party ≡ Submitter → Tries who again → (met : World) (records : Option Records)
    → Keeps who.merge met → met.store.records ≡ records → IsLawfulCourse who (after_call who.line who.party (Plain GetRecords) None met) (request_by moment asked request records again)
request_over who moment asked request again keep by tries met None kept is = tt
request_over who moment asked request again keep by tries met (Some got) kept is = λ m rivals room.
    let there = rivals_keep who (after_call who.line who.party (Plain GetRecords) None met) m keep (keeps_after who (Plain GetRecords) met keep kept tt) rivals in (
      tt,
      generated_lawful who moment met _ got (asked.generate (shown_view m.store.tables m.store.manifest got got.jobs) request) again keep by is tries
          (later_then met m _ (later_met who (Plain GetRecords) met met m (later_itself met) rivals) (later_by who.line who.party (Plain GetManifest) None m)) (keeps_after who (Plain GetManifest) m keep there tt),
    )

request_tries : (who : Caller) (moment : ℕ) (asked : Scheduler) (request : Request) → CallsKeep who.merge → who.party ≡ Submitter → (left seen : ℕ) (world : World) → Keeps who.merge world
    → IsLawfulCourse who world (tries (request_try moment asked request) left seen)
request_tries who moment asked request keep by zero seen world kept = tt
request_tries who moment asked request keep by (suc left) seen world kept = λ met rivals room. (
  tt,
  request_over who moment asked request (tries (request_try moment asked request) left) keep by (λ version next there. request_tries who moment asked request keep by left version next there) met met.store.records
      (rivals_keep who world met keep kept rivals) refl,
)

pub submits_are_lawful : (who : Caller) (world : World) → SubmitsAreLawful who world
unfolding submit submit_request
submits_are_lawful who world = record {
  submits = λ moment specs keep kept by. submit_tries who moment specs keep by most_refused 0 world kept;
  requests = λ moment asked request keep kept by. request_tries who moment asked request keep by most_refused 0 world kept;
}
