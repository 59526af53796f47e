-- A worker's claim is a lawful course.
use Rattle.std.proofs.Common.{◌≡◌, ◌≢◌, refl, sym, subst, ℕ, zero, suc, ◌+◌, ◌-◌, ◌<◌, List, [], ◌∷◌, cond, Bool, true, false, Option, Some, None, length, arith}
use Rattle.std.specs.Prelude.{IsTrue, ◌==◌, ◌&&◌, not, filter, map, flat_map}
use Rattle.std.specs.List.{AllByRecursion}
use Rattle.row_model.specs.Lists.{Pairs}
use Rattle.fleet_model.specs.Jobs.{Job, Jobs, Context, job_with, contains, ids}
use Rattle.fleet_model.specs.History.{Worker, GetManifest, GetRecords, Claim, Entry, stood}
use Rattle.fleet_model.specs.Store.{Records, jobs_in}
use Rattle.fleet_model.specs.Work.Records.{jobs_after}
use Rattle.fleet_model.specs.Work.Attempts.{ClaimInput}
use Rattle.fleet_model.specs.Work.Claims.{is_waiting, may_take, claimed_jobs, stopped_jobs}
use Rattle.fleet_model.specs.Work.Parties.{LiveWorker, attempt_jobs}
use Rattle.fleet_model.specs.Exchanges.{Plain, PutsRecords, records_version}
use Rattle.step_model.specs.Past.{World}
use Rattle.step_model.specs.Entries.{was_claimed, is_claim_of, is_in}
use Rattle.step_model.specs.Lawful.{Lawful}
use Rattle.step_model.specs.LawfulTables.{PlainFits}
use Rattle.step_model.specs.LawfulRecords.{OfSome, ClaimFits}
use Rattle.step_model.specs.Rivals.{Caller, after_call}
use Rattle.step_model.specs.Kept.Keeps.{Keeps}
use Rattle.step_model.specs.Courses.CourseRuns.{IsLawfulCourse}
use Rattle.step_model.specs.Courses.Tries.{tries}
use Rattle.step_model.specs.Steps.ClaimSteps.{WorkerOptions, Claimed, at_moment, can_start, plan_of, starts_claimed, claim_of, claim_by, claim_try, claim}
use Rattle.step_model.specs.Courses.StepEnds.{StepEnd, most_refused}
use Rattle.step_model.specs.Courses.Course.{Course, Calls}
use Rattle.step_laws.specs.Runs.{CallsKeep}
use Rattle.step_laws.proofs.Runs.{rivals_keep}
use Rattle.step_laws.proofs.Elements.{all_from, all_to, all_flat, any_of, any_push_yes, is_itself, pairs_map}
use Rattle.step_laws.proofs.Changed.{found_job}
use Rattle.step_laws.proofs.TableReplays.{all_filter}
use Rattle.course_laws.specs.Claims.{ClaimsAreLawful}
use Rattle.course_laws.proofs.Later.{Later, later_itself, later_met, later_then, later_by, rivals_later, call_history}
use Rattle.course_laws.proofs.Puts.{got_records, over_got}
use Rattle.course_laws.proofs.Calls.{keeps_after, calls_lawful, done_later, pairs_filter, all_take, pairs_take, filtered, all_map}
use Rattle.step_laws.proofs.Polls.{in_map}
use Rattle.rival_laws.proofs.JobsMerged.{and_first}
use Rattle.step_laws.proofs.MidwayCalls.{unnamed}

-- ---- the claimed jobs

-- The job is among the jobs and waits for a worker.
abbrev Waits : Jobs → Job → Type 0
Waits jobs job = (job_with job.id jobs ≡ Some job) × (is_waiting job ≡ true)

-- Jobs that a claim may take, by rising id.
record Chosen (jobs these : Jobs) : Type 0 where
  wait : AllByRecursion (Waits jobs) these
  rise : Pairs (λ a b. a.id < b.id) these

chosen : (slots : ℕ) (w : LiveWorker) (jobs : Jobs) → Pairs (λ a b. a.id < b.id) jobs → Chosen jobs (claimed_jobs slots w jobs)
chosen slots w jobs rise =
    let test = λ (job : Job). is_waiting job && not (contains (attempt_jobs w.attempts) job.id) && may_take w.release job in
    record {
      wait = all_take (Waits jobs) (slots - length w.attempts) (filter test jobs)
          (all_to _ (Waits jobs) (filter test jobs) (λ job there h. (found_job jobs job rise h.0, and_first (is_waiting job) _ (and_first _ (may_take w.release job) h.1))) (filtered test jobs));
      rise = pairs_take _ (slots - length w.attempts) (filter test jobs) (pairs_filter _ test jobs rise);
    }

-- ---- the put

-- The attempt at a job that a claim begins.
abbrev pub next_attempt : Job → ℕ × ℕ
next_attempt job = (job.id, job.attempt + 1)

claim_fits : (who : Caller) (w : LiveWorker) (new : World) (got : Records) (these : Jobs) → who.party ≡ Worker w.number → new.store.records ≡ Some got → Chosen got.jobs these
    → ClaimFits who.party new w.number (map next_attempt these)
claim_fits who w new got these by same c = record {
  by = by;
  once = pairs_map (λ a b. a.id < b.id) (λ a b. a.0 ≢ b.0) next_attempt these (λ x y one other low equal. omega (arith, low, equal)) c.rise;
  each = all_map _ next_attempt these (all_to (Waits got.jobs) _ these (λ job there h.
      subst (λ r. OfSome (λ other. IsTrue (is_waiting other) × (job.attempt + 1 ≡ other.attempt + 1)) (job_with job.id (jobs_in r))) (sym same)
      (subst (OfSome (λ other. IsTrue (is_waiting other) × (job.attempt + 1 ≡ other.attempt + 1))) (sym h.0) (h.1, refl))) c.wait);
}

put_fits : (who : Caller) (moment : ℕ) (w : LiveWorker) (old new : World) (got : Records) (these : Jobs) → who.party ≡ Worker w.number → old.store.records ≡ Some got → Later old new → Chosen got.jobs these
    → let change = Claim w.number (map next_attempt these) in Lawful who.merge who.party new (PutsRecords got.version change got.epoch (jobs_after (at_moment moment) change got.jobs))
put_fits who moment w old new got these by is later c = (
  unnamed who.party new,
  λ version.
      let same = got_records old new (Some got) is later version in
      over_got who.merge who.party new got (Claim w.number (map next_attempt these)) (at_moment moment) got.epoch same (λ r there stored. rw stored there) refl (claim_fits who w new got these by same c),
)

-- ---- the notes of plans

-- All these jobs were claimed, each at its next attempt.
abbrev pub WereClaimed : World → ℕ → Jobs → Type 0
WereClaimed world worker these = AllByRecursion (λ job. IsTrue (was_claimed world.store.history worker job.id (job.attempt + 1))) these

pub claimed_later : (old new : World) (worker : ℕ) (these : Jobs) → Later old new → WereClaimed old worker these → WereClaimed new worker these
claimed_later old new worker these later h = all_to _ _ these (λ job there one. done_later (is_claim_of worker job.id (job.attempt + 1)) old new later one) h

pub put_stood : (who : Caller) (met : World) (version worker epoch : ℕ) (these jobs : Jobs) → (version == records_version met.store.records) ≡ true
    → WereClaimed (after_call who.line who.party (PutsRecords version (Claim worker (map next_attempt these)) epoch jobs) None met) worker these
put_stood who met version worker epoch these jobs e = all_from _ these (λ job there.
    let x = PutsRecords version (Claim worker (map next_attempt these)) epoch jobs in
    let named : is_in job.id (job.attempt + 1) (map next_attempt these) ≡ true =
    any_of (λ (a : ℕ × ℕ). (job.id == a.0) && (job.attempt + 1 == a.1)) (map next_attempt these) (next_attempt job) (in_map next_attempt these job there) (rw (is_itself job.id, is_itself (job.attempt + 1)) refl) in
    subst (λ (history : List Entry). IsTrue (was_claimed history worker job.id (job.attempt + 1))) (sym (call_history who.line who.party x None met.store))
    (any_push_yes (λ (entry : Entry). is_claim_of worker job.id (job.attempt + 1) entry.event && stood entry.answer) met.store.history _ (rw (is_itself worker, named, e) refl)))

plan_fits : (who : Caller) (worker : ℕ) (world : World) (input : ClaimInput) (job : Job) → who.party ≡ Worker worker → IsTrue (was_claimed world.store.history worker job.id (job.attempt + 1))
    → AllByRecursion (PlainFits who.party world.store) (plan_of input job)
plan_fits who worker world input job by claimed = at job.context refl
  where
    at : (context : Option Context) → job.context ≡ context → AllByRecursion (PlainFits who.party world.store) (plan_of input job)
    at None e = rw e (record { worker = worker; by = by; claimed = claimed }, tt)
    at (Some context) e = rw e tt

started_lawful : (who : Caller) (w : LiveWorker) (world : World) (input : ClaimInput) (these : Jobs) (stopped : List ℕ) → who.party ≡ Worker w.number → WereClaimed world w.number these
    → IsLawfulCourse who world (starts_claimed input w these stopped)
started_lawful who w world input these stopped by claimed =
    calls_lawful who _ (flat_map (plan_of input) (filter (can_start input.manifest) these)) world
    (λ new later. all_flat (PlainFits who.party new.store) (plan_of input) (filter (can_start input.manifest) these)
    (all_filter _ (can_start input.manifest) these (all_to _ _ these (λ job there one. plan_fits who w.number new input job by one) (claimed_later world new w.number these later claimed))))
    (λ new later. tt)

-- ---- tries

-- Another try of the claim is a lawful course over each store that meets the invariant.
abbrev Tries : Caller → (ℕ → Course (StepEnd Claimed)) → Type 0
Tries who again = (version : ℕ) (world : World) → Keeps who.merge world → IsLawfulCourse who world (again version)

-- The end of a claim after its put.
abbrev ends : WorkerOptions → ℕ → LiveWorker → Jobs → List ℕ → Course (StepEnd Claimed)
ends options moment w these stopped = Calls (Plain GetManifest) (λ met. starts_claimed (record {
  release = w.release;
  manifest = met.manifest;
  moment = moment;
  retention = options.retention;
  most = options.most_ranges;
  tables = met.tables;
}) w these stopped)

after : (who : Caller) (options : WorkerOptions) (moment : ℕ) (w : LiveWorker) (these : Jobs) (stopped : List ℕ) (again : ℕ → Course (StepEnd Claimed)) (world : World) (version : ℕ) (b : Bool)
    → who.party ≡ Worker w.number → Tries who again → Keeps who.merge world → (b ≡ true → WereClaimed world w.number these) → IsLawfulCourse who world (cond b (ends options moment w these stopped) (again version))
after who options moment w these stopped again world version true by tries kept claimed = λ met rivals room. (
  tt,
  started_lawful who w _ _ these stopped by (claimed_later world _ w.number these
      (later_then world met _ (rivals_later who world met rivals) (later_by who.line who.party (Plain GetManifest) None met)) (claimed refl)),
)
after who options moment w these stopped again world version false by tries kept claimed = tries version world kept

-- Once a claim has got the records, its put and what comes next are a lawful course, if another try is.
those : (who : Caller) (options : WorkerOptions) (moment : ℕ) (w : LiveWorker) (stopped : List ℕ) (again : ℕ → Course (StepEnd Claimed)) → CallsKeep who.merge → who.party ≡ Worker w.number → Tries who again
    → (met : World) (got : Records) (these : Jobs) → Keeps who.merge met → met.store.records ≡ Some got → Chosen got.jobs these
    → IsLawfulCourse who (after_call who.line who.party (Plain GetRecords) None met) (claim_of options moment w got these stopped again)
those who options moment w stopped again keep by tries met got [] kept is c = tt
those who options moment w stopped again keep by tries met got (job ∷ these) kept is c = λ put rivals room.
    let change = Claim w.number (map next_attempt (job ∷ these)) in
    let lawful = put_fits who moment w met put got (job ∷ these) by is (later_met who (Plain GetRecords) met met put (later_itself met) rivals) c in
    let there = rivals_keep who _ put keep (keeps_after who (Plain GetRecords) met keep kept tt) rivals in (
      lawful,
      after who options moment w (job ∷ these) stopped again _ (records_version put.store.records) (got.version == records_version put.store.records) by tries
          (keeps_after who (PutsRecords got.version change got.epoch (jobs_after (at_moment moment) change got.jobs)) put keep there lawful)
          (λ e. put_stood who put got.version w.number got.epoch (job ∷ these) (jobs_after (at_moment moment) change got.jobs) e),
    )

over : (who : Caller) (options : WorkerOptions) (moment : ℕ) (w : LiveWorker) (again : ℕ → Course (StepEnd Claimed)) → CallsKeep who.merge → who.party ≡ Worker w.number → Tries who again
    → (met : World) (records : Option Records) → Keeps who.merge met → met.store.records ≡ records → IsLawfulCourse who (after_call who.line who.party (Plain GetRecords) None met) (claim_by options moment w records again)
over who options moment w again keep by tries met None kept is = tt
over who options moment w again keep by tries met (Some got) kept is =
    those who options moment w (ids (stopped_jobs w got.jobs)) again keep by tries met got (claimed_jobs options.slots w got.jobs) kept is
    (chosen options.slots w got.jobs (subst (λ r. Pairs (λ a b. a.id < b.id) (jobs_in r)) is kept.stored.sound.job_ids))

claim_tries : (who : Caller) (options : WorkerOptions) (moment : ℕ) (w : LiveWorker) → CallsKeep who.merge → who.party ≡ Worker w.number → (left seen : ℕ) (world : World) → Keeps who.merge world
    → IsLawfulCourse who world (tries (claim_try options moment w) left seen)
claim_tries who options moment w keep by zero seen world kept = tt
claim_tries who options moment w keep by (suc left) seen world kept = λ met rivals room.
    (tt, over who options moment w (tries (claim_try options moment w) left) keep by (λ version next there. claim_tries who options moment w keep by left version next there) met met.store.records (rivals_keep who world met keep kept rivals) refl)

pub claims_are_lawful : ClaimsAreLawful
unfolding claim
claims_are_lawful who world options moment w keep kept by = claim_tries who options moment w keep by most_refused 0 world kept
