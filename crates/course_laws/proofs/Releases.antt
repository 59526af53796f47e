-- The steps by which a worker gives attempts back are lawful courses.
use Rattle.std.proofs.Common.{◌≡◌, refl, sym, subst, ℕ, zero, suc, List, [], ◌∷◌, cond, Bool, true, false, Option, Some, None}
use Rattle.std.specs.Prelude.{◌==◌, filter}
use Rattle.std.specs.List.{AllByRecursion}
use Rattle.fleet_model.specs.Jobs.{Job, job_with}
use Rattle.fleet_model.specs.History.{Worker, GetRecords, Release}
use Rattle.fleet_model.specs.Store.{Records, jobs_in}
use Rattle.fleet_model.specs.Work.Records.{jobs_after}
use Rattle.fleet_model.specs.Work.Parties.{Attempt, LiveWorker, is_live, runs_attempt, named_attempts, attempt_jobs}
use Rattle.fleet_model.specs.Work.Gates.{is_nonempty}
use Rattle.fleet_model.specs.Exchanges.{Plain, PutsRecords, records_version}
use Rattle.step_model.specs.Past.{World}
use Rattle.step_model.specs.Lawful.{Lawful}
use Rattle.step_model.specs.LawfulRecords.{OfSome, IsLiveAt, IsStoredAs}
use Rattle.step_model.specs.Rivals.{Caller, after_call}
use Rattle.step_model.specs.Courses.CourseRuns.{IsLawfulCourse}
use Rattle.step_model.specs.Courses.Tries.{tries}
use Rattle.step_model.specs.Steps.ClaimSteps.{at_moment}
use Rattle.step_model.specs.Steps.BeatSteps.{release_live, release_by, release_try, release_all}
use Rattle.step_model.specs.Courses.StepEnds.{StepEnd, Reports, most_refused}
use Rattle.step_model.specs.Courses.Course.{Course, Ends}
use Rattle.course_laws.specs.Releases.{ReleasesAreLawful}
use Rattle.course_laws.proofs.Later.{Later, later_itself, later_met}
use Rattle.course_laws.proofs.Puts.{got_records, over_got, filter_passes}
use Rattle.step_laws.proofs.MidwayCalls.{unnamed}

-- The attempts are live over the stored jobs.
live_stored : (world : World) (got : Records) (w : LiveWorker) (live : List Attempt) → world.store.records ≡ Some got → AllByRecursion (λ a. is_live got.jobs w.number a ≡ true) live
    → AllByRecursion (λ a. IsStoredAs world a.0 (IsLiveAt w.number a.1)) (named_attempts live)
live_stored world got w [] same h = tt
live_stored world got w (a ∷ live) same h =
    (subst (λ r. OfSome (IsLiveAt w.number a.number) (job_with a.job (jobs_in r))) (sym same) (as_stored (job_with a.job got.jobs) h.0), live_stored world got w live same h.1)
  where
    as_stored : (o : Option Job) → runs_attempt w.number a.number o ≡ true → OfSome (IsLiveAt w.number a.number) o
    as_stored None e = absurd (cc e)
    as_stored (Some job) e = e

put_fits : (who : Caller) (w : LiveWorker) (old new : World) (got : Records) (a : Attempt) (live : List Attempt) → who.party ≡ Worker w.number → old.store.records ≡ Some got → Later old new
    → AllByRecursion (λ a. is_live got.jobs w.number a ≡ true) (a ∷ live)
    → let change = Release w.number (named_attempts (a ∷ live)) in Lawful who.merge who.party new (PutsRecords got.version change got.epoch (jobs_after (at_moment 0) change got.jobs))
put_fits who w old new got a live by is later all = (
  unnamed who.party new,
  λ version.
      let same = got_records old new (Some got) is later version in
      over_got who.merge who.party new got (Release w.number (named_attempts (a ∷ live))) (at_moment 0) got.epoch same (λ r there stored. rw stored there) refl
      (record { by = by; each = live_stored new got w (a ∷ live) same all }),
)

-- Another try of the release is a lawful course anywhere.
abbrev Tries : {A : Type 0} → Caller → (ℕ → Course (StepEnd A)) → Type 0
Tries who again = (version : ℕ) (world : World) → IsLawfulCourse who world (again version)

after : {A : Type 0} (who : Caller) (next : List ℕ → Course (StepEnd A)) (again : ℕ → Course (StepEnd A)) → ((world : World) (released : List ℕ) → IsLawfulCourse who world (next released)) → Tries who again
    → (world : World) (version : ℕ) (jobs : List ℕ) (b : Bool) → IsLawfulCourse who world (cond b (next jobs) (again version))
after who next again lawful tries world version jobs true = lawful world jobs
after who next again lawful tries world version jobs false = tries version world

those : {A : Type 0} (who : Caller) (w : LiveWorker) (next : List ℕ → Course (StepEnd A)) (again : ℕ → Course (StepEnd A)) → who.party ≡ Worker w.number
    → ((world : World) (released : List ℕ) → IsLawfulCourse who world (next released)) → Tries who again
    → (met : World) (got : Records) (live : List Attempt) → met.store.records ≡ Some got → AllByRecursion (λ a. is_live got.jobs w.number a ≡ true) live
    → IsLawfulCourse who (after_call who.line who.party (Plain GetRecords) None met) (release_live w got live next again)
those who w next again by lawful tries met got [] is all = lawful _ []
those who w next again by lawful tries met got (a ∷ live) is all = λ put rivals room. (
  put_fits who w met put got a live by is (later_met who (Plain GetRecords) met met put (later_itself met) rivals) all,
  after who next again lawful tries _ (records_version put.store.records) (attempt_jobs (a ∷ live)) (got.version == records_version put.store.records),
)

over : {A : Type 0} (who : Caller) (w : LiveWorker) (attempts : List Attempt) (next : List ℕ → Course (StepEnd A)) (again : ℕ → Course (StepEnd A)) → who.party ≡ Worker w.number
    → ((world : World) (released : List ℕ) → IsLawfulCourse who world (next released)) → Tries who again
    → (met : World) (records : Option Records) → met.store.records ≡ records → IsLawfulCourse who (after_call who.line who.party (Plain GetRecords) None met) (release_by w attempts records next again)
over who w attempts next again by lawful tries met None is = lawful _ []
over who w attempts next again by lawful tries met (Some got) is = those who w next again by lawful tries met got (filter (is_live got.jobs w.number) attempts) is (filter_passes (is_live got.jobs w.number) attempts)

-- A release that is tried so often is a lawful course, if what comes after it is.
pub releases : {A : Type 0} (who : Caller) (w : LiveWorker) (attempts : List Attempt) (next : List ℕ → Course (StepEnd A)) → who.party ≡ Worker w.number
    → ((world : World) (released : List ℕ) → IsLawfulCourse who world (next released)) → (left seen : ℕ) (world : World) → IsLawfulCourse who world (tries (release_try w attempts next) left seen)
releases who w attempts next by lawful zero seen world = tt
releases who w attempts next by lawful (suc left) seen world = λ met before room.
    (tt, over who w attempts next (tries (release_try w attempts next) left) by lawful (λ version world. releases who w attempts next by lawful left version world) met met.store.records refl)

pub releases_are_lawful : ReleasesAreLawful
unfolding release_all
releases_are_lawful who world w by = by_any (is_nonempty w.attempts)
  where
    by_any : (b : Bool) → IsLawfulCourse who world (cond b (tries (release_try w w.attempts (λ released. Ends (Reports released))) most_refused 0) (Ends (Reports [])))
    by_any true = releases who w w.attempts (λ released. Ends (Reports released)) by (λ world released. tt) most_refused 0 world
    by_any false = tt
