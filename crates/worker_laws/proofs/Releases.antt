-- A worker fits after a release, and none of the released attempts is live any more.
use Rattle.std.proofs.Common.{◌≡◌, refl, sym, ◌∙◌, ap, subst, ℕ, zero, suc, ◌<◌, List, [], ◌∷◌, cond, Bool, true, false, Option, Some, None}
use Rattle.std.specs.Prelude.{IsTrue, ◌==◌, filter}
use Rattle.std.specs.List.{AllByRecursion}
use Rattle.std.proofs.lemmas.Bool.Decides.{Decides-eqb}
use Rattle.row_model.specs.Lists.{Pairs}
use Rattle.fleet_model.specs.Jobs.{Job, Jobs, contains, job_with}
use Rattle.fleet_model.specs.History.{GetRecords, Release}
use Rattle.fleet_model.specs.Store.{Store, Records, jobs_in, stored_jobs}
use Rattle.fleet_model.specs.Work.Records.{firsts, to_waiting, jobs_after}
use Rattle.fleet_model.specs.Work.Parties.{Attempt, LiveWorker, attempt_jobs, is_live, runs_attempt, named_attempts}
use Rattle.fleet_model.specs.Work.Gates.{is_nonempty}
use Rattle.fleet_model.specs.Exchanges.{Exchange, Plain, PutsRecords, records_version}
use Rattle.step_model.specs.Past.{World}
use Rattle.step_model.specs.Rivals.{Caller, after_call}
use Rattle.step_model.specs.Fits.{WorkerHolds}
use Rattle.step_model.specs.Courses.Course.{Course, Ends}
use Rattle.step_model.specs.Courses.Tries.{tries}
use Rattle.step_model.specs.Courses.CourseRuns.{End, Gives, StopsAt, Runs, IsLawfulCourse}
use Rattle.step_model.specs.Courses.StepEnds.{StepEnd, Reports, GivesUp, most_refused}
use Rattle.step_model.specs.Steps.ClaimSteps.{at_moment}
use Rattle.step_model.specs.Steps.BeatSteps.{release_live, release_by, release_try, release_all}
use Rattle.step_laws.proofs.Elements.{IsIn, all_from, in_contains}
use Rattle.step_laws.proofs.Changed.{on_these, by_these, found_job, job_found}
use Rattle.step_laws.proofs.Deletions.{in_filter}
use Rattle.course_laws.proofs.Beats.{Fit, fit_got}
use Rattle.course_laws.proofs.Later.{later_itself, later_met}
use Rattle.course_laws.proofs.Puts.{got_records}
use Rattle.course_laws.proofs.Made.{Relies}
use Rattle.course_laws.proofs.Releases.{releases_are_lawful}
use Rattle.worker_laws.specs.Releases.{ReleasesKeepFit}
use Rattle.worker_laws.proofs.Live.{live_at, none_pass, pass_none}
use Rattle.worker_laws.proofs.Runs.{Made, Left, call_by, left_stopped, left_reported, left_ended}
use Rattle.worker_laws.proofs.OwnPuts.{from_stored}
use Rattle.worker_laws.proofs.OwnCalls.{put_world, own_calls_keep}
use Rattle.step_laws.proofs.Polls.{in_map}
use Rattle.rival_laws.proofs.FreeTables.{refused}

-- ---- no attempt is live

-- None of these attempts is live.
abbrev pub AreOver : LiveWorker → List Attempt → World → Type 0
AreOver w attempts world = AllByRecursion (λ a. is_live (stored_jobs world.store) w.number a ≡ false) attempts

-- The attempts that a put gives back are live no more, and no other one was live.
gone : (world : World) (w : LiveWorker) (attempts : List Attempt) (jobs : Jobs) → Pairs (λ a b. a.id < b.id) (stored_jobs world.store)
    → jobs ≡ jobs_after (at_moment 0) (Release w.number (named_attempts (filter (is_live (stored_jobs world.store) w.number) attempts))) (stored_jobs world.store)
    → AllByRecursion (λ a. is_live jobs w.number a ≡ false) attempts
gone world w attempts jobs rise made = all_from _ attempts (λ a there. over a there (is_live jobs w.number a) refl)
  where
    these : List ℕ
    these = firsts (named_attempts (filter (is_live (stored_jobs world.store) w.number) attempts))

    At : Attempt → Job → Type 0
    At a job = job.id ≡ a.job → IsTrue (runs_attempt w.number a.number (Some job)) → ⊥

    at : (a : Attempt) → IsIn a attempts → (was : Job) → IsIn was (stored_jobs world.store) → At a (on_these to_waiting these was)
    at a there was one = by_these (At a) to_waiting these was (λ has id runs. absurd (cc runs))
        (λ lacks id runs.
        let stored = subst (λ n. job_with n (stored_jobs world.store) ≡ Some was) id (found_job (stored_jobs world.store) was rise one) in
        let live = in_filter (is_live (stored_jobs world.store) w.number) attempts a there (ap (runs_attempt w.number a.number) stored ∙ runs) in
        refused (contains these was.id) lacks (subst (λ n. IsTrue (contains these n)) (sym id)
        (in_contains these a.job (in_map (λ (p : ℕ × ℕ). p.0) _ (a.job, a.number) (in_map (λ (x : Attempt). (x.job, x.number)) (filter (is_live (stored_jobs world.store) w.number) attempts) a live)))))

    over : (a : Attempt) → IsIn a attempts → (b : Bool) → is_live jobs w.number a ≡ b → b ≡ false
    over a there false e = refl
    over a there true e =
        let l = live_at w.number jobs a e in
        let found = job_found a.job jobs l.job l.stored in
        let from = from_stored world to_waiting these l.job (subst (IsIn l.job) made found.there) in
        absurd (subst (At a) (sym from.is) (at a there from.was from.there) found.same l.runs)

-- ---- tries

-- What a release leads to: it stops, gives up, or goes on where none of the attempts is live.
pub record Ways (A : Type 0) (R : Type 0) (who : Caller) (w : LiveWorker) (attempts : List Attempt) (next : List ℕ → Course (StepEnd A)) (new : World) (end : End (StepEnd A)) : Type 0 where
  pub stops : (x : Exchange) (met : World) → Fit who w met → StopsAt who x met new end → R
  pub gives_up : (seen : ℕ) (world : World) → Fit who w world → Runs who (Ends (GivesUp seen)) world new end → R
  pub goes : (world : World) (released : List ℕ) → Fit who w world → AreOver w attempts world → IsLawfulCourse who world (next released) → Runs who (next released) world new end → R

-- What a lawful course leads to, from a store that the worker fits.
abbrev Leads : {A : Type 0} → Type 0 → Caller → LiveWorker → Course (StepEnd A) → (old new : World) → End (StepEnd A) → Type 0
Leads R who w course old new end = Fit who w old → IsLawfulCourse who old course → Runs who course old new end → R

-- From its get of the records on, a release stops, gives up, or goes on with no attempt live, if another try does.
those : {A : Type 0} (R : Type 0) (who : Caller) (w : LiveWorker) (attempts : List Attempt) (next : List ℕ → Course (StepEnd A)) (again : ℕ → Course (StepEnd A)) (new : World) (end : End (StepEnd A)) → Relies who w → Ways A R who w attempts next new end
    → ((version : ℕ) (old : World) → Leads R who w (again version) old new end) → (met : World) (got : Records) (live : List Attempt) → met.store.records ≡ Some got → filter (is_live got.jobs w.number) attempts ≡ live
    → Leads R who w (release_live w got live next again) (after_call who.line who.party (Plain GetRecords) None met) new end
those R who w attempts next again new end r ways tries met got [] is these fit lawful run =
    ways.goes _ [] fit (subst (λ o. AllByRecursion (λ a. is_live (jobs_in o) w.number a ≡ false) attempts) (sym is) (none_pass (is_live got.jobs w.number) attempts these)) lawful run
those {A} R who w attempts next again new end r ways tries met got (a ∷ live) is these fit lawful run = call_by R who w x (λ (s : Store). again_or (records_version s.records) (got.version == records_version s.records))
    (after_call who.line who.party (Plain GetRecords) None met) new end r fit lawful run (λ at there stop. ways.stops x at there stop) put
  where
    x : Exchange
    x = PutsRecords got.version (Release w.number (named_attempts (a ∷ live))) got.epoch (jobs_after (at_moment 0) (Release w.number (named_attempts (a ∷ live))) got.jobs)

    again_or : ℕ → Bool → Course (StepEnd A)
    again_or version b = cond b (next (attempt_jobs (a ∷ live))) (again version)

    put : Made who w x (λ (s : Store). again_or (records_version s.records) (got.version == records_version s.records)) (after_call who.line who.party (Plain GetRecords) None met) new end → R
    put m = by (got.version == records_version m.met.store.records) refl m.further m.run
      where
        after : World
        after = after_call who.line who.party x None m.met

        holds : WorkerHolds who.merge after w
        holds = own_calls_keep who.merge x who.line who.party m.met w m.fit.kept r.own m.lawful (λ same. tt) m.fit.holds

        none : (got.version == records_version m.met.store.records) ≡ true → AreOver w attempts after
        none e =
            let stored : m.met.store.records ≡ Some got = got_records met m.met (Some got) is (later_met who (Plain GetRecords) met met m.met (later_itself met) m.rivals) ((Decides-eqb got.version (records_version m.met.store.records)).0 e) in
            let put = ap (λ (world : World). stored_jobs world.store) (put_world who.line who.party m.met got.version (Release w.number (named_attempts (a ∷ live))) got.epoch (jobs_after (at_moment 0) (Release w.number (named_attempts (a ∷ live))) got.jobs) e) in
            gone m.met w attempts (stored_jobs after.store) m.fit.kept.stored.sound.job_ids
            (put ∙ ap (λ l. jobs_after (at_moment 0) (Release w.number (named_attempts l)) got.jobs) (sym these)
            ∙ ap (λ o. jobs_after (at_moment 0) (Release w.number (named_attempts (filter (is_live (jobs_in o) w.number) attempts))) (jobs_in o)) (sym stored))

        by : (b : Bool) → (got.version == records_version m.met.store.records) ≡ b → IsLawfulCourse who after (again_or (records_version m.met.store.records) b) → Runs who (again_or (records_version m.met.store.records) b) after new end → R
        by true e lawful run = ways.goes after (attempt_jobs (a ∷ live)) (record { kept = m.kept; holds = holds }) (none e) lawful run
        by false e lawful run = tries (records_version m.met.store.records) after (record { kept = m.kept; holds = holds }) lawful run

over : {A : Type 0} (R : Type 0) (who : Caller) (w : LiveWorker) (attempts : List Attempt) (next : List ℕ → Course (StepEnd A)) (again : ℕ → Course (StepEnd A)) (new : World) (end : End (StepEnd A)) → Relies who w → Ways A R who w attempts next new end
    → ((version : ℕ) (old : World) → Leads R who w (again version) old new end) → (met : World) (records : Option Records) → met.store.records ≡ records
    → Leads R who w (release_by w attempts records next again) (after_call who.line who.party (Plain GetRecords) None met) new end
over R who w attempts next again new end r ways tries met None is fit lawful run =
    ways.goes _ [] fit (subst (λ o. AllByRecursion (λ a. is_live (jobs_in o) w.number a ≡ false) attempts) (sym is) (all_from _ attempts (λ a there. refl))) lawful run
over R who w attempts next again new end r ways tries met (Some got) is fit lawful run = those R who w attempts next again new end r ways tries met got (filter (is_live got.jobs w.number) attempts) is refl fit lawful run

pub released : {A : Type 0} (R : Type 0) (who : Caller) (w : LiveWorker) (attempts : List Attempt) (next : List ℕ → Course (StepEnd A)) (new : World) (end : End (StepEnd A)) → Relies who w → Ways A R who w attempts next new end → (left seen : ℕ) (old : World)
    → Leads R who w (tries (release_try w attempts next) left seen) old new end
released R who w attempts next new end r ways zero seen old fit lawful run = ways.gives_up seen old fit run
released {A} R who w attempts next new end r ways (suc left) seen old fit lawful run = call_by R who w (Plain GetRecords) (λ (s : Store). release_by w attempts s.records next (tries (release_try w attempts next) left)) old new end r fit lawful run
    (λ at there stop. ways.stops (Plain GetRecords) at there stop)
    (λ m. over {A = A} R who w attempts next (tries (release_try w attempts next) left) new end r ways (λ version one. released {A = A} R who w attempts next new end r ways left version one) m.met m.met.store.records refl (fit_got who w m.met r.keep m.fit) m.further m.run)

-- ---- the step

-- No attempt of the worker is live.
abbrev AreAllOver : LiveWorker → World → List ℕ → Type 0
AreAllOver w new released = AreOver w w.attempts new

-- A release of all attempts leaves a worker that fits, and where it reports, none of the attempts is live.
release_fits : (who : Caller) (w : LiveWorker) → Relies who w → (old new : World) (end : End (StepEnd (List ℕ))) → Leads (Left who w (λ released. w.attempts) (AreAllOver w) new end) who w (release_all w) old new end
unfolding release_all
release_fits who w r old new end = by (is_nonempty w.attempts) refl
  where
    none : (xs : List Attempt) → is_nonempty xs ≡ false → AllByRecursion (λ a. is_live (stored_jobs old.store) w.number a ≡ false) xs
    none [] e = tt
    none (x ∷ xs) e = absurd (cc e)

    by : (b : Bool) → is_nonempty w.attempts ≡ b → Leads (Left who w (λ released. w.attempts) (AreAllOver w) new end) who w (cond b (tries (release_try w w.attempts (λ released. Ends (Reports released))) most_refused 0) (Ends (Reports []))) old new end
    by true e = released (Left who w (λ released. w.attempts) (AreAllOver w) new end) who w w.attempts (λ released. Ends (Reports released)) new end r (record {
      stops = λ x met fit stop. left_stopped who w (λ released. w.attempts) (AreAllOver w) x met new end fit.holds stop;
      gives_up = λ seen world fit run. left_ended who w (λ released. w.attempts) (AreAllOver w) (GivesUp seen) world new end (λ report e. absurd (cc e)) fit.holds run;
      goes = λ world jobs fit over lawful run. left_reported who w (λ released. w.attempts) (AreAllOver w) jobs world new end fit.holds fit.holds over run;
    }) most_refused 0 old
    by false e = λ fit lawful run. left_reported who w (λ released. w.attempts) (AreAllOver w) [] old new end fit.holds fit.holds (none w.attempts e) run

pub releases_keep_fit : ReleasesKeepFit
releases_keep_fit who old w keep own kept holds = (
  λ new end run. (release_fits who w (record { keep = keep; own = own }) old new end (record { kept = kept; holds = holds }) (releases_are_lawful who old w own) run).0,
  λ new jobs run. pass_none (is_live (stored_jobs new.store) w.number) w.attempts
      (release_fits who w (record { keep = keep; own = own }) old new (Gives (Reports jobs)) (record { kept = kept; holds = holds }) (releases_are_lawful who old w own) run).1,
)
