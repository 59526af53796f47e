-- A worker fits after its heartbeat.
use Rattle.std.proofs.Common.{◌≡◌, refl, sym, ◌∙◌, ap, subst, ℕ, zero, suc, ◌<◌, List, [], ◌∷◌, cond, Bool, true, false, inl, inr, Option, Some, None}
use Rattle.std.specs.Prelude.{IsTrue, ◌==◌, option_map}
use Rattle.std.specs.List.{AllByRecursion}
use Rattle.std.proofs.lemmas.Bool.Decides.{Decides-eqb}
use Rattle.row_model.specs.Lists.{Pairs}
use Rattle.fleet_model.specs.Jobs.{Job, Jobs, Running, has_status, is_active, contains, trimmed_jobs, job_with}
use Rattle.fleet_model.specs.History.{GetRecords, Beat}
use Rattle.fleet_model.specs.Store.{Store, Records, jobs_in, stored_jobs}
use Rattle.fleet_model.specs.Work.Records.{firsts, beaten_by, jobs_after}
use Rattle.fleet_model.specs.Work.Parties.{Attempt, LiveWorker, is_live, is_leased_to, runs_attempt, named_attempts, live_attempts}
use Rattle.fleet_model.specs.Work.Gates.{is_nonempty}
use Rattle.fleet_model.specs.Exchanges.{Exchange, Plain, PutsRecords, records_version}
use Rattle.step_model.specs.Past.{World}
use Rattle.step_model.specs.LawfulRecords.{OfSome}
use Rattle.step_model.specs.Rivals.{Caller, Rivals, after_call}
use Rattle.step_model.specs.Fits.{WorkerHolds}
use Rattle.step_model.specs.Courses.Course.{Course, Ends}
use Rattle.step_model.specs.Courses.Tries.{tries}
use Rattle.step_model.specs.Courses.CourseRuns.{End, Gives, Runs, IsLawfulCourse}
use Rattle.step_model.specs.Courses.StepEnds.{StepEnd, Reports, GivesUp, most_refused}
use Rattle.step_model.specs.Steps.BeatSteps.{Beaten, published_by, context_of, beat_report, beat_of, beat_by, beat_try, heartbeat}
use Rattle.step_laws.proofs.Elements.{IsIn, all_from, all_to, contains_in, in_contains, is_itself}
use Rattle.step_laws.proofs.Changed.{on_these, found_job, job_found}
use Rattle.rival_laws.proofs.JobsMerged.{StayActive, changed_stay, with_changed}
use Rattle.rival_laws.proofs.WorkerFollows.{from_filter}
use Rattle.course_laws.proofs.Beats.{Fit, fit_got, found_attempt, beats_are_lawful, beat_unrecorded}
use Rattle.course_laws.proofs.Calls.{pairs_filter}
use Rattle.course_laws.proofs.Later.{later_itself, later_met}
use Rattle.course_laws.proofs.Puts.{got_records}
use Rattle.course_laws.proofs.Made.{Relies}
use Rattle.worker_laws.specs.Beats.{IsBeaten, BeatsKeepFit}
use Rattle.worker_laws.specs.OwnCalls.{SparesOwn}
use Rattle.worker_laws.proofs.Live.{IsLive, live_at, live_active, leased_runs}
use Rattle.worker_laws.proofs.Runs.{Made, Left, call_by, left_stopped, left_reported, left_ended}
use Rattle.worker_laws.proofs.Attempts.{holds_fewer}
use Rattle.worker_laws.proofs.OwnCalls.{put_world, own_calls_keep}
use Rattle.step_laws.proofs.Polls.{in_map}

-- ---- what the put leaves

-- The jobs that a heartbeat with these attempts puts.
abbrev beaten_jobs : ℕ → LiveWorker → List Attempt → Jobs → Jobs
beaten_jobs moment w live jobs = jobs_after (beat_unrecorded moment live) (Beat w.number (named_attempts live)) jobs

-- The job is Running with the worker at the attempt, and has the attempt's context.
abbrev HasBeaten : ℕ → Attempt → Jobs → Type 0
HasBeaten worker a jobs = OfSome (λ job. IsTrue (runs_attempt worker a.number (Some job)) × (job.context ≡ Some a.context)) (job_with a.job jobs)

-- An attempt that the heartbeat names for the job.
record NamedFrom (id : ℕ) (live : List Attempt) : Type 0 where
  attempt : Attempt
  there : IsIn attempt live
  same : attempt.job ≡ id

named_from : (id : ℕ) (live : List Attempt) → IsIn id (firsts (named_attempts live)) → NamedFrom id live
named_from id [] there = absurd there
named_from id (a ∷ live) (inl same) = record { attempt = a; there = inl refl; same = same }
named_from id (a ∷ live) (inr there) = let found = named_from id live there in record { attempt = found.attempt; there = inr found.there; same = found.same }

-- A heartbeat leaves the job of each live attempt Running with the worker, and with the attempt's context.
is_beaten : (moment : ℕ) (w : LiveWorker) (jobs : Jobs) → Pairs (λ a b. a.id < b.id) jobs → trimmed_jobs jobs ≡ jobs → Pairs (λ a b. a.job < b.job) w.attempts → (a : Attempt) → IsIn a (live_attempts jobs w)
    → HasBeaten w.number a (beaten_jobs moment w (live_attempts jobs w) jobs)
is_beaten moment w jobs rise short jobs_rise a there =
    let l = live_at w.number jobs a (from_filter (is_live jobs w.number) w.attempts a there).1 in
    subst (OfSome (λ job. IsTrue (runs_attempt w.number a.number (Some job)) × (job.context ≡ Some a.context))) (sym (found l)) (is l)
  where
    live : List Attempt
    live = live_attempts jobs w

    these : List ℕ
    these = firsts (named_attempts live)

    f : Job → Job
    f = beaten_by w.number (beat_unrecorded moment live)

    has : (b : Attempt) → IsIn b live → IsTrue (contains these b.job)
    has b one = in_contains these b.job (in_map (λ (p : ℕ × ℕ). p.0) (named_attempts live) (b.job, b.number) (in_map (λ (x : Attempt). (x.job, x.number)) live b one))

    active_at : (job : Job) → IsIn job jobs → IsTrue (contains these job.id) → IsTrue (is_active job)
    active_at job one named_there = at (named_from job.id live (contains_in these job.id named_there))
      where
        some : (other : Job) → Some other ≡ Some job → IsTrue (is_active other) → IsTrue (is_active job)
        some other e active = subst (λ (j : Job). IsTrue (is_active j)) (same e) active
          where
            same : Some other ≡ Some job → other ≡ job
            same e = cc e

        at : NamedFrom job.id live → IsTrue (is_active job)
        at n =
            let l = live_at w.number jobs n.attempt (from_filter (is_live jobs w.number) w.attempts n.attempt n.there).1 in
            some l.job (sym l.stored ∙ ap (λ id. job_with id jobs) n.same ∙ found_job jobs job rise one) (live_active w.number n.attempt l.job l.runs)

    stay : StayActive f these jobs
    stay = all_from _ jobs (λ job one e. let active = active_at job one e in (active, active))

    found : (l : IsLive w.number jobs a) → job_with a.job (beaten_jobs moment w live jobs) ≡ Some (f l.job)
    found l =
        ap (job_with a.job) (changed_stay f these jobs stay short) ∙ with_changed f these a.job jobs (λ job. refl) ∙ ap (option_map (on_these f these)) l.stored
        ∙ ap (λ b. Some (cond b (f l.job) l.job)) (subst (λ id. contains these id ≡ true) (sym (job_found a.job jobs l.job l.stored).same) (has a there))

    is : (l : IsLive w.number jobs a) → IsTrue (runs_attempt w.number a.number (Some (f l.job))) × ((f l.job).context ≡ Some a.context)
    is l = (
      leased_runs (has_status Running l.job) (is_leased_to w.number l.job.lease) (is_leased_to w.number (f l.job).lease) (a.number == l.job.attempt) l.runs (is_itself w.number),
      ap (published_by live) (job_found a.job jobs l.job l.stored).same ∙ ap context_of (found_attempt live a (pairs_filter _ (is_live jobs w.number) w.attempts jobs_rise) there),
    )

-- All these attempts are named, with their contexts.
all_spared : (moment : ℕ) (w : LiveWorker) (jobs : Jobs) → Pairs (λ a b. a.id < b.id) jobs → trimmed_jobs jobs ≡ jobs → Pairs (λ a b. a.job < b.job) w.attempts
    → AllByRecursion (λ a. IsTrue (contains (firsts (named_attempts (live_attempts jobs w))) a.job) × HasBeaten w.number a (beaten_jobs moment w (live_attempts jobs w) jobs)) (live_attempts jobs w)
all_spared moment w jobs rise short jobs_rise = all_from _ (live_attempts jobs w) (λ a there. (
  in_contains (firsts (named_attempts (live_attempts jobs w))) a.job (in_map (λ (p : ℕ × ℕ). p.0) (named_attempts (live_attempts jobs w)) (a.job, a.number) (in_map (λ (x : Attempt). (x.job, x.number)) (live_attempts jobs w) a there)),
  is_beaten moment w jobs rise short jobs_rise a there,
))

-- What is stored as the heartbeat is put.
record AtPut (w : LiveWorker) (moment : ℕ) (got : Records) (live : List Attempt) (put : World) : Type 0 where
  same : live_attempts (stored_jobs put.store) w ≡ live
  spared : AllByRecursion (λ a. IsTrue (contains (firsts (named_attempts live)) a.job) × HasBeaten w.number a (beaten_jobs moment w live got.jobs)) live

at_put : (who : Caller) (w : LiveWorker) (moment : ℕ) (met put : World) (got : Records) (live : List Attempt) → met.store.records ≡ Some got → live_attempts got.jobs w ≡ live → Fit who w put → Rivals who (after_call who.line who.party (Plain GetRecords) None met) put
    → got.version ≡ records_version put.store.records → AtPut w moment got live put
at_put who w moment met put got live is these fit rivals version =
    let stored : put.store.records ≡ Some got = got_records met put (Some got) is (later_met who (Plain GetRecords) met met put (later_itself met) rivals) version in
    record {
      same = ap (λ r. live_attempts (jobs_in r) w) stored ∙ these;
      spared = subst (λ l. AllByRecursion (λ a. IsTrue (contains (firsts (named_attempts l)) a.job) × HasBeaten w.number a (beaten_jobs moment w l got.jobs)) l) these
          (all_spared moment w got.jobs (subst (λ r. Pairs (λ a b. a.id < b.id) (jobs_in r)) stored fit.kept.stored.sound.job_ids) (subst (λ r. trimmed_jobs (jobs_in r) ≡ jobs_in r) stored fit.kept.facts.names.trimmed_already) fit.holds.jobs_rise);
    }

-- ---- tries

-- All attempts of the report are beaten.
abbrev AreBeaten : ℕ → World → Beaten → Type 0
AreBeaten worker new report = AllByRecursion (IsBeaten new worker) report.attempts

-- What a lawful course leads to, from a store that the worker fits.
abbrev After : Caller → LiveWorker → Course (StepEnd Beaten) → (old new : World) → End (StepEnd Beaten) → Type 0
After who w course old new end = Fit who w old → IsLawfulCourse who old course → Runs who course old new end → Left who w (λ report. report.attempts) (AreBeaten w.number) new end

-- What another try leads to.
abbrev Tries : Caller → LiveWorker → (ℕ → Course (StepEnd Beaten)) → Type 0
Tries who w again = (version : ℕ) (old new : World) (end : End (StepEnd Beaten)) → After who w (again version) old new end

-- A heartbeat that reports leaves a worker that keeps its live attempts.
reports : (who : Caller) (w : LiveWorker) (jobs : Jobs) (old new : World) (end : End (StepEnd Beaten)) → WorkerHolds who.merge old w → AllByRecursion (IsBeaten old w.number) (live_attempts jobs w) → Runs who (Ends (Reports (beat_report w jobs))) old new end
    → Left who w (λ report. report.attempts) (AreBeaten w.number) new end
reports who w jobs old new end holds all run = left_reported who w (λ (report : Beaten). report.attempts) (AreBeaten w.number) (beat_report w jobs) old new end holds (holds_fewer who.merge old w (is_live jobs w.number) holds) all run

none_live : (world : World) (w : LiveWorker) → AllByRecursion (IsBeaten world w.number) (live_attempts [] w)
none_live world w = all_from _ (live_attempts [] w) (λ a there. absurd (never (from_filter (is_live [] w.number) w.attempts a there).1))
  where
    never : false ≡ true → ⊥
    never e = absurd (cc e)

-- From its get of the records on, a heartbeat leaves a worker that fits and a right report, if another try does.
those : (who : Caller) (w : LiveWorker) (moment : ℕ) (again : ℕ → Course (StepEnd Beaten)) → Relies who w → Tries who w again → (met : World) (got : Records) (live : List Attempt) → met.store.records ≡ Some got → live_attempts got.jobs w ≡ live
    → (new : World) (end : End (StepEnd Beaten)) → After who w (beat_of moment w got live again) (after_call who.line who.party (Plain GetRecords) None met) new end
those who w moment again r tries met got [] is these new end fit lawful run =
    let world = after_call who.line who.party (Plain GetRecords) None met in
    reports who w got.jobs world new end fit.holds (subst (AllByRecursion (IsBeaten world w.number)) (sym these) tt) run
those who w moment again r tries met got (a ∷ live) is these new end fit lawful run = call_by (Left who w (λ (report : Beaten). report.attempts) (AreBeaten w.number) new end) who w x (λ (s : Store). again_or (records_version s.records) (got.version == records_version s.records))
    (after_call who.line who.party (Plain GetRecords) None met) new end r fit lawful run (λ at there stops. left_stopped who w (λ (report : Beaten). report.attempts) (AreBeaten w.number) x at new end there.holds stops) put
  where
    x : Exchange
    x = PutsRecords got.version (Beat w.number (named_attempts (a ∷ live))) got.epoch (beaten_jobs moment w (a ∷ live) got.jobs)

    again_or : ℕ → Bool → Course (StepEnd Beaten)
    again_or version b = cond b (Ends (Reports (beat_report w got.jobs))) (again version)

    put : Made who w x (λ (s : Store). again_or (records_version s.records) (got.version == records_version s.records)) (after_call who.line who.party (Plain GetRecords) None met) new end → Left who w (λ (report : Beaten). report.attempts) (AreBeaten w.number) new end
    put m = by (got.version == records_version m.met.store.records) refl m.further m.run
      where
        at : got.version ≡ records_version m.met.store.records → AtPut w moment got (a ∷ live) m.met
        at same = at_put who w moment met m.met got (a ∷ live) is these m.fit m.rivals same

        after : World
        after = after_call who.line who.party x None m.met

        context : (b : Attempt) → HasBeaten w.number b (beaten_jobs moment w (a ∷ live) got.jobs) → OfSome (λ job. job.context ≡ Some b.context) (job_with b.job (beaten_jobs moment w (a ∷ live) got.jobs))
        context b h = some (job_with b.job (beaten_jobs moment w (a ∷ live) got.jobs)) h
          where
            some : (o : Option Job) → OfSome (λ job. IsTrue (runs_attempt w.number b.number (Some job)) × (job.context ≡ Some b.context)) o → OfSome (λ job. job.context ≡ Some b.context) o
            some None h = h
            some (Some job) h = h.1

        spares : got.version ≡ records_version m.met.store.records → SparesOwn m.met w (beaten_jobs moment w (a ∷ live) got.jobs) (Beat w.number (named_attempts (a ∷ live)))
        spares same =
            let p = at same in
            subst (AllByRecursion (λ b. IsTrue (contains (firsts (named_attempts (a ∷ live))) b.job) × OfSome (λ job. job.context ≡ Some b.context) (job_with b.job (beaten_jobs moment w (a ∷ live) got.jobs)))) (sym p.same)
            (all_to _ _ (a ∷ live) (λ b there one. (one.0, context b one.1)) p.spared)

        holds : WorkerHolds who.merge after w
        holds = own_calls_keep who.merge x who.line who.party m.met w m.fit.kept r.own m.lawful spares m.fit.holds

        by : (b : Bool) → (got.version == records_version m.met.store.records) ≡ b → IsLawfulCourse who after (again_or (records_version m.met.store.records) b) → Runs who (again_or (records_version m.met.store.records) b) after new end
            → Left who w (λ (report : Beaten). report.attempts) (AreBeaten w.number) new end
        by true e lawful run =
            let stored : stored_jobs after.store ≡ beaten_jobs moment w (a ∷ live) got.jobs =
            ap (λ (world : World). stored_jobs world.store) (put_world who.line who.party m.met got.version (Beat w.number (named_attempts (a ∷ live))) got.epoch (beaten_jobs moment w (a ∷ live) got.jobs) e) in
            let beaten = all_to _ (IsBeaten after w.number) (a ∷ live) (λ b there one. subst (HasBeaten w.number b) (sym stored) one.1) (at ((Decides-eqb got.version (records_version m.met.store.records)).0 e)).spared in
            reports who w got.jobs after new end holds (subst (AllByRecursion (IsBeaten after w.number)) (sym these) beaten) run
        by false e lawful run = tries (records_version m.met.store.records) after new end (record { kept = m.kept; holds = holds }) lawful run

over : (who : Caller) (w : LiveWorker) (moment : ℕ) (again : ℕ → Course (StepEnd Beaten)) → Relies who w → Tries who w again → (met : World) (records : Option Records) → met.store.records ≡ records
    → (new : World) (end : End (StepEnd Beaten)) → After who w (beat_by moment w records again) (after_call who.line who.party (Plain GetRecords) None met) new end
over who w moment again r tries met None is new end fit lawful run = let world = after_call who.line who.party (Plain GetRecords) None met in reports who w [] world new end fit.holds (none_live world w) run
over who w moment again r tries met (Some got) is new end fit lawful run = those who w moment again r tries met got (live_attempts got.jobs w) is refl new end fit lawful run

beats : (who : Caller) (w : LiveWorker) (moment : ℕ) → Relies who w → (left seen : ℕ) (old new : World) (end : End (StepEnd Beaten)) → After who w (tries (beat_try moment w) left seen) old new end
beats who w moment r zero seen old new end fit lawful run = left_ended who w (λ (report : Beaten). report.attempts) (AreBeaten w.number) (GivesUp seen) old new end (λ report e. absurd (cc e)) fit.holds run
beats who w moment r (suc left) seen old new end fit lawful run = call_by (Left who w (λ (report : Beaten). report.attempts) (AreBeaten w.number) new end) who w (Plain GetRecords) (λ (s : Store). beat_by moment w s.records (tries (beat_try moment w) left)) old new end r fit lawful run
    (λ at there stops. left_stopped who w (λ (report : Beaten). report.attempts) (AreBeaten w.number) (Plain GetRecords) at new end there.holds stops)
    (λ m. over who w moment (tries (beat_try moment w) left) r (λ version one other last. beats who w moment r left version one other last) m.met m.met.store.records refl new end (fit_got who w m.met r.keep m.fit) m.further m.run)

beat_fits : (who : Caller) (w : LiveWorker) (moment : ℕ) → Relies who w → (old new : World) (end : End (StepEnd Beaten)) → After who w (heartbeat moment w) old new end
unfolding heartbeat
beat_fits who w moment r old new end = by (is_nonempty w.attempts)
  where
    by : (b : Bool) → After who w (cond b (tries (beat_try moment w) most_refused 0) (Ends (Reports (beat_report w [])))) old new end
    by true = beats who w moment r most_refused 0 old new end
    by false = λ fit lawful run. reports who w [] old new end fit.holds (none_live old w) run

pub beats_keep_fit : BeatsKeepFit
beats_keep_fit who old moment w keep own kept holds = (
  λ new end run. (beat_fits who w moment (record { keep = keep; own = own }) old new end (record { kept = kept; holds = holds }) (beats_are_lawful who old moment w keep own kept holds) run).0,
  λ new report run. (beat_fits who w moment (record { keep = keep; own = own }) old new (Gives (Reports report)) (record { kept = kept; holds = holds }) (beats_are_lawful who old moment w keep own kept holds) run).1,
)
