-- A worker fits after its finish.
use Rattle.std.proofs.Common.{◌≡◌, refl, sym, ◌∙◌, ap, subst, ℕ, zero, suc, ◌+◌, List, [], ◌∷◌, cond, Bool, true, false, inl, Option, Some, None, map}
use Rattle.std.specs.Prelude.{IsTrue, IfSome, ◌==◌, not}
use Rattle.std.specs.List.{AllByRecursion, concat}
use Rattle.std.proofs.lemmas.Bool.Decides.{Decides-eqb}
use Rattle.row_model.specs.Rows.{Row}
use Rattle.row_model.specs.Fold.{Operator, IsLawful}
use Rattle.step_model.specs.Kept.Keeps.{Keeps}
use Rattle.step_laws.specs.Runs.{CallsKeep}
use Rattle.course_laws.specs.Outputs.{DoesRun}
use Rattle.course_laws.specs.Finishes.{WholeUnless}
use Rattle.fleet_model.specs.Jobs.{Job, Jobs, Context, Release, One, Two, knows_cut, contains, changed_jobs, trimmed_jobs, job_with}
use Rattle.fleet_model.specs.Invariants.JobsFit.{cut_or}
use Rattle.fleet_model.specs.Invariants.AttemptsFit.{CutFits, AttemptFits, AttemptStands, LiveFits}
use Rattle.fleet_model.specs.History.{Worker, GetRecords, Finish}
use Rattle.fleet_model.specs.Store.{Store, Records, jobs_in, stored_jobs}
use Rattle.fleet_model.specs.Work.Records.{Unrecorded, no_contexts, finished_by, jobs_after}
use Rattle.fleet_model.specs.Work.Attempts.{finish_cut}
use Rattle.fleet_model.specs.Work.Parties.{Attempt, LiveWorker, is_live, runs_attempt, live_attempts, without_attempts}
use Rattle.fleet_model.specs.Exchanges.{Exchange, Plain, PutsRecords, records_version}
use Rattle.step_model.specs.Past.{World}
use Rattle.step_model.specs.Rivals.{Caller, after_call}
use Rattle.step_model.specs.Kept.TablesKept.{AreApart}
use Rattle.step_model.specs.Fits.{AttemptHeld, WorkerHolds, noted_tables}
use Rattle.step_model.specs.Courses.Course.{Course, Ends}
use Rattle.step_model.specs.Courses.Tries.{tries}
use Rattle.step_model.specs.Courses.CourseRuns.{End, Gives, Runs, IsLawfulCourse}
use Rattle.step_model.specs.Courses.StepEnds.{StepEnd, Reports, GivesUp, NotOwner, most_refused}
use Rattle.step_model.specs.Steps.OutputSteps.{unless_refused}
use Rattle.step_model.specs.Steps.FinishSteps.{FinishAsk, FinishedJob, all_outputs, ends_job, ends_job_by, end_try, end_job, tables_left, puts_and_ends, finish}
use Rattle.step_laws.proofs.Elements.{IsIn, all_at, all_from, all_to, in_contains}
use Rattle.step_laws.proofs.Changed.{on_these, by_these, job_found}
use Rattle.step_laws.proofs.Deletions.{in_filter}
use Rattle.step_laws.proofs.OwnTables.{apart_from, apart_at}
use Rattle.rival_laws.proofs.WorkerFollows.{from_filter}
use Rattle.course_laws.proofs.Beats.{Fit, fit_got}
use Rattle.course_laws.proofs.Later.{later_itself, later_met}
use Rattle.course_laws.proofs.Puts.{got_records}
use Rattle.course_laws.proofs.Outputs.{found_in}
use Rattle.course_laws.proofs.Made.{Relies, State, ids_of, all_of}
use Rattle.course_laws.proofs.Finishes.{outputs_all, finishes_are_lawful}
use Rattle.worker_laws.specs.OwnCalls.{SparesOwn}
use Rattle.worker_laws.specs.Finishes.{FinishesKeepFit}
use Rattle.worker_laws.specs.FinishReports.{FinishDid, FinishesReport}
use Rattle.worker_laws.proofs.Merged.{merged_job}
use Rattle.worker_laws.proofs.Attempts.{apart_two, holds_fewer}
use Rattle.worker_laws.proofs.Live.{live_at}
use Rattle.worker_laws.proofs.OwnPuts.{from_stored}
use Rattle.worker_laws.proofs.Runs.{Made, Left, call_by, left_stopped, left_reported, left_ended}
use Rattle.worker_laws.proofs.OwnCalls.{own_entry, put_world, own_calls_keep}
use Rattle.worker_laws.proofs.Tables.{Stops, AreUnnoted, gets, puts_all}
use Rattle.worker_laws.proofs.Outputs.{begins, gives_back_left}
use Rattle.rival_laws.proofs.FreeTables.{refused}

-- What a lawful course leads to, from a store that the worker fits.
abbrev pub After : Caller → ℕ → LiveWorker → Attempt → Course (StepEnd FinishedJob) → (old new : World) → End (StepEnd FinishedJob) → Type 0
After who moment w a course old new end = Fit who w old → IsLawfulCourse who old course → Runs who course old new end → Left who w (λ (report : FinishedJob). report.attempts) (FinishDid who moment w a) new end

-- Where a run stops, the worker fits with the attempts that it ran before.
stops : (who : Caller) (moment : ℕ) (w : LiveWorker) (a : Attempt) (new : World) (end : End (StepEnd FinishedJob)) → Stops (Left who w (λ (report : FinishedJob). report.attempts) (FinishDid who moment w a) new end) who w new end
stops who moment w a new end x met fit stop = left_stopped who w (λ (report : FinishedJob). report.attempts) (FinishDid who moment w a) x met new end fit.holds stop

-- ---- the end of the job

-- An attempt is not live after a put that makes its job one that does not run.
finished_over : (world : World) (w : LiveWorker) (a : Attempt) (f : Job → Job) (jobs : Jobs) → ((job : Job) → (f job).id ≡ job.id) → ((job : Job) → IsTrue (runs_attempt w.number a.number (Some (f job))) → ⊥)
    → jobs ≡ trimmed_jobs (changed_jobs f (a.job ∷ []) (stored_jobs world.store)) → is_live jobs w.number a ≡ false
finished_over world w a f jobs ids over made = by (is_live jobs w.number a) refl
  where
    At : Job → Type 0
    At job = job.id ≡ a.job → IsTrue (runs_attempt w.number a.number (Some job)) → ⊥

    at : (was : Job) → At (on_these f (a.job ∷ []) was)
    at was = by_these At f (a.job ∷ []) was (λ has id runs. over was runs) (λ lacks id runs. refused (contains (a.job ∷ []) was.id) lacks (in_contains (a.job ∷ []) was.id (inl (sym id))))

    by : (b : Bool) → is_live jobs w.number a ≡ b → b ≡ false
    by true e =
        let l = live_at w.number jobs a e in
        let found = job_found a.job jobs l.job l.stored in
        let from = from_stored world f (a.job ∷ []) l.job (subst (IsIn l.job) made found.there) in
        absurd (subst At (sym from.is) (at from.was) found.same l.runs)
    by false e = refl

-- The outputs are noted for no other live attempt.
apart_outputs : (merge : Operator) (w : LiveWorker) (world : World) (a : Attempt) (made : List (List (ℕ × List Row))) → WorkerHolds merge world w → IsIn a w.attempts → is_live (stored_jobs world.store) w.number a ≡ true → AreUnnoted w (all_of made)
    → AllByRecursion (λ b. (a.job ≡ b.job → ⊥) → AreApart (concat (all_outputs a.context.ranges (map ids_of made))) (noted_tables b)) (live_attempts (stored_jobs world.store) w)
apart_outputs merge w world a made h there live lacks = all_from _ (live_attempts (stored_jobs world.store) w) (λ b one differs.
    let found = from_filter (is_live (stored_jobs world.store) w.number) w.attempts b one in
    let two = apart_two (live_attempts (stored_jobs world.store) w) a b h.apart (in_filter (is_live (stored_jobs world.store) w.number) w.attempts a there live) one (λ same. differs (ap (λ (x : Attempt). x.job) same)) in
    let outputs = concat (all_outputs a.context.ranges (map ids_of made)) in
    apart_from outputs (noted_tables b) (λ t named. all_at (λ t. IsIn t (noted_tables b) → ⊥) outputs t
    (outputs_all (λ t. IsIn t (noted_tables b) → ⊥) a.context.ranges made (all_from _ (noted_tables a) (λ t old more. apart_at (noted_tables a) (noted_tables b) t two old more))
    (all_to _ _ (all_of made) (λ p new none. none b found.0) lacks)) named))

-- ---- the settings of an attempt

-- The cut of an attempt's settings is the one that its finish keeps.
cut_kept : (release : Release) (c : Context) → c.has_cut ≡ knows_cut release → CutFits c → c.settings.cut ≡ cut_or c.settings.floor (finish_cut release c)
cut_kept One c has fits = fits has
cut_kept Two c has fits = refl

-- Without a cut, the cut of a live attempt is its floor.
cut_fits : (merge : Operator) (world : World) (w : LiveWorker) (a : Attempt) → Keeps merge world → WorkerHolds merge world w → IsIn a w.attempts → is_live (stored_jobs world.store) w.number a ≡ true → CutFits a.context
cut_fits merge world w a k holds there live =
    let l = live_at w.number (stored_jobs world.store) a live in
    let fits = all_at (LiveFits merge world.store k.stored.replay.specs) (live_attempts (stored_jobs world.store) w) a (holds.fits k.stored.replay.specs k.faithful).live (in_filter (is_live (stored_jobs world.store) w.number) w.attempts a there live) in
    let fit : AttemptFits merge world.store k.stored.replay.specs l.job a = subst (λ (o : Option Job). IfSome o (λ (job : Job). AttemptFits merge world.store k.stored.replay.specs job a)) l.stored fits in
    fit.context.cut

-- ---- the end of the job, with its report

-- From its get of the records on, the end of a job leaves a worker that fits and a right report, if another try does.
ended_job : (who : Caller) (w : LiveWorker) (moment : ℕ) (a : Attempt) (made : List (List (ℕ × List Row))) (again : ℕ → Course (StepEnd FinishedJob)) → Relies who w → IsIn a w.attempts → AreUnnoted w (all_of made)
    → (new : World) (end : End (StepEnd FinishedJob)) → ((version : ℕ) (old : World) → After who moment w a (again version) old new end) → (met : World) (got : Records) → met.store.records ≡ Some got → (live : Bool) → is_live got.jobs w.number a ≡ live
    → After who moment w a (ends_job moment w a (all_outputs a.context.ranges (map ids_of made)) got live again) (after_call who.line who.party (Plain GetRecords) None met) new end
ended_job who w moment a made again r there lacks new end tries met got is false live fit lawful run = left_ended who w (λ (report : FinishedJob). report.attempts) (FinishDid who moment w a) NotOwner _ new end (λ report e. absurd (cc e)) fit.holds run
ended_job who w moment a made again r there lacks new end tries met got is true live fit lawful run =
    call_by (Left who w (λ (report : FinishedJob). report.attempts) (FinishDid who moment w a) new end) who w x (λ (s : Store). again_or (records_version s.records) (got.version == records_version s.records)) (after_call who.line who.party (Plain GetRecords) None met) new end r fit lawful run (stops who moment w a new end x) put
  where
    outputs : List (List ℕ)
    outputs = all_outputs a.context.ranges (map ids_of made)

    u : Unrecorded
    u = record { moment = moment; published = no_contexts; kept_cut = finish_cut w.release a.context; tables_of = λ spec. [] }

    x : Exchange
    x = PutsRecords got.version (Finish w.number a.job a.number outputs) got.epoch (jobs_after u (Finish w.number a.job a.number outputs) got.jobs)

    again_or : ℕ → Bool → Course (StepEnd FinishedJob)
    again_or version b = cond b (Ends (Reports (record { outputs = outputs; attempts = without_attempts (a.job ∷ []) w.attempts }))) (again version)

    put : Made who w x (λ (s : Store). again_or (records_version s.records) (got.version == records_version s.records)) (after_call who.line who.party (Plain GetRecords) None met) new end → Left who w (λ (report : FinishedJob). report.attempts) (FinishDid who moment w a) new end
    put m = by (got.version == records_version m.met.store.records) refl m.further m.run
      where
        after : World
        after = after_call who.line who.party x None m.met

        spares : got.version ≡ records_version m.met.store.records → SparesOwn m.met w (jobs_after u (Finish w.number a.job a.number outputs) got.jobs) (Finish w.number a.job a.number outputs)
        spares same =
            let stored : m.met.store.records ≡ Some got = got_records met m.met (Some got) is (later_met who (Plain GetRecords) met met m.met (later_itself met) m.rivals) same in
            apart_outputs who.merge w m.met a made m.fit.holds there (ap (λ o. is_live (jobs_in o) w.number a) stored ∙ live) lacks

        over : (got.version == records_version m.met.store.records) ≡ true → is_live (stored_jobs after.store) w.number a ≡ false
        over e =
            let stored : m.met.store.records ≡ Some got = got_records met m.met (Some got) is (later_met who (Plain GetRecords) met met m.met (later_itself met) m.rivals) ((Decides-eqb got.version (records_version m.met.store.records)).0 e) in
            let put = ap (λ (world : World). stored_jobs world.store) (put_world who.line who.party m.met got.version (Finish w.number a.job a.number outputs) got.epoch (jobs_after u (Finish w.number a.job a.number outputs) got.jobs) e) in
            finished_over m.met w a (finished_by w.number u outputs) (stored_jobs after.store) (λ job. refl) (λ job runs. cc runs) (put ∙ ap (λ o. jobs_after u (Finish w.number a.job a.number outputs) (jobs_in o)) (sym stored))

        holds : WorkerHolds who.merge after w
        holds = own_calls_keep who.merge x who.line who.party m.met w m.fit.kept r.own m.lawful spares m.fit.holds

        did : (got.version == records_version m.met.store.records) ≡ true → FinishDid who moment w a after (record { outputs = outputs; attempts = without_attempts (a.job ∷ []) w.attempts })
        did e =
            let stored : m.met.store.records ≡ Some got = got_records met m.met (Some got) is (later_met who (Plain GetRecords) met met m.met (later_itself met) m.rivals) ((Decides-eqb got.version (records_version m.met.store.records)).0 e) in
            let world = put_world who.line who.party m.met got.version (Finish w.number a.job a.number outputs) got.epoch (jobs_after u (Finish w.number a.job a.number outputs) got.jobs) e in
            let lives = ap (λ o. is_live (jobs_in o) w.number a) stored ∙ live in
            let merged = merged_job who.merge m.met after w.number a u outputs (record { version = got.version + 1; epoch = got.epoch; jobs = jobs_after u (Finish w.number a.job a.number outputs) got.jobs })
            (own_entry who.line who.party m.met (Finish w.number a.job a.number outputs)) m.fit.kept m.kept lives world
            (ap (λ (t : World). stored_jobs t.store) world ∙ ap (λ o. jobs_after u (Finish w.number a.job a.number outputs) (jobs_in o)) (sym stored)) in
            let sources_are : (job : Job) → job_with a.job (stored_jobs m.met.store) ≡ Some job → a.sources ≡ job.source_tables =
            λ job is. subst (λ (o : Option Job). IfSome o (λ (j : Job). a.sources ≡ j.source_tables)) is (all_at (AttemptHeld m.met w.number) w.attempts a m.fit.holds.each there).sources in
            record {
              made = map ids_of made;
              outputs = refl;
              attempts = refl;
              at = m.met;
              got = got;
              stored = stored;
              live = live;
              last = refl;
              over = over e;
              finished = merged.finished;
              rows = merged.under a.context.settings a.sources sources_are (all_at (AttemptStands who.merge after.store m.kept.stored.replay.specs) w.attempts a (holds.fits m.kept.stored.replay.specs m.kept.faithful).each there).claimed.settings
                  (cut_kept w.release a.context (all_at _ w.attempts a (holds.fits m.kept.stored.replay.specs m.kept.faithful).cuts there) (cut_fits who.merge m.met w a m.fit.kept m.fit.holds there lives));
            }

        by : (b : Bool) → (got.version == records_version m.met.store.records) ≡ b → IsLawfulCourse who after (again_or (records_version m.met.store.records) b) → Runs who (again_or (records_version m.met.store.records) b) after new end → Left who w (λ (report : FinishedJob). report.attempts) (FinishDid who moment w a) new end
        by true e lawful run = left_reported who w (λ (report : FinishedJob). report.attempts) (FinishDid who moment w a) (record { outputs = outputs; attempts = without_attempts (a.job ∷ []) w.attempts }) after new end holds
            (holds_fewer who.merge after w (λ (b : Attempt). not (contains (a.job ∷ []) b.job)) holds) (did e) run
        by false e lawful run = tries (records_version m.met.store.records) after (record { kept = m.kept; holds = holds }) lawful run

ended_by : (who : Caller) (w : LiveWorker) (moment : ℕ) (a : Attempt) (made : List (List (ℕ × List Row))) (again : ℕ → Course (StepEnd FinishedJob)) → Relies who w → IsIn a w.attempts → AreUnnoted w (all_of made)
    → (new : World) (end : End (StepEnd FinishedJob)) → ((version : ℕ) (old : World) → After who moment w a (again version) old new end) → (met : World) (records : Option Records) → met.store.records ≡ records
    → After who moment w a (ends_job_by moment w a (all_outputs a.context.ranges (map ids_of made)) records again) (after_call who.line who.party (Plain GetRecords) None met) new end
ended_by who w moment a made again r there lacks new end tries met None is fit lawful run = left_ended who w (λ (report : FinishedJob). report.attempts) (FinishDid who moment w a) NotOwner _ new end (λ report e. absurd (cc e)) fit.holds run
ended_by who w moment a made again r there lacks new end tries met (Some got) is fit lawful run = ended_job who w moment a made again r there lacks new end tries met got is (is_live got.jobs w.number a) refl fit lawful run

ends : (who : Caller) (w : LiveWorker) (moment : ℕ) (a : Attempt) (made : List (List (ℕ × List Row))) → Relies who w → IsIn a w.attempts → AreUnnoted w (all_of made) → (new : World) (end : End (StepEnd FinishedJob)) → (left seen : ℕ) (old : World)
    → After who moment w a (tries (end_try moment w a (all_outputs a.context.ranges (map ids_of made))) left seen) old new end
ends who w moment a made r there lacks new end zero seen old fit lawful run = left_ended who w (λ (report : FinishedJob). report.attempts) (FinishDid who moment w a) (GivesUp seen) old new end (λ report e. absurd (cc e)) fit.holds run
ends who w moment a made r there lacks new end (suc left) seen old fit lawful run =
    call_by (Left who w (λ (report : FinishedJob). report.attempts) (FinishDid who moment w a) new end) who w (Plain GetRecords)
    (λ (s : Store). ends_job_by moment w a (all_outputs a.context.ranges (map ids_of made)) s.records (tries (end_try moment w a (all_outputs a.context.ranges (map ids_of made))) left)) old new end r fit lawful run (stops who moment w a new end (Plain GetRecords))
    (λ m. ended_by who w moment a made (tries (end_try moment w a (all_outputs a.context.ranges (map ids_of made))) left) r there lacks new end (λ version one. ends who w moment a made r there lacks new end left version one)
    m.met m.met.store.records refl (fit_got who w m.met r.keep m.fit) m.further m.run)

pub end_fits : (who : Caller) (w : LiveWorker) (moment : ℕ) (a : Attempt) (made : List (List (ℕ × List Row))) → Relies who w → IsIn a w.attempts → AreUnnoted w (all_of made) → (new : World) (end : End (StepEnd FinishedJob)) (old : World)
    → After who moment w a (end_job moment w a (all_outputs a.context.ranges (map ids_of made))) old new end
unfolding end_job
end_fits who w moment a made r there lacks new end old fit lawful run = ends who w moment a made r there lacks new end most_refused 0 old fit lawful run

-- ---- the finish

-- What is so after the finish: the worker fits, and a report says what the finish did.
abbrev FinishLeaves : Caller → FinishAsk → World → End (StepEnd FinishedJob) → Type 0
FinishLeaves who ask new end = Left who ask.worker (λ (report : FinishedJob). report.attempts) (FinishDid who ask.moment ask.worker ask.attempt) new end

-- A finish that has got its sources leaves a worker that fits and a right report, also if the operator refused a fold.
made_fits : (who : Caller) (start : World) (ask : FinishAsk) (refusal : Option (List ℕ)) → Relies who ask.worker → IsIn ask.attempt ask.worker.attempts → (new : World) (end : End (StepEnd FinishedJob)) (world : World) → State who ask.worker start ask.attempt [] world
    → let course = unless_refused ask.worker ask.attempt refusal (puts_and_ends ask (tables_left who.merge start.store.tables ask)) in
    IsLawfulCourse who world course → Runs who course world new end → FinishLeaves who ask new end
made_fits who start ask (Some message) r there new end world s lawful run =
    gives_back_left who ask.worker (λ (report : FinishedJob). report.attempts) (FinishDid who ask.moment ask.worker ask.attempt) ask.attempt message world new end r (record { kept = s.kept; holds = s.holds }) lawful run
made_fits who start ask None r there new end world s lawful run =
    let w = ask.worker in
    let a = ask.attempt in
    let moment = ask.moment in
    puts_all {A = FinishedJob} (FinishLeaves who ask new end) who w start a moment new end r (stops who moment w a new end)
    (tables_left who.merge start.store.tables ask) [] (λ ids. end_job moment w a (all_outputs a.context.ranges ids))
    (λ later made state lacks further on. end_fits who w moment a made r there lacks new end later (record { kept = state.kept; holds = state.holds }) further on) world s lawful run

finish_fits : (who : Caller) (start : World) (ask : FinishAsk) → Relies who ask.worker → IsIn ask.attempt ask.worker.attempts → (new : World) (end : End (StepEnd FinishedJob)) → State who ask.worker start ask.attempt [] start
    → IsLawfulCourse who start (finish who.merge start.store.tables ask) → Runs who (finish who.merge start.store.tables ask) start new end → FinishLeaves who ask new end
unfolding finish
finish_fits who start ask r there new end s lawful run =
    let w = ask.worker in
    let a = ask.attempt in
    gets {A = FinishedJob} (FinishLeaves who ask new end) who w start a (unless_refused w a ask.refusal (puts_and_ends ask (tables_left who.merge start.store.tables ask))) new end r (stops who ask.moment w a new end)
    (λ world state further on. made_fits who start ask ask.refusal r there new end world state further on) a.sources start s lawful run

-- What is so after the finish of a worker that fits.
afterwards : (who : Caller) (old : World) (ask : FinishAsk) → CallsKeep who.merge → IsLawful who.merge → who.party ≡ Worker ask.worker.number → Keeps who.merge old → WorkerHolds who.merge old ask.worker → DoesRun ask.worker ask.attempt
    → WholeUnless who.merge old.store.tables ask.attempt ask.refusal → (new : World) (end : End (StepEnd FinishedJob)) → Runs who (finish who.merge old.store.tables ask) old new end → FinishLeaves who ask new end
afterwards who old ask keep operator own kept holds runs whole new end run =
    let there = found_in ask.worker.attempts ask.attempt.job ask.attempt runs in
    finish_fits who old ask (record { keep = keep; own = own }) there new end (begins who ask.worker old ask.attempt kept holds there)
    (finishes_are_lawful who old ask keep operator own kept holds runs whole) run

pub finishes_keep_fit : FinishesKeepFit
finishes_keep_fit who old ask keep operator own kept holds runs whole = (
  λ new end run. (afterwards who old ask keep operator own kept holds runs whole new end run).0,
  λ new report run. (afterwards who old ask keep operator own kept holds runs whole new (Gives (Reports report)) run).1.over,
)

pub finishes_report : FinishesReport
finishes_report who old new ask report keep operator own kept holds runs whole run =
    (afterwards who old ask keep operator own kept holds runs whole new (Gives (Reports report)) run).1
