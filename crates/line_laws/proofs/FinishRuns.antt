-- A finish that is alone and reports ends its attempt.
use Rattle.std.proofs.Common.{◌≡◌, refl, sym, ◌∙◌, ap, subst, ℕ, zero, suc, List, [], ◌∷◌, cond, Bool, true, false, Option, Some, None}
use Rattle.std.specs.Prelude.{◌==◌, filter}
use Rattle.std.proofs.lemmas.Bool.Decides.{Decides-eqb}
use Rattle.row_model.specs.Rows.{Row}
use Rattle.fleet_model.specs.Nodes.{Tables}
use Rattle.fleet_model.specs.Jobs.{changed_jobs, trimmed_jobs}
use Rattle.fleet_model.specs.History.{Event, GetRecords, Finish, Release}
use Rattle.fleet_model.specs.Work.Attempts.{finish_cut}
use Rattle.fleet_model.specs.Store.{Records, Store, stored_jobs, jobs_in}
use Rattle.fleet_model.specs.Work.Records.{finished_by, Unrecorded, no_contexts, jobs_after}
use Rattle.fleet_model.specs.Work.Parties.{Attempt, LiveWorker, named_attempts, without_attempts, is_live}
use Rattle.fleet_model.specs.Exchanges.{Plain, DrawsTable, PutsTable, PutsRecords, records_version, next_table_id, after_exchange}
use Rattle.step_model.specs.Past.{World}
use Rattle.step_model.specs.Rivals.{Caller, after_call}
use Rattle.step_model.specs.Courses.Course.{Course, Ends, Calls, calls_each, puts_tables, puts_ranges}
use Rattle.step_model.specs.Courses.Tries.{tries}
use Rattle.step_model.specs.Courses.StepEnds.{StepEnd, Reports, OperatorRefuses, most_refused}
use Rattle.step_model.specs.Steps.ClaimSteps.{at_moment}
use Rattle.step_model.specs.Steps.BeatSteps.{release_live, release_by, release_try}
use Rattle.step_model.specs.Steps.OutputSteps.{gets_tables, unless_refused}
use Rattle.step_model.specs.Steps.FinishSteps.{FinishAsk, FinishedJob, all_outputs, unrecorded_of_finish, ends_job, ends_job_by, end_try, end_job, tables_left, puts_and_ends, finish}
use Rattle.step_laws.specs.Runs.{CallsKeep}
use Rattle.line_laws.proofs.PollRuns.{Going, alone_next, RecordsPut, records_put}

-- ---- gets and puts of tables

-- The run goes on with this course from a store with the same manifest and the same records.
record On {A : Type 0} (who : Caller) (course : Course A) (world new : World) (answer : A) : Type 0 where
  pub mid : World
  pub manifest : mid.store.manifest ≡ world.store.manifest
  pub records : mid.store.records ≡ world.store.records
  pub going : Going who course mid new answer

gets_done : {A : Type 0} (who : Caller) (events : List Event) (next : Course A) (world new : World) (answer : A) → CallsKeep who.merge → who.alone ≡ true → Going who (calls_each events next) world new answer → On who next world new answer
gets_done who [] next world new answer keep alone going = record { mid = world; manifest = refl; records = refl; going = going }
gets_done {A} who (event ∷ events) next world new answer keep alone going =
    further (gets_done who events next (after_call who.line who.party (Plain event) None world) new answer keep alone (alone_next who (Plain event) (λ met. calls_each events next) world new answer keep alone going).going)
  where
    further : On who next (after_call who.line who.party (Plain event) None world) new answer → On who next world new answer
    further on = record { mid = on.mid; manifest = on.manifest; records = on.records; going = on.going }

-- The run goes on after puts of tables with these ids.
record Made {A B : Type 0} (who : Caller) (next : List B → Course A) (world new : World) (answer : A) : Type 0 where
  pub made : List B
  pub on : On who (next made) world new answer

-- A run that is alone puts its tables and goes on with their ids, and both objects stay.
tables_made : {A : Type 0} (who : Caller) (moment : ℕ) (tables : List (List Row)) (next : List ℕ → Course A) (world new : World) (answer : A) → CallsKeep who.merge → who.alone ≡ true → Going who (puts_tables moment tables next) world new answer
    → Made who next world new answer
tables_made who moment [] next world new answer keep alone going = record { made = []; on = record { mid = world; manifest = refl; records = refl; going = going } }
tables_made {A} who moment (rows ∷ tables) next world new answer keep alone going =
    let table = next_table_id moment world.store in
    let drew = after_call who.line who.party (DrawsTable moment) None world in
    let rest : ℕ → Course A = λ table. puts_tables moment tables (λ ids. next (table ∷ ids)) in
    let one = alone_next who (DrawsTable moment) (λ met. let table = next_table_id moment met in Calls (PutsTable table rows) (λ after. rest table)) world new answer keep alone going in
    let two = alone_next who (PutsTable table rows) (λ after. rest table) drew new answer keep alone one.going in
    further table (tables_made who moment tables (λ ids. next (table ∷ ids)) (after_call who.line who.party (PutsTable table rows) None drew) new answer keep alone two.going)
  where
    further : (table : ℕ) → Made who (λ ids. next (table ∷ ids)) (after_call who.line who.party (PutsTable table rows) None (after_call who.line who.party (DrawsTable moment) None world)) new answer → Made who next world new answer
    further table m = record { made = table ∷ m.made; on = record { mid = m.on.mid; manifest = m.on.manifest; records = m.on.records; going = m.on.going } }

ranges_made : {A : Type 0} (who : Caller) (moment : ℕ) (ranges : List (List (List Row))) (next : List (List ℕ) → Course A) (world new : World) (answer : A) → CallsKeep who.merge → who.alone ≡ true → Going who (puts_ranges moment ranges next) world new answer
    → Made who next world new answer
ranges_made who moment [] next world new answer keep alone going = record { made = []; on = record { mid = world; manifest = refl; records = refl; going = going } }
ranges_made who moment (tables ∷ ranges) next world new answer keep alone going =
    let m = tables_made who moment tables (λ ids. puts_ranges moment ranges (λ others. next (ids ∷ others))) world new answer keep alone going in
    let r = ranges_made who moment ranges (λ others. next (m.made ∷ others)) m.on.mid new answer keep alone m.on.going in
    record { made = m.made ∷ r.made; on = record { mid = r.on.mid; manifest = r.on.manifest ∙ m.on.manifest; records = r.on.records ∙ m.on.records; going = r.on.going } }

-- ---- a finish that the operator refuses

-- A finish that is alone and gives its attempt back, as the operator refused a fold, does not report.
back_no_report : (who : Caller) (w : LiveWorker) (a : Attempt) (message : List ℕ) (left seen : ℕ) (world new : World) (report : FinishedJob) → CallsKeep who.merge → who.alone ≡ true
    → Going who (tries (release_try w (a ∷ []) (λ released. Ends (OperatorRefuses message))) left seen) world new (Reports report) → ⊥
back_no_report who w a message zero seen world new report keep alone going = absurd (cc (going.run.1))
back_no_report who w a message (suc left) seen world new report keep alone going =
    by (λ seen afterwards going. back_no_report who w a message left seen afterwards new report keep alone going) world.store.records (alone_next who (Plain GetRecords) (λ met. release_by w (a ∷ []) met.records refuses again) world new (Reports report) keep alone going).going
  where
    refuses : List ℕ → Course (StepEnd FinishedJob)
    refuses released = Ends (OperatorRefuses message)

    again : ℕ → Course (StepEnd FinishedJob)
    again = tries (release_try w (a ∷ []) refuses) left

    got_now : World
    got_now = after_call who.line who.party (Plain GetRecords) None world

    Never : Type 0
    Never = (seen : ℕ) (afterwards : World) → Going who (again seen) afterwards new (Reports report) → ⊥

    put : Never → (b : Bool) (seen : ℕ) (afterwards : World) → Going who (cond b (Ends (OperatorRefuses message)) (again seen)) afterwards new (Reports report) → ⊥
    put never true seen afterwards going = absurd (cc (going.run.1))
    put never false seen afterwards going = never seen afterwards going

    of : Never → (got : Records) (live : List Attempt) → Going who (release_live w got live refuses again) got_now new (Reports report) → ⊥
    of never got [] going = absurd (cc (going.run.1))
    of never got (b ∷ live) going =
        let change = Release w.number (named_attempts (b ∷ live)) in
        let x = PutsRecords got.version change got.epoch (jobs_after (at_moment 0) change got.jobs) in
        let next : Store → Course (StepEnd FinishedJob) = λ met. cond (got.version == records_version met.records) (Ends (OperatorRefuses message)) (again (records_version met.records)) in
        put never (got.version == records_version got_now.store.records) (records_version got_now.store.records) (after_call who.line who.party x None got_now) (alone_next who x next got_now new (Reports report) keep alone going).going

    by : Never → (o : Option Records) → Going who (release_by w (a ∷ []) o refuses again) got_now new (Reports report) → ⊥
    by never None going = absurd (cc (going.run.1))
    by never (Some got) going = of never got (filter (is_live got.jobs w.number) (a ∷ [])) going

-- ---- the end of a job

-- The step ended the attempt with these outputs.
pub record Ended (moment : ℕ) (w : LiveWorker) (a : Attempt) (outputs : List (List ℕ)) (old new : Store) (report : FinishedJob) : Type 0 where
  pub outputs_are : report.outputs ≡ outputs
  pub attempts : report.attempts ≡ without_attempts (a.job ∷ []) w.attempts
  pub live : is_live (stored_jobs old) w.number a ≡ true
  pub jobs : stored_jobs new ≡ trimmed_jobs (changed_jobs (finished_by w.number (unrecorded_of_finish moment w a) outputs) (a.job ∷ []) (stored_jobs old))
  pub manifest : new.manifest ≡ old.manifest

-- The end of a job that is alone and reports ended the attempt, which was live, with these outputs.
ends_do : (who : Caller) (moment : ℕ) (w : LiveWorker) (a : Attempt) (outputs : List (List ℕ)) (left seen : ℕ) (world new : World) (report : FinishedJob) → CallsKeep who.merge → who.alone ≡ true
    → Going who (tries (end_try moment w a outputs) left seen) world new (Reports report) → Ended moment w a outputs world.store new.store report
ends_do who moment w a outputs zero seen world new report keep alone going = absurd (cc (going.run.1))
ends_do who moment w a outputs (suc left) seen world new report keep alone going =
    by world.store.records refl (alone_next who (Plain GetRecords) (λ met. ends_job_by moment w a outputs met.records again) world new (Reports report) keep alone going).going
  where
    again : ℕ → Course (StepEnd FinishedJob)
    again = tries (end_try moment w a outputs) left

    got_now : World
    got_now = after_call who.line who.party (Plain GetRecords) None world

    report_is : FinishedJob
    report_is = record { outputs = outputs; attempts = without_attempts (a.job ∷ []) w.attempts }

    put : (got : Records) → world.store.records ≡ Some got → is_live got.jobs w.number a ≡ true → Going who (ends_job moment w a outputs got true again) got_now new (Reports report) → Ended moment w a outputs world.store new.store report
    put got e live going =
        let change = Finish w.number a.job a.number outputs in
        let unrecorded : Unrecorded = record { moment = moment; published = no_contexts; kept_cut = finish_cut w.release a.context; tables_of = λ spec. [] } in
        let jobs = jobs_after unrecorded change got.jobs in
        let x = PutsRecords got.version change got.epoch jobs in
        let version : records_version got_now.store.records ≡ got.version = ap records_version e in
        let afterwards = after_call who.line who.party x None got_now in
        let next : Store → Course (StepEnd FinishedJob) = λ met. cond (got.version == records_version met.records) (Ends (Reports report_is)) (again (records_version met.records)) in
        let one = alone_next who x next got_now new (Reports report) keep alone going in
        let two = subst (λ (b : Bool). Going who (cond b (Ends (Reports report_is)) (again (records_version got_now.store.records))) afterwards new (Reports report)) ((Decides-eqb got.version (records_version got_now.store.records)).1 (sym version)) one.going in
        let stored = subst (λ (v : ℕ). RecordsPut got_now.store (after_exchange (PutsRecords v change got.epoch jobs) got_now.store) got.epoch jobs) version (records_put change got.epoch jobs got_now.store) in
        let last = two.run.0 in
        let is : report_is ≡ report = cc (two.run.1) in
        record {
          outputs_are = ap (λ (r : FinishedJob). r.outputs) (sym is);
          attempts = ap (λ (r : FinishedJob). r.attempts) (sym is);
          live = ap (λ (o : Option Records). is_live (jobs_in o) w.number a) e ∙ live;
          jobs = ap (λ (t : World). stored_jobs t.store) (sym last) ∙ ap jobs_in stored.records ∙ ap (λ (o : Option Records). trimmed_jobs (changed_jobs (finished_by w.number (unrecorded_of_finish moment w a) outputs) (a.job ∷ []) (jobs_in o))) (sym e);
          manifest = ap (λ (t : World). t.store.manifest) (sym last) ∙ stored.manifest;
        }

    of : (got : Records) → world.store.records ≡ Some got → (b : Bool) → is_live got.jobs w.number a ≡ b → Going who (ends_job moment w a outputs got b again) got_now new (Reports report) → Ended moment w a outputs world.store new.store report
    of got e true live going = put got e live going
    of got e false live going = absurd (cc (going.run.1))

    by : (o : Option Records) → world.store.records ≡ o → Going who (ends_job_by moment w a outputs o again) got_now new (Reports report) → Ended moment w a outputs world.store new.store report
    by None e going = absurd (cc (going.run.1))
    by (Some got) e going = of got e (is_live got.jobs w.number a) refl going

-- The end is the same over an earlier store with the same manifest and the same records.
ended_before : (moment : ℕ) (w : LiveWorker) (a : Attempt) (outputs : List (List ℕ)) (old mid new : Store) (report : FinishedJob) → mid.manifest ≡ old.manifest → mid.records ≡ old.records → Ended moment w a outputs mid new report → Ended moment w a outputs old new report
ended_before moment w a outputs old mid new report manifest records end = record {
  outputs_are = end.outputs_are;
  attempts = end.attempts;
  live = ap (λ (o : Option Records). is_live (jobs_in o) w.number a) (sym records) ∙ end.live;
  jobs = end.jobs ∙ ap (λ (o : Option Records). trimmed_jobs (changed_jobs (finished_by w.number (unrecorded_of_finish moment w a) outputs) (a.job ∷ []) (jobs_in o))) records;
  manifest = end.manifest ∙ manifest;
}

-- ---- the finish

-- The finish made these tables, range after range, and ended the attempt.
pub record Finished (moment : ℕ) (w : LiveWorker) (a : Attempt) (old new : Store) (report : FinishedJob) : Type 0 where
  pub made : List (List ℕ)
  pub end : Ended moment w a (all_outputs a.context.ranges made) old new report

-- A finish that is alone and reports made tables for each range, and ended its attempt with them.
pub finish_did : (who : Caller) (tables : Tables) (ask : FinishAsk) (world new : World) (report : FinishedJob) → CallsKeep who.merge → who.alone ≡ true
    → Going who (finish who.merge tables ask) world new (Reports report) → Finished ask.moment ask.worker ask.attempt world.store new.store report
unfolding finish end_job
finish_did who tables ask world new report keep alone going = by ask.refusal (gets_done who (gets_tables a.sources) (unless_refused w a ask.refusal (puts_and_ends ask (tables_left who.merge tables ask))) world new (Reports report) keep alone going)
  where
    moment : ℕ
    moment = ask.moment

    w : LiveWorker
    w = ask.worker

    a : Attempt
    a = ask.attempt

    by : (refusal : Option (List ℕ)) → On who (unless_refused w a refusal (puts_and_ends ask (tables_left who.merge tables ask))) world new (Reports report) → Finished moment w a world.store new.store report
    by (Some message) on = absurd (back_no_report who w a message most_refused 0 on.mid new report keep alone on.going)
    by None on =
        let m = ranges_made who moment (tables_left who.merge tables ask) (λ made. end_job moment w a (all_outputs a.context.ranges made)) on.mid new (Reports report) keep alone on.going in
        let outputs = all_outputs a.context.ranges m.made in
        record {
          made = m.made;
          end = ended_before moment w a outputs world.store m.on.mid.store new.store report (m.on.manifest ∙ on.manifest) (m.on.records ∙ on.records) (ends_do who moment w a outputs most_refused 0 m.on.mid new report keep alone m.on.going);
        }
