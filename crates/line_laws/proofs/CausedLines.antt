-- A line is refused exactly if a cause of its kind holds.
use Rattle.std.specs.Option.{option_or}
use Rattle.std.proofs.Common.{◌≡◌, refl, sym, ◌∙◌, ap, subst, ℕ, zero, suc, List, [], ◌∷◌, ◌++◌, cond, Bool, true, false, Option, Some, None, ℤ}
use Rattle.std.specs.Prelude.{⊤, ◌==◌, ◌||◌, codes, decimal, is_some, nat_lt, option_map, filter}
use Rattle.row_model.specs.Ranges.{Range}
use Rattle.row_model.specs.Rows.{Row}
use Rattle.row_model.specs.Fold.{Operator, Outcome, Merged, Refused}
use Rattle.fleet_model.specs.Nodes.{Tables, node_named, tree_at}
use Rattle.fleet_model.specs.Jobs.{JobSpec}
use Rattle.fleet_model.specs.History.{Party, Writer, Submitter, Coordinator, Worker, Sweeper, Event, Start, Kill, GetRecords, GetManifest, ManifestChange, Flush}
use Rattle.fleet_model.specs.Store.{Manifest, Records, Store, stored_jobs, jobs_in}
use Rattle.fleet_model.specs.Exchanges.{Plain, PutsTable, PutsManifest, Fault, after_answered, event_of, strikes, waiting_after, struck_by, does_stand}
use Rattle.fleet_model.specs.Reads.{flushed_read}
use Rattle.fleet_model.specs.Sweeps.{pinned_tables}
use Rattle.fleet_model.specs.TreeScans.{flushed_scan}
use Rattle.fleet_model.specs.Work.Parties.{Attempt, LiveWorker, LiveCoordinator, Parties, coordinator_with, worker_with, without_coordinator, without_worker, with_coordinator, with_worker, without_attempts, is_live}
use Rattle.fleet_model.specs.Work.PollStates.{PollState}
use Rattle.fleet_model.specs.Work.Scheduler.{Scheduler, Request, Generated, Specs, shown_view}
use Rattle.fleet_model.specs.Work.Scheduler as scheduler
use Rattle.step_model.specs.Courses.Alone.{AloneEnd, run_alone}
use Rattle.step_model.specs.Courses.Course.{Course, Ends, Calls, then_course, calls_each}
use Rattle.step_model.specs.Courses.StepEnds.{StepEnd, Reports, Fenced, NotOwner, BadFlush, FlushFault}
use Rattle.step_model.specs.Courses.Tries.{tries}
use Rattle.step_model.specs.Entries.{last_name}
use Rattle.step_model.specs.Steps.ClaimSteps.{claim}
use Rattle.step_model.specs.Steps.BeatSteps.{heartbeat, release_all}
use Rattle.step_model.specs.Steps.OutputSteps.{OutputAsk, Written, meets, gets_tables, unless_refused, rows_written, writes, output}
use Rattle.step_model.specs.Steps.FinishSteps.{FinishAsk, FinishedJob, all_outputs, ends_job, ends_job_by, end_try, end_job, tables_left, puts_and_ends, finish}
use Rattle.step_model.specs.Steps.FlushSteps.{FlushAsk, fault_before_get, fault_after_get, unless_bad, flushes_from, flush, with_flush}
use Rattle.step_model.specs.Steps.SubmitSteps.{submit_by, submit_try, submit, submits_generated, request_by, request_try, submit_request}
use Rattle.step_model.specs.Steps.PollSteps.{PollAsk, poll, start, records_or_none}
use Rattle.step_model.specs.Steps.SweepSteps.{sweep}
use Rattle.step_laws.proofs.Elements.{is_itself}
use Rattle.script_model.specs.Script.{Line, Options, Clock, StartCoordinator, StartWorker, KillCoordinator, KillWorker, StopCoordinator, StopWorker, FlushRows, ReadKey, SubmitJob, SubmitDrain, SubmitFull, Poll, CommitOnly, ClaimJobs, Heartbeat, Output, FinishJob, SetFault, ShowTrees, ShowJobs, ShowTables, Dump, Sweep, Scan, Settle, Together}
use Rattle.script_model.specs.States.{Inputs, State}
use Rattle.script_model.specs.Replies.{reply, ok, jobs_text, tables_text, claim_reply, beat_reply, output_reply, ranges_text, poll_reply, commit_reply, read_reply, not_retained}
use Rattle.script_model.specs.LineRuns.{LineEnd, LineCourse, run_line, end_or_fault, no_such_party, if_some, noted_line, step_line, step_reply, line_end}
use Rattle.script_model.specs.LineCourses.{prepared_state, course_of, job_at, range_at}
use Rattle.script_model.specs.LineSteps.{OneCourse}
use Rattle.script_model.specs.Lines.Settles.{is_ok, has_active, has_added, jobs_run, settled_reply, all_taken, Place, BeforePoll, HasPolled, HasClaimed, ToFinish, Takes, Answers, next_round, next_claim, next_finish, next_turn, StepTaken, StepsLead, ComeInTurn}
use Rattle.script_model.specs.Lines.Starts.{killed_first, start_notes, only_notes, release_named}
use Rattle.script_model.specs.Lines.Looks.{is_not_retained}
use Rattle.script_model.specs.Lines.Scans.{Page, first_page, keys_between, scan_reply}
use Rattle.script_model.specs.Lines.Submits.{request_of}
use Rattle.script_model.specs.Lines.PollLines.{poll_ask}
use Rattle.script_model.specs.Lines.Sweeps.{by_number}
use Rattle.script_model.specs.Lines.WorkLines.{worker_options, parties_running, worker_line, without_attempt, output_asked, output_line, finish_asked, finish_line}
use Rattle.line_laws.specs.Faults.{calls_made, answer_made}
use Rattle.line_laws.specs.Ran.{IsStepOf}
use Rattle.line_laws.specs.Lines.PollCalls.{reached_at}
use Rattle.line_laws.specs.Lines.Causes.{does_strike, store_fault, no_party, unless_there, fault_of_flush, bad_flush, no_records, unless_records, generate_refusal, request_refusal, fenced_reply, fence_of, callback, end_refusal, fold_refusal, unless_retained, refusal_of, refusal_by, is_served, RepliesBy, SettleEnds, AllServed, LastRefused, CausesDecide}
use Rattle.line_laws.specs.Lines.Refused.{HasPutTables}
use Rattle.line_laws.proofs.AloneEnds.{EndsSo, gets_so, put_so}
use Rattle.line_laws.proofs.PollCalls.{poll_made}
use Rattle.line_laws.proofs.StepRefusals.{Reported, claim_so, beat_so, release_so, start_so, back_so, specs_so, ranges_so, put_itself}
use Rattle.line_laws.proofs.RefusedLines.{said_jobs, said_tables, said_rows}

-- ---- faults

-- A course that runs alone has no answer if the fault strikes one of its calls, and else the answer that it has without
-- a fault.
run_answers : {A : Type 0} (line : ℕ) (party : Party) (course : Course A) (fault : Option Fault) (store : Store) → (run_alone line party course fault store).answer ≡ cond (does_strike fault (calls_made line party course store)) None (Some (answer_made line party course store))
run_answers line party (Ends answer) fault store = refl
run_answers {A} line party (Calls x next) fault store = by (strikes (event_of x store) fault) (run_answers line party (next store) (waiting_after (event_of x store) fault) (after_answered line party x store))
  where
    later : AloneEnd A
    later = run_alone line party (next store) (waiting_after (event_of x store) fault) (after_answered line party x store)

    rest : Bool
    rest = does_strike (waiting_after (event_of x store) fault) (calls_made line party (next store) (after_answered line party x store))

    given : A
    given = answer_made line party (next store) (after_answered line party x store)

    by : (b : Bool) → later.answer ≡ cond rest None (Some given) → (cond b (record { answer = None; store = struck_by (does_stand fault) line party x store; fault = None }) later).answer ≡ cond (b || rest) None (Some given)
    by true same = refl
    by false same = same

-- The reply of a line, given that of its course without a fault.
line_replies : (number : ℕ) (s : State) (c : LineCourse) (answer : List ℕ) (new : State) → run_line number s c ≡ (answer, new) → answer ≡ cond (does_strike s.fault (calls_made number c.party c.course s.store)) store_fault (answer_made number c.party c.course s.store).reply
line_replies number s c answer new is =
    sym (ap (λ (p : List ℕ × State). p.0) is) ∙ ap (λ (o : Option LineEnd). (end_or_fault c.struck o).reply) (run_answers number c.party c.course s.fault s.store)
    ∙ by (does_strike s.fault (calls_made number c.party c.course s.store)) (answer_made number c.party c.course s.store)
  where
    by : (b : Bool) (end : LineEnd) → (end_or_fault c.struck (cond b None (Some end))).reply ≡ cond b store_fault end.reply
    by true end = refl
    by false end = refl

-- ---- steps and their lines

-- The answer of a course that ends so has the property, for the store that it leaves.
so_made : {A : Type 0} (line : ℕ) (party : Party) (course : Course A) (store : Store) (P : A → Store → Type 0) → EndsSo line party course store P → (left : Store) × P (answer_made line party course store) left
so_made line party (Ends answer) store P so = (store, so)
so_made line party (Calls x next) store P so = so_made line party (next store) (after_answered line party x store) P so

calls_answer : {A : Type 0} (line : ℕ) (party : Party) (events : List Event) (answer : A) (store : Store) → answer_made line party (calls_each events (Ends answer)) store ≡ answer
calls_answer line party [] answer store = refl
calls_answer line party (event ∷ events) answer store = calls_answer line party events answer (after_answered line party (Plain event) store)

-- A step, and then notes and an end.
noted_answer : {A B : Type 0} (line : ℕ) (party : Party) (step : Course A) (notes : A → List Event) (ends : A → B) (store : Store) → answer_made line party (then_course step (λ end. calls_each (notes end) (Ends (ends end)))) store ≡ ends (answer_made line party step store)
noted_answer line party (Ends answer) notes ends store = calls_answer line party (notes answer) (ends answer) store
noted_answer line party (Calls x next) notes ends store = noted_answer line party (next store) notes ends (after_answered line party x store)

-- The step ends with this refusal, or it reports.
abbrev EndsBy : {A : Type 0} → (A → List ℕ) → Option (List ℕ) → StepEnd A → Type 0
EndsBy spell None (Reports report) = ⊤
EndsBy spell None end = ⊥
EndsBy spell (Some refusal) end = step_reply spell end ≡ refusal

reports_by : {A : Type 0} (spell : A → List ℕ) (end : StepEnd A) (left : Store) → Reported end left → EndsBy spell None end
reports_by spell (Reports report) left is = tt
reports_by spell end left is = absurd is

-- A step that always reports does so.
always : {A : Type 0} (line : ℕ) (party : Party) (step : Course (StepEnd A)) (spell : A → List ℕ) (store : Store) → EndsSo line party step store Reported → EndsBy spell None (answer_made line party step store)
always line party step spell store so = let made = so_made line party step store Reported so in reports_by spell (answer_made line party step store) made.0 made.1

-- The reply of a line that does a step.
step_replies : {A : Type 0} (number : ℕ) (line : Line) (s : State) (party : Party) (step : Course (StepEnd A)) (notes : StepEnd A → List Event) (spell : A → List ℕ) (reported : A → Parties) (refused struck : Parties) (refusal : Option (List ℕ))
    → ((report : A) → is_served line (spell report) ≡ true) → EndsBy spell refusal (answer_made number party step s.store)
    → RepliesBy line refusal (answer_made number party (noted_line party step notes (line_end spell reported refused) struck).course s.store).reply
step_replies {A} number line s party step notes spell reported refused struck refusal okay ended =
    subst (λ (e : LineEnd). RepliesBy line refusal e.reply) (sym (noted_answer number party step notes (line_end spell reported refused) s.store)) (by refusal (answer_made number party step s.store) ended)
  where
    by : (refusal : Option (List ℕ)) (end : StepEnd A) → EndsBy spell refusal end → RepliesBy line refusal (step_reply spell end)
    by None (Reports report) is = okay report
    by None end is = absurd is
    by (Some refusal) end is = is

-- A line that only makes notes is served.
notes_reply : (number : ℕ) (line : Line) (s : State) (party : Party) (notes : List Event) (parties : Parties) → is_served line ok ≡ true → is_served line (answer_made number party (only_notes party notes s parties).course s.store).reply ≡ true
notes_reply number line s party notes parties okay = ap (λ (e : LineEnd). is_served line e.reply) (calls_answer number party notes (record { reply = ok; parties = parties }) s.store) ∙ okay

-- ---- how the steps end

-- The end of a flush with this fault, or with none.
abbrev flush_end : Option FlushFault → StepEnd ⊤
flush_end None = Reports tt
flush_end (Some fault) = BadFlush fault

-- A flush ends with its first fault, or it reports.
flush_made : (line : ℕ) (party : Party) (moment retention : ℕ) (ask : FlushAsk) (store : Store) → answer_made line party (flush moment retention (last_name store.history) ask) store ≡ flush_end (fault_of_flush ask store)
unfolding flush
flush_made line party moment retention ask store = before (fault_before_get (last_name store.history) ask)
  where
    got_now : Store
    got_now = after_answered line party (Plain GetManifest) store

    m : Manifest
    m = store.manifest

    change : ManifestChange
    change = Flush ask.name ask.segment ask.floor ask.tick

    last_now : Store
    last_now = after_answered line party (PutsManifest m.version change (with_flush moment retention ask m)) (after_answered line party (PutsTable ask.name ask.rows) got_now)

    refused : ℕ → Course (StepEnd ⊤)
    refused = flushes_from moment retention ask 63 true

    puts : answer_made line party (cond (m.version == m.version) (Ends (Reports tt)) (refused m.version)) last_now ≡ Reports tt
    puts = ap (λ (b : Bool). answer_made line party (cond b (Ends (Reports tt)) (refused m.version)) last_now) (is_itself m.version)

    after : (o : Option FlushFault) → answer_made line party (unless_bad o (Calls (PutsTable ask.name ask.rows) (λ met. Calls (PutsManifest m.version change (with_flush moment retention ask m)) (λ after. cond (m.version == after.manifest.version) (Ends (Reports tt)) (refused after.manifest.version))))) got_now
        ≡ flush_end o
    after None = puts
    after (Some fault) = refl

    before : (o : Option FlushFault) → answer_made line party (unless_bad o (flushes_from moment retention ask 64 false 0)) store ≡ flush_end (option_or o (fault_after_get m ask))
    before None = after (fault_after_get m ask)
    before (Some fault) = refl

flush_by : (o : Option FlushFault) → EndsBy (λ done. ok) (option_map bad_flush o) (flush_end o)
flush_by None = tt
flush_by (Some fault) = refl

-- A submission is refused exactly if there are no records.
submit_by_records : (line : ℕ) (party : Party) (moment : ℕ) (specs : List JobSpec) (spell : List ℕ → List ℕ) (store : Store) → EndsBy spell (unless_records store.records) (answer_made line party (submit moment specs) store)
unfolding submit
submit_by_records line party moment specs spell store = by store.records refl
  where
    again : ℕ → Course (StepEnd (List ℕ))
    again = tries (submit_try moment specs) 63

    by : (o : Option Records) → store.records ≡ o → EndsBy spell (unless_records o) (answer_made line party (submit_by moment specs o again) (after_answered line party (Plain GetRecords) store))
    by None e = refl
    by (Some got) e = always line party (submit_by moment specs (Some got) again) spell (after_answered line party (Plain GetRecords) store) (specs_so line party moment got specs again (after_answered line party (Plain GetRecords) store) Reported e (λ ids left. tt))

-- A request is refused exactly if there are no records, or as the scheduler refuses it.
request_by_scheduler : (line : ℕ) (party : Party) (moment : ℕ) (asked : Scheduler) (request : Request) (spell : List ℕ → List ℕ) (store : Store) → EndsBy spell (request_refusal asked request store) (answer_made line party (submit_request moment asked request) store)
unfolding submit_request
request_by_scheduler line party moment asked request spell store = by store.records refl
  where
    again : ℕ → Course (StepEnd (List ℕ))
    again = tries (request_try moment asked request) 63

    first : Store
    first = after_answered line party (Plain GetRecords) store

    second : Store
    second = after_answered line party (Plain GetManifest) first

    of : (got : Records) → store.records ≡ Some got → (g : Generated) → EndsBy spell (generate_refusal g) (answer_made line party (submits_generated moment got g again) second)
    of got e (Specs specs) = always line party (submits_generated moment got (Specs specs) again) spell second (specs_so line party moment got specs again second Reported e (λ ids left. tt))
    of got e scheduler.Invalid = refl
    of got e (scheduler.Declined message) = refl

    by : (o : Option Records) → store.records ≡ o
        → EndsBy spell (if_some o (Some no_records) (λ got. generate_refusal (asked.generate (shown_view store.tables store.manifest got got.jobs) request))) (answer_made line party (request_by moment asked request o again) first)
    by None e = refl
    by (Some got) e = of got e (asked.generate (shown_view store.tables store.manifest got got.jobs) request)

-- A poll is refused exactly if a stored epoch is above its own.
poll_by_epochs : (line : ℕ) (party : Party) (ask : PollAsk) (spell : PollState → List ℕ) (store : Store) → EndsBy spell (fence_of ask.epoch store) (answer_made line party (poll ask) store)
poll_by_epochs line party ask spell store = subst (EndsBy spell (fence_of ask.epoch store)) (sym (poll_made line party ask store).answer_is) (by (nat_lt ask.epoch store.manifest.epoch) (nat_lt ask.epoch (records_or_none store.records).epoch))
  where
    by : (b c : Bool) → EndsBy spell (cond b (Some (fenced_reply store.manifest.epoch)) (cond c (Some (fenced_reply (records_or_none store.records).epoch)) None)) (cond b (Fenced store.manifest.epoch) (cond c (Fenced (records_or_none store.records).epoch) (Reports (reached_at ask store))))
    by true c = refl
    by false true = refl
    by false false = tt

-- An output is refused exactly if the operator gives a message.
output_by : (line : ℕ) (party : Party) (merge : Operator) (tables : Tables) (ask : OutputAsk) (spell : Written → List ℕ) (store : Store) → EndsBy spell (end_refusal ask.refusal true) (answer_made line party (output merge tables ask) store)
unfolding output
output_by line party merge tables ask spell store = (so_made line party course store (λ end left. EndsBy spell (end_refusal ask.refusal true) end) (gets_so line party (gets_tables (filter (meets tables ask.range.0) ask.attempt.sources)) _ store store (λ end left. EndsBy spell (end_refusal ask.refusal true) end) refl (λ left like. by ask.refusal left))).1
  where
    course : Course (StepEnd Written)
    course = calls_each (gets_tables (filter (meets tables ask.range.0) ask.attempt.sources)) (unless_refused ask.worker ask.attempt ask.refusal (writes ask (rows_written merge tables ask)))

    written : (rows : List Row) (left : Store) → EndsSo line party (writes ask rows) left (λ end last. EndsBy spell None end)
    written [] left = tt
    written (r ∷ rows) left = tt

    by : (o : Option (List ℕ)) (left : Store) → EndsSo line party (unless_refused ask.worker ask.attempt o (writes ask (rows_written merge tables ask))) left (λ end last. EndsBy spell (end_refusal o true) end)
    by None left = written (rows_written merge tables ask) left
    by (Some message) left = back_so line party ask.worker ask.attempt message left left (λ end last. step_reply spell end ≡ callback message) refl (λ last back. refl)

-- The end of a job is refused exactly if the attempt is not live.
end_by : (line : ℕ) (party : Party) (moment : ℕ) (w : LiveWorker) (a : Attempt) (outputs : List (List ℕ)) (spell : FinishedJob → List ℕ) (old store : Store) → HasPutTables old store
    → EndsSo line party (end_job moment w a outputs) store (λ end left. EndsBy spell (end_refusal None (is_live (stored_jobs old) w.number a)) end)
unfolding end_job
end_by line party moment w a outputs spell old store put = by store.records refl
  where
    P : StepEnd FinishedJob → Store → Type 0
    P end left = EndsBy spell (end_refusal None (is_live (stored_jobs old) w.number a)) end

    done : FinishedJob
    done = record { outputs = outputs; attempts = without_attempts (a.job ∷ []) w.attempts }

    again : ℕ → Course (StepEnd FinishedJob)
    again = tries (end_try moment w a outputs) 63

    got_now : Store
    got_now = after_answered line party (Plain GetRecords) store

    is_old : (o : Option Records) → store.records ≡ o → is_live (stored_jobs old) w.number a ≡ is_live (jobs_in o) w.number a
    is_old o e = ap (λ (o : Option Records). is_live (jobs_in o) w.number a) (sym (ap (λ (s : Store). s.records) put.same) ∙ e)

    of : (got : Records) → store.records ≡ Some got → (b : Bool) → is_live (stored_jobs old) w.number a ≡ b → EndsSo line party (ends_job moment w a outputs got b again) got_now P
    of got e true live = put_so line party got _ got.epoch _ _ again got_now P e (subst (λ (b : Bool). EndsBy spell (end_refusal None b) (Reports done)) (sym live) tt)
    of got e false live = subst (λ (b : Bool). EndsBy spell (end_refusal None b) NotOwner) (sym live) refl

    by : (o : Option Records) → store.records ≡ o → EndsSo line party (ends_job_by moment w a outputs o again) got_now P
    by None e = subst (λ (b : Bool). EndsBy spell (end_refusal None b) NotOwner) (sym (is_old None e)) refl
    by (Some got) e = of got e (is_live got.jobs w.number a) (is_old (Some got) e)

-- A finish is refused exactly if the operator gives a message, or else if its attempt is not live.
finish_by : (line : ℕ) (party : Party) (merge : Operator) (tables : Tables) (ask : FinishAsk) (spell : FinishedJob → List ℕ) (store : Store) → EndsBy spell (end_refusal ask.refusal (is_live (stored_jobs store) ask.worker.number ask.attempt)) (answer_made line party (finish merge tables ask) store)
unfolding finish
finish_by line party merge tables ask spell store = (so_made line party course store P (gets_so line party (gets_tables ask.attempt.sources) _ store store P refl (λ left like. by ask.refusal left (put_itself store left like)))).1
  where
    live : Bool
    live = is_live (stored_jobs store) ask.worker.number ask.attempt

    P : StepEnd FinishedJob → Store → Type 0
    P end left = EndsBy spell (end_refusal ask.refusal live) end

    course : Course (StepEnd FinishedJob)
    course = calls_each (gets_tables ask.attempt.sources) (unless_refused ask.worker ask.attempt ask.refusal (puts_and_ends ask (tables_left merge tables ask)))

    by : (o : Option (List ℕ)) (left : Store) → HasPutTables store left → EndsSo line party (unless_refused ask.worker ask.attempt o (puts_and_ends ask (tables_left merge tables ask))) left (λ end last. EndsBy spell (end_refusal o live) end)
    by None left put = ranges_so line party ask.moment (tables_left merge tables ask) _ store left (λ end last. EndsBy spell (end_refusal None live) end) put
        (λ new last here. end_by line party ask.moment ask.worker ask.attempt (all_outputs ask.attempt.context.ranges new) spell store last here)
    by (Some message) left put = back_so line party ask.worker ask.attempt message left left (λ end last. step_reply spell end ≡ callback message) refl (λ last back. refl)

-- ---- all lines

-- The reply of a course that no fault strikes.
abbrev reply_of : ℕ → State → LineCourse → List ℕ
reply_of number s c = (answer_made number c.party c.course s.store).reply

-- A line of a party that may be there.
of_party : {A : Type 0} (number : ℕ) (line : Line) (s : State) (o : Option A) (course : A → LineCourse) → ((x : A) → RepliesBy line None (reply_of number s (course x))) → RepliesBy line (unless_there o) (reply_of number s (if_some o (no_such_party s) course))
of_party number line s None course so = refl
of_party number line s (Some x) course so = so x

-- A line of a worker whose step always reports.
of_worker : {A : Type 0} (number : ℕ) (line : Line) (s : State) (o : Option LiveWorker) (step : LiveWorker → Course (StepEnd A)) (spell : A → List ℕ) (reported : A → List Attempt) → ((report : A) → is_served line (spell report) ≡ true)
    → ((w : LiveWorker) → EndsSo number (Worker w.number) (step w) s.store Reported) → RepliesBy line (unless_there o) (reply_of number s (if_some o (no_such_party s) (λ w. worker_line w s (step w) spell reported w.attempts)))
of_worker number line s o step spell reported okay so =
    of_party number line s o (λ w. worker_line w s (step w) spell reported w.attempts)
    (λ w. step_replies number line s (Worker w.number) (step w) (λ end. []) spell (λ report. parties_running w s (reported report)) (parties_running w s w.attempts) (without_worker w.number s.parties) None okay (always number (Worker w.number) (step w) spell s.store (so w)))

-- The line of a poll.
of_poll : (inputs : Inputs) (number : ℕ) (line : Line) (commits_only : Bool) (spell : PollState → List ℕ) (n : ℕ) (s : State) (o : Option LiveCoordinator) → ((report : PollState) → is_served line (spell report) ≡ true)
    → let gone = without_coordinator n s.parties in
    RepliesBy line (if_some o (Some no_party) (λ c. fence_of c.epoch s.store)) (reply_of number s (if_some o (no_such_party s) (λ c. step_line (Coordinator n) (poll (poll_ask inputs s c commits_only)) (line_end spell (λ reached. s.parties) gone) gone)))
of_poll inputs number line commits_only spell n s None okay = refl
of_poll inputs number line commits_only spell n s (Some c) okay =
    step_replies number line s (Coordinator n) (poll (poll_ask inputs s c commits_only)) (λ end. []) spell (λ reached. s.parties) (without_coordinator n s.parties) (without_coordinator n s.parties) (fence_of c.epoch s.store) okay
    (poll_by_epochs number (Coordinator n) (poll_ask inputs s c commits_only) spell s.store)

-- The line of an output.
of_output : (inputs : Inputs) (number n job place rows : ℕ) (message : Option (List ℕ)) (s : State) (o : Option (LiveWorker × Attempt × (Range × List ℕ)))
    → RepliesBy (Output n job place rows) (if_some o (Some no_party) (λ found. end_refusal message true)) (reply_of number s (if_some o (no_such_party s) (λ found. output_line inputs s (output_asked s place rows message found))))
of_output inputs number n job place rows message s None = refl
of_output inputs number n job place rows message s (Some q) =
    step_replies number (Output n job place rows) s (Worker q.0.number) (output inputs.merge s.store.tables (output_asked s place rows message q)) (λ end. []) spell (λ r. parties_running q.0 s r.attempts) (parties_running q.0 s (without_attempt q.0 q.1)) (without_worker q.0.number s.parties)
    (end_refusal message true) said (output_by number (Worker q.0.number) inputs.merge s.store.tables (output_asked s place rows message q) spell s.store)
  where
    spell : Written → List ℕ
    spell r = output_reply r.table

    by : (o : Option (ℕ × List Row)) → is_ok (output_reply o) ≡ true
    by None = refl
    by (Some table) = refl

    said : (report : Written) → is_ok (spell report) ≡ true
    said report = by report.table

-- The line of a finish.
of_finish : (inputs : Inputs) (number n job : ℕ) (message : Option (List ℕ)) (s : State) (o : Option (LiveWorker × Attempt))
    → RepliesBy (FinishJob n job) (if_some o (Some no_party) (λ found. end_refusal message (is_live (stored_jobs s.store) found.0.number found.1))) (reply_of number s (if_some o (no_such_party s) (λ found. finish_line inputs s (finish_asked s message found))))
of_finish inputs number n job message s None = refl
of_finish inputs number n job message s (Some p) =
    step_replies number (FinishJob n job) s (Worker p.0.number) (finish inputs.merge s.store.tables (finish_asked s message p)) (λ end. []) (λ r. reply (codes "ok" ∷ ranges_text r.outputs ∷ [])) (λ r. parties_running p.0 s r.attempts) (parties_running p.0 s (without_attempt p.0 p.1))
    (without_worker p.0.number s.parties) (end_refusal message (is_live (stored_jobs s.store) p.0.number p.1)) (λ report. refl)
    (finish_by number (Worker p.0.number) inputs.merge s.store.tables (finish_asked s message p) (λ r. reply (codes "ok" ∷ ranges_text r.outputs ∷ [])) s.store)

-- A line that submits.
of_submit : (number : ℕ) (line : Line) (s : State) (step : Course (StepEnd (List ℕ))) (word : List ℕ) (refusal : Option (List ℕ)) → let spell = λ (jobs : List ℕ). reply (codes "ok" ∷ word ∷ jobs_text jobs ∷ []) in
    ((jobs : List ℕ) → is_served line (spell jobs) ≡ true) → EndsBy spell refusal (answer_made number Submitter step s.store)
    → RepliesBy line refusal (reply_of number s (step_line Submitter step (line_end spell (λ jobs. s.parties) s.parties) s.parties))
of_submit number line s step word refusal okay ended = step_replies number line s Submitter step (λ end. []) (λ jobs. reply (codes "ok" ∷ word ∷ jobs_text jobs ∷ [])) (λ jobs. s.parties) s.parties s.parties refusal okay ended

of_read : (segment key : List ℕ) (seq : ℕ) (now : ℤ) (m : Manifest) (b : Bool) (o : Option Outcome) → RepliesBy (ReadKey segment key seq now) (unless_retained m b (fold_refusal o)) (cond b (not_retained m.horizon m.tick) (read_reply o))
of_read segment key seq now m true o = refl
of_read segment key seq now m false None = refl
of_read segment key seq now m false (Some (Merged bytes)) = refl
of_read segment key seq now m false (Some (Refused message)) = refl

of_scan : (segment from to : List ℕ) (seq : ℕ) (now : ℤ) (limit : ℕ) (m : Manifest) (b : Bool) (page : Page) → RepliesBy (Scan segment from to seq now limit) (unless_retained m b None) (cond b (not_retained m.horizon m.tick) (scan_reply page))
of_scan segment from to seq now limit m true page = refl
of_scan segment from to seq now limit m false page = refl

-- Each course of a line replies with its refusal, if no fault strikes it.
course_by : (inputs : Inputs) (number : ℕ) (line : Line) (message : Option (List ℕ)) (s : State) → RepliesBy line (refusal_of inputs line message s) (reply_of number s (course_of inputs line message s))
unfolding course_of
course_by inputs number (Options timeout concurrent slots ranges table_size moves retention) message s = refl
course_by inputs number (Clock moment) message s = refl
course_by inputs number (SetFault k stands) message s = refl
course_by inputs number (StartCoordinator n) message s =
    step_replies number (StartCoordinator n) s (Coordinator n) step (start_notes n) spell (λ epoch. with_coordinator (record { number = n; epoch = epoch }) s.parties) (without_coordinator n s.parties) (without_coordinator n s.parties) None (λ report. refl)
    (always number (Coordinator n) step spell s.store (gets_so number (Coordinator n) (killed_first (is_some (coordinator_with n s.parties)) (Coordinator n)) start s.store s.store (Reported {A = ℕ}) refl (λ left like. start_so number n left)))
  where
    step : Course (StepEnd ℕ)
    step = calls_each (killed_first (is_some (coordinator_with n s.parties)) (Coordinator n)) start

    spell : ℕ → List ℕ
    spell epoch = reply (codes "ok" ∷ codes "epoch" ∷ decimal epoch ∷ [])
course_by inputs number (StartWorker n release) message s =
    notes_reply number (StartWorker n release) s (Worker n) (killed_first (is_some (worker_with n s.parties)) (Worker n) ++ Start (Worker n) ∷ []) (with_worker (record { number = n; release = release_named release; attempts = [] }) s.parties) refl
course_by inputs number (KillCoordinator n) message s = of_party number (KillCoordinator n) s (coordinator_with n s.parties) _ (λ c. notes_reply number (KillCoordinator n) s (Coordinator n) (Kill (Coordinator n) ∷ []) (without_coordinator n s.parties) refl)
course_by inputs number (StopCoordinator n) message s = of_party number (StopCoordinator n) s (coordinator_with n s.parties) _ (λ c. notes_reply number (StopCoordinator n) s (Coordinator n) (Kill (Coordinator n) ∷ []) (without_coordinator n s.parties) refl)
course_by inputs number (KillWorker n) message s = of_party number (KillWorker n) s (worker_with n s.parties) _ (λ w. notes_reply number (KillWorker n) s (Worker n) (Kill (Worker n) ∷ []) (without_worker n s.parties) refl)
course_by inputs number (StopWorker n) message s = of_party number (StopWorker n) s (worker_with n s.parties) _
    (λ w. step_replies number (StopWorker n) s (Worker n) (release_all w) (λ end. Kill (Worker n) ∷ []) spell (λ jobs. without_worker n s.parties) (without_worker n s.parties) (without_worker n s.parties) None (λ jobs. refl)
    (always number (Worker n) (release_all w) spell s.store (release_so number (Worker n) w s.store)))
  where
    spell : List ℕ → List ℕ
    spell jobs = reply (codes "ok" ∷ codes "released" ∷ jobs_text jobs ∷ [])
course_by inputs number (FlushRows name segment floor tick rows) message s =
    step_replies number (FlushRows name segment floor tick rows) s Writer (flush s.moment s.options.retention (last_name s.store.history) ask) (λ end. []) (λ done. ok) (λ done. s.parties) s.parties s.parties (option_map bad_flush (fault_of_flush ask s.store)) (λ done. refl)
    (subst (EndsBy (λ done. ok) (option_map bad_flush (fault_of_flush ask s.store))) (sym (flush_made number Writer s.moment s.options.retention ask s.store)) (flush_by (fault_of_flush ask s.store)))
  where
    ask : FlushAsk
    ask = record { name = name; segment = segment; floor = floor; tick = tick; rows = rows }
course_by inputs number (ReadKey segment key seq now) message s = of_read segment key seq now s.store.manifest (is_not_retained s.store.manifest seq now) (flushed_read inputs.merge s.store segment key seq now)
course_by inputs number (SubmitJob segment destination sources) message s =
    of_submit number (SubmitJob segment destination sources) s (submit s.moment (record { segment = segment; sources = sources; destination = Some destination } ∷ [])) (codes "job") (unless_records s.store.records) (λ jobs. refl) (submit_by_records number Submitter s.moment (record { segment = segment; sources = sources; destination = Some destination } ∷ []) _ s.store)
course_by inputs number (SubmitDrain segment sources) message s =
    of_submit number (SubmitDrain segment sources) s (submit s.moment (record { segment = segment; sources = sources; destination = None } ∷ [])) (codes "job") (unless_records s.store.records) (λ jobs. refl) (submit_by_records number Submitter s.moment (record { segment = segment; sources = sources; destination = None } ∷ []) _ s.store)
course_by inputs number (SubmitFull segment) message s =
    of_submit number (SubmitFull segment) s (submit_request s.moment inputs.scheduler (request_of segment)) (codes "jobs") (request_refusal inputs.scheduler (request_of segment) s.store) (λ jobs. refl) (request_by_scheduler number Submitter s.moment inputs.scheduler (request_of segment) _ s.store)
course_by inputs number (Poll n) message s = of_poll inputs number (Poll n) false poll_reply n s (coordinator_with n s.parties) (λ report. refl)
course_by inputs number (CommitOnly n) message s = of_poll inputs number (CommitOnly n) true commit_reply n s (coordinator_with n s.parties) (λ report. refl)
course_by inputs number (ClaimJobs n) message s =
    of_worker number (ClaimJobs n) s (worker_with n s.parties) (λ w. claim (worker_options s.options) s.moment w) (λ r. claim_reply r.begun r.stopped) (λ r. r.attempts) (λ report. refl) (λ w. claim_so number (Worker w.number) (worker_options s.options) s.moment w s.store)
course_by inputs number (Heartbeat n) message s =
    of_worker number (Heartbeat n) s (worker_with n s.parties) (λ w. heartbeat s.moment w) (λ r. beat_reply r.beat r.not_owner) (λ r. r.attempts) (λ report. refl) (λ w. beat_so number (Worker w.number) s.moment w s.store)
course_by inputs number (Output n job place rows) message s = of_output inputs number n job place rows message s (range_at s n job place)
course_by inputs number (FinishJob n job) message s = of_finish inputs number n job message s (job_at s n job)
course_by inputs number ShowTrees message s = refl
course_by inputs number ShowJobs message s = said_jobs s.store.records
course_by inputs number (ShowTables segment node) message s = said_tables s.store.tables (node_named node (tree_at segment s.store.manifest.trees))
course_by inputs number (Dump segment node) message s = said_rows s.store.tables (node_named node (tree_at segment s.store.manifest.trees))
course_by inputs number Sweep message s = ap (λ (e : LineEnd). is_ok e.reply) (noted_answer number Sweeper (sweep (pinned_tables s.parties)) (λ tables. []) end_of s.store)
  where
    end_of : List ℕ → LineEnd
    end_of tables = record { reply = reply (codes "ok" ∷ tables_text (by_number tables) ∷ []); parties = s.parties }
course_by inputs number (Scan segment from to seq now limit) message s = of_scan segment from to seq now limit s.store.manifest (is_not_retained s.store.manifest seq now) (first_page limit (flushed_scan inputs.merge s.store segment (keys_between from to) seq now))
course_by inputs number (Settle coordinator worker rounds) message s = refl
course_by inputs number (Together workers turns) message s = refl

-- The fault comes before the other causes.
with_fault : (line : Line) (struck : Bool) (refusal : Option (List ℕ)) (made answer : List ℕ) → answer ≡ cond struck store_fault made → RepliesBy line refusal made → RepliesBy line (cond struck (Some store_fault) refusal) answer
with_fault line true refusal made answer is so = is
with_fault line false refusal made answer is so = subst (λ (text : List ℕ). RepliesBy line refusal text) (sym is) so

-- Each course of a line replies with its refusal, if there is one.
pub one_by : (inputs : Inputs) (number : ℕ) (old : State) (line : Line) (answer : List ℕ) (new : State) (one : OneCourse inputs number old line answer new) → RepliesBy line (refusal_by inputs number line one.course one.does.refusal (prepared_state line old)) answer
one_by inputs number old line answer new one =
    let s = prepared_state line old in
    let made : RepliesBy line (refusal_of inputs line one.does.refusal s) (reply_of number s one.course) = subst (λ (c : LineCourse). RepliesBy line (refusal_of inputs line one.does.refusal s) (reply_of number s c)) (sym one.does.is) (course_by inputs number line one.does.refusal s) in
    with_fault line (does_strike s.fault (calls_made number one.course.party one.course.course s.store)) (refusal_of inputs line one.does.refusal s) (reply_of number s one.course) answer (line_replies number s one.course answer new one.ends) made

-- ---- settle lines

round_ok : (coordinator left begun : ℕ) (answer : List ℕ) → next_round coordinator left begun ≡ Answers answer → is_ok answer ≡ true
round_ok coordinator zero begun answer is = let same : all_taken begun ≡ answer = cc is in ap is_ok (sym same)
round_ok coordinator (suc left) begun answer is = absurd (cc is)

claim_ok : (active added : Bool) (coordinator worker left begun : ℕ) (answer : List ℕ) → next_claim active added coordinator worker left begun ≡ Answers answer → is_ok answer ≡ true
claim_ok true added coordinator worker left begun answer is = absurd (cc is)
claim_ok false true coordinator worker left begun answer is = round_ok coordinator left begun answer is
claim_ok false false coordinator worker left begun answer is = let same : settled_reply begun ≡ answer = cc is in ap is_ok (sym same)

finish_ok : (coordinator worker : ℕ) (jobs : List ℕ) (left begun : ℕ) (answer : List ℕ) → next_finish coordinator worker jobs left begun ≡ Answers answer → is_ok answer ≡ true
finish_ok coordinator worker [] left begun answer is = round_ok coordinator left begun answer is
finish_ok coordinator worker (job ∷ jobs) left begun answer is = absurd (cc is)

-- The own reply of a settle line is ok.
own_ok : (coordinator worker : ℕ) (place : Place) (s : State) (answer : List ℕ) → next_turn coordinator worker place s ≡ Answers answer → is_ok answer ≡ true
own_ok coordinator worker (BeforePoll left begun) s answer is = round_ok coordinator left begun answer is
own_ok coordinator worker (HasPolled left begun) s answer is = claim_ok (has_active s) (has_added coordinator s) coordinator worker left begun answer is
own_ok coordinator worker (HasClaimed left begun) s answer is = finish_ok coordinator worker (jobs_run worker s) left begun answer is
own_ok coordinator worker (ToFinish jobs left begun) s answer is = finish_ok coordinator worker jobs left begun answer is

round_takes : (coordinator worker left begun : ℕ) (line : Line) (to : Place) → next_round coordinator left begun ≡ Takes line to → IsStepOf coordinator worker line
round_takes coordinator worker zero begun line to is = absurd (cc is)
round_takes coordinator worker (suc left) begun line to is = let same : Poll coordinator ≡ line = cc is in subst (IsStepOf coordinator worker) same refl

claim_takes : (active added : Bool) (coordinator worker left begun : ℕ) (line : Line) (to : Place) → next_claim active added coordinator worker left begun ≡ Takes line to → IsStepOf coordinator worker line
claim_takes true added coordinator worker left begun line to is = let same : ClaimJobs worker ≡ line = cc is in subst (IsStepOf coordinator worker) same refl
claim_takes false true coordinator worker left begun line to is = round_takes coordinator worker left begun line to is
claim_takes false false coordinator worker left begun line to is = absurd (cc is)

finish_takes : (coordinator worker : ℕ) (jobs : List ℕ) (left begun : ℕ) (line : Line) (to : Place) → next_finish coordinator worker jobs left begun ≡ Takes line to → IsStepOf coordinator worker line
finish_takes coordinator worker [] left begun line to is = round_takes coordinator worker left begun line to is
finish_takes coordinator worker (job ∷ jobs) left begun line to is = let same : FinishJob worker job ≡ line = cc is in subst (IsStepOf coordinator worker) same refl

-- A settle line takes steps of its own parties.
own_steps : (coordinator worker : ℕ) (place : Place) (s : State) (line : Line) (to : Place) → next_turn coordinator worker place s ≡ Takes line to → IsStepOf coordinator worker line
own_steps coordinator worker (BeforePoll left begun) s line to is = round_takes coordinator worker left begun line to is
own_steps coordinator worker (HasPolled left begun) s line to is = claim_takes (has_active s) (has_added coordinator s) coordinator worker left begun line to is
own_steps coordinator worker (HasClaimed left begun) s line to is = finish_takes coordinator worker (jobs_run worker s) left begun line to is
own_steps coordinator worker (ToFinish jobs left begun) s line to is = finish_takes coordinator worker jobs left begun line to is

-- The steps of a settle line end so, from any of its places.
steps_end : (inputs : Inputs) (number coordinator worker : ℕ) (place : Place) (s : State) (steps : List StepTaken) (answer : List ℕ) (new : State) → StepsLead inputs number s steps new → ComeInTurn coordinator worker place s steps answer
    → SettleEnds inputs number coordinator worker answer new
steps_end inputs number coordinator worker place s [] answer new lead turn = AllServed (own_ok coordinator worker place s answer turn)
steps_end inputs number coordinator worker place s (step ∷ steps) answer new (one, lead) (to, takes, goes, stops) = by (is_ok step.reply) refl (λ rest. steps_end inputs number coordinator worker to step.after steps answer new lead rest)
  where
    by : (b : Bool) → is_ok step.reply ≡ b → (ComeInTurn coordinator worker to step.after steps answer → SettleEnds inputs number coordinator worker answer new) → SettleEnds inputs number coordinator worker answer new
    by true e later = later (goes e)
    by false e later =
        let last : new ≡ step.after = subst (λ (rest : List StepTaken). StepsLead inputs number step.after rest new) (stops e).0 lead in
        let said : answer ≡ step.reply = (stops e).1 in
        LastRefused step.line (own_steps coordinator worker place s step.line to takes) s
        (subst (λ (t : State). OneCourse inputs number s step.line answer t) (sym last) (subst (λ (text : List ℕ). OneCourse inputs number s step.line text step.after) (sym said) one)) (ap is_ok said ∙ e)

pub causes_decide : CausesDecide
causes_decide = record {
  course = one_by;
  settles = λ inputs number coordinator worker rounds old answer new run. steps_end inputs number coordinator worker (BeforePoll rounds 0) old run.steps answer new run.lead run.in_turn;
}
