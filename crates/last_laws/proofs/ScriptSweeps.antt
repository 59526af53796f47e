-- The sweepers of a script only sweep: each other line calls as another party.
use Rattle.std.proofs.Common.{◌≡◌, refl, sym, ap, subst, ℕ, ◌+◌, List, [], ◌∷◌, Bool, true, false, cond, Option, None, Some}
use Rattle.std.specs.Prelude.{IsTrue, ⊤, codes}
use Rattle.fleet_model.specs.History.{Party, Coordinator, Worker, Sweeper, Kill, Entry}
use Rattle.fleet_model.specs.Store.{Store}
use Rattle.fleet_model.specs.Sweeps.{pinned_tables, swept_tables}
use Rattle.fleet_model.specs.Exchanges.{Exchange, Fault, event_of, after_answered, strikes, waiting_after, struck_by, does_stand}
use Rattle.fleet_laws.specs.Transparent.{is_sweeper, is_of_sweep, SweepersOnlySweep}
use Rattle.fleet_laws.proofs.Transparent.{sweeps_are_transparent}
use Rattle.step_model.specs.Courses.Course.{Course, Ends, Calls, then_course}
use Rattle.step_model.specs.Steps.SweepSteps.{deletes_each, sweep}
use Rattle.step_model.specs.Rivals.{Strike, store_after_call}
use Rattle.step_model.specs.Courses.Alone.{run_alone}
use Rattle.step_laws.proofs.Elements.{all_push}
use Rattle.course_laws.proofs.Later.{entry_by, call_history}
use Rattle.script_model.specs.Script.{Line, Options, Clock, StartCoordinator, StartWorker, KillCoordinator, KillWorker, StopCoordinator, StopWorker, FlushRows, ReadKey, SubmitJob, SubmitDrain, SubmitFull, Poll, CommitOnly, ClaimJobs, Heartbeat, Output, FinishJob, SetFault, ShowTrees, ShowJobs, ShowTables, Dump, Sweep, Scan, Settle, Together}
use Rattle.script_model.specs.States.{Inputs, State, fresh_state}
use Rattle.script_model.specs.LineRuns.{LineCourse, no_such_party, if_some, noted_line, step_line, line_end}
use Rattle.script_model.specs.LineCourses.{prepared_state, course_of, job_at, range_at}
use Rattle.script_model.specs.LineSteps.{OneCourse}
use Rattle.script_model.specs.Replies.{reply, tables_text, jobs_text, poll_reply, commit_reply, claim_reply, beat_reply}
use Rattle.script_model.specs.Lines.Starts.{only_notes}
use Rattle.script_model.specs.Lines.PollLines.{poll_ask}
use Rattle.script_model.specs.Lines.WorkLines.{worker_line, worker_options, output_asked, output_line, finish_asked, finish_line}
use Rattle.step_model.specs.Steps.PollSteps.{poll}
use Rattle.step_model.specs.Steps.ClaimSteps.{claim}
use Rattle.step_model.specs.Steps.BeatSteps.{heartbeat, release_all}
use Rattle.fleet_model.specs.Work.Parties.{coordinator_with, worker_with, without_coordinator, without_worker}
use Rattle.script_model.specs.Lines.Sweeps.{by_number, sweep_line}
use Rattle.script_model.specs.Lines.Settles.{are_live}
use Rattle.script_model.specs.Follows.{LineStep, ScriptRun}
use Rattle.line_laws.proofs.Scripts.{StepsRun, settle_steps}
use Rattle.last_laws.specs.ScriptSweeps.{ScriptsSweepClean}
use Rattle.line_laws.proofs.AloneRuns.{struck_end}

-- ---- courses

-- Each call of a course of a sweeper is one of a sweep. Nothing is said of other parties.
abbrev CallsWell : {A : Type 0} → Party → Course A → Type 0
CallsWell party (Ends answer) = ⊤
CallsWell party (Calls x next) = ((store : Store) → IsTrue (is_sweeper party) → IsTrue (is_of_sweep (event_of x store))) × ((met : Store) → CallsWell party (next met))

others_call : {A : Type 0} (party : Party) (course : Course A) → is_sweeper party ≡ false → CallsWell party course
others_call party (Ends answer) e = tt
others_call party (Calls x next) e = ((λ store is. absurd (cc (e, is))), λ met. others_call party (next met) e)

deletions_call : {A : Type 0} (tables : List ℕ) (first : Course (List ℕ)) (rest : List ℕ → Course A) → CallsWell Sweeper (then_course first rest) → CallsWell Sweeper (then_course (deletes_each tables first) rest)
deletions_call [] first rest h = h
deletions_call (table ∷ tables) first rest h = ((λ store is. refl), λ met. deletions_call tables first rest h)

-- A sweep makes two gets, a list and deletions.
sweeps_call : {A : Type 0} (pins : List ℕ) (rest : List ℕ → Course A) → ((tables : List ℕ) → CallsWell Sweeper (rest tables)) → CallsWell Sweeper (then_course (sweep pins) rest)
unfolding sweep
sweeps_call pins rest h = (
  (λ store is. refl),
  λ one. (
    (λ store is. refl),
    λ two. (
      (λ store is. refl),
      λ met.
          let tables = swept_tables pins (record met { manifest = one.manifest; records = two.records }) in deletions_call tables (Ends tables) rest (h tables),
    ),
  ),
)

-- The course of a line, said of the line's party.
IsWell : LineCourse → Type 0
IsWell c = CallsWell c.party c.course

is_well : (c : LineCourse) → CallsWell c.party c.course → IsWell c
unfolding IsWell
is_well c h = h

calls_well : (c : LineCourse) → IsWell c → CallsWell c.party c.course
unfolding IsWell
calls_well c h = h

other_line : (c : LineCourse) → is_sweeper c.party ≡ false → IsWell c
other_line c e = is_well c (others_call c.party c.course e)

if_line : {A : Type 0} (found : Option A) (s : State) (act : A → LineCourse) → ((x : A) → is_sweeper (act x).party ≡ false) → IsWell (if_some found (no_such_party s) act)
if_line None s act h = other_line (no_such_party s) refl
if_line (Some x) s act h = other_line (act x) (h x)

-- By cases: only a sweep line calls as a sweeper.
lines_call : (inputs : Inputs) (line : Line) (refusal : Option (List ℕ)) (s : State) → IsWell (course_of inputs line refusal s)
unfolding course_of
lines_call inputs (Together workers turns) refusal s = other_line _ refl
lines_call inputs (Options timeout concurrent slots ranges table_size moves retention) refusal s = other_line _ refl
lines_call inputs (Clock moment) refusal s = other_line _ refl
lines_call inputs (StartCoordinator n) refusal s = other_line _ refl
lines_call inputs (StartWorker n release) refusal s = other_line _ refl
lines_call inputs (FlushRows name segment floor tick rows) refusal s = other_line _ refl
lines_call inputs (ReadKey segment key seq now) refusal s = other_line _ refl
lines_call inputs (SubmitJob segment destination sources) refusal s = other_line _ refl
lines_call inputs (SubmitDrain segment sources) refusal s = other_line _ refl
lines_call inputs (SubmitFull segment) refusal s = other_line _ refl
lines_call inputs (SetFault n stands) refusal s = other_line _ refl
lines_call inputs ShowTrees refusal s = other_line _ refl
lines_call inputs ShowJobs refusal s = other_line _ refl
lines_call inputs (ShowTables segment node) refusal s = other_line _ refl
lines_call inputs (Dump segment node) refusal s = other_line _ refl
lines_call inputs (Scan segment from to seq now limit) refusal s = other_line _ refl
lines_call inputs (Settle coordinator worker rounds) refusal s = other_line _ refl
lines_call inputs (KillCoordinator n) refusal s = if_line (coordinator_with n s.parties) s (λ c. only_notes (Coordinator n) (Kill (Coordinator n) ∷ []) s (without_coordinator n s.parties)) (λ c. refl)
lines_call inputs (KillWorker n) refusal s = if_line (worker_with n s.parties) s (λ w. only_notes (Worker n) (Kill (Worker n) ∷ []) s (without_worker n s.parties)) (λ w. refl)
lines_call inputs (StopCoordinator n) refusal s = if_line (coordinator_with n s.parties) s (λ c. only_notes (Coordinator n) (Kill (Coordinator n) ∷ []) s (without_coordinator n s.parties)) (λ c. refl)
lines_call inputs (StopWorker n) refusal s = if_line (worker_with n s.parties) s (λ w. let others = without_worker n s.parties in noted_line (Worker n) (release_all w) (λ end. Kill (Worker n) ∷ []) (line_end (λ jobs. reply (codes "ok" ∷ codes "released" ∷ jobs_text jobs ∷ [])) (λ jobs. others) others) others) (λ w. refl)
lines_call inputs (Poll n) refusal s = if_line (coordinator_with n s.parties) s (λ c. let gone = without_coordinator n s.parties in step_line (Coordinator n) (poll (poll_ask inputs s c false)) (line_end poll_reply (λ reached. s.parties) gone) gone) (λ c. refl)
lines_call inputs (CommitOnly n) refusal s = if_line (coordinator_with n s.parties) s (λ c. let gone = without_coordinator n s.parties in step_line (Coordinator n) (poll (poll_ask inputs s c true)) (line_end commit_reply (λ reached. s.parties) gone) gone) (λ c. refl)
lines_call inputs (ClaimJobs n) refusal s = if_line (worker_with n s.parties) s (λ w. worker_line w s (claim (worker_options s.options) s.moment w) (λ r. claim_reply r.begun r.stopped) (λ r. r.attempts) w.attempts) (λ w. refl)
lines_call inputs (Heartbeat n) refusal s = if_line (worker_with n s.parties) s (λ w. worker_line w s (heartbeat s.moment w) (λ r. beat_reply r.beat r.not_owner) (λ r. r.attempts) w.attempts) (λ w. refl)
lines_call inputs (Output n job place rows) refusal s = if_line (range_at s n job place) s (λ found. output_line inputs s (output_asked s place rows refusal found)) (λ found. refl)
lines_call inputs (FinishJob n job) refusal s = if_line (job_at s n job) s (λ found. finish_line inputs s (finish_asked s refusal found)) (λ found. refl)
lines_call inputs Sweep refusal s = is_well (sweep_line s) (sweeps_call (pinned_tables s.parties) (λ tables. Ends (record { reply = reply (codes "ok" ∷ tables_text (by_number tables) ∷ []); parties = s.parties })) (λ tables. tt))

-- ---- runs

call_clean : (line : ℕ) (party : Party) (x : Exchange) (strike : Strike) (store : Store) → (IsTrue (is_sweeper party) → IsTrue (is_of_sweep (event_of x store))) → SweepersOnlySweep store.history
    → SweepersOnlySweep (store_after_call line party x strike store).history
call_clean line party x strike store well h =
    subst SweepersOnlySweep (sym (call_history line party x strike store))
    (all_push (λ (entry : Entry). IsTrue (is_sweeper entry.party) → IsTrue (is_of_sweep entry.event)) store.history (entry_by line party x strike store) h well)

-- A run of such a course adds only such entries.
course_clean : {A : Type 0} (line : ℕ) (party : Party) (course : Course A) (fault : Option Fault) (store : Store) → CallsWell party course → SweepersOnlySweep store.history
    → SweepersOnlySweep (run_alone line party course fault store).store.history
course_clean line party (Ends answer) fault store well h = h
course_clean {A} line party (Calls x next) fault store well h =
    by (strikes (event_of x store) fault)
    (call_clean line party x (Some (does_stand fault)) store (well.0 store) h)
    (course_clean line party (next store) (waiting_after (event_of x store) fault) (after_answered line party x store) (well.1 store) (call_clean line party x None store (well.0 store) h))
  where
    by : (b : Bool) → SweepersOnlySweep (struck_by (does_stand fault) line party x store).history
        → SweepersOnlySweep (run_alone line party (next store) (waiting_after (event_of x store) fault) (after_answered line party x store)).store.history
        → SweepersOnlySweep (cond b (struck_end {A = A} line party x fault store)
        (run_alone line party (next store) (waiting_after (event_of x store) fault) (after_answered line party x store))).store.history
    by true struck answered = struck
    by false struck answered = answered

prepared_clean : (line : Line) (s : State) → SweepersOnlySweep s.store.history → SweepersOnlySweep (prepared_state line s).store.history
prepared_clean (Options timeout concurrent slots ranges table_size moves retention) s h = h
prepared_clean (Clock moment) s h = h
prepared_clean (SetFault n stands) s h = h
prepared_clean line s h = h

one_clean : (inputs : Inputs) (number : ℕ) (old : State) (line : Line) (answer : List ℕ) (new : State) → OneCourse inputs number old line answer new → SweepersOnlySweep old.store.history → SweepersOnlySweep new.store.history
one_clean inputs number old line answer new one h =
    let s : State = prepared_state line old in
    let c : LineCourse = one.course in
    let well : CallsWell c.party c.course = subst (λ (c : LineCourse). CallsWell c.party c.course) (sym one.does.is) (calls_well (course_of inputs line one.does.refusal s) (lines_call inputs line one.does.refusal s)) in
    subst (λ (s : State). SweepersOnlySweep s.store.history) (ap (λ (p : List ℕ × State). p.1) one.ends) (course_clean number c.party c.course s.fault s.store well (prepared_clean line old h))

steps_clean : (inputs : Inputs) (number : ℕ) (old : State) (steps : List Line) (answer : List ℕ) (new : State) → StepsRun inputs number old steps answer new → SweepersOnlySweep old.store.history → SweepersOnlySweep new.store.history
steps_clean inputs number old [] answer new same h = subst (λ (s : State). SweepersOnlySweep s.store.history) (sym same) h
steps_clean inputs number old (step ∷ others) answer new (replied, mid, one, stops, more) h =
    steps_clean inputs number mid others answer new more (one_clean inputs number old step replied mid one h)

line_clean : (inputs : Inputs) (number : ℕ) (old : State) (line : Line) (answer : List ℕ) (new : State) → LineStep inputs number old line answer new → SweepersOnlySweep old.store.history → SweepersOnlySweep new.store.history
line_clean inputs number old (Settle coordinator worker rounds) answer new step h =
    let s = settle_steps (are_live coordinator worker old) inputs number old coordinator worker rounds answer new step in steps_clean inputs number old s.steps answer new s.run h
line_clean inputs number old (Together workers turns) answer new step h = absurd step
line_clean inputs number old line answer new step h = one_clean inputs number old line answer new step h

run_clean : (inputs : Inputs) (number : ℕ) (old : State) (lines : List Line) (answers : List (List ℕ)) (new : State) → ScriptRun inputs number old lines answers new → SweepersOnlySweep old.store.history → SweepersOnlySweep new.store.history
run_clean inputs number old [] [] new run h = subst (λ (s : State). SweepersOnlySweep s.store.history) (sym run) h
run_clean inputs number old (line ∷ lines) (answer ∷ answers) new (mid, step, rest) h =
    run_clean inputs (number + 1) mid lines answers new rest (line_clean inputs number old line answer mid step h)
run_clean inputs number old [] (answer ∷ answers) new run h = absurd run
run_clean inputs number old (line ∷ lines) [] new run h = absurd run

pub scripts_sweep_clean : ScriptsSweepClean
scripts_sweep_clean inputs lines last run =
    let clean : SweepersOnlySweep last.store.history = run_clean inputs 1 (fresh_state run.options) lines run.answers last run.run tt in
    record { only = clean; no_trace = λ specs. sweeps_are_transparent last.store.tables specs last.store.history clean }
