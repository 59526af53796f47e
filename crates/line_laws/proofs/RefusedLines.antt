-- What each line replies and leaves: it is done, it has no party, a fault struck it, or it is refused as its kind may be.
use Rattle.std.proofs.Common.{◌≡◌, refl, sym, ◌∙◌, ap, subst, ℕ, List, [], ◌∷◌, ◌++◌, Bool, true, false, inl, inr, Option, Some, None}
use Rattle.std.specs.Prelude.{⊤, ℤ, codes, decimal, is_some, ◌==◌, slice_get, ◌-◌}
use Rattle.std.proofs.lemmas.Bool.Decides.{Decides-eqb}
use Rattle.row_model.specs.Ranges.{Range}
use Rattle.row_model.specs.Rows.{Row}
use Rattle.fleet_model.specs.Nodes.{Tables, Node, node_named, tree_at}
use Rattle.fleet_model.specs.Jobs.{JobSpec}
use Rattle.fleet_model.specs.History.{Party, Writer, Submitter, Coordinator, Worker, Sweeper, Event, Start, Kill}
use Rattle.fleet_model.specs.Store.{Records, Store}
use Rattle.fleet_model.specs.Exchanges.{does_stand}
use Rattle.fleet_model.specs.Sweeps.{pinned_tables}
use Rattle.fleet_model.specs.Work.Parties.{Attempt, LiveWorker, LiveCoordinator, Parties, coordinator_with, worker_with, without_coordinator, without_worker, with_coordinator, with_worker}
use Rattle.fleet_model.specs.Work.PollStates.{PollState}
use Rattle.step_model.specs.Courses.Alone.{AloneEnd, run_alone}
use Rattle.step_model.specs.Courses.Course.{Course, Ends, calls_each}
use Rattle.step_model.specs.Courses.StepEnds.{StepEnd, Reports, Fenced, NotOwner, NoRecords, Invalid, Declined, OperatorRefuses, BadFlush}
use Rattle.step_model.specs.Entries.{last_name}
use Rattle.step_model.specs.Steps.ClaimSteps.{claim}
use Rattle.step_model.specs.Steps.BeatSteps.{heartbeat, release_all}
use Rattle.step_model.specs.Steps.OutputSteps.{Written, output}
use Rattle.step_model.specs.Steps.FinishSteps.{FinishedJob, finish}
use Rattle.step_model.specs.Steps.FlushSteps.{FlushAsk, flush}
use Rattle.step_model.specs.Steps.SubmitSteps.{submit, submit_request}
use Rattle.step_model.specs.Steps.SweepSteps.{sweep}
use Rattle.step_model.specs.Steps.PollSteps.{poll, start}
use Rattle.script_model.specs.Script.{Line, Options, Clock, StartCoordinator, StartWorker, KillCoordinator, KillWorker, StopCoordinator, StopWorker, FlushRows, ReadKey, SubmitJob, SubmitDrain, SubmitFull, Poll, CommitOnly, ClaimJobs, Heartbeat, Output, FinishJob, SetFault, ShowTrees, ShowJobs, ShowTables, Dump, Sweep, Scan, Settle, Together}
use Rattle.script_model.specs.States.{Inputs, State}
use Rattle.script_model.specs.Replies.{reply, ok, jobs_text, tables_text, claim_reply, beat_reply, output_reply, ranges_text, poll_reply, commit_reply, trees_reply, jobs_reply, absent_reply, tables_reply}
use Rattle.script_model.specs.LineRuns.{LineEnd, LineCourse, run_line, end_or_fault, after_line, only_replies, no_such_party, if_some, noted_line, step_line, step_reply, step_parties, line_end}
use Rattle.script_model.specs.LineCourses.{prepared_state, course_of, attempt_numbered, job_at, range_at}
use Rattle.script_model.specs.Lines.Settles.{is_ok}
use Rattle.script_model.specs.Lines.Starts.{killed_first, start_notes, only_notes, start_coordinator, release_named}
use Rattle.script_model.specs.Lines.Looks.{dump_reply}
use Rattle.script_model.specs.Lines.Flushes.{flush_line}
use Rattle.script_model.specs.Lines.Submits.{submit_line, full_line, request_of}
use Rattle.script_model.specs.Lines.PollLines.{poll_ask, polls}
use Rattle.script_model.specs.Lines.Sweeps.{by_number, sweep_line}
use Rattle.script_model.specs.Lines.WorkLines.{worker_options, parties_running, worker_line, stop_worker, without_attempt, output_asked, output_line, finish_asked, finish_line}
use Rattle.line_laws.specs.Lines.Refused.{StruckIn, SubmitRefused, struck_parties, RefusedSo, Replied, IsDone, HasNoParty, IsStruck, IsRefused, RefusalsLeave}
use Rattle.line_laws.proofs.Parties.{found}
use Rattle.line_laws.proofs.AloneEnds.{EndsSo, then_so, made_so, gets_so, RunEnds, RunStruck, RunEnded, run_ends}
use Rattle.line_laws.proofs.StepRefusals.{Reported, FlushEnds, SubmitEnds, RequestEnds, PollEnds, OutputEnds, FinishEnds, claim_so, beat_so, release_so, output_so, finish_so, flush_so, submit_so, request_so, start_so, poll_so}

-- ---- lines that run a course

-- A line was struck, or it ended so.
pub data LineEnded (number : ℕ) (s : State) (c : LineCourse) (P : LineEnd → Store → Type 0) (answer : List ℕ) (new : State) : Type 0 where
  LineStruck : answer ≡ reply (codes "storefault" ∷ []) → StruckIn number c.party (does_stand s.fault) c.course s.store new.store → new.parties ≡ c.struck → new.fault ≡ None → LineEnded number s c P answer new
  LineEnds : (end : LineEnd) → answer ≡ end.reply → new.parties ≡ end.parties → P end new.store → LineEnded number s c P answer new

-- The line's reply and state are those of an end of its course that nobody disturbs, or a fault struck it.
pub line_ended : (number : ℕ) (s : State) (c : LineCourse) (P : LineEnd → Store → Type 0) (answer : List ℕ) (new : State) → EndsSo number c.party c.course s.store P → run_line number s c ≡ (answer, new) → LineEnded number s c P answer new
line_ended number s c P answer new so is = by (run_alone number c.party c.course s.fault s.store) (run_ends number c.party c.course s.fault s.store P so) is
  where
    by : (run : AloneEnd LineEnd) → RunEnds number c.party (does_stand s.fault) c.course s.store P run → after_line s (end_or_fault c.struck run.answer) run ≡ (answer, new) → LineEnded number s c P answer new
    by run (RunStruck none gone struck) is = LineStruck
        (sym (ap (λ (p : List ℕ × State). p.0) is) ∙ ap (λ (o : Option LineEnd). (end_or_fault c.struck o).reply) none)
        (subst (StruckIn number c.party (does_stand s.fault) c.course s.store) (ap (λ (p : List ℕ × State). p.1.store) is) struck)
        (sym (ap (λ (p : List ℕ × State). p.1.parties) is) ∙ ap (λ (o : Option LineEnd). (end_or_fault c.struck o).parties) none)
        (sym (ap (λ (p : List ℕ × State). p.1.fault) is) ∙ gone)
    by run (RunEnded end given p) is = LineEnds end
        (sym (ap (λ (p : List ℕ × State). p.0) is) ∙ ap (λ (o : Option LineEnd). (end_or_fault c.struck o).reply) given)
        (sym (ap (λ (p : List ℕ × State). p.1.parties) is) ∙ ap (λ (o : Option LineEnd). (end_or_fault c.struck o).parties) given)
        (subst (P end) (ap (λ (p : List ℕ × State). p.1.store) is) p)

-- The line was struck, or it replies so if it ended so.
ends_reply : (number : ℕ) (line : Line) (s : State) (c : LineCourse) (P : LineEnd → Store → Type 0) (answer : List ℕ) (new : State) → c.struck ≡ struck_parties line s → EndsSo number c.party c.course s.store P → run_line number s c ≡ (answer, new)
    → ((end : LineEnd) → answer ≡ end.reply → new.parties ≡ end.parties → P end new.store → Replied number line c s answer new) → Replied number line c s answer new
ends_reply number line s c P answer new same so is ends = by (line_ended number s c P answer new so is)
  where
    by : LineEnded number s c P answer new → Replied number line c s answer new
    by (LineStruck printed store parties fault) = IsStruck (record { printed = printed; store = store; parties = parties ∙ same; fault = fault })
    by (LineEnds end printed parties p) = ends end printed parties p

-- The end of a step, and of its line.
abbrev pub OfStep : {A : Type 0} → (StepEnd A → LineEnd) → (StepEnd A → Store → Type 0) → LineEnd → Store → Type 0
OfStep {A} ends P end left = (of : StepEnd A) × (end ≡ ends of) × P of left

-- A line of one step.
step_replies : {A : Type 0} (number : ℕ) (line : Line) (s : State) (party : Party) (step : Course (StepEnd A)) (spell : A → List ℕ) (reported : A → Parties) (refused struck : Parties) (P : StepEnd A → Store → Type 0) (answer : List ℕ) (new : State)
    → struck ≡ struck_parties line s → EndsSo number party step s.store P → run_line number s (step_line party step (line_end spell reported refused) struck) ≡ (answer, new)
    → ((end : StepEnd A) → answer ≡ step_reply spell end → new.parties ≡ step_parties reported refused end → P end new.store → Replied number line (step_line party step (line_end spell reported refused) struck) s answer new)
    → Replied number line (step_line party step (line_end spell reported refused) struck) s answer new
step_replies {A} number line s party step spell reported refused struck P answer new same so is handle =
    ends_reply number line s (step_line party step ends struck) (OfStep ends P) answer new same (then_so number party step (λ end. Ends (ends end)) s.store P (OfStep ends P) (λ a left p. (a, refl, p)) so) is
    (λ end printed parties p. handle p.0 (printed ∙ ap (λ (e : LineEnd). e.reply) p.1) (parties ∙ ap (λ (e : LineEnd). e.parties) p.1) p.2)
  where
    ends : StepEnd A → LineEnd
    ends = line_end spell reported refused

-- Whatever the store, the step reports.
still : {A : Type 0} (end : StepEnd A) (left last : Store) → Reported end left → Reported end last
still (Reports report) left last is = tt
still end left last is = absurd is

-- A line of one step that always reports, with notes after it, is done if it is not struck.
noted_replies : {A : Type 0} (number : ℕ) (line : Line) (s : State) (party : Party) (step : Course (StepEnd A)) (notes : StepEnd A → List Event) (spell : A → List ℕ) (reported : A → Parties) (refused struck : Parties) (answer : List ℕ) (new : State)
    → struck ≡ struck_parties line s → EndsSo number party step s.store Reported → run_line number s (noted_line party step notes (line_end spell reported refused) struck) ≡ (answer, new) → ((report : A) → is_ok (spell report) ≡ true)
    → Replied number line (noted_line party step notes (line_end spell reported refused) struck) s answer new
noted_replies {A} number line s party step notes spell reported refused struck answer new same so is okay =
    ends_reply number line s c (OfStep ends Reported) answer new same
    (then_so number party step (λ end. calls_each (notes end) (Ends (ends end))) s.store Reported (OfStep ends Reported)
    (λ a left p. gets_so number party (notes a) (Ends (ends a)) left left (OfStep ends Reported) refl (λ last like. (a, refl, still a left last p))) so) is
    (λ end printed parties p. by p.0 (printed ∙ ap (λ (e : LineEnd). e.reply) p.1) p.2)
  where
    ends : StepEnd A → LineEnd
    ends = line_end spell reported refused

    c : LineCourse
    c = noted_line party step notes ends struck

    by : (end : StepEnd A) → answer ≡ step_reply spell end → Reported end new.store → Replied number line c s answer new
    by (Reports report) printed p = IsDone (ap is_ok printed ∙ okay report)
    by end printed p = absurd p

-- A line that only makes notes is done.
notes_reply : (number : ℕ) (line : Line) (s : State) (party : Party) (notes : List Event) (parties : Parties) (answer : List ℕ) (new : State) → s.parties ≡ struck_parties line s → run_line number s (only_notes party notes s parties) ≡ (answer, new)
    → Replied number line (only_notes party notes s parties) s answer new
notes_reply number line s party notes parties answer new same is =
    ends_reply number line s (only_notes party notes s parties) (λ end left. end.reply ≡ ok) answer new same (gets_so number party notes (Ends (record { reply = ok; parties = parties })) s.store s.store (λ end left. end.reply ≡ ok) refl (λ left like. refl)) is
    (λ end printed parties p. IsDone (ap is_ok (printed ∙ p)))

-- ---- lines that call nothing

none_replies : (number : ℕ) (line : Line) (s : State) (answer : List ℕ) (new : State) → run_line number s (no_such_party s) ≡ (answer, new) → Replied number line (no_such_party s) s answer new
none_replies number line s answer new is = HasNoParty (sym (ap (λ (p : List ℕ × State). p.0) is)) (sym (ap (λ (p : List ℕ × State). p.1) is))

-- A line that shows something is done.
shows : (number : ℕ) (line : Line) (old s : State) (said : List ℕ) (answer : List ℕ) (new : State) → run_line number s (only_replies s said) ≡ (answer, new) → is_ok said ≡ true → Replied number line (only_replies s said) old answer new
shows number line old s said answer new is okay = IsDone (ap is_ok (sym (ap (λ (p : List ℕ × State). p.0) is)) ∙ okay)

-- ---- the worker and the attempt that a line names

pub worker_number : (n : ℕ) (s : State) (w : LiveWorker) → worker_with n s.parties ≡ Some w → n ≡ w.number
worker_number n s w e = (Decides-eqb n w.number).0 (found (λ (v : LiveWorker). n == v.number) s.parties.workers w e).passes

pub job_number : (s : State) (n job : ℕ) (p : LiveWorker × Attempt) → job_at s n job ≡ Some p → n ≡ p.0.number
job_number s n job p e = by (worker_with n s.parties) refl e
  where
    inner : (w : LiveWorker) → worker_with n s.parties ≡ Some w → (o : Option Attempt) → if_some o None (λ a. Some (w, a)) ≡ Some p → n ≡ p.0.number
    inner w there None e = absurd (cc e)
    inner w there (Some a) e = let pair : (w, a) ≡ p = cc e in worker_number n s w there ∙ ap (λ (q : LiveWorker × Attempt). q.0.number) pair

    by : (o : Option LiveWorker) → worker_with n s.parties ≡ o → if_some o None (λ w. if_some (attempt_numbered job w.attempts) None (λ a. Some (w, a))) ≡ Some p → n ≡ p.0.number
    by None there e = absurd (cc e)
    by (Some w) there e = inner w there (attempt_numbered job w.attempts) e

-- A worker with a range of an attempt runs the attempt.
pub range_job : (s : State) (n job place : ℕ) (q : LiveWorker × Attempt × (Range × List ℕ)) → range_at s n job place ≡ Some q → job_at s n job ≡ Some (q.0, q.1)
range_job s n job place q e = by (job_at s n job) e
  where
    inner : (p : LiveWorker × Attempt) → (o : Option (Range × List ℕ)) → if_some o None (λ range. Some (p.0, p.1, range)) ≡ Some q → Some p ≡ Some (q.0, q.1)
    inner p None e = absurd (cc e)
    inner p (Some range) e = let same : (p.0, p.1, range) ≡ q = cc e in ap (λ (r : LiveWorker × Attempt × (Range × List ℕ)). Some (r.0, r.1)) same

    by : (o : Option (LiveWorker × Attempt)) → if_some o None (λ found. if_some (slice_get found.1.context.ranges (place - 1)) None (λ range. Some (found.0, found.1, range))) ≡ Some q → o ≡ Some (q.0, q.1)
    by None e = absurd (cc e)
    by (Some p) e = inner p (slice_get p.1.context.ranges (place - 1)) e

-- ---- lines of parties

gone_worker : (n m : ℕ) (s : State) → n ≡ m → without_worker m s.parties ≡ without_worker n s.parties
gone_worker n m s same = ap (λ (k : ℕ). without_worker k s.parties) (sym same)

start_replies : (number n : ℕ) (s : State) (answer : List ℕ) (new : State) → run_line number s (start_coordinator n s) ≡ (answer, new) → Replied number (StartCoordinator n) (start_coordinator n s) s answer new
start_replies number n s answer new is =
    noted_replies number (StartCoordinator n) s (Coordinator n) (calls_each (killed_first (is_some (coordinator_with n s.parties)) (Coordinator n)) start) (start_notes n) (λ epoch. reply (codes "ok" ∷ codes "epoch" ∷ decimal epoch ∷ []))
    (λ epoch. with_coordinator (record { number = n; epoch = epoch }) s.parties) (without_coordinator n s.parties) (without_coordinator n s.parties) answer new refl
    (gets_so number (Coordinator n) (killed_first (is_some (coordinator_with n s.parties)) (Coordinator n)) start s.store s.store (Reported {A = ℕ}) refl (λ left like. start_so number n left)) is (λ report. refl)

ends_coordinator : (number : ℕ) (line : Line) (n : ℕ) (s : State) (answer : List ℕ) (new : State) → s.parties ≡ struck_parties line s → (o : Option LiveCoordinator)
    → let c = if_some o (no_such_party s) (λ d. only_notes (Coordinator n) (Kill (Coordinator n) ∷ []) s (without_coordinator n s.parties)) in run_line number s c ≡ (answer, new) → Replied number line c s answer new
ends_coordinator number line n s answer new same None is = none_replies number line s answer new is
ends_coordinator number line n s answer new same (Some d) is = notes_reply number line s (Coordinator n) (Kill (Coordinator n) ∷ []) (without_coordinator n s.parties) answer new same is

kills_worker : (number n : ℕ) (s : State) (answer : List ℕ) (new : State) (o : Option LiveWorker) → let c = if_some o (no_such_party s) (λ w. only_notes (Worker n) (Kill (Worker n) ∷ []) s (without_worker n s.parties)) in run_line number s c ≡ (answer, new) → Replied number (KillWorker n) c s answer new
kills_worker number n s answer new None is = none_replies number (KillWorker n) s answer new is
kills_worker number n s answer new (Some w) is = notes_reply number (KillWorker n) s (Worker n) (Kill (Worker n) ∷ []) (without_worker n s.parties) answer new refl is

stop_replies : (number n : ℕ) (s : State) (answer : List ℕ) (new : State) → run_line number s (stop_worker n s) ≡ (answer, new) → Replied number (StopWorker n) (stop_worker n s) s answer new
stop_replies number n s answer new is = by (worker_with n s.parties) is
  where
    others : Parties
    others = without_worker n s.parties

    line : LiveWorker → LineCourse
    line w = noted_line (Worker n) (release_all w) (λ end. Kill (Worker n) ∷ []) (line_end (λ jobs. reply (codes "ok" ∷ codes "released" ∷ jobs_text jobs ∷ [])) (λ jobs. others) others) others

    by : (o : Option LiveWorker) → run_line number s (if_some o (no_such_party s) line) ≡ (answer, new) → Replied number (StopWorker n) (if_some o (no_such_party s) line) s answer new
    by None is = none_replies number (StopWorker n) s answer new is
    by (Some w) is = noted_replies number (StopWorker n) s (Worker n) (release_all w) (λ end. Kill (Worker n) ∷ []) (λ jobs. reply (codes "ok" ∷ codes "released" ∷ jobs_text jobs ∷ [])) (λ jobs. others) others others answer new refl (release_so number (Worker n) w s.store) is (λ report. refl)

-- A line of a worker whose step always reports.
work_replies : {A : Type 0} (number : ℕ) (line : Line) (n : ℕ) (s : State) (step : LiveWorker → Course (StepEnd A)) (spell : A → List ℕ) (reported : A → List Attempt) (answer : List ℕ) (new : State) → struck_parties line s ≡ without_worker n s.parties
    → ((w : LiveWorker) → EndsSo number (Worker w.number) (step w) s.store Reported) → ((report : A) → is_ok (spell report) ≡ true) → (o : Option LiveWorker) → worker_with n s.parties ≡ o
    → let c = if_some o (no_such_party s) (λ w. worker_line w s (step w) spell reported w.attempts) in run_line number s c ≡ (answer, new) → Replied number line c s answer new
work_replies number line n s step spell reported answer new same so okay None e is = none_replies number line s answer new is
work_replies number line n s step spell reported answer new same so okay (Some w) e is =
    noted_replies number line s (Worker w.number) (step w) (λ end. []) spell (λ report. parties_running w s (reported report)) (parties_running w s w.attempts) (without_worker w.number s.parties) answer new (gone_worker n w.number s (worker_number n s w e) ∙ sym same) (so w) is okay

-- A poll or a commit replies as it may: it is done, has no coordinator, is struck, or is fenced.
poll_replies : (inputs : Inputs) (number : ℕ) (line : Line) (commits_only : Bool) (spell : PollState → List ℕ) (n : ℕ) (s : State) (answer : List ℕ) (new : State) → struck_parties line s ≡ without_coordinator n s.parties
    → ((stored : ℕ) → answer ≡ reply (codes "fenced" ∷ decimal stored ∷ []) → new.parties ≡ without_coordinator n s.parties → PollEnds {A = PollState} s.store (Fenced stored) new.store → RefusedSo line s answer new) → ((report : PollState) → is_ok (spell report) ≡ true)
    → run_line number s (polls commits_only spell inputs n s) ≡ (answer, new) → Replied number line (polls commits_only spell inputs n s) s answer new
poll_replies inputs number line commits_only spell n s answer new same fenced okay is = by (coordinator_with n s.parties) is
  where
    gone : Parties
    gone = without_coordinator n s.parties

    course : LiveCoordinator → LineCourse
    course c = step_line (Coordinator n) (poll (poll_ask inputs s c commits_only)) (line_end spell (λ reached. s.parties) gone) gone

    handle : (c : LiveCoordinator) (end : StepEnd PollState) → answer ≡ step_reply spell end → new.parties ≡ step_parties (λ (reached : PollState). s.parties) gone end → PollEnds s.store end new.store → Replied number line (course c) s answer new
    handle c (Reports report) printed parties p = IsDone (ap is_ok printed ∙ okay report)
    handle c (Fenced stored) printed parties p = IsRefused (fenced stored printed parties p)
    handle c end printed parties p = absurd p

    by : (o : Option LiveCoordinator) → run_line number s (if_some o (no_such_party s) course) ≡ (answer, new) → Replied number line (if_some o (no_such_party s) course) s answer new
    by None is = none_replies number line s answer new is
    by (Some c) is = step_replies number line s (Coordinator n) (poll (poll_ask inputs s c commits_only)) spell (λ reached. s.parties) gone gone (PollEnds s.store) answer new (sym same) (poll_so number (Coordinator n) (poll_ask inputs s c commits_only) s.store) is (handle c)

-- ---- flushes and submissions

-- A flush replies as it may: it is done, is struck, or has one of the six faults.
flush_replies : (inputs : Inputs) (number name : ℕ) (segment : List ℕ) (floor : ℕ) (tick : ℤ) (rows : List Row) (s : State) (answer : List ℕ) (new : State) → run_line number s (flush_line name segment floor tick rows s) ≡ (answer, new)
    → Replied number (FlushRows name segment floor tick rows) (flush_line name segment floor tick rows s) s answer new
flush_replies inputs number name segment floor tick rows s answer new is =
    step_replies number (FlushRows name segment floor tick rows) s Writer (flush s.moment s.options.retention (last_name s.store.history) ask) (λ done. ok) (λ done. s.parties) s.parties s.parties (FlushEnds s.store) answer new refl
    (flush_so number Writer s.moment s.options.retention (last_name s.store.history) ask s.store) is handle
  where
    ask : FlushAsk
    ask = record { name = name; segment = segment; floor = floor; tick = tick; rows = rows }

    handle : (end : StepEnd ⊤) → answer ≡ step_reply (λ done. ok) end → new.parties ≡ step_parties (λ done. s.parties) s.parties end → FlushEnds s.store end new.store
        → Replied number (FlushRows name segment floor tick rows) (flush_line name segment floor tick rows s) s answer new
    handle (Reports report) printed parties p = IsDone (ap is_ok printed)
    handle (BadFlush fault) printed parties p = IsRefused (record { fault = fault; printed = printed; store = p; parties = parties })
    handle end printed parties p = absurd p

-- A submission or a drain replies as it may: it is done, is struck, or there are no records.
submit_replies : (number : ℕ) (line : Line) (spec : JobSpec) (s : State) (answer : List ℕ) (new : State) → s.parties ≡ struck_parties line s → (SubmitRefused s answer new → RefusedSo line s answer new) → run_line number s (submit_line spec s) ≡ (answer, new)
    → Replied number line (submit_line spec s) s answer new
submit_replies number line spec s answer new same refuses is =
    step_replies number line s Submitter (submit s.moment (spec ∷ [])) spell (λ jobs. s.parties) s.parties s.parties (SubmitEnds s.store) answer new same (submit_so number Submitter s.moment (spec ∷ []) s.store) is handle
  where
    spell : List ℕ → List ℕ
    spell jobs = reply (codes "ok" ∷ codes "job" ∷ jobs_text jobs ∷ [])

    handle : (end : StepEnd (List ℕ)) → answer ≡ step_reply spell end → new.parties ≡ step_parties (λ (jobs : List ℕ). s.parties) s.parties end → SubmitEnds s.store end new.store → Replied number line (submit_line spec s) s answer new
    handle (Reports report) printed parties p = IsDone (ap is_ok printed)
    handle NoRecords printed parties p = IsRefused (refuses (record { printed = printed; store = p; parties = parties }))
    handle end printed parties p = absurd p

-- A request replies as it may: it is done, is struck, there are no records, or the scheduler refuses it.
full_replies : (inputs : Inputs) (number : ℕ) (segment : Option (List ℕ)) (s : State) (answer : List ℕ) (new : State) → run_line number s (full_line inputs segment s) ≡ (answer, new) → Replied number (SubmitFull segment) (full_line inputs segment s) s answer new
full_replies inputs number segment s answer new is =
    step_replies number (SubmitFull segment) s Submitter (submit_request s.moment inputs.scheduler (request_of segment)) spell (λ jobs. s.parties) s.parties s.parties (RequestEnds s.store) answer new refl
    (request_so number Submitter s.moment inputs.scheduler (request_of segment) s.store) is handle
  where
    spell : List ℕ → List ℕ
    spell jobs = reply (codes "ok" ∷ codes "jobs" ∷ jobs_text jobs ∷ [])

    handle : (end : StepEnd (List ℕ)) → answer ≡ step_reply spell end → new.parties ≡ step_parties (λ (jobs : List ℕ). s.parties) s.parties end → RequestEnds s.store end new.store → Replied number (SubmitFull segment) (full_line inputs segment s) s answer new
    handle (Reports report) printed parties p = IsDone (ap is_ok printed)
    handle NoRecords printed parties p = IsRefused (record { message = []; printed = inl printed; store = p; parties = parties })
    handle Invalid printed parties p = IsRefused (record { message = []; printed = inr (inl printed); store = p; parties = parties })
    handle (Declined message) printed parties p = IsRefused (record { message = message; printed = inr (inr printed); store = p; parties = parties })
    handle end printed parties p = absurd p

-- ---- outputs and finishes

-- An output replies as it may: it is done, has no worker with such a range, is struck, or the operator refuses.
output_replies : (inputs : Inputs) (number n job place rows : ℕ) (refusal : Option (List ℕ)) (s : State) (answer : List ℕ) (new : State) (o : Option (LiveWorker × Attempt × (Range × List ℕ))) → range_at s n job place ≡ o
    → let c = if_some o (no_such_party s) (λ found. output_line inputs s (output_asked s place rows refusal found)) in run_line number s c ≡ (answer, new) → Replied number (Output n job place rows) c s answer new
output_replies inputs number n job place rows refusal s answer new None e is = none_replies number (Output n job place rows) s answer new is
output_replies inputs number n job place rows refusal s answer new (Some q) e is =
    step_replies number (Output n job place rows) s (Worker w.number) (output inputs.merge s.store.tables (output_asked s place rows refusal q)) (λ r. output_reply r.table) (λ r. parties_running w s r.attempts) (parties_running w s (without_attempt w a)) (without_worker w.number s.parties)
    (OutputEnds w a s.store) answer new (gone_worker n w.number s (job_number s n job (w, a) ran)) (output_so number (Worker w.number) inputs.merge s.store.tables (output_asked s place rows refusal q) s.store) is handle
  where
    w : LiveWorker
    w = q.0

    a : Attempt
    a = q.1

    ran : job_at s n job ≡ Some (w, a)
    ran = range_job s n job place q e

    said : (o : Option (ℕ × List Row)) → is_ok (output_reply o) ≡ true
    said None = refl
    said (Some table) = refl

    handle : (end : StepEnd Written) → answer ≡ step_reply (λ r. output_reply r.table) end → new.parties ≡ step_parties (λ (r : Written). parties_running w s r.attempts) (parties_running w s (without_attempt w a)) end → OutputEnds w a s.store end new.store
        → Replied number (Output n job place rows) (output_line inputs s (output_asked s place rows refusal q)) s answer new
    handle (Reports report) printed parties p = IsDone (ap is_ok printed ∙ said report.table)
    handle (OperatorRefuses message) printed parties p = IsRefused (record { worker = w; attempt = a; ran = ran; message = message; printed = printed; store = p; parties = parties })
    handle end printed parties p = absurd p

-- A finish replies as it may: it is done, has no worker, is struck, the operator refuses, or the attempt is not live.
finish_replies : (inputs : Inputs) (number n job : ℕ) (refusal : Option (List ℕ)) (s : State) (answer : List ℕ) (new : State) (o : Option (LiveWorker × Attempt)) → job_at s n job ≡ o
    → let c = if_some o (no_such_party s) (λ found. finish_line inputs s (finish_asked s refusal found)) in run_line number s c ≡ (answer, new) → Replied number (FinishJob n job) c s answer new
finish_replies inputs number n job refusal s answer new None e is = none_replies number (FinishJob n job) s answer new is
finish_replies inputs number n job refusal s answer new (Some p) e is =
    step_replies number (FinishJob n job) s (Worker w.number) (finish inputs.merge s.store.tables (finish_asked s refusal p)) spell (λ r. parties_running w s r.attempts) (parties_running w s (without_attempt w a)) (without_worker w.number s.parties)
    (FinishEnds w a s.store) answer new (gone_worker n w.number s (job_number s n job p e)) (finish_so number (Worker w.number) inputs.merge s.store.tables (finish_asked s refusal p) s.store) is handle
  where
    w : LiveWorker
    w = p.0

    a : Attempt
    a = p.1

    spell : FinishedJob → List ℕ
    spell r = reply (codes "ok" ∷ ranges_text r.outputs ∷ [])

    handle : (end : StepEnd FinishedJob) → answer ≡ step_reply spell end → new.parties ≡ step_parties (λ (r : FinishedJob). parties_running w s r.attempts) (parties_running w s (without_attempt w a)) end → FinishEnds w a s.store end new.store
        → Replied number (FinishJob n job) (finish_line inputs s (finish_asked s refusal p)) s answer new
    handle (Reports report) printed parties q = IsDone (ap is_ok printed)
    handle (OperatorRefuses message) printed parties q = IsRefused (inl (record { worker = w; attempt = a; ran = e; message = message; printed = printed; store = q; parties = parties }))
    handle NotOwner printed parties q = IsRefused (inr (record { worker = w; attempt = a; ran = e; printed = printed; over = q.0; store = q.1; parties = parties }))
    handle end printed parties q = absurd q

-- ---- sweeps

sweep_replies : (number : ℕ) (s : State) (answer : List ℕ) (new : State) → run_line number s (sweep_line s) ≡ (answer, new) → Replied number Sweep (sweep_line s) s answer new
sweep_replies number s answer new is =
    ends_reply number Sweep s (sweep_line s) P answer new refl (then_so number Sweeper (sweep (pinned_tables s.parties)) (λ tables. Ends (end_of tables)) s.store (λ tables left. ⊤) P (λ tables left p. (tables, refl)) (made_so number Sweeper (sweep (pinned_tables s.parties)) s.store (λ tables left. ⊤) (λ left. tt))) is
    (λ end printed parties p. IsDone (ap is_ok (printed ∙ ap (λ (e : LineEnd). e.reply) p.1)))
  where
    end_of : List ℕ → LineEnd
    end_of tables = record { reply = reply (codes "ok" ∷ tables_text (by_number tables) ∷ []); parties = s.parties }

    P : LineEnd → Store → Type 0
    P end left = (tables : List ℕ) × (end ≡ end_of tables)

-- ---- all lines

pub said_jobs : (o : Option Records) → is_ok (if_some o absent_reply (λ records. jobs_reply records.jobs)) ≡ true
said_jobs None = refl
said_jobs (Some records) = refl

pub said_tables : (tables : Tables) (o : Option Node) → is_ok (tables_reply tables o) ≡ true
said_tables tables None = refl
said_tables tables (Some node) = refl

pub said_rows : (tables : Tables) (o : Option Node) → is_ok (dump_reply tables o) ≡ true
said_rows tables None = refl
said_rows tables (Some node) = refl

-- A read or a scan changes nothing.
looks : (number : ℕ) (line : Line) (s : State) (said : List ℕ) (answer : List ℕ) (new : State) → (new ≡ s → RefusedSo line s answer new) → run_line number s (only_replies s said) ≡ (answer, new) → Replied number line (only_replies s said) s answer new
looks number line s said answer new refuses is = IsRefused (refuses (sym (ap (λ (p : List ℕ × State). p.1) is)))

-- Each course of a line replies so.
pub course_replies : (inputs : Inputs) (number : ℕ) (line : Line) (refusal : Option (List ℕ)) (old : State) (answer : List ℕ) (new : State)
    → let s = prepared_state line old in run_line number s (course_of inputs line refusal s) ≡ (answer, new) → Replied number line (course_of inputs line refusal s) old answer new
unfolding course_of
course_replies inputs number (Options timeout concurrent slots ranges table_size moves retention) refusal old answer new is = shows number (Options timeout concurrent slots ranges table_size moves retention) old (prepared_state (Options timeout concurrent slots ranges table_size moves retention) old) ok answer new is refl
course_replies inputs number (Clock moment) refusal old answer new is = shows number (Clock moment) old (prepared_state (Clock moment) old) ok answer new is refl
course_replies inputs number (SetFault k stands) refusal old answer new is = shows number (SetFault k stands) old (prepared_state (SetFault k stands) old) ok answer new is refl
course_replies inputs number (StartCoordinator n) refusal s answer new is = start_replies number n s answer new is
course_replies inputs number (StartWorker n release) refusal s answer new is =
    notes_reply number (StartWorker n release) s (Worker n) (killed_first (is_some (worker_with n s.parties)) (Worker n) ++ Start (Worker n) ∷ []) (with_worker (record { number = n; release = release_named release; attempts = [] }) s.parties) answer new refl is
course_replies inputs number (KillCoordinator n) refusal s answer new is = ends_coordinator number (KillCoordinator n) n s answer new refl (coordinator_with n s.parties) is
course_replies inputs number (KillWorker n) refusal s answer new is = kills_worker number n s answer new (worker_with n s.parties) is
course_replies inputs number (StopCoordinator n) refusal s answer new is = ends_coordinator number (StopCoordinator n) n s answer new refl (coordinator_with n s.parties) is
course_replies inputs number (StopWorker n) refusal s answer new is = stop_replies number n s answer new is
course_replies inputs number (FlushRows name segment floor tick rows) refusal s answer new is = flush_replies inputs number name segment floor tick rows s answer new is
course_replies inputs number (ReadKey segment key seq now) refusal s answer new is = looks number (ReadKey segment key seq now) s _ answer new (λ same. same) is
course_replies inputs number (SubmitJob segment destination sources) refusal s answer new is =
    submit_replies number (SubmitJob segment destination sources) (record { segment = segment; sources = sources; destination = Some destination }) s answer new refl (λ r. r) is
course_replies inputs number (SubmitDrain segment sources) refusal s answer new is = submit_replies number (SubmitDrain segment sources) (record { segment = segment; sources = sources; destination = None }) s answer new refl (λ r. r) is
course_replies inputs number (SubmitFull segment) refusal s answer new is = full_replies inputs number segment s answer new is
course_replies inputs number (Poll n) refusal s answer new is =
    poll_replies inputs number (Poll n) false poll_reply n s answer new refl (λ stored printed parties p. record { stored = stored; printed = printed; store = p; parties = parties }) (λ report. refl) is
course_replies inputs number (CommitOnly n) refusal s answer new is =
    poll_replies inputs number (CommitOnly n) true commit_reply n s answer new refl (λ stored printed parties p. record { stored = stored; printed = printed; store = p; parties = parties }) (λ report. refl) is
course_replies inputs number (ClaimJobs n) refusal s answer new is =
    work_replies number (ClaimJobs n) n s (λ w. claim (worker_options s.options) s.moment w) (λ r. claim_reply r.begun r.stopped) (λ r. r.attempts) answer new refl (λ w. claim_so number (Worker w.number) (worker_options s.options) s.moment w s.store) (λ report. refl) (worker_with n s.parties) refl is
course_replies inputs number (Heartbeat n) refusal s answer new is =
    work_replies number (Heartbeat n) n s (λ w. heartbeat s.moment w) (λ r. beat_reply r.beat r.not_owner) (λ r. r.attempts) answer new refl (λ w. beat_so number (Worker w.number) s.moment w s.store) (λ report. refl) (worker_with n s.parties) refl is
course_replies inputs number (Output n job place rows) refusal s answer new is = output_replies inputs number n job place rows refusal s answer new (range_at s n job place) refl is
course_replies inputs number (FinishJob n job) refusal s answer new is = finish_replies inputs number n job refusal s answer new (job_at s n job) refl is
course_replies inputs number ShowTrees refusal s answer new is = shows number ShowTrees s s (trees_reply s.store.manifest.trees) answer new is refl
course_replies inputs number ShowJobs refusal s answer new is = shows number ShowJobs s s _ answer new is (said_jobs s.store.records)
course_replies inputs number (ShowTables segment node) refusal s answer new is = shows number (ShowTables segment node) s s _ answer new is (said_tables s.store.tables (node_named node (tree_at segment s.store.manifest.trees)))
course_replies inputs number (Dump segment node) refusal s answer new is = shows number (Dump segment node) s s _ answer new is (said_rows s.store.tables (node_named node (tree_at segment s.store.manifest.trees)))
course_replies inputs number Sweep refusal s answer new is = sweep_replies number s answer new is
course_replies inputs number (Scan segment from to seq now limit) refusal s answer new is = looks number (Scan segment from to seq now limit) s _ answer new (λ same. same) is
course_replies inputs number (Settle coordinator worker rounds) refusal s answer new is = none_replies number (Settle coordinator worker rounds) s answer new is
course_replies inputs number (Together workers turns) refusal s answer new is = none_replies number (Together workers turns) s answer new is

pub refusals_leave : RefusalsLeave
refusals_leave inputs number old line answer new one =
    let s = prepared_state line old in
    let is : run_line number s (course_of inputs line one.does.refusal s) ≡ (answer, new) = ap (run_line number s) (sym one.does.is) ∙ one.ends in
    record {
      options = sym (ap (λ (p : List ℕ × State). p.1.options) is);
      moment = sym (ap (λ (p : List ℕ × State). p.1.moment) is);
      replied = subst (λ (c : LineCourse). Replied number line c old answer new) (sym one.does.is) (course_replies inputs number line one.does.refusal old answer new is);
    }
