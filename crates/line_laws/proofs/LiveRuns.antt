-- The workers are live as the history says after each line of a script.
use Rattle.std.proofs.Common.{◌≡◌, refl, sym, ◌∙◌, ap, subst, ℕ, ◌+◌, List, [], ◌∷◌, ◌++◌, cond, Bool, true, false, Option, Some, None}
use Rattle.std.specs.Prelude.{◌==◌, ◌-◌, not, filter, map, is_some, slice_get, codes, decimal}
use Rattle.std.specs.List.{AllByRecursion}
use Rattle.std.proofs.lemmas.Bool.Decides.{Decides-eqb}
use Rattle.row_model.specs.Ranges.{Range}
use Rattle.fleet_model.specs.History.{Party, Writer, Submitter, Coordinator, Worker, Sweeper, Event, Start, Kill, Done}
use Rattle.fleet_model.specs.Store.{Store}
use Rattle.fleet_model.specs.Work.Parties.{LiveWorker, LiveCoordinator, Parties, worker_with, coordinator_with, without_coordinator, with_coordinator, without_worker, with_worker, Attempt}
use Rattle.fleet_model.specs.Exchanges.{event_of, answer_of, after_answered, does_stand}
use Rattle.step_model.specs.Courses.Course.{Course, Ends, Calls, then_course, calls_each}
use Rattle.step_model.specs.Courses.StepEnds.{StepEnd, Reports}
use Rattle.step_model.specs.Steps.PollSteps.{start, poll}
use Rattle.step_model.specs.Steps.BeatSteps.{release_all}
use Rattle.script_model.specs.Script.{Line, Options, Clock, StartCoordinator, StartWorker, KillCoordinator, KillWorker, StopCoordinator, StopWorker, FlushRows, SubmitJob, SubmitDrain, SubmitFull, Poll, CommitOnly, ClaimJobs, Heartbeat, Output, FinishJob, SetFault, Sweep, Settle, Together}
use Rattle.script_model.specs.States.{Inputs, State, fresh_state}
use Rattle.script_model.specs.Lines.Settles.{are_live}
use Rattle.script_model.specs.Follows.{LineStep, ScriptRun}
use Rattle.script_model.specs.LineRuns.{LineEnd, LineCourse, run_line, no_such_party, if_some, step_line, noted_line, line_end}
use Rattle.script_model.specs.LineCourses.{prepared_state, course_of, job_at, range_at, attempt_numbered}
use Rattle.script_model.specs.LineSteps.{OneCourse}
use Rattle.script_model.specs.Lines.Starts.{killed_first, start_notes, only_notes, release_named, start_coordinator, end_coordinator, start_worker, kill_worker}
use Rattle.fleet_model.specs.Work.PollStates.{PollState}
use Rattle.script_model.specs.Replies.{ok, reply, jobs_text, poll_reply, commit_reply, output_reply, claim_reply, beat_reply, ranges_text, tables_text}
use Rattle.script_model.specs.Lines.PollLines.{polls, poll_ask}
use Rattle.step_model.specs.Steps.ClaimSteps.{claim}
use Rattle.step_model.specs.Steps.BeatSteps.{heartbeat}
use Rattle.step_model.specs.Steps.OutputSteps.{output}
use Rattle.step_model.specs.Steps.FinishSteps.{finish}
use Rattle.step_model.specs.Steps.SubmitSteps.{submit, submit_request}
use Rattle.step_model.specs.Steps.FlushSteps.{flush}
use Rattle.step_model.specs.Steps.SweepSteps.{sweep}
use Rattle.step_model.specs.Entries.{last_name}
use Rattle.fleet_model.specs.Sweeps.{pinned_tables}
use Rattle.script_model.specs.Lines.Submits.{submits, request_of}
use Rattle.script_model.specs.Lines.Sweeps.{sweep_line, by_number}
use Rattle.script_model.specs.Lines.WorkLines.{worker_options, worker_line, parties_running, claim_line, heartbeat_line, output_asked, output_line, finish_asked, finish_line, without_attempt, stop_worker}
use Rattle.line_laws.specs.Lines.PollRuns.{Answered, entry_of}
use Rattle.line_laws.specs.Faults.{calls_made, answer_made, struck_answer}
use Rattle.line_laws.specs.Live.{LiveWorkers}
use Rattle.line_laws.proofs.Parties.{found}
use Rattle.line_laws.proofs.PollCalls.{then_ends}
use Rattle.line_laws.proofs.Scripts.{StepsRun, settle_steps}
use Rattle.line_laws.proofs.QuietCalls.{AreQuiet, quiet_claim, quiet_heartbeat, quiet_release_all, quiet_output, quiet_finish}
use Rattle.line_laws.proofs.LiveWorkers.{folded, folded_append, live_in, SameSet, found_without, same_without, same_started, to_live}
use Rattle.line_laws.proofs.LiveLines.{LineMade, Whole, Cut, line_made, IsLive, IsNoWorker, IsPlainCall, after_calls, plain_calls, plain_folded, cut_folded, struck_fault, map_both, other_line, work_line, note_line}

-- ---- courses with notes after them

notes_answer : {A : Type 0} (line : ℕ) (party : Party) (notes : List Event) (answer : A) (store : Store) → answer_made line party (calls_each notes (Ends answer)) store ≡ answer
notes_answer line party [] answer store = refl
notes_answer line party (note ∷ notes) answer store = notes_answer line party notes answer _

pub then_notes : {A B : Type 0} (line : ℕ) (party : Party) (step : Course A) (notes : A → List Event) (ends : A → B) (store : Store) → answer_made line party (then_course step (λ end. calls_each (notes end) (Ends (ends end)))) store ≡ ends (answer_made line party step store)
then_notes line party (Ends answer) notes ends store = notes_answer line party (notes answer) (ends answer) store
then_notes line party (Calls x next) notes ends store = then_notes line party (next store) notes ends (after_answered line party x store)

-- A step and then a note, whatever the step answers.
then_killed : {A B : Type 0} (line : ℕ) (party : Party) (step : Course A) (note : Party) (ends : A → B) (store : Store)
    → calls_made line party (then_course step (λ end. calls_each (Kill note ∷ []) (Ends (ends end)))) store ≡ calls_made line party step store ++ (Kill note, Done 0) ∷ []
then_killed line party (Ends answer) note ends store = refl
then_killed line party (Calls x next) note ends store = ap (λ (cs : List Answered). (event_of x store, answer_of x store) ∷ cs) (then_killed line party (next store) note ends (after_answered line party x store))

quiet_then : {A B : Type 0} (step : Course A) (ends : A → B) → AreQuiet step → AreQuiet (then_course step (λ end. Ends (ends end)))
quiet_then (Ends answer) ends quiet = tt
quiet_then (Calls x next) ends quiet = (quiet.0, λ met. quiet_then (next met) ends (quiet.1 met))

-- ---- lines of other parties

-- However a step ends, the workers are these.
end_workers : {A : Type 0} (ws : List LiveWorker) (spell : A → List ℕ) (reported : A → Parties) (refused : Parties) (end : StepEnd A) → ((report : A) → (reported report).workers ≡ ws) → refused.workers ≡ ws → (line_end spell reported refused end).parties.workers ≡ ws
end_workers ws spell reported refused (Reports report) h k = h report
end_workers ws spell reported refused end h k = k

-- A line of a party that is no worker, with notes after its step.
noted_other : {A : Type 0} (number : ℕ) (s : State) (party : Party) (step : Course (StepEnd A)) (notes : StepEnd A → List Event) (spell : A → List ℕ) (reported : A → Parties) (refused struck : Parties) (answer : List ℕ) (new : State)
    → run_line number s (noted_line party step notes (line_end spell reported refused) struck) ≡ (answer, new) → IsNoWorker party → ((report : A) → (reported report).workers ≡ s.parties.workers) → refused.workers ≡ s.parties.workers → struck.workers ≡ s.parties.workers → IsLive s → IsLive new
noted_other number s party step notes spell reported refused struck answer new is none h k l live =
    other_line number s (noted_line party step notes (line_end spell reported refused) struck) answer new is none
    (ap (λ (e : LineEnd). e.parties.workers) (then_notes number party step notes (line_end spell reported refused) s.store) ∙ end_workers s.parties.workers spell reported refused (answer_made number party step s.store) h k) l live

refused_live : (number : ℕ) (s : State) (answer : List ℕ) (new : State) → run_line number s (no_such_party s) ≡ (answer, new) → IsLive s → IsLive new
refused_live number s answer new is live = other_line number s (no_such_party s) answer new is tt refl refl live

polls_live : (inputs : Inputs) (number : ℕ) (commits_only : Bool) (spell : PollState → List ℕ) (n : ℕ) (s : State) (answer : List ℕ) (new : State) → run_line number s (polls commits_only spell inputs n s) ≡ (answer, new) → IsLive s → IsLive new
polls_live inputs number commits_only spell n s answer new is live = by (coordinator_with n s.parties) is
  where
    by : (o : Option LiveCoordinator)
        → run_line number s (if_some o (no_such_party s) (λ c. step_line (Coordinator n) (poll (poll_ask inputs s c commits_only)) (line_end spell (λ reached. s.parties) (without_coordinator n s.parties)) (without_coordinator n s.parties))) ≡ (answer, new) → IsLive new
    by None is = refused_live number s answer new is live
    by (Some c) is = noted_other number s (Coordinator n) (poll (poll_ask inputs s c commits_only)) (λ end. []) spell (λ reached. s.parties) (without_coordinator n s.parties) (without_coordinator n s.parties) answer new is tt (λ report. refl) refl refl live

-- ---- lines of workers

is_there : (n : ℕ) (parties : Parties) (w : LiveWorker) → worker_with n parties ≡ Some w → is_some (worker_with w.number parties) ≡ true
is_there n parties w e =
    let f = found (λ (v : LiveWorker). n == v.number) parties.workers w e in
    ap (λ (m : ℕ). is_some (worker_with m parties)) (sym ((Decides-eqb n w.number).0 f.passes)) ∙ ap is_some e

-- After a line of a live worker whose step makes no note, the live workers are still those of the history.
step_work : {A : Type 0} (number : ℕ) (s : State) (w : LiveWorker) (step : Course (StepEnd A)) (spell : A → List ℕ) (reported : A → List Attempt) (refused : List Attempt) (answer : List ℕ) (new : State)
    → run_line number s (worker_line w s step spell reported refused) ≡ (answer, new) → AreQuiet step → is_some (worker_with w.number s.parties) ≡ true → IsLive s → IsLive new
step_work {A} number s w step spell reported refused answer new is quiet there live =
    work_line number s w (then_course step (λ end. Ends (ends end))) answer new is (quiet_then step ends quiet) (parties_of (answer_made number (Worker w.number) step s.store) (then_ends number (Worker w.number) step ends s.store).answer_is) there live
  where
    ends : StepEnd A → LineEnd
    ends = line_end spell (λ report. parties_running w s (reported report)) (parties_running w s refused)

    parties_of : (end : StepEnd A) → answer_made number (Worker w.number) (then_course step (λ end. Ends (ends end))) s.store ≡ ends end
        → (attempts : List Attempt) × ((answer_made number (Worker w.number) (then_course step (λ end. Ends (ends end))) s.store).parties ≡ with_worker (record w { attempts = attempts }) s.parties)
    parties_of (Reports report) e = (reported report, ap (λ (l : LineEnd). l.parties) e)
    parties_of end e = (refused, ap (λ (l : LineEnd). l.parties) e)

-- The worker that runs a job is live.
job_live : (s : State) (n job : ℕ) (p : LiveWorker × Attempt) → job_at s n job ≡ Some p → is_some (worker_with p.0.number s.parties) ≡ true
job_live s n job p e = by (worker_with n s.parties) refl e
  where
    inner : (w : LiveWorker) → worker_with n s.parties ≡ Some w → (o : Option Attempt) → if_some o None (λ a. Some (w, a)) ≡ Some p → is_some (worker_with p.0.number s.parties) ≡ true
    inner w there None e = absurd (cc e)
    inner w there (Some a) e = subst (λ (v : LiveWorker). is_some (worker_with v.number s.parties) ≡ true) (same e) (is_there n s.parties w there)
      where
        same : Some (w, a) ≡ Some p → w ≡ p.0
        same e = let pair : (w, a) ≡ p = cc e in ap (λ (q : LiveWorker × Attempt). q.0) pair

    by : (o : Option LiveWorker) → worker_with n s.parties ≡ o → if_some o None (λ w. if_some (attempt_numbered job w.attempts) None (λ a. Some (w, a))) ≡ Some p → is_some (worker_with p.0.number s.parties) ≡ true
    by None there e = absurd (cc e)
    by (Some w) there e = inner w there (attempt_numbered job w.attempts) e

-- The worker of a range that a line names is live.
range_live : (s : State) (n job place : ℕ) (q : LiveWorker × Attempt × (Range × List ℕ)) → range_at s n job place ≡ Some q → is_some (worker_with q.0.number s.parties) ≡ true
range_live s n job place q e = by (job_at s n job) refl e
  where
    inner : (p : LiveWorker × Attempt) → job_at s n job ≡ Some p → (o : Option (Range × List ℕ)) → if_some o None (λ range. Some (p.0, p.1, range)) ≡ Some q → is_some (worker_with q.0.number s.parties) ≡ true
    inner p there None e = absurd (cc e)
    inner p there (Some range) e = subst (λ (v : LiveWorker). is_some (worker_with v.number s.parties) ≡ true) (same e) (job_live s n job p there)
      where
        same : Some (p.0, p.1, range) ≡ Some q → p.0 ≡ q.0
        same e = let pair : (p.0, p.1, range) ≡ q = cc e in ap (λ (r : LiveWorker × Attempt × (Range × List ℕ)). r.0) pair

    by : (o : Option (LiveWorker × Attempt)) → job_at s n job ≡ o → if_some o None (λ found. if_some (slice_get found.1.context.ranges (place - 1)) None (λ range. Some (found.0, found.1, range))) ≡ Some q → is_some (worker_with q.0.number s.parties) ≡ true
    by None there e = absurd (cc e)
    by (Some p) there e = inner p there (slice_get p.1.context.ranges (place - 1)) e

-- A worker that is not live is none of the others.
same_absent : (n : ℕ) (ws : List ℕ) (parties : Parties) → SameSet ws parties → is_some (worker_with n parties) ≡ false → SameSet ws (without_worker n parties)
same_absent n ws parties same gone m = same m ∙ by (n == m) refl ∙ sym (found_without n m parties.workers)
  where
    by : (b : Bool) → (n == m) ≡ b → is_some (worker_with m parties) ≡ cond b false (is_some (worker_with m parties))
    by true e = ap (λ (k : ℕ). is_some (worker_with k parties)) (sym ((Decides-eqb n m).0 e)) ∙ gone
    by false e = refl

start_live : (number n : ℕ) (release : Option ℕ) (s : State) (answer : List ℕ) (new : State) → run_line number s (start_worker n release s) ≡ (answer, new) → IsLive s → IsLive new
start_live number n release s answer new is live = by (is_some (worker_with n s.parties)) refl is
  where
    w : LiveWorker
    w = record { number = n; release = release_named release; attempts = [] }

    by : (b : Bool) → is_some (worker_with n s.parties) ≡ b → run_line number s (only_notes (Worker n) (killed_first b (Worker n) ++ Start (Worker n) ∷ []) s (with_worker w s.parties)) ≡ (answer, new) → IsLive new
    by true e is = note_line number n s (calls_each (Kill (Worker n) ∷ Start (Worker n) ∷ []) (Ends (record { reply = ok; parties = with_worker w s.parties }))) ((Kill (Worker n), Done 0) ∷ (Start (Worker n), Done 0) ∷ []) (with_worker w s.parties) answer new is refl (refl, (refl, tt)) refl
        (same_started w (filter (λ v. not (n == v)) (live_in s.store.history)) s.parties (same_without n (live_in s.store.history) s.parties live))
    by false e is = note_line number n s (calls_each (Start (Worker n) ∷ []) (Ends (record { reply = ok; parties = with_worker w s.parties }))) ((Start (Worker n), Done 0) ∷ []) (with_worker w s.parties) answer new is refl (refl, tt) refl (same_started w (live_in s.store.history) s.parties (same_absent n (live_in s.store.history) s.parties live e))

kill_live : (number n : ℕ) (s : State) (answer : List ℕ) (new : State) → run_line number s (kill_worker n s) ≡ (answer, new) → IsLive s → IsLive new
kill_live number n s answer new is live = by (worker_with n s.parties) is
  where
    by : (o : Option LiveWorker) → run_line number s (if_some o (no_such_party s) (λ w. only_notes (Worker n) (Kill (Worker n) ∷ []) s (without_worker n s.parties))) ≡ (answer, new) → IsLive new
    by None is = refused_live number s answer new is live
    by (Some w) is = note_line number n s (calls_each (Kill (Worker n) ∷ []) (Ends (record { reply = ok; parties = without_worker n s.parties }))) ((Kill (Worker n), Done 0) ∷ []) (without_worker n s.parties) answer new is refl (refl, tt) refl (same_without n (live_in s.store.history) s.parties live)

pub front_plain : (P : Answered → Type 0) (xs : List Answered) (y : Answered) (before : List Answered) (z : Answered) (after : List Answered) → AllByRecursion P xs → xs ++ y ∷ [] ≡ before ++ z ∷ after → AllByRecursion P before
front_plain P xs y [] z after all e = tt
front_plain P [] y (b ∷ before) z after all e = absurd (never before (cc e))
  where
    never : (before : List Answered) → [] ≡ before ++ z ∷ after → ⊥
    never [] e = absurd (cc e)
    never (c ∷ before) e = absurd (cc e)
front_plain P (x ∷ xs) y (b ∷ before) z after all e = (subst P (cc e) all.0, front_plain P xs y before z after all.1 (cc e))

-- After a line that stops a worker, the live workers are still those of the history.
stop_live : (number n : ℕ) (s : State) (answer : List ℕ) (new : State) → run_line number s (stop_worker n s) ≡ (answer, new) → IsLive s → IsLive new
stop_live number n s answer new is live = by (worker_with n s.parties) is
  where
    others : Parties
    others = without_worker n s.parties

    ws : List ℕ
    ws = live_in s.store.history

    gone : SameSet (filter (λ v. not (n == v)) ws) others
    gone = same_without n ws s.parties live

    at : (w : LiveWorker) (ends : StepEnd (List ℕ) → LineEnd) → ((end : StepEnd (List ℕ)) → (ends end).parties ≡ others) → run_line number s (noted_line (Worker n) (release_all w) (λ end. Kill (Worker n) ∷ []) ends others) ≡ (answer, new) → IsLive new
    at w ends left is = made (line_made number s c answer new is)
      where
        c : LineCourse
        c = noted_line (Worker n) (release_all w) (λ end. Kill (Worker n) ∷ []) ends others

        plain : AllByRecursion IsPlainCall (calls_made number (Worker n) (release_all w) s.store)
        plain = plain_calls number (Worker n) (release_all w) s.store (quiet_release_all w)

        calls : calls_made number (Worker n) c.course s.store ≡ calls_made number (Worker n) (release_all w) s.store ++ (Kill (Worker n), Done 0) ∷ []
        calls = then_killed number (Worker n) (release_all w) (Worker n) ends s.store

        made : LineMade number s c new → IsLive new
        made (Whole history parties) =
            subst (λ (vs : List ℕ). SameSet vs new.parties)
            (sym (after_calls number (Worker n) s new (calls_made number (Worker n) c.course s.store) history
            ∙ ap (λ (cs : List Answered). folded ws (map (entry_of number (Worker n)) cs)) calls
            ∙ ap (folded ws) (map_both number (Worker n) (calls_made number (Worker n) (release_all w) s.store) ((Kill (Worker n), Done 0) ∷ []))
            ∙ folded_append ws (map (entry_of number (Worker n)) (calls_made number (Worker n) (release_all w) s.store)) (entry_of number (Worker n) (Kill (Worker n), Done 0) ∷ [])
            ∙ ap (filter (λ v. not (n == v))) (plain_folded number n (calls_made number (Worker n) (release_all w) s.store) ws plain)))
            (subst (SameSet (filter (λ v. not (n == v)) ws)) (sym (parties ∙ ap (λ (e : LineEnd). e.parties) (then_notes number (Worker n) (release_all w) (λ end. Kill (Worker n) ∷ []) ends s.store) ∙ left (answer_made number (Worker n) (release_all w) s.store))) gone)
        made (Cut before event given after counts whole history parties) =
            subst (λ (vs : List ℕ). SameSet vs new.parties)
            (sym (after_calls number (Worker n) s new (before ++ (event, struck_answer (does_stand s.fault) given) ∷ []) history
            ∙ cut_folded number n before event (struck_answer (does_stand s.fault) given) ws (front_plain IsPlainCall (calls_made number (Worker n) (release_all w) s.store) (Kill (Worker n), Done 0) before (event, given) after plain (sym calls ∙ whole)) (struck_fault (does_stand s.fault) given)))
            (subst (SameSet (filter (λ v. not (n == v)) ws)) (sym parties) gone)

    same_end : (spell : List ℕ → List ℕ) (end : StepEnd (List ℕ)) → (line_end spell (λ jobs. others) others end).parties ≡ others
    same_end spell (Reports jobs) = refl
    same_end spell end = refl

    spelt : List ℕ → List ℕ
    spelt jobs = reply (codes "ok" ∷ codes "released" ∷ jobs_text jobs ∷ [])

    by : (o : Option LiveWorker) → run_line number s (if_some o (no_such_party s) (λ w. noted_line (Worker n) (release_all w) (λ end. Kill (Worker n) ∷ []) (line_end spelt (λ jobs. others) others) others)) ≡ (answer, new) → IsLive new
    by None is = refused_live number s answer new is live
    by (Some w) is = at w (line_end spelt (λ jobs. others) others) (same_end spelt) is

-- ---- all lines

claim_live : (number n : ℕ) (s : State) (answer : List ℕ) (new : State) → run_line number s (claim_line n s) ≡ (answer, new) → IsLive s → IsLive new
claim_live number n s answer new is live = by (worker_with n s.parties) refl is
  where
    by : (o : Option LiveWorker) → worker_with n s.parties ≡ o → run_line number s (if_some o (no_such_party s) (λ w. worker_line w s (claim (worker_options s.options) s.moment w) (λ r. claim_reply r.begun r.stopped) (λ r. r.attempts) w.attempts)) ≡ (answer, new) → IsLive new
    by None e is = refused_live number s answer new is live
    by (Some w) e is = step_work number s w (claim (worker_options s.options) s.moment w) (λ r. claim_reply r.begun r.stopped) (λ r. r.attempts) w.attempts answer new is (quiet_claim (worker_options s.options) s.moment w) (is_there n s.parties w e) live

beat_live : (number n : ℕ) (s : State) (answer : List ℕ) (new : State) → run_line number s (heartbeat_line n s) ≡ (answer, new) → IsLive s → IsLive new
beat_live number n s answer new is live = by (worker_with n s.parties) refl is
  where
    by : (o : Option LiveWorker) → worker_with n s.parties ≡ o → run_line number s (if_some o (no_such_party s) (λ w. worker_line w s (heartbeat s.moment w) (λ r. beat_reply r.beat r.not_owner) (λ r. r.attempts) w.attempts)) ≡ (answer, new) → IsLive new
    by None e is = refused_live number s answer new is live
    by (Some w) e is = step_work number s w (heartbeat s.moment w) (λ r. beat_reply r.beat r.not_owner) (λ r. r.attempts) w.attempts answer new is (quiet_heartbeat s.moment w) (is_there n s.parties w e) live

output_live : (inputs : Inputs) (number n job place rows : ℕ) (refusal : Option (List ℕ)) (s : State) (answer : List ℕ) (new : State)
    → run_line number s (if_some (range_at s n job place) (no_such_party s) (λ found. output_line inputs s (output_asked s place rows refusal found))) ≡ (answer, new) → IsLive s → IsLive new
output_live inputs number n job place rows refusal s answer new is live = by (range_at s n job place) refl is
  where
    by : (o : Option (LiveWorker × Attempt × (Range × List ℕ))) → range_at s n job place ≡ o → run_line number s (if_some o (no_such_party s) (λ found. output_line inputs s (output_asked s place rows refusal found))) ≡ (answer, new) → IsLive new
    by None e is = refused_live number s answer new is live
    by (Some q) e is = step_work number s q.0 (output inputs.merge s.store.tables (output_asked s place rows refusal q)) (λ r. output_reply r.table) (λ r. r.attempts) (without_attempt q.0 q.1) answer new is
        (quiet_output inputs.merge s.store.tables (output_asked s place rows refusal q)) (range_live s n job place q e) live

finish_live : (inputs : Inputs) (number n job : ℕ) (refusal : Option (List ℕ)) (s : State) (answer : List ℕ) (new : State)
    → run_line number s (if_some (job_at s n job) (no_such_party s) (λ found. finish_line inputs s (finish_asked s refusal found))) ≡ (answer, new) → IsLive s → IsLive new
finish_live inputs number n job refusal s answer new is live = by (job_at s n job) refl is
  where
    by : (o : Option (LiveWorker × Attempt)) → job_at s n job ≡ o → run_line number s (if_some o (no_such_party s) (λ found. finish_line inputs s (finish_asked s refusal found))) ≡ (answer, new) → IsLive new
    by None e is = refused_live number s answer new is live
    by (Some p) e is = step_work number s p.0 (finish inputs.merge s.store.tables (finish_asked s refusal p)) (λ r. reply (codes "ok" ∷ ranges_text r.outputs ∷ [])) (λ r. r.attempts) (without_attempt p.0 p.1) answer new is
        (quiet_finish inputs.merge s.store.tables (finish_asked s refusal p)) (job_live s n job p e) live

start_coordinator_live : (number n : ℕ) (s : State) (answer : List ℕ) (new : State) → run_line number s (start_coordinator n s) ≡ (answer, new) → IsLive s → IsLive new
start_coordinator_live number n s answer new is live =
    noted_other number s (Coordinator n) (calls_each (killed_first (is_some (coordinator_with n s.parties)) (Coordinator n)) start) (start_notes n) (λ epoch. reply (codes "ok" ∷ codes "epoch" ∷ decimal epoch ∷ []))
    (λ epoch. with_coordinator (record { number = n; epoch = epoch }) s.parties) (without_coordinator n s.parties) (without_coordinator n s.parties) answer new is tt (λ report. refl) refl refl live

end_live : (number n : ℕ) (s : State) (answer : List ℕ) (new : State) → run_line number s (end_coordinator n s) ≡ (answer, new) → IsLive s → IsLive new
end_live number n s answer new is live = by (coordinator_with n s.parties) is
  where
    by : (o : Option LiveCoordinator) → run_line number s (if_some o (no_such_party s) (λ c. only_notes (Coordinator n) (Kill (Coordinator n) ∷ []) s (without_coordinator n s.parties))) ≡ (answer, new) → IsLive new
    by None is = refused_live number s answer new is live
    by (Some c) is = other_line number s (only_notes (Coordinator n) (Kill (Coordinator n) ∷ []) s (without_coordinator n s.parties)) answer new is tt refl refl live

submits_live : (number : ℕ) (s : State) (word : List ℕ) (step : Course (StepEnd (List ℕ))) (answer : List ℕ) (new : State) → run_line number s (submits s word step) ≡ (answer, new) → IsLive s → IsLive new
submits_live number s word step answer new is live = noted_other number s Submitter step (λ end. []) (λ jobs. reply (codes "ok" ∷ word ∷ jobs_text jobs ∷ [])) (λ jobs. s.parties) s.parties s.parties answer new is tt (λ report. refl) refl refl live

sweep_live : (number : ℕ) (s : State) (answer : List ℕ) (new : State) → run_line number s (sweep_line s) ≡ (answer, new) → IsLive s → IsLive new
sweep_live number s answer new is live = other_line number s (sweep_line s) answer new is tt
    (ap (λ (e : LineEnd). e.parties.workers) (then_ends number Sweeper (sweep (pinned_tables s.parties)) (λ tables. record { reply = reply (codes "ok" ∷ tables_text (by_number tables) ∷ []); parties = s.parties }) s.store).answer_is) refl live

-- After each course of a line, the live workers are still those of the history.
course_live : (inputs : Inputs) (number : ℕ) (line : Line) (refusal : Option (List ℕ)) (s : State) (answer : List ℕ) (new : State) → run_line number s (course_of inputs line refusal s) ≡ (answer, new) → IsLive s → IsLive new
unfolding course_of
course_live inputs number (StartCoordinator n) refusal s answer new is live = start_coordinator_live number n s answer new is live
course_live inputs number (StartWorker n release) refusal s answer new is live = start_live number n release s answer new is live
course_live inputs number (KillCoordinator n) refusal s answer new is live = end_live number n s answer new is live
course_live inputs number (KillWorker n) refusal s answer new is live = kill_live number n s answer new is live
course_live inputs number (StopCoordinator n) refusal s answer new is live = end_live number n s answer new is live
course_live inputs number (StopWorker n) refusal s answer new is live = stop_live number n s answer new is live
course_live inputs number (FlushRows name segment floor tick rows) refusal s answer new is live = noted_other number s Writer
    (flush s.moment s.options.retention (last_name s.store.history) (record { name = name; segment = segment; floor = floor; tick = tick; rows = rows })) (λ end. []) (λ done. ok) (λ done. s.parties) s.parties s.parties answer new is tt (λ report. refl) refl refl live
course_live inputs number (SubmitJob segment destination sources) refusal s answer new is live = submits_live number s (codes "job") (submit s.moment (record { segment = segment; sources = sources; destination = Some destination } ∷ [])) answer new is live
course_live inputs number (SubmitDrain segment sources) refusal s answer new is live = submits_live number s (codes "job") (submit s.moment (record { segment = segment; sources = sources; destination = None } ∷ [])) answer new is live
course_live inputs number (SubmitFull segment) refusal s answer new is live = submits_live number s (codes "jobs") (submit_request s.moment inputs.scheduler (request_of segment)) answer new is live
course_live inputs number (Poll n) refusal s answer new is live = polls_live inputs number false poll_reply n s answer new is live
course_live inputs number (CommitOnly n) refusal s answer new is live = polls_live inputs number true commit_reply n s answer new is live
course_live inputs number (ClaimJobs n) refusal s answer new is live = claim_live number n s answer new is live
course_live inputs number (Heartbeat n) refusal s answer new is live = beat_live number n s answer new is live
course_live inputs number (Output n job place rows) refusal s answer new is live = output_live inputs number n job place rows refusal s answer new is live
course_live inputs number (FinishJob n job) refusal s answer new is live = finish_live inputs number n job refusal s answer new is live
course_live inputs number Sweep refusal s answer new is live = sweep_live number s answer new is live
course_live inputs number line refusal s answer new is live = other_line number s (course_of inputs line refusal s) answer new is tt refl refl live

prepared_live : (line : Line) (s : State) → IsLive s → IsLive (prepared_state line s)
prepared_live (Options timeout concurrent slots ranges table_size moves retention) s live = live
prepared_live (Clock moment) s live = live
prepared_live (SetFault k stands) s live = live
prepared_live line s live = live

one_live : (inputs : Inputs) (number : ℕ) (old : State) (line : Line) (answer : List ℕ) (new : State) → OneCourse inputs number old line answer new → IsLive old → IsLive new
one_live inputs number old line answer new one live =
    course_live inputs number line one.does.refusal (prepared_state line old) answer new (ap (run_line number (prepared_state line old)) (sym one.does.is) ∙ one.ends) (prepared_live line old live)

steps_live : (inputs : Inputs) (number : ℕ) (old : State) (steps : List Line) (answer : List ℕ) (new : State) → StepsRun inputs number old steps answer new → IsLive old → IsLive new
steps_live inputs number old [] answer new same live = subst IsLive (sym same) live
steps_live inputs number old (step ∷ others) answer new (replied, mid, one, stops, more) live = steps_live inputs number mid others answer new more (one_live inputs number old step replied mid one live)

line_live : (inputs : Inputs) (number : ℕ) (old : State) (line : Line) (answer : List ℕ) (new : State) → LineStep inputs number old line answer new → IsLive old → IsLive new
line_live inputs number old (Settle coordinator worker rounds) answer new step live =
    let s = settle_steps (are_live coordinator worker old) inputs number old coordinator worker rounds answer new step in steps_live inputs number old s.steps answer new s.run live
line_live inputs number old (Together workers turns) answer new step live = absurd step
line_live inputs number old line answer new step live = one_live inputs number old line answer new step live

run_live : (inputs : Inputs) (number : ℕ) (old : State) (lines : List Line) (answers : List (List ℕ)) (new : State) → ScriptRun inputs number old lines answers new → IsLive old → IsLive new
run_live inputs number old [] [] new same live = subst IsLive (sym same) live
run_live inputs number old (line ∷ lines) (answer ∷ answers) new (mid, step, rest) live = run_live inputs (number + 1) mid lines answers new rest (line_live inputs number old line answer mid step live)
run_live inputs number old [] (answer ∷ answers) new run live = absurd run
run_live inputs number old (line ∷ lines) [] new run live = absurd run

pub live_workers : LiveWorkers
live_workers inputs lines last run = to_live last (run_live inputs 1 (fresh_state run.options) lines run.answers last run.run (λ n. refl))
