-- The coordinators are live as the history says after each line of a script.
use Rattle.std.proofs.Common.{◌≡◌, refl, sym, ◌∙◌, ap, subst, ℕ, ◌+◌, List, [], ◌∷◌, ◌++◌, Bool, true, false, Option, Some, None, arith}
use Rattle.std.specs.Prelude.{codes, is_some}
use Rattle.std.specs.List.{AllByRecursion}
use Rattle.row_model.specs.Fold.{IsLawful}
use Rattle.row_model.specs.Ranges.{Range}
use Rattle.fleet_model.specs.History.{Writer, Submitter, Sweeper, Worker, Start, Kill}
use Rattle.fleet_model.specs.Work.Parties.{Attempt, LiveWorker, Parties, worker_with, without_worker, with_worker}
use Rattle.fleet_model.specs.Past.Replay.{IsReplayed}
use Rattle.fleet_model.specs.Sweeps.{pinned_tables}
use Rattle.step_model.specs.Courses.Course.{Course}
use Rattle.step_model.specs.Courses.StepEnds.{StepEnd}
use Rattle.step_model.specs.Steps.BeatSteps.{heartbeat, release_all}
use Rattle.step_model.specs.Steps.ClaimSteps.{claim}
use Rattle.step_model.specs.Entries.{last_name}
use Rattle.step_model.specs.Steps.FinishSteps.{finish}
use Rattle.step_model.specs.Steps.FlushSteps.{flush}
use Rattle.step_model.specs.Steps.OutputSteps.{output}
use Rattle.step_model.specs.Steps.SubmitSteps.{submit, submit_request}
use Rattle.step_model.specs.Steps.SweepSteps.{sweep}
use Rattle.script_model.specs.Follows.{LineStep, ScriptRun}
use Rattle.script_model.specs.LineCourses.{prepared_state, course_of, job_at, range_at}
use Rattle.script_model.specs.LineRuns.{LineEnd, run_line, no_such_party, if_some, noted_line, line_end}
use Rattle.script_model.specs.LineSteps.{OneCourse}
use Rattle.script_model.specs.Replies.{ok, reply, jobs_text, output_reply, claim_reply, beat_reply, ranges_text, tables_text}
use Rattle.script_model.specs.Script.{Line, Options, Clock, StartCoordinator, StartWorker, KillCoordinator, KillWorker, StopCoordinator, StopWorker, FlushRows, SubmitJob, SubmitDrain, SubmitFull, Poll, CommitOnly, ClaimJobs, Heartbeat, Output, FinishJob, SetFault, Sweep, Settle, Together, IsInBounds}
use Rattle.script_model.specs.Lines.Settles.{are_live}
use Rattle.script_model.specs.Lines.Starts.{killed_first, only_notes, release_named, kill_worker, start_worker}
use Rattle.script_model.specs.States.{Inputs, State, fresh_state}
use Rattle.script_model.specs.Lines.Submits.{submits, request_of}
use Rattle.script_model.specs.Lines.Sweeps.{sweep_line, by_number}
use Rattle.script_model.specs.Lines.WorkLines.{worker_options, worker_line, parties_running, claim_line, heartbeat_line, output_asked, output_line, finish_asked, finish_line, without_attempt, stop_worker}
use Rattle.line_laws.specs.Alone.{HadRoom}
use Rattle.line_laws.specs.Live.{CoordinatorsAreLive, LiveCoordinators}
use Rattle.line_laws.specs.Ran.{StepsRan}
use Rattle.line_laws.specs.States.{StateKeeps}
use Rattle.line_laws.proofs.CoordinatorLines.{other_line, noted_other, refused_live, end_live, start_live, poll_live}
use Rattle.line_laws.proofs.PollCalls.{called, then_ends}
use Rattle.line_laws.proofs.Scripts.{fresh_state_keeps, line_leads, run_leads, settle_steps, steps_lead}

-- ---- lines of other parties

work_line : {A : Type 0} (number : ℕ) (s : State) (w : LiveWorker) (step : Course (StepEnd A)) (spell : A → List ℕ) (reported : A → List Attempt) (refused : List Attempt) (answer : List ℕ) (new : State) → run_line number s (worker_line w s step spell reported refused) ≡ (answer, new) → CoordinatorsAreLive s
    → CoordinatorsAreLive new
work_line number s w step spell reported refused answer new is live =
    noted_other number s (Worker w.number) step (λ end. []) spell (λ report. parties_running w s (reported report)) (parties_running w s refused) (without_worker w.number s.parties) answer new is tt (λ report. refl) refl refl live

kill_live : (number n : ℕ) (s : State) (answer : List ℕ) (new : State) → run_line number s (kill_worker n s) ≡ (answer, new) → CoordinatorsAreLive s → CoordinatorsAreLive new
kill_live number n s answer new is live = by (worker_with n s.parties) is
  where
    by : (o : Option LiveWorker) → run_line number s (if_some o (no_such_party s) (λ w. only_notes (Worker n) (Kill (Worker n) ∷ []) s (without_worker n s.parties))) ≡ (answer, new) → CoordinatorsAreLive new
    by None is = refused_live number s answer new is live
    by (Some w) is = other_line number s (only_notes (Worker n) (Kill (Worker n) ∷ []) s (without_worker n s.parties)) answer new is tt refl refl live

start_worker_live : (number n : ℕ) (release : Option ℕ) (s : State) (answer : List ℕ) (new : State) → run_line number s (start_worker n release s) ≡ (answer, new) → CoordinatorsAreLive s → CoordinatorsAreLive new
start_worker_live number n release s answer new is live = by (is_some (worker_with n s.parties)) is
  where
    parties : Parties
    parties = with_worker (record { number = n; release = release_named release; attempts = [] }) s.parties

    by : (b : Bool) → run_line number s (only_notes (Worker n) (killed_first b (Worker n) ++ Start (Worker n) ∷ []) s parties) ≡ (answer, new) → CoordinatorsAreLive new
    by true is = other_line number s (only_notes (Worker n) (killed_first true (Worker n) ++ Start (Worker n) ∷ []) s parties) answer new is tt refl refl live
    by false is = other_line number s (only_notes (Worker n) (killed_first false (Worker n) ++ Start (Worker n) ∷ []) s parties) answer new is tt refl refl live

-- After a line that stops a worker, the live coordinators are still those of the history.
stop_live : (number n : ℕ) (s : State) (answer : List ℕ) (new : State) → run_line number s (stop_worker n s) ≡ (answer, new) → CoordinatorsAreLive s → CoordinatorsAreLive new
stop_live number n s answer new is live = by (worker_with n s.parties) is
  where
    others : Parties
    others = without_worker n s.parties

    spelt : List ℕ → List ℕ
    spelt jobs = reply (codes "ok" ∷ codes "released" ∷ jobs_text jobs ∷ [])

    by : (o : Option LiveWorker) → run_line number s (if_some o (no_such_party s) (λ w. noted_line (Worker n) (release_all w) (λ end. Kill (Worker n) ∷ []) (line_end spelt (λ jobs. others) others) others)) ≡ (answer, new) → CoordinatorsAreLive new
    by None is = refused_live number s answer new is live
    by (Some w) is = noted_other number s (Worker n) (release_all w) (λ end. Kill (Worker n) ∷ []) spelt (λ jobs. others) others others answer new is tt (λ report. refl) refl refl live

claim_live : (number n : ℕ) (s : State) (answer : List ℕ) (new : State) → run_line number s (claim_line n s) ≡ (answer, new) → CoordinatorsAreLive s → CoordinatorsAreLive new
claim_live number n s answer new is live = by (worker_with n s.parties) is
  where
    by : (o : Option LiveWorker) → run_line number s (if_some o (no_such_party s) (λ w. worker_line w s (claim (worker_options s.options) s.moment w) (λ r. claim_reply r.begun r.stopped) (λ r. r.attempts) w.attempts)) ≡ (answer, new) → CoordinatorsAreLive new
    by None is = refused_live number s answer new is live
    by (Some w) is = work_line number s w (claim (worker_options s.options) s.moment w) (λ r. claim_reply r.begun r.stopped) (λ r. r.attempts) w.attempts answer new is live

beat_live : (number n : ℕ) (s : State) (answer : List ℕ) (new : State) → run_line number s (heartbeat_line n s) ≡ (answer, new) → CoordinatorsAreLive s → CoordinatorsAreLive new
beat_live number n s answer new is live = by (worker_with n s.parties) is
  where
    by : (o : Option LiveWorker) → run_line number s (if_some o (no_such_party s) (λ w. worker_line w s (heartbeat s.moment w) (λ r. beat_reply r.beat r.not_owner) (λ r. r.attempts) w.attempts)) ≡ (answer, new) → CoordinatorsAreLive new
    by None is = refused_live number s answer new is live
    by (Some w) is = work_line number s w (heartbeat s.moment w) (λ r. beat_reply r.beat r.not_owner) (λ r. r.attempts) w.attempts answer new is live

output_live : (inputs : Inputs) (number n job place rows : ℕ) (refusal : Option (List ℕ)) (s : State) (answer : List ℕ) (new : State)
    → run_line number s (if_some (range_at s n job place) (no_such_party s) (λ found. output_line inputs s (output_asked s place rows refusal found))) ≡ (answer, new) → CoordinatorsAreLive s → CoordinatorsAreLive new
output_live inputs number n job place rows refusal s answer new is live = by (range_at s n job place) is
  where
    by : (o : Option (LiveWorker × Attempt × (Range × List ℕ))) → run_line number s (if_some o (no_such_party s) (λ found. output_line inputs s (output_asked s place rows refusal found))) ≡ (answer, new) → CoordinatorsAreLive new
    by None is = refused_live number s answer new is live
    by (Some q) is = work_line number s q.0 (output inputs.merge s.store.tables (output_asked s place rows refusal q)) (λ r. output_reply r.table) (λ r. r.attempts) (without_attempt q.0 q.1) answer new is live

finish_live : (inputs : Inputs) (number n job : ℕ) (refusal : Option (List ℕ)) (s : State) (answer : List ℕ) (new : State)
    → run_line number s (if_some (job_at s n job) (no_such_party s) (λ found. finish_line inputs s (finish_asked s refusal found))) ≡ (answer, new) → CoordinatorsAreLive s → CoordinatorsAreLive new
finish_live inputs number n job refusal s answer new is live = by (job_at s n job) is
  where
    by : (o : Option (LiveWorker × Attempt)) → run_line number s (if_some o (no_such_party s) (λ found. finish_line inputs s (finish_asked s refusal found))) ≡ (answer, new) → CoordinatorsAreLive new
    by None is = refused_live number s answer new is live
    by (Some p) is = work_line number s p.0 (finish inputs.merge s.store.tables (finish_asked s refusal p)) (λ r. reply (codes "ok" ∷ ranges_text r.outputs ∷ [])) (λ r. r.attempts) (without_attempt p.0 p.1) answer new is live

submits_live : (number : ℕ) (s : State) (word : List ℕ) (step : Course (StepEnd (List ℕ))) (answer : List ℕ) (new : State) → run_line number s (submits s word step) ≡ (answer, new) → CoordinatorsAreLive s → CoordinatorsAreLive new
submits_live number s word step answer new is live =
    noted_other number s Submitter step (λ end. []) (λ jobs. reply (codes "ok" ∷ word ∷ jobs_text jobs ∷ [])) (λ jobs. s.parties) s.parties s.parties answer new is tt (λ report. refl) refl refl live

sweep_live : (number : ℕ) (s : State) (answer : List ℕ) (new : State) → run_line number s (sweep_line s) ≡ (answer, new) → CoordinatorsAreLive s → CoordinatorsAreLive new
sweep_live number s answer new is live = other_line number s (sweep_line s) answer new is tt
    (ap (λ (e : LineEnd). e.parties.coordinators) (then_ends number Sweeper (sweep (pinned_tables s.parties)) (λ tables. record { reply = reply (codes "ok" ∷ tables_text (by_number tables) ∷ []); parties = s.parties }) s.store).answer_is) refl live

-- ---- all lines

-- After each course of a line, the live coordinators are still those of the history.
course_live : (inputs : Inputs) (number : ℕ) (line : Line) (refusal : Option (List ℕ)) (s : State) (answer : List ℕ) (new : State) → run_line number s (course_of inputs line refusal s) ≡ (answer, new) → IsReplayed s.store → CoordinatorsAreLive s → CoordinatorsAreLive new
unfolding course_of
course_live inputs number (StartCoordinator n) refusal s answer new is replay live = start_live number n s answer new is live
course_live inputs number (StartWorker n release) refusal s answer new is replay live = start_worker_live number n release s answer new is live
course_live inputs number (KillCoordinator n) refusal s answer new is replay live = end_live number n s answer new is live
course_live inputs number (KillWorker n) refusal s answer new is replay live = kill_live number n s answer new is live
course_live inputs number (StopCoordinator n) refusal s answer new is replay live = end_live number n s answer new is live
course_live inputs number (StopWorker n) refusal s answer new is replay live = stop_live number n s answer new is live
course_live inputs number (FlushRows name segment floor tick rows) refusal s answer new is replay live = noted_other number s Writer
    (flush s.moment s.options.retention (last_name s.store.history) (record { name = name; segment = segment; floor = floor; tick = tick; rows = rows })) (λ end. []) (λ done. ok) (λ done. s.parties) s.parties s.parties answer new is tt (λ report. refl) refl refl live
course_live inputs number (SubmitJob segment destination sources) refusal s answer new is replay live =
    submits_live number s (codes "job") (submit s.moment (record { segment = segment; sources = sources; destination = Some destination } ∷ [])) answer new is live
course_live inputs number (SubmitDrain segment sources) refusal s answer new is replay live = submits_live number s (codes "job") (submit s.moment (record { segment = segment; sources = sources; destination = None } ∷ [])) answer new is live
course_live inputs number (SubmitFull segment) refusal s answer new is replay live = submits_live number s (codes "jobs") (submit_request s.moment inputs.scheduler (request_of segment)) answer new is live
course_live inputs number (Poll n) refusal s answer new is replay live = poll_live inputs number false n s answer new (called inputs number false n s answer new is) replay live
course_live inputs number (CommitOnly n) refusal s answer new is replay live = poll_live inputs number true n s answer new (called inputs number true n s answer new is) replay live
course_live inputs number (ClaimJobs n) refusal s answer new is replay live = claim_live number n s answer new is live
course_live inputs number (Heartbeat n) refusal s answer new is replay live = beat_live number n s answer new is live
course_live inputs number (Output n job place rows) refusal s answer new is replay live = output_live inputs number n job place rows refusal s answer new is live
course_live inputs number (FinishJob n job) refusal s answer new is replay live = finish_live inputs number n job refusal s answer new is live
course_live inputs number Sweep refusal s answer new is replay live = sweep_live number s answer new is live
course_live inputs number line refusal s answer new is replay live = other_line number s (course_of inputs line refusal s) answer new is tt refl refl live

-- What a line sets before its course changes no store and no party.
record Prepared (line : Line) (s : State) : Type 0 where
  replay : IsReplayed s.store → IsReplayed (prepared_state line s).store
  live : CoordinatorsAreLive s → CoordinatorsAreLive (prepared_state line s)

prepared : (line : Line) (s : State) → Prepared line s
prepared (Options timeout concurrent slots ranges table_size moves retention) s = record { replay = λ r. r; live = λ l. l }
prepared (Clock moment) s = record { replay = λ r. r; live = λ l. l }
prepared (SetFault k stands) s = record { replay = λ r. r; live = λ l. l }
prepared line s = record { replay = λ r. r; live = λ l. l }

one_live : (inputs : Inputs) (number : ℕ) (old : State) (line : Line) (answer : List ℕ) (new : State) → OneCourse inputs number old line answer new → StateKeeps inputs.merge old → CoordinatorsAreLive old → CoordinatorsAreLive new
one_live inputs number old line answer new one keeps live =
    course_live inputs number line one.does.refusal (prepared_state line old) answer new (ap (run_line number (prepared_state line old)) (sym one.does.is) ∙ one.ends) ((prepared line old).replay keeps.fleet.store.stored.replay) ((prepared line old).live live)

steps_live : (inputs : Inputs) (old : State) (steps : List Line) (answer : List ℕ) (new : State) → StepsRan inputs old steps answer new → CoordinatorsAreLive old → CoordinatorsAreLive new
steps_live inputs old [] answer new same live = subst CoordinatorsAreLive (sym same) live
steps_live inputs old (step ∷ others) answer new (replied, mid, ran, stops, more) live = steps_live inputs mid others answer new more (one_live inputs ran.number old step replied mid ran.course ran.keeps live)

line_live : (inputs : Inputs) (number : ℕ) (old : State) (line : Line) (answer : List ℕ) (new : State) → IsLawful inputs.merge → HadRoom new.store → LineStep inputs number old line answer new → StateKeeps inputs.merge old → CoordinatorsAreLive old → CoordinatorsAreLive new
line_live inputs number old (Settle coordinator worker rounds) answer new lawful room step keeps live =
    let s = settle_steps (are_live coordinator worker old) inputs number old coordinator worker rounds answer new step in
    steps_live inputs old s.steps answer new ((steps_lead inputs number coordinator worker old s.steps answer new lawful s.each s.run).ran room keeps) live
line_live inputs number old (Together workers turns) answer new lawful room step keeps live = absurd step
line_live inputs number old line answer new lawful room step keeps live = one_live inputs number old line answer new step keeps live

run_live : (inputs : Inputs) (number : ℕ) (old : State) (lines : List Line) (answers : List (List ℕ)) (new : State) → IsLawful inputs.merge → AllByRecursion IsInBounds lines → HadRoom new.store → ScriptRun inputs number old lines answers new → StateKeeps inputs.merge old → CoordinatorsAreLive old
    → CoordinatorsAreLive new
run_live inputs number old [] [] new lawful is room same keeps live = subst CoordinatorsAreLive (sym same) live
run_live inputs number old (line ∷ lines) (answer ∷ answers) new lawful is room (mid, step, rest) keeps live =
    let grows = (run_leads inputs (number + 1) mid lines answers new lawful is.1 rest).grows in
    let mid_room : HadRoom mid.store = omega (arith, grows, room) in
    run_live inputs (number + 1) mid lines answers new lawful is.1 room rest ((line_leads inputs number old line answer mid lawful is.0 step).keeps mid_room keeps) (line_live inputs number old line answer mid lawful mid_room step keeps live)
run_live inputs number old [] (answer ∷ answers) new lawful is room run keeps live = absurd run
run_live inputs number old (line ∷ lines) [] new lawful is room run keeps live = absurd run

pub live_coordinators : LiveCoordinators
live_coordinators inputs lines last run = run_live inputs 1 (fresh_state run.options) lines run.answers last run.lawful run.in_bounds run.had_room run.run (fresh_state_keeps inputs.merge run.options) (λ tables specs. refl)
