-- The lines of workers: claims, heartbeats, outputs, finishes and stops.
use Rattle.std.proofs.Common.{◌≡◌, refl, sym, ◌∙◌, ap, subst, ℕ, ◌≤◌, List, [], ◌∷◌, Option, Some, None, arith}
use Rattle.std.specs.Prelude.{codes, ◌==◌, ◌-◌, slice_get}
use Rattle.std.proofs.lemmas.Bool.Decides.{Decides-eqb}
use Rattle.row_model.specs.Fold.{Operator, IsLawful}
use Rattle.row_model.specs.Ranges.{Range}
use Rattle.fleet_model.specs.Jobs.{number_of}
use Rattle.fleet_model.specs.History.{Worker, Kill, Event}
use Rattle.fleet_model.specs.Work.Parties.{Attempt, LiveWorker, worker_with, without_worker}
use Rattle.step_model.specs.Past.{World}
use Rattle.step_model.specs.Rivals.{Caller}
use Rattle.step_model.specs.Fits.{WorkerHolds}
use Rattle.step_model.specs.Courses.Course.{Course, Ends, calls_each, then_course}
use Rattle.step_model.specs.Courses.CourseRuns.{End, Gives, MeetsFault, Runs, IsLawfulCourse}
use Rattle.step_model.specs.Courses.StepEnds.{StepEnd, Reports}
use Rattle.step_model.specs.Steps.ClaimSteps.{claim}
use Rattle.step_model.specs.Steps.BeatSteps.{heartbeat, release_all}
use Rattle.step_model.specs.Steps.OutputSteps.{output}
use Rattle.step_model.specs.Steps.FinishSteps.{finish}
use Rattle.step_laws.proofs.Elements.{all_at, all_true_front}
use Rattle.commit_laws.proofs.AllCalls.{calls_keep}
use Rattle.course_laws.specs.Outputs.{DoesRun}
use Rattle.course_laws.specs.Finishes.{WholeUnless}
use Rattle.course_laws.proofs.Sweeps.{NonePending}
use Rattle.course_laws.proofs.Claims.{claims_are_lawful}
use Rattle.course_laws.proofs.Beats.{found_attempt, beats_are_lawful}
use Rattle.course_laws.proofs.Outputs.{outputs_are_lawful}
use Rattle.course_laws.proofs.Finishes.{finishes_are_lawful}
use Rattle.course_laws.proofs.Releases.{releases_are_lawful}
use Rattle.worker_laws.specs.After.{FitsAfterwards, FitsAfter}
use Rattle.worker_laws.proofs.Beats.{beats_keep_fit}
use Rattle.worker_laws.proofs.Claims.{claims_keep_fit}
use Rattle.worker_laws.proofs.Outputs.{outputs_keep_fit}
use Rattle.worker_laws.proofs.Fewer.{fewer_attempts_fit}
use Rattle.worker_laws.proofs.Finishes.{finishes_keep_fit}
use Rattle.script_model.specs.States.{Inputs, State}
use Rattle.script_model.specs.Replies.{reply, jobs_text, claim_reply, beat_reply, output_reply, ranges_text}
use Rattle.script_model.specs.LineRuns.{LineEnd, LineCourse, run_line, line_end, step_parties, no_such_party, if_some}
use Rattle.script_model.specs.Lines.WorkLines.{worker_options, parties_running, worker_line, claim_line, heartbeat_line, stop_worker, without_attempt, output_asked, output_line, finish_asked, finish_line}
use Rattle.script_model.specs.LineCourses.{attempt_numbered, job_at, range_at}
use Rattle.script_model.specs.Refusals.{left_in, FinishMay}
use Rattle.line_laws.specs.Alone.{HadRoom}
use Rattle.line_laws.specs.States.{FleetKeeps, StateKeeps}
use Rattle.line_laws.proofs.Courses.{Split, split, then_lawful}
use Rattle.line_laws.proofs.Parties.{found}
use Rattle.line_laws.proofs.Lines.{caller_of, world_of, Left, line_keeps, worker_gone, worker_stays}
use Rattle.line_laws.proofs.Steps.{none_comes, StepEnded, step_ended, step_lawful}
use Rattle.line_laws.proofs.SameLines.{no_party_keeps}
use Rattle.line_laws.proofs.PartyLines.{own_lawful, notes_end}

-- ---- the worker that a line names

-- A worker that is live fits the store.
pub record IsWorker (merge : Operator) (s : State) (k : StateKeeps merge s) (n : ℕ) (w : LiveWorker) : Type 0 where
  pub number : n ≡ w.number
  pub holds : WorkerHolds merge (world_of merge s k) w

pub is_worker : (merge : Operator) (s : State) (k : StateKeeps merge s) (n : ℕ) (w : LiveWorker) → worker_with n s.parties ≡ Some w → IsWorker merge s k n w
is_worker merge s k n w e =
    let f = found (λ (w : LiveWorker). n == w.number) s.parties.workers w e in
    record { number = (Decides-eqb n w.number).0 f.passes; holds = all_at (WorkerHolds merge (world_of merge s k)) s.parties.workers w k.fleet.workers f.there }

-- ---- a line of one step

-- The worker that runs these attempts after the step is live and fits.
ends_fit : {A : Type 0} (merge : Operator) (number : ℕ) (s : State) (k : StateKeeps merge s) (w : LiveWorker) (reported : A → List Attempt) (refused : List Attempt) (new : World) (end : StepEnd A)
    → Left (caller_of merge number (Worker w.number)) s.parties new → NonePending new.store → (WorkerHolds merge new w → WorkerHolds merge new (record w { attempts = refused }))
    → FitsAfterwards merge w reported new (Gives end) → FleetKeeps merge new (step_parties (λ (report : A). parties_running w s (reported report)) (parties_running w s refused) end)
ends_fit merge number s k w reported refused new (Reports report) left none fewer holds = worker_stays merge number (world_of merge s k) new s.parties (record w { attempts = reported report }) k.fleet left none holds
ends_fit merge number s k w reported refused new end left none fewer holds = worker_stays merge number (world_of merge s k) new s.parties (record w { attempts = refused }) k.fleet left none (fewer holds)

-- A worker that does a lawful step, and fits after it, leaves a state that keeps the invariant.
work_keeps : {A : Type 0} (merge : Operator) (number : ℕ) (s : State) (k : StateKeeps merge s) (w : LiveWorker) (step : Course (StepEnd A)) (spell : A → List ℕ) (reported : A → List Attempt) (refused : List Attempt) → IsLawful merge
    → WorkerHolds merge (world_of merge s k) w → ((t : World) → WorkerHolds merge t w → WorkerHolds merge t (record w { attempts = refused }))
    → IsLawfulCourse (caller_of merge number (Worker w.number)) (world_of merge s k) step → FitsAfter (caller_of merge number (Worker w.number)) w reported (world_of merge s k) step
    → HadRoom (run_line number s (worker_line w s step spell reported refused)).1.store → StateKeeps merge (run_line number s (worker_line w s step spell reported refused)).1
work_keeps {A} merge number s k w step spell reported refused lawful holds fewer step_is fits room =
    line_keeps merge number s c k lawful is tt (record {
      struck = λ new run left. worker_gone merge number w.number old new s.parties k.fleet left (none new MeetsFault run);
      gives = λ new end run left. gave new end (none new (Gives end) run) left (step_ended who step ends old new end run);
    }) room
  where
    who : Caller
    who = caller_of merge number (Worker w.number)

    old : World
    old = world_of merge s k

    c : LineCourse
    c = worker_line w s step spell reported refused

    ends : StepEnd A → LineEnd
    ends = line_end spell (λ report. parties_running w s (reported report)) (parties_running w s refused)

    is : IsLawfulCourse who old c.course
    is = step_lawful who step ends old step_is

    none : (new : World) (end : End LineEnd) → Runs who c.course old new end → NonePending new.store
    none new end run = none_comes who c.course old new end lawful refl refl k.fleet.store is k.fleet.none_pending run

    gave : (new : World) (end : LineEnd) → NonePending new.store → Left who s.parties new → StepEnded who step ends old new end → FleetKeeps merge new end.parties
    gave new end quiet left ended =
        subst (FleetKeeps merge new) (ap (λ (e : LineEnd). e.parties) ended.is)
        (ends_fit merge number s k w reported refused new ended.answer left quiet (fewer new) (fits new (Gives ended.answer) ended.run))

-- Under a lawful operator, a claim line keeps the invariant if there was room.
pub claim_keeps : (merge : Operator) (number n : ℕ) (s : State) (k : StateKeeps merge s) → IsLawful merge → HadRoom (run_line number s (claim_line n s)).1.store → StateKeeps merge (run_line number s (claim_line n s)).1
claim_keeps merge number n s k lawful room = by (worker_with n s.parties) refl room
  where
    line : Option LiveWorker → LineCourse
    line o = if_some o (no_such_party s) (λ w. worker_line w s (claim (worker_options s.options) s.moment w) (λ r. claim_reply r.begun r.stopped) (λ r. r.attempts) w.attempts)

    by : (o : Option LiveWorker) → worker_with n s.parties ≡ o → HadRoom (run_line number s (line o)).1.store → StateKeeps merge (run_line number s (line o)).1
    by None e room = no_party_keeps merge number s k
    by (Some w) e room =
        let is = is_worker merge s k n w e in
        let who : Caller = caller_of merge number (Worker w.number) in
        work_keeps merge number s k w (claim (worker_options s.options) s.moment w) (λ r. claim_reply r.begun r.stopped) (λ r. r.attempts) w.attempts lawful is.holds (λ t h. h)
        (claims_are_lawful who (world_of merge s k) (worker_options s.options) s.moment w (calls_keep merge lawful) k.fleet.store refl) (claims_keep_fit who (world_of merge s k) (worker_options s.options) s.moment w (calls_keep merge lawful) refl k.fleet.store is.holds).0 room

-- Under a lawful operator, a heartbeat line keeps the invariant if there was room.
pub heartbeat_keeps : (merge : Operator) (number n : ℕ) (s : State) (k : StateKeeps merge s) → IsLawful merge → HadRoom (run_line number s (heartbeat_line n s)).1.store → StateKeeps merge (run_line number s (heartbeat_line n s)).1
heartbeat_keeps merge number n s k lawful room = by (worker_with n s.parties) refl room
  where
    line : Option LiveWorker → LineCourse
    line o = if_some o (no_such_party s) (λ w. worker_line w s (heartbeat s.moment w) (λ r. beat_reply r.beat r.not_owner) (λ r. r.attempts) w.attempts)

    by : (o : Option LiveWorker) → worker_with n s.parties ≡ o → HadRoom (run_line number s (line o)).1.store → StateKeeps merge (run_line number s (line o)).1
    by None e room = no_party_keeps merge number s k
    by (Some w) e room =
        let is = is_worker merge s k n w e in
        let who : Caller = caller_of merge number (Worker w.number) in
        work_keeps merge number s k w (heartbeat s.moment w) (λ r. beat_reply r.beat r.not_owner) (λ r. r.attempts) w.attempts lawful is.holds (λ t h. h)
        (beats_are_lawful who (world_of merge s k) s.moment w (calls_keep merge lawful) refl k.fleet.store is.holds) (beats_keep_fit who (world_of merge s k) s.moment w (calls_keep merge lawful) refl k.fleet.store is.holds).0 room

-- ---- outputs and finishes

-- The worker and its attempt at the job that a line names.
pub record IsAttempt (merge : Operator) (s : State) (k : StateKeeps merge s) (n : ℕ) (w : LiveWorker) (a : Attempt) : Type 0 where
  pub number : n ≡ w.number
  pub holds : WorkerHolds merge (world_of merge s k) w
  pub runs : DoesRun w a

-- The worker that a line finds with an attempt at a job has the line's number, runs the attempt and fits the store.
pub is_attempt : (merge : Operator) (s : State) (k : StateKeeps merge s) (n job : ℕ) (p : LiveWorker × Attempt) → job_at s n job ≡ Some p → IsAttempt merge s k n p.0 p.1
is_attempt merge s k n job p e = by (worker_with n s.parties) refl e
  where
    at : (w : LiveWorker) → IsWorker merge s k n w → (o : Option Attempt) → attempt_numbered job w.attempts ≡ o → if_some o None (λ (a : Attempt). Some (w, a)) ≡ Some p → IsAttempt merge s k n p.0 p.1
    at w is None f e = absurd (cc e)
    at w is (Some a) f e =
        let there = found (λ (a : Attempt). job == number_of a.job) w.attempts a f in
        let same : (w, a) ≡ p = cc e in
        subst (λ (q : LiveWorker × Attempt). IsAttempt merge s k n q.0 q.1) same (record { number = is.number; holds = is.holds; runs = found_attempt w.attempts a is.holds.jobs_rise there.there })

    by : (o : Option LiveWorker) → worker_with n s.parties ≡ o → if_some o None (λ (w : LiveWorker). if_some (attempt_numbered job w.attempts) None (λ (a : Attempt). Some (w, a))) ≡ Some p → IsAttempt merge s k n p.0 p.1
    by None f e = absurd (cc e)
    by (Some w) f e = at w (is_worker merge s k n w f) (attempt_numbered job w.attempts) refl e

-- A finish that the operator may let pass finds all its ranges whole.
pub whole_unless : (inputs : Inputs) (s : State) (w : LiveWorker) (a : Attempt) (refusal : Option (List ℕ)) → FinishMay inputs s (Some (w, a)) refusal → WholeUnless inputs.merge s.store.tables a refusal
whole_unless inputs s w a None may = all_true_front (λ (range : Range × List ℕ). (left_in inputs s a range).whole) a.context.ranges may
whole_unless inputs s w a (Some message) may = tt

-- Under a lawful operator, a finish line keeps the invariant if there was room, and if it may have its refusal or none.
pub finish_keeps : (inputs : Inputs) (number n job : ℕ) (refusal : Option (List ℕ)) (s : State) (k : StateKeeps inputs.merge s) → IsLawful inputs.merge → FinishMay inputs s (job_at s n job) refusal
    → let c = if_some (job_at s n job) (no_such_party s) (λ found. finish_line inputs s (finish_asked s refusal found)) in HadRoom (run_line number s c).1.store → StateKeeps inputs.merge (run_line number s c).1
finish_keeps inputs number n job refusal s k lawful may room = by (job_at s n job) refl may room
  where
    by : (o : Option (LiveWorker × Attempt)) → job_at s n job ≡ o → FinishMay inputs s o refusal
        → let c = if_some o (no_such_party s) (λ found. finish_line inputs s (finish_asked s refusal found)) in HadRoom (run_line number s c).1.store → StateKeeps inputs.merge (run_line number s c).1
    by None e may room = no_party_keeps inputs.merge number s k
    by (Some p) e may room =
        let w = p.0 in
        let a = p.1 in
        let is = is_attempt inputs.merge s k n job p e in
        let who : Caller = caller_of inputs.merge number (Worker w.number) in
        let ask = finish_asked s refusal p in
        let step = finish inputs.merge s.store.tables ask in
        work_keeps inputs.merge number s k w step (λ r. reply (codes "ok" ∷ ranges_text r.outputs ∷ [])) (λ r. r.attempts) (without_attempt w a) lawful is.holds (λ t h. fewer_attempts_fit inputs.merge t w _ h)
        (finishes_are_lawful who (world_of inputs.merge s k) ask (calls_keep inputs.merge lawful) lawful refl k.fleet.store is.holds is.runs (whole_unless inputs s w a refusal may))
        (finishes_keep_fit who (world_of inputs.merge s k) ask (calls_keep inputs.merge lawful) lawful refl k.fleet.store is.holds is.runs (whole_unless inputs s w a refusal may)).0 room

-- Under a lawful operator, an output line with its place counted from 1 keeps the invariant if there was room.
pub output_keeps : (inputs : Inputs) (number n job place rows : ℕ) (refusal : Option (List ℕ)) (s : State) (k : StateKeeps inputs.merge s) → IsLawful inputs.merge → 1 ≤ place
    → let c = if_some (range_at s n job place) (no_such_party s) (λ found. output_line inputs s (output_asked s place rows refusal found)) in HadRoom (run_line number s c).1.store → StateKeeps inputs.merge (run_line number s c).1
output_keeps inputs number n job place rows refusal s k lawful counted room = at (job_at s n job) refl room
  where
    line : Option (LiveWorker × Attempt × (Range × List ℕ)) → LineCourse
    line o = if_some o (no_such_party s) (λ found. output_line inputs s (output_asked s place rows refusal found))

    in_range : LiveWorker × Attempt → Option (Range × List ℕ) → Option (LiveWorker × Attempt × (Range × List ℕ))
    in_range p o = if_some {B = Option (LiveWorker × Attempt × (Range × List ℕ))} o None (λ range. Some (p.0, p.1, range))

    by : (p : LiveWorker × Attempt) → IsAttempt inputs.merge s k n p.0 p.1 → (o : Option (Range × List ℕ)) → slice_get p.1.context.ranges (place - 1) ≡ o
        → HadRoom (run_line number s (line (in_range p o))).1.store → StateKeeps inputs.merge (run_line number s (line (in_range p o))).1
    by p is None e room = no_party_keeps inputs.merge number s k
    by p is (Some range) e room =
        let w = p.0 in
        let a = p.1 in
        let who : Caller = caller_of inputs.merge number (Worker w.number) in
        let ask = output_asked s place rows refusal (p.0, p.1, range) in
        work_keeps inputs.merge number s k w (output inputs.merge s.store.tables ask) (λ r. output_reply r.table) (λ r. r.attempts) (without_attempt w a) lawful is.holds (λ t h. fewer_attempts_fit inputs.merge t w _ h)
        (outputs_are_lawful who (world_of inputs.merge s k) ask (calls_keep inputs.merge lawful) lawful refl k.fleet.store is.holds is.runs)
        (outputs_keep_fit who (world_of inputs.merge s k) ask (calls_keep inputs.merge lawful) lawful refl k.fleet.store is.holds is.runs (record { counted = omega (arith, counted); there = e })) room

    at : (o : Option (LiveWorker × Attempt)) → job_at s n job ≡ o
        → let r = if_some {B = Option (LiveWorker × Attempt × (Range × List ℕ))} o None (λ found. in_range found (slice_get found.1.context.ranges (place - 1))) in HadRoom (run_line number s (line r)).1.store → StateKeeps inputs.merge (run_line number s (line r)).1
    at None e room = no_party_keeps inputs.merge number s k
    at (Some p) e room = by p (is_attempt inputs.merge s k n job p e) (slice_get p.1.context.ranges (place - 1)) refl room

-- ---- stops

-- Under a lawful operator, a line that stops a worker keeps the invariant if there was room.
pub stop_keeps : (merge : Operator) (number n : ℕ) (s : State) (k : StateKeeps merge s) → IsLawful merge → HadRoom (run_line number s (stop_worker n s)).1.store → StateKeeps merge (run_line number s (stop_worker n s)).1
stop_keeps merge number n s k lawful room = by (worker_with n s.parties) refl room
  where
    who : Caller
    who = caller_of merge number (Worker n)

    old : World
    old = world_of merge s k

    ends : StepEnd (List ℕ) → LineEnd
    ends = line_end (λ jobs. reply (codes "ok" ∷ codes "released" ∷ jobs_text jobs ∷ [])) (λ jobs. without_worker n s.parties) (without_worker n s.parties)

    same_parties : (end : StepEnd (List ℕ)) → (ends end).parties ≡ without_worker n s.parties
    same_parties (Reports jobs) = refl
    same_parties end = refl

    kills : List Event
    kills = Kill (Worker n) ∷ []

    line : Option LiveWorker → LineCourse
    line o = if_some o (no_such_party s) (λ w. record { party = Worker n; course = then_course (release_all w) (λ end. calls_each kills (Ends (ends end))); struck = without_worker n s.parties })

    gave : (w : LiveWorker) (new : World) (end : LineEnd) → Left who s.parties new → NonePending new.store → Split who (release_all w) (λ end. calls_each kills (Ends (ends end))) old new end → FleetKeeps merge new end.parties
    gave w new end left quiet parts =
        subst (FleetKeeps merge new) (sym (same_parties parts.answer) ∙ ap (λ (e : LineEnd). e.parties) (notes_end who kills (ends parts.answer) parts.mid new end parts.second)) (worker_gone merge number n old new s.parties k.fleet left quiet)

    by : (o : Option LiveWorker) → worker_with n s.parties ≡ o → HadRoom (run_line number s (line o)).1.store → StateKeeps merge (run_line number s (line o)).1
    by None e room = no_party_keeps merge number s k
    by (Some w) e room =
        let c = line (Some w) in
        let is : IsLawfulCourse who old c.course = then_lawful who (release_all w) (λ end. calls_each kills (Ends (ends end))) old (releases_are_lawful who old w (ap Worker (is_worker merge s k n w e).number))
        (λ end new. own_lawful who kills (Ends (ends end)) new (record { fits = λ store. refl; unstruck = refl }, tt) (λ last. tt)) in
        let none : (new : World) (end : End LineEnd) → Runs who c.course old new end → NonePending new.store = λ new end run. none_comes who c.course old new end lawful refl refl k.fleet.store is k.fleet.none_pending run in
        line_keeps merge number s c k lawful is tt (record {
          struck = λ new run left. worker_gone merge number n old new s.parties k.fleet left (none new MeetsFault run);
          gives = λ new end run left. gave w new end left (none new (Gives end) run) (split who (release_all w) (λ end. calls_each kills (Ends (ends end))) old new end run);
        }) room
