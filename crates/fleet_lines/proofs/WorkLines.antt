-- The lines of workers.
use Rattle.std.proofs.Common.{◌≡◌, refl, sym, ◌∙◌, ap, subst, ℕ, List, ◌∷◌, cond, Bool, true, false, Option, Some, None, Result, Ok, Err}
use Rattle.std.specs.Prelude.{◌==◌, not, filter, find, map, option_map, OnErr}
use Rattle.std.specs.Bool.{OnFalse}
use Rattle.std.specs.List.{AllByRecursion}
use Rattle.row_model.specs.Fold.{Operator, IsLawful}
use Rattle.fleet_model.specs.Exchanges.{Fault, does_stand}
use Rattle.fleet_model.specs.History.{Worker}
use Rattle.fleet_model.specs.Work.Parties.{Attempt, LiveWorker, Parties, worker_with, without_worker}
use Rattle.fleet_model.specs.Store.{Store}
use Rattle.step_model.specs.Past.{World}
use Rattle.step_model.specs.Courses.Course.{Course}
use Rattle.step_model.specs.Courses.CourseRuns.{End, Gives, MeetsFault, IsLawfulCourse}
use Rattle.step_model.specs.Courses.Ran.{Ran}
use Rattle.step_model.specs.Courses.Alone.{AloneEnd, run_alone}
use Rattle.step_model.specs.Courses.StepEnds.{StepEnd, Reports, GivesUp, Fenced, NotOwner, NoRecords, Invalid, Declined, OperatorRefuses}
use Rattle.step_model.specs.Steps.BeatSteps.{Beaten, heartbeat}
use Rattle.step_laws.proofs.RanLaws.{ran_runs, ran_alone}
use Rattle.commit_laws.proofs.AllCalls.{calls_keep}
use Rattle.course_laws.proofs.Beats.{beats_are_lawful}
use Rattle.script_model.specs.LineRuns.{LineCourse, if_some, no_such_party, step_parties}
use Rattle.script_model.specs.Lines.WorkLines.{parties_running, worker_line, heartbeat_line}
use Rattle.script_model.specs.Replies.{beat_reply}
use Rattle.line_laws.specs.States.{FleetKeeps}
use Rattle.line_laws.proofs.AloneEnds.{EndsSo, RunEnds, RunStruck, RunEnded, run_ends}
use Rattle.line_laws.proofs.Lines.{caller_of}
use Rattle.line_laws.proofs.StepRefusals.{Reported, beat_so}
use Rattle.fleet_rows.specs.declared.errors.MergeOperatorError.TheVariants as merge_error
use Rattle.fleet_rows.specs.declared.errors.SlateDBError.{SlateDBError}
use Rattle.fleet_rows.specs.declared.errors.SlateDBError.TheVariants as error
use Rattle.fleet_history.specs.declared.party.Party.TheVariants as party
use Rattle.fleet_store.specs.Memory.{StoreParts}
use Rattle.fleet_step.specs.Steps.{end_of, stops}
use Rattle.step_model.specs.LawfulRecords.{OfSome}
use Rattle.fleet_worker.specs.Beats.{beat_ends, beaten_with}
use Rattle.fleet_worker.specs.Workers.{AttemptParts, WorkerParts, attempt_of, live_of}
use Rattle.fleet_worker.specs.declared.beat.BeatReport.{BeatReport}
use Rattle.fleet_lines.specs.Fleets.{FleetParts, IsUp, Stands, options_of, parties_of, state_of}
use Rattle.fleet_lines.specs.Lines.{RunsAlone}
use Rattle.fleet_lines.specs.Steps.{Made, MayWork, Says, end_reply}
use Rattle.fleet_read.proofs.Trees.{find_map}
use Rattle.fleet_lines.proofs.Made.{ran_later, step_ends}
use Rattle.fleet_lines.proofs.NoteLines.{others, others_live}
use Rattle.fleet_lines.proofs.Runs.{state_at}
use Rattle.fleet_lines.proofs.Kept.{worker_goes, worker_goes_on}
use Rattle.fleet_lines.proofs.Standing.{still_up, some_up, is_found}

-- ---- the worker that a line names

-- A line that names a worker that is live.
pub at_found : (n : ℕ) (fleet : FleetParts) (w : WorkerParts) (none : LineCourse) (act : LiveWorker → LineCourse) → find (λ (w : WorkerParts). n == w.number) fleet.workers ≡ Some w → if_some (worker_with n (parties_of fleet)) none act ≡ act (live_of w)
at_found n fleet w none act e = ap (λ (o : Option LiveWorker). if_some o none act) (find_map live_of (λ (w : LiveWorker). n == w.number) fleet.workers ∙ ap (option_map live_of) e)

-- A line that names a worker that is not live.
pub at_none : (n : ℕ) (fleet : FleetParts) (none : LineCourse) (act : LiveWorker → LineCourse) → find (λ (w : WorkerParts). n == w.number) fleet.workers ≡ None → if_some (worker_with n (parties_of fleet)) none act ≡ none
at_none n fleet none act e = ap (λ (o : Option LiveWorker). if_some o none act) (find_map live_of (λ (w : LiveWorker). n == w.number) fleet.workers ∙ ap (option_map live_of) e)

-- ---- how a step ends

-- A step that nobody disturbs ends as its course does.
ended_so : {A : Type 0} (merge : Operator) (number n : ℕ) (P : StepEnd A → Store → Type 0) (end : StepEnd A) (step : Course (StepEnd A)) (old new : World) (waits left : Option Fault) → EndsSo number (Worker n) step old.store P
    → Ran (caller_of merge number (Worker n)) step old new waits left (Gives end) → P end new.store
ended_so {A} merge number n P end step old new waits left so ran =
    by (run_alone number (Worker n) step waits old.store) (ran_alone (caller_of merge number (Worker n)) step old new waits left (Gives end) refl ran) (does_stand waits) (run_ends number (Worker n) step waits old.store P so)
  where
    the_answer : (a b : StepEnd A) → Some a ≡ Some b → a ≡ b
    the_answer a b e = cc e

    by : (run : AloneEnd (StepEnd A)) → run ≡ record { answer = Some end; store = new.store; fault = left } → (stands : Bool) → RunEnds number (Worker n) stands step old.store P run → P end new.store
    by run is stands (RunStruck none gone struck) = absurd (cc (sym none ∙ ap (λ (r : AloneEnd (StepEnd A)). r.answer) is))
    by run is stands (RunEnded answer gives so) =
        subst (P end) (ap (λ (r : AloneEnd (StepEnd A)). r.store) is)
        (subst (λ (e : StepEnd A). P e run.store) (the_answer answer end (sym gives ∙ ap (λ (r : AloneEnd (StepEnd A)). r.answer) is)) so)

-- The worker's attempts are as before where the step failed.
pub as_before : {A : Type 0} (result : Result A SlateDBError) (w : WorkerParts) (attempts : List AttemptParts) → OnErr result (attempts ≡ w.attempts) → (e : SlateDBError) → result ≡ Err e → map attempt_of w.attempts ≡ map attempt_of attempts
as_before {A} result w attempts same e is = ap (λ (kept : List AttemptParts). map attempt_of kept) (sym (subst (λ (r : Result A SlateDBError). OnErr r (attempts ≡ w.attempts)) is same))

-- ---- a line of one step

-- A line of one step of a worker. `attempts` and `stopped` are the worker's after the step, and `refused` are the attempts
-- that the line gives it after a refusal. The step ends so if nobody disturbs it.
module _ {A B : Type 0} (merge : Operator) (number : ℕ) (old : FleetParts) (w : WorkerParts) (attempts : List AttemptParts) (stopped : Bool) (store : StoreParts) (ends : A → StepEnd B) (spell : B → List ℕ) (reported : B → List Attempt) (refused : List Attempt) (step : Course (StepEnd B)) (answer : List ℕ)
    (lawful : IsLawful merge) (stands : Stands merge old) (n : ℕ) (is_number : n ≡ w.number) (is : IsLawfulCourse (caller_of merge number (Worker w.number)) old.store.world step) (P : StepEnd B → Store → Type 0) (so : EndsSo number (Worker w.number) step old.store.world.store P)
    (may : OnFalse stopped (MayWork merge store.world (record w { attempts = attempts; stopped = stopped }))) where
  abbrev left_over : Bool → List WorkerParts
  left_over stopped = cond stopped (others n old.workers) (record w { attempts = attempts; stopped = stopped } ∷ others n old.workers)

  abbrev after : Bool → FleetParts
  after stopped = record old { store = store; workers = left_over stopped }

  abbrev the_line : LineCourse
  the_line = worker_line (live_of w) (state_of old) step spell reported refused

  others_are : filter (λ (v : LiveWorker). not (w.number == v.number)) (map live_of old.workers) ≡ map live_of (others n old.workers)
  others_are = subst (λ (m : ℕ). filter (λ (v : LiveWorker). not (m == v.number)) (map live_of old.workers) ≡ map live_of (others n old.workers)) is_number (others_live n old.workers)

  up_after : (end : End (StepEnd B)) → Ran (caller_of merge number (Worker w.number)) step old.store.world store.world old.store.waits store.waits end → AllByRecursion (IsUp store.world.store) (others n old.workers)
  up_after end ran = still_up old.store.world.store store.world.store (others n old.workers) (ran_later merge number (party.Worker w.number) step old.store.world store.world old.store.waits store.waits end ran)
      (some_up old.store.world.store (λ v. not (n == v.number)) old.workers stands.up)

  -- The worker is no longer live.
  gone : stopped ≡ true → Ran (caller_of merge number (Worker w.number)) step old.store.world store.world old.store.waits store.waits MeetsFault → end_reply spell MeetsFault ≡ Some answer → RunsAlone merge number (state_of old) the_line old (after stopped) answer
  gone e ran says = subst (λ (b : Bool). RunsAlone merge number (state_of old) the_line old (after b) answer) (sym e) (record {
    ends =
        step_ends merge number (options_of old.options) old.moment (parties_of old) (party.Worker w.number) step spell (λ report. parties_running (live_of w) (state_of old) (reported report)) (parties_running (live_of w) (state_of old) refused) (without_worker w.number (parties_of old))
        old.store.world store.world old.store.waits store.waits answer MeetsFault ran says
        ∙ ap (λ (ws : List LiveWorker). (answer, state_at (options_of old.options) old.moment store.world store.waits (record { coordinators = old.coordinators; workers = ws }))) others_are;
    stands = record {
      keeps = subst (λ (ws : List LiveWorker). FleetKeeps merge store.world (record { coordinators = old.coordinators; workers = ws })) others_are
          (worker_goes merge number w.number old.store.world store.world (parties_of old) step MeetsFault lawful stands.keeps is (ran_runs (caller_of merge number (Worker w.number)) step old.store.world store.world old.store.waits store.waits MeetsFault ran));
      up = up_after MeetsFault ran;
      few = stands.few;
    };
    same_name = refl;
  })

  -- The worker is live and runs these attempts.
  goes_on : (end : StepEnd B) → stopped ≡ false → Ran (caller_of merge number (Worker w.number)) step old.store.world store.world old.store.waits store.waits (Gives end) → end_reply spell (Gives end) ≡ Some answer
      → step_parties (λ report. parties_running (live_of w) (state_of old) (reported report)) (parties_running (live_of w) (state_of old) refused) end ≡ parties_running (live_of w) (state_of old) (map attempt_of attempts)
      → RunsAlone merge number (state_of old) the_line old (after stopped) answer
  goes_on end e ran says same = subst (λ (b : Bool). RunsAlone merge number (state_of old) the_line old (after b) answer) (sym e) (record {
    ends =
        step_ends merge number (options_of old.options) old.moment (parties_of old) (party.Worker w.number) step spell (λ report. parties_running (live_of w) (state_of old) (reported report)) (parties_running (live_of w) (state_of old) refused) (without_worker w.number (parties_of old))
        old.store.world store.world old.store.waits store.waits answer (Gives end) ran says
        ∙ ap (λ (parties : Parties). (answer, state_at (options_of old.options) old.moment store.world store.waits parties)) same
        ∙ ap (λ (ws : List LiveWorker). (answer, state_at (options_of old.options) old.moment store.world store.waits (record { coordinators = old.coordinators; workers = record (live_of w) { attempts = map attempt_of attempts } ∷ ws }))) others_are;
    stands = record {
      keeps = subst (λ (ws : List LiveWorker). FleetKeeps merge store.world (record { coordinators = old.coordinators; workers = record (live_of w) { attempts = map attempt_of attempts } ∷ ws })) others_are
          (worker_goes_on merge number (record (live_of w) { attempts = map attempt_of attempts }) old.store.world store.world (parties_of old) step (Gives end) lawful stands.keeps is
          (ran_runs (caller_of merge number (Worker w.number)) step old.store.world store.world old.store.waits store.waits (Gives end) ran) may_work.holds);
      up = (record { runs = refl; noted = may_work.noted }, up_after (Gives end) ran);
      few = stands.few;
    };
    same_name = refl;
  })
    where
      may_work : MayWork merge store.world (record w { attempts = attempts; stopped = false })
      may_work = subst (λ (b : Bool). OnFalse b (MayWork merge store.world (record w { attempts = attempts; stopped = b }))) e may

  -- A refusal leaves the worker the attempts that the line gives it.
  abbrev Kept : Result A SlateDBError → Type 0
  Kept result = (e : SlateDBError) (end : StepEnd B) → result ≡ Err e → end_of ends (Err e) ≡ Some (Gives end) → P end store.world.store → refused ≡ map attempt_of attempts

  -- However the step ended. A report tells the worker's attempts, and the worker is never fenced.
  pub work_runs : (result : Result A SlateDBError) → stopped ≡ stops result → ((report : B) (a : A) → result ≡ Ok a → ends a ≡ Reports report → reported report ≡ map attempt_of attempts) → ((a : A) → (report : B) × (ends a ≡ Reports report))
      → Kept result → ((stored : ℕ) → P (Fenced stored) store.world.store → ⊥)
      → Made ends step merge number (party.Worker w.number) old.store store result → Says ends spell result answer → RunsAlone merge number (state_of old) the_line old (after stopped) answer
  work_runs result is_stopped reports report_of kept unfenced made says = by result is_stopped reports kept made.ran says.says
    where
      ended : (end : StepEnd B) → Ran (caller_of merge number (Worker w.number)) step old.store.world store.world old.store.waits store.waits (Gives end) → P end store.world.store
      ended end ran = ended_so merge number w.number P end step old.store.world store.world old.store.waits store.waits so ran

      refuses : (e : SlateDBError) (end : StepEnd B) → Kept (Err e) → stopped ≡ false → end_of ends (Err e) ≡ Some (Gives end) → Ran (caller_of merge number (Worker w.number)) step old.store.world store.world old.store.waits store.waits (Gives end) → end_reply spell (Gives end) ≡ Some answer
          → step_parties (λ report. parties_running (live_of w) (state_of old) (reported report)) (parties_running (live_of w) (state_of old) refused) end ≡ parties_running (live_of w) (state_of old) refused
          → RunsAlone merge number (state_of old) the_line old (after stopped) answer
      refuses e end kept is_on is_end ran says parties = goes_on end is_on ran says (parties ∙ ap (parties_running (live_of w) (state_of old)) (kept e end refl is_end (ended end ran)))

      by : (result : Result A SlateDBError) → stopped ≡ stops result → ((report : B) (a : A) → result ≡ Ok a → ends a ≡ Reports report → reported report ≡ map attempt_of attempts) → Kept result
          → OfSome (Ran (caller_of merge number (Worker w.number)) step old.store.world store.world old.store.waits store.waits) (end_of ends result) → OfSome (λ end. end_reply spell end ≡ Some answer) (end_of ends result)
          → RunsAlone merge number (state_of old) the_line old (after stopped) answer
      by (Ok a) e reports kept runs said =
          let r = report_of a in
          goes_on (ends a) e runs said (ap (step_parties (λ report. parties_running (live_of w) (state_of old) (reported report)) (parties_running (live_of w) (state_of old) refused)) r.1 ∙ ap (parties_running (live_of w) (state_of old)) (reports r.0 a refl r.1))
      by (Err error.StoreFault) e reports kept runs said = gone e runs said
      by (Err error.Memory) e reports kept runs said = absurd (cc said)
      by (Err (error.Conflict seen)) e reports kept runs said = refuses (error.Conflict seen) (GivesUp seen) kept e refl runs said refl
      by (Err (error.Fenced stored)) e reports kept runs said = absurd (unfenced stored (ended (Fenced stored) runs))
      by (Err error.NotOwner) e reports kept runs said = refuses error.NotOwner NotOwner kept e refl runs said refl
      by (Err error.InvalidDBState) e reports kept runs said = refuses error.InvalidDBState NoRecords kept e refl runs said refl
      by (Err error.InvalidCompaction) e reports kept runs said = refuses error.InvalidCompaction Invalid kept e refl runs said refl
      by (Err (error.Generate message)) e reports kept runs said = refuses (error.Generate message) (Declined message) kept e refl runs said refl
      by (Err (error.MergeOperator (merge_error.Callback message))) e reports kept runs said = refuses (error.MergeOperator (merge_error.Callback message)) (OperatorRefuses message) kept e refl runs said refl
      by (Err (error.MergeOperator merge_error.EmptyBatch)) e reports kept runs said = absurd runs
      by (Err (error.MergeOperator merge_error.Memory)) e reports kept runs said = absurd runs
      by (Err error.IteratorNotInitialized) e reports kept runs said = absurd runs
      by (Err error.IteratorFailed) e reports kept runs said = absurd runs
      by (Err error.MergeOperatorMissing) e reports kept runs said = absurd runs
      by (Err (error.InvalidSequenceOrder current after)) e reports kept runs said = absurd runs
      by (Err (error.CompactionFilter cause)) e reports kept runs said = absurd runs

-- ---- heartbeats

-- A heartbeat of a live worker runs the line, and leaves the fleet with what the worker runs then.
pub beat_runs : (merge : Operator) (number n : ℕ) (old : FleetParts) (w : WorkerParts) (attempts : List AttemptParts) (stopped : Bool) (store : StoreParts) (result : Result BeatReport SlateDBError) (answer : List ℕ) → IsLawful merge → Stands merge old
    → find (λ (w : WorkerParts). n == w.number) old.workers ≡ Some w → stopped ≡ stops result → OnErr result (attempts ≡ w.attempts) → OnFalse stopped (MayWork merge store.world (record w { attempts = attempts; stopped = stopped }))
    → Made (beat_ends attempts) (heartbeat old.moment (live_of w)) merge number (party.Worker w.number) old.store store result → Says (beat_ends attempts) (λ r. beat_reply r.beat r.not_owner) result answer
    → RunsAlone merge number (state_of old) (heartbeat_line n (state_of old)) old (record old { store = store; workers = cond stopped (others n old.workers) (record w { attempts = attempts; stopped = stopped } ∷ others n old.workers) }) answer
beat_runs merge number n old w attempts stopped store result answer lawful stands there is_stopped same may made says =
    let f = is_found merge old n w stands there in
    subst (λ (c : LineCourse). RunsAlone merge number (state_of old) c old (record old { store = store; workers = cond stopped (others n old.workers) (record w { attempts = attempts; stopped = stopped } ∷ others n old.workers) }) answer)
    (sym (at_found n old w (no_such_party (state_of old)) (λ w. worker_line w (state_of old) (heartbeat old.moment w) (λ r. beat_reply r.beat r.not_owner) (λ r. r.attempts) w.attempts) there))
    (work_runs merge number old w attempts stopped store (beat_ends attempts) (λ r. beat_reply r.beat r.not_owner) (λ r. r.attempts) (map attempt_of w.attempts) (heartbeat old.moment (live_of w)) answer lawful stands n f.number
    (beats_are_lawful (caller_of merge number (Worker w.number)) old.store.world old.moment (live_of w) (calls_keep merge lawful) refl stands.keeps.store f.may.holds) Reported (beat_so number (Worker w.number) old.moment (live_of w) old.store.world.store) may
    result is_stopped (λ report a ok is. the_attempts report a is) (λ a. (beaten_with attempts a, refl)) (λ e end is gives so. as_before result w attempts same e is) (λ stored fenced. fenced) made says)
  where
    the_attempts : (report : Beaten) (a : BeatReport) → beat_ends attempts a ≡ Reports report → report.attempts ≡ map attempt_of attempts
    the_attempts report a is = let same : beaten_with attempts a ≡ report = cc is in sym (ap (λ (r : Beaten). r.attempts) same)
