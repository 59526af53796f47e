-- The line by which a worker finishes its attempt at a job.
use Rattle.std.proofs.Common.{◌≡◌, refl, sym, ◌∙◌, ap, subst, ℕ, List, [], ◌∷◌, cond, map, Bool, Option, Some, None, Result, Ok, Err}
use Rattle.std.specs.Prelude.{◌==◌, codes, find, IfOk}
use Rattle.std.specs.Bool.{OnFalse}
use Rattle.std.proofs.lemmas.Result.{IfOk-weaker}
use Rattle.row_model.specs.Fold.{IsLawful}
use Rattle.fleet_model.specs.History.{Worker}
use Rattle.fleet_model.specs.Store.{Store}
use Rattle.fleet_model.specs.Work.Parties.{Attempt, LiveWorker, without_attempts}
use Rattle.step_model.specs.Courses.CourseRuns.{Gives}
use Rattle.step_model.specs.Courses.StepEnds.{StepEnd, Reports, GivesUp, Fenced, NoRecords, Invalid, Declined}
use Rattle.step_model.specs.Steps.FinishSteps.{FinishedJob, finish}
use Rattle.commit_laws.proofs.AllCalls.{calls_keep}
use Rattle.course_laws.proofs.Finishes.{finishes_are_lawful}
use Rattle.script_model.specs.LineCourses.{course_of, job_at}
use Rattle.script_model.specs.LineRuns.{if_some, no_such_party}
use Rattle.script_model.specs.Lines.WorkLines.{finish_asked, finish_line, without_attempt}
use Rattle.script_model.specs.Refusals.{FinishMay}
use Rattle.script_model.specs.Replies.{ranges_text, reply}
use Rattle.script_model.specs.Script.{FinishJob}
use Rattle.script_model.specs.States.{Inputs}
use Rattle.line_laws.proofs.Lines.{caller_of}
use Rattle.line_laws.proofs.StepRefusals.{FinishEnds, finish_so}
use Rattle.line_laws.proofs.WorkerLines.{whole_unless}
use Rattle.fleet_rows.specs.declared.errors.SlateDBError.{SlateDBError}
use Rattle.fleet_rows.specs.declared.errors.SlateDBError.TheVariants as error
use Rattle.fleet_jobs.specs.Contexts.{table_ids}
use Rattle.fleet_store.specs.Memory.{StoreParts}
use Rattle.fleet_finish.specs.Puts.{Outputs}
use Rattle.fleet_step.specs.Steps.{end_of, stops}
use Rattle.fleet_worker.specs.Claims.{without_parts}
use Rattle.fleet_worker.specs.Finishes.{finished_job}
use Rattle.fleet_worker.specs.Finishing.{all_ends, left_finished}
use Rattle.fleet_worker.specs.Workers.{AttemptParts, WorkerParts, attempt_of, live_of, run_at, run_of_number}
use Rattle.fleet_worker.proofs.Inserted.{without_same}
use Rattle.fleet_worker.proofs.RunAttempts.{does_run, one_run}
use Rattle.fleet_lines.specs.Fleets.{FleetParts, Stands, state_of}
use Rattle.fleet_lines.specs.Lines.{Serves}
use Rattle.fleet_lines.specs.Steps.{MayWork, Says, error_reply}
use Rattle.fleet_lines.specs.Work.{FinishMade, attempt_named}
use Rattle.fleet_lines.proofs.Attempts.{job_found, job_missed, none_named, run_named, runs_named}
use Rattle.fleet_lines.proofs.Made.{error_says}
use Rattle.fleet_lines.proofs.Named.{all_others, found_old, kept_workers, none_runs}
use Rattle.fleet_lines.proofs.NoteLines.{others}
use Rattle.fleet_lines.proofs.OutputLines.{the_end}
use Rattle.fleet_lines.proofs.Standing.{is_found}
use Rattle.fleet_lines.proofs.WorkLines.{work_runs}

-- ---- what is left after a refusal

-- If the step was refused, the worker does not run the attempt at the job any more.
module _ (next : List AttemptParts) (v : LiveWorker) (b : Attempt) (before left : Store) (job : ℕ) (attempts : List AttemptParts) where
  abbrev Left : SlateDBError → Type 0
  Left e = left_finished {A = Outputs} (Err e) job attempts ≡ without_parts (job ∷ []) attempts

  other : {P : Type 0} (e end : StepEnd FinishedJob) → Some (Gives e) ≡ Some (Gives end) → (FinishEnds v b before e left → ⊥) → FinishEnds v b before end left → P
  other e end is never so = absurd (never (subst (λ (x : StepEnd FinishedJob). FinishEnds v b before x left) (sym (the_end is)) so))

  -- After each refusal by which a finish may end, the worker does not run the attempt any more.
  left_ended : (e : SlateDBError) (end : StepEnd FinishedJob) → end_of (all_ends next) (Err e) ≡ Some (Gives end) → FinishEnds v b before end left → Left e
  left_ended error.StoreFault end is so = absurd (cc is)
  left_ended error.Memory end is so = absurd (cc is)
  left_ended (error.Conflict seen) end is so = other (GivesUp seen) end is (λ h. h) so
  left_ended (error.Fenced stored) end is so = other (Fenced stored) end is (λ h. h) so
  left_ended error.NotOwner end is so = refl
  left_ended error.InvalidDBState end is so = other NoRecords end is (λ h. h) so
  left_ended error.InvalidCompaction end is so = other Invalid end is (λ h. h) so
  left_ended (error.Generate message) end is so = other (Declined message) end is (λ h. h) so
  left_ended (error.MergeOperator cause) end is so = refl
  left_ended error.IteratorNotInitialized end is so = absurd (cc is)
  left_ended error.IteratorFailed end is so = absurd (cc is)
  left_ended error.MergeOperatorMissing end is so = absurd (cc is)
  left_ended (error.InvalidSequenceOrder current after) end is so = absurd (cc is)
  left_ended (error.CompactionFilter cause) end is so = absurd (cc is)

-- ---- the line

module _ (inputs : Inputs) (number n job : ℕ) (old : FleetParts) (answer : List ℕ) where
  -- The line ends so if it finds no attempt.
  pub none_finish : Stands inputs.merge old → job_at (state_of old) n job ≡ None → answer ≡ reply (codes "nosuchparty" ∷ []) → Serves inputs number (FinishJob n job) old old answer
  unfolding course_of
  none_finish stands none says =
      let runs = none_runs inputs.merge number old answer stands says in
      record {
        course = record {
          course = no_such_party (state_of old);
          does = record {
            refusal = None;
            may = subst (λ (o : Option (LiveWorker × Attempt)). FinishMay inputs (state_of old) o None) (sym none) refl;
            is = sym (ap (λ (o : Option (LiveWorker × Attempt)). if_some o (no_such_party (state_of old)) (λ found. finish_line inputs (state_of old) (finish_asked (state_of old) None found))) none);
          };
          ends = runs.ends;
        };
        stands = runs.stands;
        same_name = runs.same_name;
      }

  -- The line with the finish of the attempt that it finds.
  module _ (w : WorkerParts) (a : AttemptParts) (attempts : List AttemptParts) (stopped : Bool) (store : StoreParts) (result : Result Outputs SlateDBError) where
    abbrev after : FleetParts
    after = record old { store = store; workers = cond stopped (others n old.workers) (record w { attempts = attempts; stopped = stopped } ∷ others n old.workers) }

    pub finish_serves : IsLawful inputs.merge → Stands inputs.merge old → find (λ (w : WorkerParts). n == w.number) old.workers ≡ Some w → run_of_number w.attempts job ≡ Some a → stopped ≡ stops result → attempts ≡ left_finished result a.job w.attempts
        → OnFalse stopped (MayWork inputs.merge store.world (record w { attempts = attempts; stopped = stopped })) → FinishMade inputs (state_of old) number w old.store store attempts result a.job → Says (all_ends attempts) (λ r. reply (codes "ok" ∷ ranges_text r.outputs ∷ [])) result answer
        → Serves inputs number (FinishJob n job) old after answer
    unfolding course_of
    finish_serves lawful stands there run is_stopped same may made says =
        let f = is_found inputs.merge old n w stands there in
        let here = one_run w.attempts a.job made.attempt a made.runs (run_named w.attempts job a run) in
        let found : LiveWorker × Attempt = (live_of w, attempt_of made.attempt) in
        let ask = finish_asked (state_of old) made.refusal found in
        let at = job_found n job old w made.attempt there (run ∙ ap Some (sym here)) in
        let step = finish inputs.merge (state_of old).store.tables ask in
        let runs =
        work_runs inputs.merge number old w attempts stopped store (all_ends attempts) (λ (r : FinishedJob). reply (codes "ok" ∷ ranges_text r.outputs ∷ [])) (λ (r : FinishedJob). r.attempts) (without_attempt (live_of w) (attempt_of made.attempt)) step answer lawful stands n f.number
        (finishes_are_lawful (caller_of inputs.merge number (Worker w.number)) old.store.world ask (calls_keep inputs.merge lawful) lawful refl stands.keeps.store f.may.holds (does_run w made.attempt (ap (λ (b : AttemptParts). run_at w.attempts b.job) here ∙ run_named w.attempts job a run ∙ ap Some (sym here)))
        (whole_unless inputs (state_of old) (live_of w) (attempt_of made.attempt) made.refusal made.may))
        (FinishEnds (live_of w) (attempt_of made.attempt) old.store.world.store) (finish_so number (Worker w.number) inputs.merge (state_of old).store.tables ask old.store.world.store) may
        result is_stopped (λ report x ok is. the_attempts report x is) (λ x. (finished_job x (map attempt_of attempts), refl))
        (λ e end is gives so. kept made.attempt here e end is gives so) (λ stored fenced. fenced) made.made says in
        record {
          course = record {
            course = finish_line inputs (state_of old) ask;
            does = record {
              refusal = made.refusal;
              may = subst (λ (o : Option (LiveWorker × Attempt)). FinishMay inputs (state_of old) o made.refusal) (sym at) made.may;
              is = sym (ap (λ (o : Option (LiveWorker × Attempt)). if_some o (no_such_party (state_of old)) (λ found. finish_line inputs (state_of old) (finish_asked (state_of old) made.refusal found))) at);
            };
            ends = runs.ends;
          };
          stands = runs.stands;
          same_name = runs.same_name;
        }
      where
        the_attempts : (report : FinishedJob) (x : Outputs) → all_ends attempts x ≡ Reports report → report.attempts ≡ map attempt_of attempts
        the_attempts report x is = let same : finished_job x (map attempt_of attempts) ≡ report = cc is in sym (ap (λ (r : FinishedJob). r.attempts) same)

        kept : (b : AttemptParts) → b ≡ a → (e : SlateDBError) (end : StepEnd FinishedJob) → result ≡ Err e → end_of (all_ends attempts) (Err e) ≡ Some (Gives end) → FinishEnds (live_of w) (attempt_of b) old.store.world.store end store.world.store → without_attempt (live_of w) (attempt_of b) ≡ map attempt_of attempts
        kept b here e end is gives so =
            let gone = ap (λ (r : Result Outputs SlateDBError). left_finished r a.job w.attempts) is ∙ left_ended attempts (live_of w) (attempt_of b) old.store.world.store store.world.store a.job w.attempts e end gives so in
            ap (λ (c : AttemptParts). without_attempts (c.job ∷ []) (map attempt_of w.attempts)) here ∙ sym (without_same (a.job ∷ []) w.attempts) ∙ ap (map attempt_of) (sym (same ∙ gone))

-- ---- the fleet as the code sees it

module _ (inputs : Inputs) (number n job : ℕ) (old seen : FleetParts) (stands : Stands inputs.merge old) (same : seen ≡ old) where
  abbrev ServesNow : FleetParts → List ℕ → Type 0
  ServesNow new answer = Serves inputs number (FinishJob n job) old new answer

  abbrev IsNobody : List ℕ → Type 0
  IsNobody answer = answer ≡ reply (codes "nosuchparty" ∷ [])

  -- No attempt is found.
  pub no_attempt : (named : Option AttemptParts) (said : Result (List ℕ) SlateDBError) → named ≡ attempt_named seen.workers n job → named ≡ None → IfOk said IsNobody → IfOk said (ServesNow old)
  no_attempt named said found none says =
      let missed = job_missed n job old (ap (λ (f : FleetParts). attempt_named f.workers n job) (sym same) ∙ (sym found ∙ none)) in
      IfOk-weaker said IsNobody (ServesNow old) (λ answer is. none_finish inputs number n job old answer stands missed is) says

  -- The worker is not live.
  pub no_worker : (taken : Option WorkerParts) (left : List WorkerParts) (said : Result (List ℕ) SlateDBError) → taken ≡ find (λ (w : WorkerParts). n == w.number) seen.workers → left ≡ others n seen.workers → taken ≡ None → IfOk said IsNobody → IfOk said (ServesNow (record seen { workers = left }))
  no_worker taken left said found lefts none says =
      let missing = found_old n old seen taken None same found none in
      let all : left ≡ old.workers = lefts ∙ (ap (λ (f : FleetParts). others n f.workers) same ∙ all_others n old.workers missing) in
      let missed = job_missed n job old (none_named old.workers n job missing) in
      subst (λ (f : FleetParts). IfOk said (ServesNow (record f { workers = left }))) (sym same)
      (subst (λ (ws : List WorkerParts). IfOk said (ServesNow (record old { workers = ws }))) (sym all)
      (IfOk-weaker said IsNobody (ServesNow old) (λ answer is. none_finish inputs number n job old answer stands missed is) says))

  -- The job is finished.
  pub finish_said : (a : AttemptParts) (named : Option AttemptParts) (taken : Option WorkerParts) (w after : WorkerParts) (left workers : List WorkerParts) (store : StoreParts) (result : Result Outputs SlateDBError) (said : Result (List ℕ) SlateDBError) → IsLawful inputs.merge
      → named ≡ attempt_named seen.workers n job → named ≡ Some a → taken ≡ find (λ (w : WorkerParts). n == w.number) seen.workers → left ≡ others n seen.workers → taken ≡ Some w → after.stopped ≡ stops result → after ≡ record w { attempts = after.attempts; stopped = after.stopped }
      → after.attempts ≡ left_finished result a.job w.attempts → OnFalse after.stopped (MayWork inputs.merge store.world after) → FinishMade inputs (state_of old) number w seen.store store after.attempts result a.job → workers ≡ cond after.stopped left (after ∷ left)
      → IfOk said (λ (answer : List ℕ). (attempts : List AttemptParts) → Says (all_ends attempts) (λ r. reply (codes "ok" ∷ ranges_text r.outputs ∷ [])) result answer) → IfOk said (ServesNow (record seen { store = store; workers = workers }))
  finish_said a named taken w after left workers store result said lawful found_named is_named found lefts is stopped kept ended may made are says =
      subst (λ (f : FleetParts). IfOk said (ServesNow (record f { store = store; workers = workers }))) (sym same)
      (subst (λ (ws : List WorkerParts). IfOk said (ServesNow (record old { store = store; workers = ws }))) (sym (kept_workers n old seen w after left workers same lefts kept are))
      (IfOk-weaker said _ (ServesNow (record old { store = store; workers = cond after.stopped (others n old.workers) (record w { attempts = after.attempts; stopped = after.stopped } ∷ others n old.workers) }))
      (λ answer all. finish_serves inputs number n job old answer w a after.attempts after.stopped store result lawful stands there (runs_named old.workers n job w a there (ap (λ (f : FleetParts). attempt_named f.workers n job) (sym same) ∙ (sym found_named ∙ is_named))) stopped ended
      (subst (λ (v : WorkerParts). OnFalse after.stopped (MayWork inputs.merge store.world v)) kept may) (subst (λ (f : FleetParts). FinishMade inputs (state_of old) number w f.store store after.attempts result a.job) same made) (all after.attempts)) says))
    where
      there : find (λ (w : WorkerParts). n == w.number) old.workers ≡ Some w
      there = found_old n old seen taken (Some w) same found is

-- ---- the reply

-- The reply to a finish.
pub outputs_said : (outputs : Outputs) (names : List (List ℕ)) (answer : List ℕ) → names ≡ map table_ids outputs → answer ≡ reply (codes "ok" ∷ ranges_text names ∷ []) → (attempts : List AttemptParts) → Says (all_ends attempts) (λ r. reply (codes "ok" ∷ ranges_text r.outputs ∷ [])) (Ok outputs) answer
outputs_said outputs names answer are says attempts = record { says = ap Some (sym (says ∙ ap (λ (ids : List (List ℕ)). reply (codes "ok" ∷ ranges_text ids ∷ [])) are)) }

-- The reply to a finish that failed.
pub finish_failed : (e : SlateDBError) (answer : List ℕ) → error_reply e ≡ Some answer → (attempts : List AttemptParts) → Says (all_ends attempts) (λ r. reply (codes "ok" ∷ ranges_text r.outputs ∷ [])) (Err e) answer
finish_failed e answer says attempts = error_says (all_ends attempts) (λ r. reply (codes "ok" ∷ ranges_text r.outputs ∷ [])) e answer says
