-- The line by which a worker writes the next rows of a range of its attempt at a job.
use Rattle.std.proofs.Common.{◌≡◌, refl, sym, ◌∙◌, ap, subst, ℕ, ◌<◌, List, [], ◌∷◌, cond, length, map, Bool, Option, Some, None, option_map, Result, Ok, Err, arith}
use Rattle.std.specs.Prelude.{◌==◌, codes, decimal, find, IfOk, OnErr}
use Rattle.std.specs.Bool.{OnFalse}
use Rattle.std.proofs.lemmas.Result.{IfOk-weaker}
use Rattle.row_model.specs.Fold.{IsLawful}
use Rattle.row_model.specs.Ranges.{Range}
use Rattle.row_model.specs.Rows.{Row}
use Rattle.fleet_model.specs.History.{Worker}
use Rattle.fleet_model.specs.Store.{Store}
use Rattle.fleet_model.specs.Work.Parties.{Attempt, LiveWorker, without_attempts}
use Rattle.step_model.specs.Courses.CourseRuns.{Gives}
use Rattle.step_model.specs.Courses.StepEnds.{StepEnd, Reports, GivesUp, Fenced, NotOwner, NoRecords, Invalid, Declined}
use Rattle.step_model.specs.Steps.OutputSteps.{OutputAsk, Written, output, rows_written}
use Rattle.commit_laws.proofs.AllCalls.{calls_keep}
use Rattle.course_laws.proofs.Outputs.{outputs_are_lawful}
use Rattle.script_model.specs.LineCourses.{course_of, range_at}
use Rattle.script_model.specs.LineRuns.{if_some, no_such_party}
use Rattle.script_model.specs.Lines.WorkLines.{output_asked, output_line, without_attempt}
use Rattle.script_model.specs.Refusals.{OutputMay}
use Rattle.script_model.specs.Replies.{output_reply, reply, table_text}
use Rattle.script_model.specs.Script.{Output}
use Rattle.script_model.specs.States.{Inputs}
use Rattle.line_laws.proofs.Lines.{caller_of}
use Rattle.line_laws.proofs.StepRefusals.{OutputEnds, output_so}
use Rattle.fleet_rows.specs.declared.errors.SlateDBError.{SlateDBError}
use Rattle.fleet_rows.specs.declared.errors.SlateDBError.TheVariants as error
use Rattle.fleet_tree.specs.declared.handle.SsTableHandle.{SsTableHandle}
use Rattle.fleet_jobs.specs.Contexts.{noted_range}
use Rattle.fleet_store.specs.Memory.{StoreParts}
use Rattle.fleet_step.specs.Steps.{end_of, stops}
use Rattle.fleet_worker.specs.Claims.{without_parts}
use Rattle.fleet_worker.specs.Outputs.{left_by, output_ends}
use Rattle.fleet_worker.specs.Workers.{AttemptParts, WorkerParts, attempt_of, live_of, run_at, run_of_number}
use Rattle.fleet_worker.proofs.Inserted.{without_same}
use Rattle.fleet_worker.proofs.RunAttempts.{does_run, one_run}
use Rattle.fleet_lines.specs.Fleets.{FleetParts, Stands, state_of}
use Rattle.fleet_lines.specs.Lines.{Serves}
use Rattle.fleet_lines.specs.Steps.{MayWork, Says, error_reply}
use Rattle.fleet_lines.specs.Work.{IsCounted, OutputMade, attempt_named}
use Rattle.fleet_lines.proofs.Attempts.{is_named, job_found, job_missed, no_range, none_named, range_found, range_missed, run_named, runs_named}
use Rattle.fleet_lines.proofs.Made.{error_says}
use Rattle.fleet_lines.proofs.Named.{all_others, found_old, kept_workers, none_runs}
use Rattle.fleet_lines.proofs.NoteLines.{others}
use Rattle.fleet_lines.proofs.Standing.{is_found}
use Rattle.fleet_lines.proofs.WorkLines.{work_runs}

-- ---- what is left after a refusal

pub the_end : {A : Type 0} {a b : StepEnd A} → Some (Gives a) ≡ Some (Gives b) → a ≡ b
the_end e = cc e

-- If the step was refused, the operator refused a fold, and the worker does not run the attempt at the job any more.
module _ (rows : List Row) (next : List AttemptParts) (v : LiveWorker) (b : Attempt) (before left : Store) (job : ℕ) (attempts : List AttemptParts) where
  abbrev ends : Option SsTableHandle → StepEnd Written
  ends answer = output_ends rows next answer

  abbrev Left : SlateDBError → Type 0
  Left e = left_by {A = Option SsTableHandle} (Err e) job attempts ≡ without_parts (job ∷ []) attempts

  other : {P : Type 0} (e end : StepEnd Written) → Some (Gives e) ≡ Some (Gives end) → (OutputEnds v b before e left → ⊥) → OutputEnds v b before end left → P
  other e end is never so = absurd (never (subst (λ (x : StepEnd Written). OutputEnds v b before x left) (sym (the_end is)) so))

  -- After each refusal by which an output may end, the worker does not run the attempt any more.
  left_refused : (e : SlateDBError) (end : StepEnd Written) → end_of ends (Err e) ≡ Some (Gives end) → OutputEnds v b before end left → Left e
  left_refused error.StoreFault end is so = absurd (cc is)
  left_refused error.Memory end is so = absurd (cc is)
  left_refused (error.Conflict seen) end is so = other (GivesUp seen) end is (λ h. h) so
  left_refused (error.Fenced stored) end is so = other (Fenced stored) end is (λ h. h) so
  left_refused error.NotOwner end is so = other NotOwner end is (λ h. h) so
  left_refused error.InvalidDBState end is so = other NoRecords end is (λ h. h) so
  left_refused error.InvalidCompaction end is so = other Invalid end is (λ h. h) so
  left_refused (error.Generate message) end is so = other (Declined message) end is (λ h. h) so
  left_refused (error.MergeOperator cause) end is so = refl
  left_refused error.IteratorNotInitialized end is so = absurd (cc is)
  left_refused error.IteratorFailed end is so = absurd (cc is)
  left_refused error.MergeOperatorMissing end is so = absurd (cc is)
  left_refused (error.InvalidSequenceOrder current after) end is so = absurd (cc is)
  left_refused (error.CompactionFilter cause) end is so = absurd (cc is)

-- ---- the line

module _ (inputs : Inputs) (number n job place rows : ℕ) (old : FleetParts) (answer : List ℕ) where
  -- The line ends so if it finds no range.
  pub none_output : Stands inputs.merge old → range_at (state_of old) n job place ≡ None → answer ≡ reply (codes "nosuchparty" ∷ []) → Serves inputs number (Output n job place rows) old old answer
  unfolding course_of
  none_output stands none says =
      let runs = none_runs inputs.merge number old answer stands says in
      record {
        course = record {
          course = no_such_party (state_of old);
          does = record {
            refusal = None;
            may = subst (λ (o : Option (LiveWorker × Attempt × (Range × List ℕ))). OutputMay inputs (state_of old) rows o None) (sym none) refl;
            is = sym (ap (λ (o : Option (LiveWorker × Attempt × (Range × List ℕ))). if_some o (no_such_party (state_of old)) (λ found. output_line inputs (state_of old) (output_asked (state_of old) place rows None found))) none);
          };
          ends = runs.ends;
        };
        stands = runs.stands;
        same_name = runs.same_name;
      }

  -- The line with the output of the range that it finds.
  module _ (w : WorkerParts) (a : AttemptParts) (attempts : List AttemptParts) (stopped : Bool) (store : StoreParts) (result : Result (Option SsTableHandle) SlateDBError) where
    abbrev after : FleetParts
    after = record old { store = store; workers = cond stopped (others n old.workers) (record w { attempts = attempts; stopped = stopped } ∷ others n old.workers) }

    abbrev its_rows : OutputAsk → List Row
    its_rows ask = rows_written inputs.merge (state_of old).store.tables ask

    pub output_serves : IsLawful inputs.merge → Stands inputs.merge old → find (λ (w : WorkerParts). n == w.number) old.workers ≡ Some w → run_of_number w.attempts job ≡ Some a → stopped ≡ stops result → OnErr result (attempts ≡ left_by result a.job w.attempts)
        → OnFalse stopped (MayWork inputs.merge store.world (record w { attempts = attempts; stopped = stopped })) → OutputMade inputs (state_of old) number w old.store store attempts place rows result a.job
        → ((written : List Row) → IsCounted (length written) result → Says (output_ends written attempts) (λ r. output_reply r.table) result answer) → Serves inputs number (Output n job place rows) old after answer
    unfolding course_of
    output_serves lawful stands there run is_stopped same may made says =
        let f = is_found inputs.merge old n w stands there in
        let here = one_run w.attempts a.job made.attempt a made.runs (run_named w.attempts job a run) in
        let found : LiveWorker × Attempt × (Range × List ℕ) = (live_of w, attempt_of made.attempt, noted_range made.part) in
        let ask = output_asked (state_of old) place rows made.refusal found in
        let at = range_found n job old w made.attempt place made.part (job_found n job old w made.attempt there (run ∙ ap Some (sym here))) made.at in
        let step = output inputs.merge (state_of old).store.tables ask in
        let runs =
        work_runs inputs.merge number old w attempts stopped store (output_ends (its_rows ask) attempts) (λ (r : Written). output_reply r.table) (λ (r : Written). r.attempts) (without_attempt (live_of w) (attempt_of made.attempt)) step answer lawful stands n f.number
        (outputs_are_lawful (caller_of inputs.merge number (Worker w.number)) old.store.world ask (calls_keep inputs.merge lawful) lawful refl stands.keeps.store f.may.holds (does_run w made.attempt (ap (λ (b : AttemptParts). run_at w.attempts b.job) here ∙ run_named w.attempts job a run ∙ ap Some (sym here))))
        (OutputEnds (live_of w) (attempt_of made.attempt) old.store.world.store) (output_so number (Worker w.number) inputs.merge (state_of old).store.tables ask old.store.world.store) may
        result is_stopped (λ report x ok is. the_attempts (its_rows ask) report x is) (λ x. (record { table = option_map (λ (handle : SsTableHandle). (handle.id, its_rows ask)) x; attempts = map attempt_of attempts }, refl))
        (λ e end is gives so. kept made.attempt here (its_rows ask) e end is gives so) (λ stored fenced. fenced) made.made (says (its_rows ask) made.counted) in
        record {
          course = record {
            course = output_line inputs (state_of old) ask;
            does = record {
              refusal = made.refusal;
              may = subst (λ (o : Option (LiveWorker × Attempt × (Range × List ℕ))). OutputMay inputs (state_of old) rows o made.refusal) (sym at) made.may;
              is = sym (ap (λ (o : Option (LiveWorker × Attempt × (Range × List ℕ))). if_some o (no_such_party (state_of old)) (λ found. output_line inputs (state_of old) (output_asked (state_of old) place rows made.refusal found))) at);
            };
            ends = runs.ends;
          };
          stands = runs.stands;
          same_name = runs.same_name;
        }
      where
        the_attempts : (written : List Row) (report : Written) (x : Option SsTableHandle) → output_ends written attempts x ≡ Reports report → report.attempts ≡ map attempt_of attempts
        the_attempts written report x is =
            let same : record { table = option_map (λ (handle : SsTableHandle). (handle.id, written)) x; attempts = map attempt_of attempts } ≡ report = cc is in sym (ap (λ (r : Written). r.attempts) same)

        kept : (b : AttemptParts) → b ≡ a → (written : List Row) (e : SlateDBError) (end : StepEnd Written) → result ≡ Err e → end_of (output_ends written attempts) (Err e) ≡ Some (Gives end) → OutputEnds (live_of w) (attempt_of b) old.store.world.store end store.world.store
            → without_attempt (live_of w) (attempt_of b) ≡ map attempt_of attempts
        kept b here written e end is gives so =
            let left : attempts ≡ left_by {A = Option SsTableHandle} (Err e) a.job w.attempts = subst (λ (r : Result (Option SsTableHandle) SlateDBError). OnErr r (attempts ≡ left_by r a.job w.attempts)) is same in
            let gone = left_refused written attempts (live_of w) (attempt_of b) old.store.world.store store.world.store a.job w.attempts e end gives so in
            ap (λ (c : AttemptParts). without_attempts (c.job ∷ []) (map attempt_of w.attempts)) here ∙ sym (without_same (a.job ∷ []) w.attempts) ∙ ap (map attempt_of) (sym (left ∙ gone))

-- ---- the fleet as the code sees it

module _ (inputs : Inputs) (number n job place rows : ℕ) (old seen : FleetParts) (stands : Stands inputs.merge old) (same : seen ≡ old) where
  abbrev ServesNow : FleetParts → List ℕ → Type 0
  ServesNow new answer = Serves inputs number (Output n job place rows) old new answer

  abbrev IsNobody : List ℕ → Type 0
  IsNobody answer = answer ≡ reply (codes "nosuchparty" ∷ [])

  -- No attempt is found.
  none_here : (named : Option AttemptParts) → named ≡ attempt_named seen.workers n job → named ≡ None → range_at (state_of old) n job place ≡ None
  none_here named found none = no_range n job old place (job_missed n job old (ap (λ (f : FleetParts). attempt_named f.workers n job) (sym same) ∙ (sym found ∙ none)))

  pub no_attempt : (named : Option AttemptParts) (said : Result (List ℕ) SlateDBError) → named ≡ attempt_named seen.workers n job → named ≡ None → IfOk said IsNobody → IfOk said (ServesNow old)
  no_attempt named said found none says = IfOk-weaker said IsNobody (ServesNow old) (λ answer is. none_output inputs number n job place rows old answer stands (none_here named found none) is) says

  -- The attempt has no range at the place.
  pub no_place : (a : AttemptParts) (named : Option AttemptParts) (said : Result (List ℕ) SlateDBError) → named ≡ attempt_named seen.workers n job → named ≡ Some a → length a.ctx.ranges < place → IfOk said IsNobody → IfOk said (ServesNow old)
  no_place a named said found is beyond says =
      let m = is_named old.workers n job a (ap (λ (f : FleetParts). attempt_named f.workers n job) (sym same) ∙ (sym found ∙ is)) in
      let missed = range_missed n job old m.worker a place (job_found n job old m.worker a m.there m.runs) (omega (arith, beyond)) in
      IfOk-weaker said IsNobody (ServesNow old) (λ answer none. none_output inputs number n job place rows old answer stands missed none) says

  -- The worker is not live.
  pub no_worker : (taken : Option WorkerParts) (left : List WorkerParts) (said : Result (List ℕ) SlateDBError) → taken ≡ find (λ (w : WorkerParts). n == w.number) seen.workers → left ≡ others n seen.workers → taken ≡ None → IfOk said IsNobody → IfOk said (ServesNow (record seen { workers = left }))
  no_worker taken left said found lefts none says =
      let missing = found_old n old seen taken None same found none in
      let all : left ≡ old.workers = lefts ∙ (ap (λ (f : FleetParts). others n f.workers) same ∙ all_others n old.workers missing) in
      let missed = no_range n job old place (job_missed n job old (none_named old.workers n job missing)) in
      subst (λ (f : FleetParts). IfOk said (ServesNow (record f { workers = left }))) (sym same)
      (subst (λ (ws : List WorkerParts). IfOk said (ServesNow (record old { workers = ws }))) (sym all)
      (IfOk-weaker said IsNobody (ServesNow old) (λ answer is. none_output inputs number n job place rows old answer stands missed is) says))

  -- The range is written.
  pub output_said : (a : AttemptParts) (named : Option AttemptParts) (taken : Option WorkerParts) (w after : WorkerParts) (left workers : List WorkerParts) (store : StoreParts) (result : Result (Option SsTableHandle) SlateDBError) (said : Result (List ℕ) SlateDBError) → IsLawful inputs.merge
      → named ≡ attempt_named seen.workers n job → named ≡ Some a → taken ≡ find (λ (w : WorkerParts). n == w.number) seen.workers → left ≡ others n seen.workers → taken ≡ Some w → after.stopped ≡ stops result → after ≡ record w { attempts = after.attempts; stopped = after.stopped }
      → OnErr result (after.attempts ≡ left_by result a.job w.attempts) → OnFalse after.stopped (MayWork inputs.merge store.world after) → OutputMade inputs (state_of old) number w seen.store store after.attempts place rows result a.job → workers ≡ cond after.stopped left (after ∷ left)
      → IfOk said (λ (answer : List ℕ). (written : List Row) (attempts : List AttemptParts) → IsCounted (length written) result → Says (output_ends written attempts) (λ r. output_reply r.table) result answer) → IfOk said (ServesNow (record seen { store = store; workers = workers }))
  output_said a named taken w after left workers store result said lawful found_named is_named found lefts is stopped kept unchanged may made are says =
      subst (λ (f : FleetParts). IfOk said (ServesNow (record f { store = store; workers = workers }))) (sym same)
      (subst (λ (ws : List WorkerParts). IfOk said (ServesNow (record old { store = store; workers = ws }))) (sym (kept_workers n old seen w after left workers same lefts kept are))
      (IfOk-weaker said _ (ServesNow (record old { store = store; workers = cond after.stopped (others n old.workers) (record w { attempts = after.attempts; stopped = after.stopped } ∷ others n old.workers) }))
      (λ answer all. output_serves inputs number n job place rows old answer w a after.attempts after.stopped store result lawful stands there (runs_named old.workers n job w a there (ap (λ (f : FleetParts). attempt_named f.workers n job) (sym same) ∙ (sym found_named ∙ is_named))) stopped unchanged
      (subst (λ (v : WorkerParts). OnFalse after.stopped (MayWork inputs.merge store.world v)) kept may) (subst (λ (f : FleetParts). OutputMade inputs (state_of old) number w f.store store after.attempts place rows result a.job) same made) (λ written counted. all written after.attempts counted)) says))
    where
      there : find (λ (w : WorkerParts). n == w.number) old.workers ≡ Some w
      there = found_old n old seen taken (Some w) same found is

-- ---- the reply

-- The reply to an output that wrote a table.
pub table_said : (handle : SsTableHandle) (answer : List ℕ) → answer ≡ reply (codes "ok" ∷ table_text handle.id ∷ decimal handle.rows ∷ []) → (written : List Row) (attempts : List AttemptParts) → IsCounted (length written) (Ok (Some handle))
    → Says (output_ends written attempts) (λ r. output_reply r.table) (Ok (Some handle)) answer
table_said handle answer says written attempts counted = record { says = ap Some (sym (says ∙ ap (λ (k : ℕ). reply (codes "ok" ∷ table_text handle.id ∷ decimal k ∷ [])) counted)) }

-- The reply to an output that found nothing left.
pub nothing_said : (answer : List ℕ) → answer ≡ output_reply None → (written : List Row) (attempts : List AttemptParts) → IsCounted (length written) (Ok None) → Says (output_ends written attempts) (λ r. output_reply r.table) (Ok None) answer
nothing_said answer says written attempts counted = record { says = ap Some (sym says) }

-- The reply to an output that failed.
pub failure_said : (e : SlateDBError) (answer : List ℕ) → error_reply e ≡ Some answer → (written : List Row) (attempts : List AttemptParts) → IsCounted (length written) (Err e) → Says (output_ends written attempts) (λ r. output_reply r.table) (Err e) answer
failure_said e answer says written attempts counted = error_says (output_ends written attempts) (λ r. output_reply r.table) e answer says
