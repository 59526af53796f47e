-- The line by which a worker claims jobs.
use Rattle.std.proofs.Common.{◌≡◌, refl, sym, ap, subst, ℕ, List, ◌∷◌, cond, Bool, Option, Some, Result}
use Rattle.std.specs.Prelude.{◌==◌, find, map, OnErr}
use Rattle.std.specs.Bool.{OnFalse}
use Rattle.row_model.specs.Fold.{Operator, IsLawful}
use Rattle.fleet_model.specs.History.{Worker}
use Rattle.step_model.specs.Courses.StepEnds.{Reports}
use Rattle.step_model.specs.Steps.ClaimSteps.{Claimed, claim}
use Rattle.commit_laws.proofs.AllCalls.{calls_keep}
use Rattle.course_laws.proofs.Claims.{claims_are_lawful}
use Rattle.script_model.specs.LineRuns.{LineCourse, no_such_party}
use Rattle.script_model.specs.Lines.WorkLines.{claim_line, worker_line, worker_options}
use Rattle.script_model.specs.Replies.{claim_reply}
use Rattle.line_laws.proofs.Lines.{caller_of}
use Rattle.line_laws.proofs.StepRefusals.{Reported, claim_so}
use Rattle.fleet_rows.specs.declared.errors.SlateDBError.{SlateDBError}
use Rattle.fleet_history.specs.declared.party.Party.TheVariants as party
use Rattle.fleet_store.specs.Memory.{StoreParts}
use Rattle.fleet_step.specs.Steps.{stops}
use Rattle.fleet_worker.specs.Claims.{claim_ends, claimed_with}
use Rattle.fleet_worker.specs.Workers.{AttemptParts, WorkerParts, attempt_of, live_of}
use Rattle.fleet_worker.specs.declared.claim.ClaimReport.{ClaimReport}
use Rattle.fleet_lines.specs.Fleets.{FleetParts, Stands, options_of, state_of}
use Rattle.fleet_lines.specs.Lines.{RunsAlone}
use Rattle.fleet_lines.specs.Steps.{Made, MayWork, Says}
use Rattle.fleet_lines.proofs.Named.{found_old, kept_workers}
use Rattle.fleet_lines.proofs.NoteLines.{others}
use Rattle.fleet_lines.proofs.Standing.{is_found}
use Rattle.fleet_lines.proofs.WorkLines.{as_before, at_found, work_runs}

-- A claim of a live worker runs the line, and leaves the fleet with what the worker runs then.
pub claim_runs : (merge : Operator) (number n : ℕ) (old : FleetParts) (w : WorkerParts) (attempts : List AttemptParts) (stopped : Bool) (store : StoreParts) (result : Result ClaimReport SlateDBError) (answer : List ℕ) → IsLawful merge → Stands merge old
    → find (λ (w : WorkerParts). n == w.number) old.workers ≡ Some w → stopped ≡ stops result → OnErr result (attempts ≡ w.attempts) → OnFalse stopped (MayWork merge store.world (record w { attempts = attempts; stopped = stopped }))
    → Made (claim_ends attempts) (claim (worker_options (options_of old.options)) old.moment (live_of w)) merge number (party.Worker w.number) old.store store result → Says (claim_ends attempts) (λ r. claim_reply r.begun r.stopped) result answer
    → RunsAlone merge number (state_of old) (claim_line n (state_of old)) old (record old { store = store; workers = cond stopped (others n old.workers) (record w { attempts = attempts; stopped = stopped } ∷ others n old.workers) }) answer
claim_runs merge number n old w attempts stopped store result answer lawful stands there is_stopped same may made says =
    let f = is_found merge old n w stands there in
    let step = claim (worker_options (options_of old.options)) old.moment (live_of w) in
    subst (λ (c : LineCourse). RunsAlone merge number (state_of old) c old (record old { store = store; workers = cond stopped (others n old.workers) (record w { attempts = attempts; stopped = stopped } ∷ others n old.workers) }) answer)
    (sym (at_found n old w (no_such_party (state_of old)) (λ w. worker_line w (state_of old) (claim (worker_options (options_of old.options)) old.moment w) (λ r. claim_reply r.begun r.stopped) (λ r. r.attempts) w.attempts) there))
    (work_runs merge number old w attempts stopped store (claim_ends attempts) (λ r. claim_reply r.begun r.stopped) (λ r. r.attempts) (map attempt_of w.attempts) step answer lawful stands n f.number
    (claims_are_lawful (caller_of merge number (Worker w.number)) old.store.world (worker_options (options_of old.options)) old.moment (live_of w) (calls_keep merge lawful) stands.keeps.store refl)
    Reported (claim_so number (Worker w.number) (worker_options (options_of old.options)) old.moment (live_of w) old.store.world.store) may
    result is_stopped (λ report a ok is. the_attempts report a is) (λ a. (claimed_with attempts a, refl)) (λ e end is gives so. as_before result w attempts same e is) (λ stored fenced. fenced) made says)
  where
    the_attempts : (report : Claimed) (a : ClaimReport) → claim_ends attempts a ≡ Reports report → report.attempts ≡ map attempt_of attempts
    the_attempts report a is = let same : claimed_with attempts a ≡ report = cc is in sym (ap (λ (r : Claimed). r.attempts) same)

-- So a fleet runs the line, with the worker that was taken and is kept after its step.
pub claim_said : (merge : Operator) (number n : ℕ) (old seen : FleetParts) (taken : Option WorkerParts) (w after : WorkerParts) (left workers : List WorkerParts) (store : StoreParts) (result : Result ClaimReport SlateDBError) (answer : List ℕ) → IsLawful merge → Stands merge old → seen ≡ old
    → taken ≡ find (λ (w : WorkerParts). n == w.number) seen.workers → left ≡ others n seen.workers → taken ≡ Some w → after.stopped ≡ stops result → after ≡ record w { attempts = after.attempts; stopped = after.stopped } → OnErr result (after.attempts ≡ w.attempts)
    → OnFalse after.stopped (MayWork merge store.world after) → Made (claim_ends after.attempts) (claim (worker_options (options_of seen.options)) seen.moment (live_of w)) merge number (party.Worker w.number) seen.store store result → workers ≡ cond after.stopped left (after ∷ left)
    → Says (claim_ends after.attempts) (λ r. claim_reply r.begun r.stopped) result answer → RunsAlone merge number (state_of old) (claim_line n (state_of old)) old (record seen { store = store; workers = workers }) answer
claim_said merge number n old seen taken w after left workers store result answer lawful stands same found lefts is stopped kept unchanged may made are says =
    subst (λ (f : FleetParts). RunsAlone merge number (state_of old) (claim_line n (state_of old)) old (record f { store = store; workers = workers }) answer) (sym same)
    (subst (λ (ws : List WorkerParts). RunsAlone merge number (state_of old) (claim_line n (state_of old)) old (record old { store = store; workers = ws }) answer) (sym (kept_workers n old seen w after left workers same lefts kept are))
    (claim_runs merge number n old w after.attempts after.stopped store result answer lawful stands (found_old n old seen taken (Some w) same found is) stopped unchanged (subst (λ (v : WorkerParts). OnFalse after.stopped (MayWork merge store.world v)) kept may)
    (subst (λ (f : FleetParts). Made (claim_ends after.attempts) (claim (worker_options (options_of f.options)) f.moment (live_of w)) merge number (party.Worker w.number) f.store store result) same made) says))
