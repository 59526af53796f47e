-- The worker that a line names: it is taken from the others, and kept after its step.
use Rattle.std.proofs.Common.{◌≡◌, ◌≢◌, refl, sym, ◌∙◌, ap, subst, ℕ, List, [], ◌∷◌, cond, Bool, true, false, Option, Some, None, Result, Ok, Err}
use Rattle.std.specs.Prelude.{◌==◌, codes, find, not, IfOk}
use Rattle.row_model.specs.Fold.{Operator}
use Rattle.row_model.specs.Lists.{Pairs}
use Rattle.fleet_model.specs.Work.Parties.{LiveWorker, worker_with}
use Rattle.script_model.specs.LineRuns.{LineCourse, if_some, no_such_party}
use Rattle.script_model.specs.Replies.{reply}
use Rattle.fleet_rows.specs.declared.errors.SlateDBError.{SlateDBError}
use Rattle.fleet_worker.specs.Workers.{WorkerParts}
use Rattle.fleet_lines.specs.Fleets.{FleetParts, Stands, parties_of, state_of}
use Rattle.fleet_lines.specs.Lines.{RunsAlone}
use Rattle.fleet_lines.proofs.NoteLines.{others}
use Rattle.fleet_lines.proofs.Standing.{IsFound, is_found, numbers_differ}
use Rattle.fleet_lines.proofs.WorkLines.{at_none}

-- If no worker has the number, all workers have other numbers.
pub all_others : (n : ℕ) (workers : List WorkerParts) → find (λ (w : WorkerParts). n == w.number) workers ≡ None → others n workers ≡ workers
all_others n [] none = refl
all_others n (w ∷ workers) none = by (n == w.number) none (all_others n workers)
  where
    by : (b : Bool) → cond b (Some w) (find (λ (w : WorkerParts). n == w.number) workers) ≡ None → (find (λ (w : WorkerParts). n == w.number) workers ≡ None → others n workers ≡ workers) → cond (not b) (w ∷ others n workers) (others n workers) ≡ w ∷ workers
    by true none further = absurd (cc none)
    by false none further = ap (λ (ws : List WorkerParts). w ∷ ws) (further none)

-- A line that only replies that there is no such party.
pub none_runs : (merge : Operator) (number : ℕ) (old : FleetParts) (answer : List ℕ) → Stands merge old → answer ≡ reply (codes "nosuchparty" ∷ []) → RunsAlone merge number (state_of old) (no_such_party (state_of old)) old old answer
none_runs merge number old answer stands says = record { ends = ap (λ (a : List ℕ). (a, state_of old)) (sym says); stands = stands; same_name = refl }

-- ---- the fleet as the code sees it

-- The workers have different numbers.
pub differ_seen : (merge : Operator) (old seen : FleetParts) → seen ≡ old → Stands merge old → Pairs (λ (v w : WorkerParts). v.number ≢ w.number) seen.workers
differ_seen merge old seen same stands = numbers_differ seen.workers (subst (Stands merge) (sym same) stands).keeps.workers_differ

-- The worker that was taken may make a step.
pub taken_found : (merge : Operator) (n : ℕ) (old seen : FleetParts) (taken : Option WorkerParts) (w : WorkerParts) → seen ≡ old → Stands merge old → taken ≡ find (λ (w : WorkerParts). n == w.number) seen.workers → taken ≡ Some w → IsFound merge seen n w
taken_found merge n old seen taken w same stands found is = is_found merge seen n w (subst (Stands merge) (sym same) stands) (sym found ∙ is)

-- It is the one of the fleet.
pub found_old : (n : ℕ) (old seen : FleetParts) (taken : Option WorkerParts) (o : Option WorkerParts) → seen ≡ old → taken ≡ find (λ (w : WorkerParts). n == w.number) seen.workers → taken ≡ o → find (λ (w : WorkerParts). n == w.number) old.workers ≡ o
found_old n old seen taken o same found is = ap (λ (f : FleetParts). find (λ (w : WorkerParts). n == w.number) f.workers) (sym same) ∙ (sym found ∙ is)

-- The workers after its step.
pub kept_workers : (n : ℕ) (old seen : FleetParts) (w after : WorkerParts) (left workers : List WorkerParts) → seen ≡ old → left ≡ others n seen.workers → after ≡ record w { attempts = after.attempts; stopped = after.stopped } → workers ≡ cond after.stopped left (after ∷ left)
    → workers ≡ cond after.stopped (others n old.workers) (record w { attempts = after.attempts; stopped = after.stopped } ∷ others n old.workers)
kept_workers n old seen w after left workers same lefts kept are =
    are ∙ ap (λ (ws : List WorkerParts). cond after.stopped ws (after ∷ ws)) (lefts ∙ ap (λ (f : FleetParts). others n f.workers) same)
    ∙ ap (λ (v : WorkerParts). cond after.stopped (others n old.workers) (v ∷ others n old.workers)) kept

-- A line of a worker that is not live replies so and changes nothing.
pub nobody_runs : (merge : Operator) (number n : ℕ) (act : LiveWorker → LineCourse) (old seen : FleetParts) (taken : Option WorkerParts) (left : List WorkerParts) (said : Result (List ℕ) SlateDBError) → Stands merge old → seen ≡ old → taken ≡ find (λ (w : WorkerParts). n == w.number) seen.workers
    → left ≡ others n seen.workers → taken ≡ None → IfOk said (λ (answer : List ℕ). answer ≡ reply (codes "nosuchparty" ∷ []))
    → IfOk said (RunsAlone merge number (state_of old) (if_some (worker_with n (parties_of old)) (no_such_party (state_of old)) act) old (record seen { workers = left }))
nobody_runs merge number n act old seen taken left (Err e) stands same found are none says = tt
nobody_runs merge number n act old seen taken left (Ok answer) stands same found are none says =
    let missing = found_old n old seen taken None same found none in
    let all : left ≡ old.workers = are ∙ (ap (λ (f : FleetParts). others n f.workers) same ∙ all_others n old.workers missing) in
    subst (λ (f : FleetParts). RunsAlone merge number (state_of old) (if_some (worker_with n (parties_of old)) (no_such_party (state_of old)) act) old (record f { workers = left }) answer) (sym same)
    (subst (λ (ws : List WorkerParts). RunsAlone merge number (state_of old) (if_some (worker_with n (parties_of old)) (no_such_party (state_of old)) act) old (record old { workers = ws }) answer) (sym all)
    (subst (λ (c : LineCourse). RunsAlone merge number (state_of old) c old old answer) (sym (at_none n old (no_such_party (state_of old)) act missing)) (none_runs merge number old answer stands says)))
