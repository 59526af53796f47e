-- The attempt at a job that a line names.
use Rattle.std.proofs.Common.{◌≡◌, refl, sym, ◌∙◌, ap, ℕ, zero, suc, List, [], ◌∷◌, cond, arith, Bool, true, false, Option, Some, None}
use Rattle.std.specs.Prelude.{◌==◌, find, map, option_map, slice_get, ◌-◌, ◌≤◌, length}
use Rattle.std.proofs.lemmas.Bool.Decides.{Decides-eqb}
use Rattle.row_model.specs.Ranges.{Range}
use Rattle.fleet_model.specs.Jobs.{number_of}
use Rattle.fleet_model.specs.Work.Parties.{Attempt, LiveWorker, worker_with}
use Rattle.script_model.specs.LineCourses.{attempt_numbered, job_at, range_at}
use Rattle.script_model.specs.LineRuns.{if_some}
use Rattle.fleet_plan.specs.Parts.{Part}
use Rattle.fleet_jobs.specs.Contexts.{noted_range}
use Rattle.fleet_worker.specs.Outputs.{IsPartAt}
use Rattle.fleet_worker.specs.Workers.{AttemptParts, WorkerParts, attempt_of, live_of, ranges_at, run_at, run_of_number}
use Rattle.fleet_worker.proofs.Outputs.{range_there}
use Rattle.fleet_lines.specs.Fleets.{FleetParts, parties_of, state_of}
use Rattle.fleet_lines.specs.Work.{attempt_named}
use Rattle.fleet_read.proofs.Trees.{find_map}

-- The attempt that is found by the number of its job is the worker's attempt at the job.
pub run_named : (attempts : List AttemptParts) (number : ℕ) (a : AttemptParts) → run_of_number attempts number ≡ Some a → run_at attempts a.job ≡ Some a
run_named [] number a is = absurd (cc is)
run_named (b ∷ attempts) number a is = by (number == number_of b.job) refl (b.job == a.job) refl is (λ rest. run_named attempts number a rest)
  where
    the_one : {x y : AttemptParts} → Some x ≡ Some y → x ≡ y
    the_one e = cc e

    has_number : (xs : List AttemptParts) → run_of_number xs number ≡ Some a → number ≡ number_of a.job
    has_number [] is = absurd (cc is)
    has_number (x ∷ xs) is = one (number == number_of x.job) refl is (has_number xs)
      where
        one : (c : Bool) → (number == number_of x.job) ≡ c → cond c (Some x) (run_of_number xs number) ≡ Some a → (run_of_number xs number ≡ Some a → number ≡ number_of a.job) → number ≡ number_of a.job
        one true e is further = (Decides-eqb number (number_of x.job)).0 e ∙ ap (λ (y : AttemptParts). number_of y.job) (the_one is)
        one false e is further = further is

    by : (c : Bool) → (number == number_of b.job) ≡ c → (d : Bool) → (b.job == a.job) ≡ d → cond c (Some b) (run_of_number attempts number) ≡ Some a → (run_of_number attempts number ≡ Some a → run_at attempts a.job ≡ Some a) → cond d (Some b) (run_at attempts a.job) ≡ Some a
    by true e true f is further = is
    by true e false f is further =
        let same : b.job ≡ a.job = ap (λ (y : AttemptParts). y.job) (the_one is) in
        let clash : true ≡ false = sym ((Decides-eqb b.job a.job).1 same) ∙ f in
        absurd (cc clash)
    by false e true f is further =
        let same : b.job ≡ a.job = (Decides-eqb b.job a.job).0 f in
        let clash : true ≡ false = sym ((Decides-eqb number (number_of b.job)).1 (has_number attempts is ∙ ap number_of (sym same))) ∙ e in
        absurd (cc clash)
    by false e false f is further = further is

-- ---- what a line finds

module _ (n job : ℕ) (fleet : FleetParts) where
  -- What the line finds in a worker that is live.
  abbrev in_worker : Option LiveWorker → Option (LiveWorker × Attempt)
  in_worker o = if_some o None (λ (w : LiveWorker). if_some (attempt_numbered job w.attempts) None (λ (a : Attempt). Some (w, a)))

  worker_is : worker_with n (parties_of fleet) ≡ option_map live_of (find (λ (w : WorkerParts). n == w.number) fleet.workers)
  worker_is = find_map live_of (λ (w : LiveWorker). n == w.number) fleet.workers

  attempt_is : (w : WorkerParts) → attempt_numbered job (map attempt_of w.attempts) ≡ option_map attempt_of (run_of_number w.attempts job)
  attempt_is w = find_map attempt_of (λ (a : Attempt). job == number_of a.job) w.attempts

  -- The worker runs an attempt at the job.
  pub job_found : (w : WorkerParts) (a : AttemptParts) → find (λ (w : WorkerParts). n == w.number) fleet.workers ≡ Some w → run_of_number w.attempts job ≡ Some a → job_at (state_of fleet) n job ≡ Some (live_of w, attempt_of a)
  job_found w a there run =
      ap in_worker (worker_is ∙ ap (option_map live_of) there)
      ∙ ap (λ (o : Option Attempt). if_some o None (λ (a : Attempt). Some (live_of w, a))) (attempt_is w ∙ ap (option_map attempt_of) run)

  abbrev with_attempt : LiveWorker → Option Attempt → Option (LiveWorker × Attempt)
  with_attempt w o = if_some o None (λ (a : Attempt). Some (w, a))

  -- There is no such worker, or it runs no attempt at the job.
  pub job_missed : attempt_named fleet.workers n job ≡ None → job_at (state_of fleet) n job ≡ None
  job_missed none = ap in_worker worker_is ∙ by (find (λ (w : WorkerParts). n == w.number) fleet.workers) none
    where
      at : (w : WorkerParts) (o : Option AttemptParts) → run_of_number w.attempts job ≡ o → o ≡ None → with_attempt (live_of w) (attempt_numbered job (map attempt_of w.attempts)) ≡ None
      at w None e none = ap (with_attempt (live_of w)) (attempt_is w ∙ ap (option_map attempt_of) e)
      at w (Some a) e none = absurd (cc none)

      by : (o : Option WorkerParts) → if_some o None (λ (w : WorkerParts). run_of_number w.attempts job) ≡ None → in_worker (option_map live_of o) ≡ None
      by None none = refl
      by (Some w) none = at w (run_of_number w.attempts job) refl none

  abbrev in_job : ℕ → Option (LiveWorker × Attempt) → Option (LiveWorker × Attempt × (Range × List ℕ))
  in_job place o = if_some o None (λ (found : LiveWorker × Attempt). if_some (slice_get found.1.context.ranges (place - 1)) None (λ (range : Range × List ℕ). Some (found.0, found.1, range)))

  -- The attempt has a range at this place.
  pub range_found : (w : WorkerParts) (a : AttemptParts) (place : ℕ) (part : Part) → job_at (state_of fleet) n job ≡ Some (live_of w, attempt_of a) → IsPartAt a place part → range_at (state_of fleet) n job place ≡ Some (live_of w, attempt_of a, noted_range part)
  range_found w a place part found at =
      ap (in_job place) found ∙ ap (λ (o : Option (Range × List ℕ)). if_some o None (λ (range : Range × List ℕ). Some (live_of w, attempt_of a, range))) (range_there a place part at)

  -- It has none.
  pub range_missed : (w : WorkerParts) (a : AttemptParts) (place : ℕ) → job_at (state_of fleet) n job ≡ Some (live_of w, attempt_of a) → length a.ctx.ranges ≤ place - 1 → range_at (state_of fleet) n job place ≡ None
  range_missed w a place found beyond =
      ap (in_job place) found ∙ ap (λ (o : Option (Range × List ℕ)). if_some o None (λ (range : Range × List ℕ). Some (live_of w, attempt_of a, range))) (none_beyond a.ctx.ranges (place - 1) beyond)
    where
      none_beyond : (parts : List Part) (k : ℕ) → length parts ≤ k → slice_get (map noted_range parts) k ≡ None
      none_beyond [] k low = refl
      none_beyond (part ∷ parts) zero low = absurd (omega (arith, low))
      none_beyond (part ∷ parts) (suc k) low = none_beyond parts k (omega (arith, low))

  -- The line finds no range where it finds no attempt.
  pub no_range : (place : ℕ) → job_at (state_of fleet) n job ≡ None → range_at (state_of fleet) n job place ≡ None
  no_range place none = ap (in_job place) none

-- ---- what the code finds

-- The attempt that is found is one of a live worker.
pub record IsNamed (workers : List WorkerParts) (n job : ℕ) (a : AttemptParts) : Type 0 where
  pub worker : WorkerParts
  pub there : find (λ (w : WorkerParts). n == w.number) workers ≡ Some worker
  pub runs : run_of_number worker.attempts job ≡ Some a

pub is_named : (workers : List WorkerParts) (n job : ℕ) (a : AttemptParts) → attempt_named workers n job ≡ Some a → IsNamed workers n job a
is_named workers n job a named = by (find (λ (w : WorkerParts). n == w.number) workers) refl named
  where
    by : (o : Option WorkerParts) → find (λ (w : WorkerParts). n == w.number) workers ≡ o → if_some o None (λ (w : WorkerParts). run_of_number w.attempts job) ≡ Some a → IsNamed workers n job a
    by None e named = absurd (cc named)
    by (Some w) e named = record { worker = w; there = e; runs = named }

-- The worker that is found runs the attempt.
pub runs_named : (workers : List WorkerParts) (n job : ℕ) (w : WorkerParts) (a : AttemptParts) → find (λ (w : WorkerParts). n == w.number) workers ≡ Some w → attempt_named workers n job ≡ Some a → run_of_number w.attempts job ≡ Some a
runs_named workers n job w a there named = sym (ap (λ (o : Option WorkerParts). if_some o None (λ (w : WorkerParts). run_of_number w.attempts job)) there) ∙ named

-- If the worker is not live, no attempt is found.
pub none_named : (workers : List WorkerParts) (n job : ℕ) → find (λ (w : WorkerParts). n == w.number) workers ≡ None → attempt_named workers n job ≡ None
none_named workers n job none = ap (λ (o : Option WorkerParts). if_some o None (λ (w : WorkerParts). run_of_number w.attempts job)) none

-- It has its ranges.
pub ranges_named : (w : WorkerParts) (job : ℕ) (a : AttemptParts) → run_of_number w.attempts job ≡ Some a → ranges_at w.attempts a.job ≡ Some (length a.ctx.ranges)
ranges_named w job a run = ap (option_map (λ (b : AttemptParts). length b.ctx.ranges)) (run_named w.attempts job a run)
