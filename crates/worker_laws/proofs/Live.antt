-- Attempts that are live over some jobs, and lists of which a test leaves nothing.
use Rattle.std.proofs.Common.{◌≡◌, refl, ℕ, List, [], ◌∷◌, cond, Bool, true, false, Option, Some, None}
use Rattle.std.specs.Prelude.{IsTrue, ◌&&◌, filter}
use Rattle.std.specs.List.{AllByRecursion}
use Rattle.fleet_model.specs.Jobs.{Job, Jobs, Status, Submitted, Scheduled, Running, Compacted, Completed, Failed, status_eq, is_finished, is_active, job_with}
use Rattle.fleet_model.specs.Work.Parties.{Attempt, is_live, runs_attempt}
use Rattle.step_laws.proofs.TableBodies.{active_if_open}
use Rattle.step_laws.proofs.WorkerPuts.{live_open}

-- The job that a live attempt runs at.
pub record IsLive (worker : ℕ) (jobs : Jobs) (a : Attempt) : Type 0 where
  pub job : Job
  pub stored : job_with a.job jobs ≡ Some job
  pub runs : IsTrue (runs_attempt worker a.number (Some job))

pub live_at : (worker : ℕ) (jobs : Jobs) (a : Attempt) → is_live jobs worker a ≡ true → IsLive worker jobs a
live_at worker jobs a live = by (job_with a.job jobs) refl live
  where
    by : (o : Option Job) → job_with a.job jobs ≡ o → runs_attempt worker a.number o ≡ true → IsLive worker jobs a
    by None e never = absurd (cc never)
    by (Some job) e runs = record { job = job; stored = e; runs = runs }

-- The jobs of live attempts are active.
pub live_active : (worker : ℕ) (a : Attempt) (job : Job) → IsTrue (runs_attempt worker a.number (Some job)) → IsTrue (is_active job)
live_active worker a job runs = active_if_open job (live_open worker a.number job runs)

-- What a test leaves nothing of, passes it nowhere.
pub none_pass : {A : Type 0} (p : A → Bool) (xs : List A) → filter p xs ≡ [] → AllByRecursion (λ x. p x ≡ false) xs
none_pass p [] e = tt
none_pass p (x ∷ xs) e = by (p x) refl (none_pass p xs) e
  where
    by : (b : Bool) → p x ≡ b → (filter p xs ≡ [] → AllByRecursion (λ y. p y ≡ false) xs) → cond b (x ∷ filter p xs) (filter p xs) ≡ [] → (p x ≡ false) × AllByRecursion (λ y. p y ≡ false) xs
    by true f rest e = absurd (cc e)
    by false f rest e = (f, rest e)

pub pass_none : {A : Type 0} (p : A → Bool) (xs : List A) → AllByRecursion (λ x. p x ≡ false) xs → filter p xs ≡ []
pass_none p [] h = refl
pass_none p (x ∷ xs) h = rw h.0 (pass_none p xs h.1)

-- ---- tests of jobs

-- A job that waits is active.
pub waiting_active : (s : Status) (free : Bool) → IsTrue (status_eq Scheduled s && free) → IsTrue (cond (is_finished s) false true)
waiting_active Scheduled free h = refl
waiting_active Running free h = refl
waiting_active Submitted free h = refl
waiting_active Compacted free h = refl
waiting_active Completed free h = absurd (cc h)
waiting_active Failed free h = absurd (cc h)

-- A test of three parts is passed with another second part that is passed.
pub leased_runs : (a b c d : Bool) → IsTrue (a && b && d) → IsTrue c → IsTrue (a && c && d)
leased_runs true true true d h k = h
leased_runs true true false d h k = absurd (cc k)
leased_runs true false c d h k = absurd (cc h)
leased_runs false b c d h k = absurd (cc h)
