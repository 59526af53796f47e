-- Attempts that are seen of active jobs.
use Rattle.std.proofs.Common.{◌≡◌, refl, sym, ◌∙◌, ap, ℕ, List, [], ◌∷◌, Bool, true, false, cond, not}
use Rattle.std.specs.Prelude.{◌==◌, nat_lt, map, Some, option_map}
use Rattle.std.proofs.lemmas.Bool.{eqb-true, eq-eqb}
use Rattle.fleet_model.specs.Work.Parties.{Attempt, attempt_at, put_attempt, without_attempts}
use Rattle.fleet_exec.specs.Attempts.{AttemptsFollowJobs}
use Rattle.fleet_exec.specs.ExecutorParts.{ActiveParts}
use Rattle.fleet_exec.specs.Executors.{active_job_with, put_job, without_job}
use Rattle.fleet_exec.proofs.ActiveJobs.{apart}

turned : (a b : ℕ) → (a == b) ≡ (b == a)
turned a b = by (a == b) refl
  where
    by : (c : Bool) → (a == b) ≡ c → c ≡ (b == a)
    by true e = sym (eq-eqb b a (sym (eqb-true a b e)))
    by false e = sym (apart b a (λ same. let clash : false ≡ true = sym e ∙ eq-eqb a b (sym same) in absurd (cc clash)))

only_one : (a b : ℕ) → cond (a == b) true false ≡ (a == b)
only_one a b = by (a == b)
  where
    by : (c : Bool) → cond c true false ≡ c
    by true = refl
    by false = refl

module _ (attempt_of : ActiveParts → Attempt) (own : (job : ActiveParts) → (attempt_of job).job ≡ job.args.id) where
  -- The attempt at an id is the attempt of the job with that id.
  found : (id : ℕ) (jobs : List ActiveParts) → attempt_at id (map attempt_of jobs) ≡ option_map attempt_of (active_job_with id jobs)
  found id [] = refl
  found id (job ∷ jobs) =
      ap (λ n. cond (id == n) (Some (attempt_of job)) (attempt_at id (map attempt_of jobs))) (own job)
      ∙ ap (λ b. cond b (Some (attempt_of job)) (attempt_at id (map attempt_of jobs))) (turned id job.args.id)
      ∙ by (job.args.id == id) (found id jobs)
    where
      by : (b : Bool) → attempt_at id (map attempt_of jobs) ≡ option_map attempt_of (active_job_with id jobs)
          → cond b (Some (attempt_of job)) (attempt_at id (map attempt_of jobs)) ≡ option_map attempt_of (cond b (Some job) (active_job_with id jobs))
      by true rest = refl
      by false rest = rest

  -- A job that is put among jobs puts its attempt among theirs.
  put : (job : ActiveParts) (jobs : List ActiveParts) → put_attempt (attempt_of job) (map attempt_of jobs) ≡ map attempt_of (put_job job jobs)
  put job [] = refl
  put job (other ∷ jobs) =
      ap (λ n. cond (nat_lt n (attempt_of other).job) (attempt_of job ∷ attempt_of other ∷ map attempt_of jobs) (attempt_of other ∷ put_attempt (attempt_of job) (map attempt_of jobs))) (own job)
      ∙ ap (λ n. cond (nat_lt job.args.id n) (attempt_of job ∷ attempt_of other ∷ map attempt_of jobs) (attempt_of other ∷ put_attempt (attempt_of job) (map attempt_of jobs))) (own other)
      ∙ by (nat_lt job.args.id other.args.id) (put job jobs)
    where
      by : (b : Bool) → put_attempt (attempt_of job) (map attempt_of jobs) ≡ map attempt_of (put_job job jobs)
          → cond b (attempt_of job ∷ attempt_of other ∷ map attempt_of jobs) (attempt_of other ∷ put_attempt (attempt_of job) (map attempt_of jobs)) ≡ map attempt_of (cond b (job ∷ other ∷ jobs) (other ∷ put_job job jobs))
      by true rest = refl
      by false rest = ap (λ ys. attempt_of other ∷ ys) rest

  -- A job that is taken out takes its attempt with it.
  taken_out : (id : ℕ) (jobs : List ActiveParts) → without_attempts (id ∷ []) (map attempt_of jobs) ≡ map attempt_of (without_job id jobs)
  taken_out id [] = refl
  taken_out id (job ∷ jobs) =
      ap (λ n. cond (not (cond (id == n) true false)) (attempt_of job ∷ without_attempts (id ∷ []) (map attempt_of jobs)) (without_attempts (id ∷ []) (map attempt_of jobs))) (own job)
      ∙ ap (λ b. cond (not b) (attempt_of job ∷ without_attempts (id ∷ []) (map attempt_of jobs)) (without_attempts (id ∷ []) (map attempt_of jobs))) (only_one id job.args.id ∙ turned id job.args.id)
      ∙ by (job.args.id == id) (taken_out id jobs)
    where
      by : (b : Bool) → without_attempts (id ∷ []) (map attempt_of jobs) ≡ map attempt_of (without_job id jobs)
          → cond (not b) (attempt_of job ∷ without_attempts (id ∷ []) (map attempt_of jobs)) (without_attempts (id ∷ []) (map attempt_of jobs)) ≡ map attempt_of (cond (not b) (job ∷ without_job id jobs) (without_job id jobs))
      by true rest = rest
      by false rest = ap (λ ys. attempt_of job ∷ ys) rest

pub attempts_follow_jobs : AttemptsFollowJobs
attempts_follow_jobs attempt_of own jobs = record { found = λ id. found attempt_of own id jobs; put = λ job. put attempt_of own job jobs; taken_out = λ id. taken_out attempt_of own id jobs }
