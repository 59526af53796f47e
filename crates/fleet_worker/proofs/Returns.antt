-- The turns of the release of one attempt.
use Rattle.std.proofs.Common.{◌≡◌, refl, sym, ◌∙◌, ap, subst, ℕ, zero, suc, ◌==◌, Bool, true, false, cond, not, map, List, [], ◌∷◌, Option, Some, None, option_map, Result, Err}
use Rattle.std.specs.Prelude.{filter}
use Rattle.std.proofs.lemmas.Bool.{eqb-true}
use Rattle.std.proofs.lemmas.Cmp.{nat_eq_equiv}
use Rattle.row_model.specs.Fold.{IsLawful}
use Rattle.fleet_model.specs.Exchanges.{PutsRecords}
use Rattle.fleet_model.specs.History as model
use Rattle.fleet_model.specs.Jobs.{Jobs, contains}
use Rattle.fleet_model.specs.Work.Parties.{Attempt, LiveWorker, attempt_at, is_live}
use Rattle.fleet_model.specs.Work.Records.{jobs_after}
use Rattle.step_model.specs.Steps.BeatSteps.{release_live}
use Rattle.step_model.specs.Steps.ClaimSteps.{at_moment}
use Rattle.step_model.specs.Courses.Course.{Course, Ends}
use Rattle.step_model.specs.Courses.CourseRuns.{IsLawfulCourse}
use Rattle.step_model.specs.Steps.MessageSteps as steps
use Rattle.step_model.specs.Steps.MessageSteps.{attempt_run, gives_run, release_job, take_failed}
use Rattle.step_model.specs.Courses.StepEnds.{StepEnd, NotOwner, Reports}
use Rattle.step_model.specs.Courses.Tries.{tries}
use Rattle.step_model.specs.Views.{StoreView}
use Rattle.commit_laws.proofs.AllCalls.{calls_keep}
use Rattle.course_laws.proofs.Messages.{messages_are_lawful}
use Rattle.course_laws.proofs.Releases.{releases}
use Rattle.worker_laws.proofs.Messages.{messages_keep_fit}
use Rattle.fleet_rows.specs.declared.errors.SlateDBError.{SlateDBError}
use Rattle.fleet_rows.specs.declared.errors.SlateDBError.TheVariants as error
use Rattle.fleet_jobs.specs.Jobs.{jobs_of}
use Rattle.fleet_book.specs.VersionedRecords.{VersionedRecords}
use Rattle.fleet_book.specs.Versions.{records_of}
use Rattle.fleet_book.specs.declared.compactions.Compactions.{Compactions}
use Rattle.fleet_history.specs.declared.record_change.RecordChange.TheVariants as change
use Rattle.fleet_store.specs.Exchanges.{records_put}
use Rattle.fleet_step.specs.Steps.{Leads, StepRan, puts_and}
use Rattle.fleet_step.proofs.Steps.{begins, gives}
use Rattle.fleet_worker.specs.Claims.{without_parts}
use Rattle.fleet_worker.specs.Messages.{IsReturnOf, ReturnsOne, attempt_with, gone_ends, if_numbered, is_gone, one_return, runs_then}
use Rattle.fleet_worker.specs.Releases.{MakesRecords}
use Rattle.fleet_worker.specs.Workers.{AttemptParts, MayStep, WorkerParts, attempt_of, live_of, run_at}
use Rattle.fleet_worker.proofs.Inserted.{without_same}
use Rattle.fleet_worker.proofs.Ready.{IsSafe}

-- ---- the attempt

pub found_same : (xs : List AttemptParts) (job : ℕ) → attempt_at job (map attempt_of xs) ≡ option_map attempt_of (run_at xs job)
found_same [] job = refl
found_same (x ∷ xs) job = ap (λ b. cond b (Some (attempt_of x)) (attempt_at job (map attempt_of xs))) (nat_eq_equiv.symm job x.job) ∙ by (x.job == job) (found_same xs job)
  where
    by : (b : Bool) → attempt_at job (map attempt_of xs) ≡ option_map attempt_of (run_at xs job) → cond b (Some (attempt_of x)) (attempt_at job (map attempt_of xs)) ≡ option_map attempt_of (cond b (Some x) (run_at xs job))
    by true rest = refl
    by false rest = rest

pub run_same : (w : WorkerParts) (job number : ℕ) → attempt_run (live_of w) job number ≡ option_map attempt_of (attempt_with w.attempts job number)
run_same w job number = rw (found_same w.attempts job) (by (run_at w.attempts job))
  where
    numbered : (a : AttemptParts) (b : Bool) → cond b (Some (attempt_of a)) None ≡ option_map attempt_of (cond b (Some a) None)
    numbered a true = refl
    numbered a false = refl

    by : (found : Option AttemptParts) → steps.if_numbered number (option_map attempt_of found) ≡ option_map attempt_of (if_numbered number found)
    by None = refl
    by (Some a) = numbered a (number == a.number)

-- ---- the put

module _ (w : WorkerParts) (a : AttemptParts) (number : ℕ) (of : number ≡ w.number) (got : VersionedRecords) where
  -- The attempt is not live.
  pub not_live : is_live (jobs_of got.compactions.jobs) number (attempt_of a) ≡ false → IsReturnOf w a (Some got) None
  not_live dead again = by (is_live (jobs_of got.compactions.jobs) w.number (attempt_of a)) (rw of at dead)
    where
      by : (b : Bool) → b ≡ false → release_live (live_of w) (records_of got) (cond b (attempt_of a ∷ []) []) (is_gone (live_of w) (attempt_of a)) again ≡ Ends (gone_ends w a tt)
      by true e = absurd (cc e)
      by false e = refl

  same_put : (v v' : ℕ) (c c' : model.RecordChange) (e e' : ℕ) (j j' : Jobs) (next : Course (StepEnd (List Attempt))) (again : ℕ → Course (StepEnd (List Attempt))) → v ≡ v' → c ≡ c' → e ≡ e' → j ≡ j'
      → puts_and (PutsRecords v c e j) v next again ≡ puts_and (PutsRecords v' c' e' j') v' next again
  same_put v v' c c' e e' j j' next again p q r s = rw (p, q, r, s) refl

  -- The put that was made gives it back.
  pub returns_one : is_live (jobs_of got.compactions.jobs) number (attempt_of a) ≡ true → (value : Compactions) (version : ℕ) (named slice : List (ℕ × ℕ)) (none : List ℕ) → version ≡ got.id → named ≡ (a.job, a.number) ∷ [] → slice ≡ named
      → MakesRecords got.compactions value (model.Release number slice) → ReturnsOne w a (Some got) (record { version = version; value = value; why = change.Release number named; jobs = none })
  returns_one alive value version named slice none of_version are of_slice made = record {
    next = λ again. by (is_live (jobs_of got.compactions.jobs) w.number (attempt_of a)) (rw of at alive) again;
    described = made.described;
  }
    where
      by : (b : Bool) → b ≡ true → (again : ℕ → Course (StepEnd (List Attempt))) → release_live (live_of w) (records_of got) (cond b (attempt_of a ∷ []) []) (is_gone (live_of w) (attempt_of a)) again
          ≡ puts_and (records_put version value (change.Release number named)) version (Ends (gone_ends w a tt)) again
      by false e again = absurd (cc e)
      by true e again =
          same_put _ _ _ _ _ _ _ _ _ again (sym of_version) (ap (λ l. model.Release w.number l) (sym are) ∙ ap (λ n. model.Release n named) (sym of)) (sym made.epoch)
          (ap (λ l. jobs_after (at_moment 0) (model.Release w.number l) (jobs_of got.compactions.jobs)) (sym are ∙ sym of_slice) ∙ sym made.jobs)

-- ---- tries

pub try_lawful : (view : StoreView) (w : LiveWorker) (a : Attempt) → MayStep view w → IsLawfulCourse view.who view.world (one_return w a (tries (one_return w a) zero))
try_lawful view w a may = releases view.who w (a ∷ []) (is_gone w a) may.party (λ world jobs. tt) (suc zero) 0 view.world

-- The step is safe for a worker that may make one.
pub failed_safe : (view : StoreView) (w : LiveWorker) (job number : ℕ) → IsLawful view.who.merge → MayStep view w → IsSafe view w (λ (attempts : List Attempt). attempts) (take_failed w job number)
failed_safe view w job number merges may = record {
  lawful = messages_are_lawful.failed view.who view.world w job number may.party;
  fits = (messages_keep_fit.failed view.who view.world w job number (calls_keep view.who.merge merges) may.party may.keeps may.holds).0;
}

module _ (w : WorkerParts) (job number : ℕ) where
  -- The worker does not run the attempt.
  pub not_run : (view : StoreView) (ends : Unit {0} → StepEnd (List Attempt)) → attempt_with w.attempts job number ≡ None → StepRan ends (take_failed (live_of w) job number) view view (Err error.NotOwner)
  unfolding take_failed
  not_run view ends none = record { to_end = rw (run_same w job number, none) (gives NotOwner view) }

  -- The worker runs the attempt, so the step is its tries.
  is_tries : (a : AttemptParts) → attempt_with w.attempts job number ≡ Some a → take_failed (live_of w) job number ≡ tries (one_return (live_of w) (attempt_of a)) 64 0
  unfolding take_failed release_job
  is_tries a run = ap (gives_run (live_of w)) (run_same w job number ∙ ap (option_map attempt_of) run)

  pub first_return : (a : AttemptParts) → attempt_with w.attempts job number ≡ Some a → (view : StoreView) → Leads (take_failed (live_of w) job number) view (tries (one_return (live_of w) (attempt_of a)) 64 0) view
  first_return a run view = subst (λ course. Leads (take_failed (live_of w) job number) view course view) (is_tries a run) (begins (take_failed (live_of w) job number) view)

  -- It is at the job.
  pub at_job : (a : AttemptParts) → attempt_with w.attempts job number ≡ Some a → a.job ≡ job
  at_job a run = by w.attempts run
    where
      pick : (x : AttemptParts) (c : Bool) → cond c (Some x) None ≡ Some a → x ≡ a
      pick x true is = cc is
      pick x false is = absurd (cc is)

      by : (xs : List AttemptParts) → if_numbered number (run_at xs job) ≡ Some a → a.job ≡ job
      by [] is = absurd (cc is)
      by (x ∷ xs) is = at (x.job == job) refl is (λ later. by xs later)
        where
          at : (b : Bool) → (x.job == job) ≡ b → if_numbered number (cond b (Some x) (run_at xs job)) ≡ Some a → (if_numbered number (run_at xs job) ≡ Some a → a.job ≡ job) → a.job ≡ job
          at true e is rest = ap (λ (y : AttemptParts). y.job) (sym (pick x (number == x.number) is)) ∙ eqb-true x.job job e
          at false e is rest = rest is

  -- The end of the step, as the worker is then.
  ends_same : (a : AttemptParts) → attempt_with w.attempts job number ≡ Some a → gone_ends w a ≡ runs_then (without_parts (job ∷ []) w.attempts)
  ends_same a run = ap (λ j done. Reports (filter (λ b. not (contains (j ∷ []) b.job)) (live_of w).attempts)) (at_job a run) ∙ ap (λ xs done. Reports xs) (sym (without_same (job ∷ []) w.attempts))

  pub ended_so : (a : AttemptParts) → attempt_with w.attempts job number ≡ Some a → {old new : StoreView} {result : Result (Unit {0}) SlateDBError} → StepRan (gone_ends w a) (take_failed (live_of w) job number) old new result
      → StepRan (runs_then (without_parts (job ∷ []) w.attempts)) (take_failed (live_of w) job number) old new result
  ended_so a run {old = old} {new = new} {result = result} ran = subst (λ ends. StepRan ends (take_failed (live_of w) job number) old new result) (ends_same a run) ran
