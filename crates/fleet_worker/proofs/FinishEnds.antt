-- How a finish ends.
use Rattle.std.proofs.Common.{◌≡◌, refl, sym, ◌∙◌, ap, subst, ℕ, inl, inr, cond, not, Bool, true, false, map, List, [], ◌∷◌, Option, Some, None, option_map, Result, Ok, Err}
use Rattle.std.specs.Prelude.{IsSome, length}
use Rattle.std.specs.Bool.{OnFalse}
use Rattle.row_model.specs.Fold.{IsLawful}
use Rattle.fleet_model.specs.Jobs.{contains}
use Rattle.fleet_model.specs.Work.Parties.{Attempt, without_attempts}
use Rattle.step_model.specs.Courses.CourseRuns.{Gives}
use Rattle.step_model.specs.Courses.StepEnds.{Reports}
use Rattle.step_model.specs.Steps.FinishSteps.{FinishedJob}
use Rattle.step_model.specs.Views.{StoreView}
use Rattle.course_laws.specs.Finishes.{WholeUnless}
use Rattle.fleet_rows.specs.declared.errors.SlateDBError.{SlateDBError}
use Rattle.fleet_finish.specs.Puts.{AreShown, Outputs}
use Rattle.fleet_step.specs.Steps.{RunsTo, StepRan, stops}
use Rattle.fleet_step.proofs.Steps.{then_ran}
use Rattle.fleet_worker.specs.Claims.{without_parts}
use Rattle.fleet_worker.specs.Finishes.{done_ends, end_of_job, finished_job}
use Rattle.fleet_worker.specs.Finishing.{FinishRan, FinishesAttempt, IsWhy, StopsAtGets, WritesAll, WroteAll, all_ends, asked_all, finish_of, is_left, left_finished}
use Rattle.fleet_worker.specs.Workers.{AttemptParts, IsReady, WorkerParts, attempt_of, live_of, ranges_at, run_at}
use Rattle.fleet_worker.proofs.Finishes.{fewer_ready, still_shown}
use Rattle.fleet_worker.proofs.FinishTurns.{all_safe, gets_end, whole_all}
use Rattle.fleet_worker.proofs.Inserted.{without_same}
use Rattle.fleet_worker.proofs.Later.{some_noted}
use Rattle.fleet_worker.proofs.OutputRuns.{err_alike}
use Rattle.fleet_worker.proofs.Ready.{ready_after, step_later}
use Rattle.fleet_worker.proofs.RunAttempts.{at_job, run_here}

-- A worker that has the ranges of a job runs an attempt at it.
pub runs_it : (w : WorkerParts) (job : ℕ) → IsSome (ranges_at w.attempts job) → run_at w.attempts job ≡ None → ⊥
runs_it w job runs none =
    let clash : false ≡ true = subst (λ (o : Option ℕ). IsSome o) (ap (option_map (λ (a : AttemptParts). length a.ctx.ranges)) none) runs in
    cc clash

-- ---- the end of the job

module _ (moment : ℕ) (w : WorkerParts) (size : ℕ) (old new : StoreView) where
  -- An error says the same with other attempts.
  pub other_next : (next next' : List AttemptParts) (e : SlateDBError) (a : AttemptParts) → FinishesAttempt moment w size old new next (Err e) a → FinishesAttempt moment w size old new next' (Err e) a
  other_next next next' e a ran = record {
    refusal = ran.refusal;
    because = ran.because;
    ran = record { to_end = err_alike (RunsTo (finish_of old (asked_all moment w a size ran.refusal)) old new) (all_ends next) (all_ends next') e ran.ran.to_end };
  }

  module _ (job : ℕ) (a : AttemptParts) (run : run_at w.attempts job ≡ Some a) where
    abbrev gone : List AttemptParts
    gone = without_parts (job ∷ []) w.attempts

    -- The finish ended as it wrote.
    pub wrote_not : (e : SlateDBError) → WritesAll moment w size old new a (Err e) → FinishRan moment w size old new gone (Err e) job
    wrote_not e wrote = record { attempt = a; runs = run; ran = other_next w.attempts gone e a wrote }

    -- The worker runs its other attempts then.
    gone_same : without_attempts (a.job ∷ []) (live_of w).attempts ≡ map attempt_of gone
    gone_same = ap (λ j. without_attempts (j ∷ []) (live_of w).attempts) (at_job w.attempts job a run) ∙ sym (without_same (job ∷ []) w.attempts)

    module _ (mid : StoreView) (outputs : Outputs) (wrote : WroteAll moment w size old mid a outputs) where
      abbrev Ends : SlateDBError → Type 0
      Ends e = StepRan (done_ends w a outputs) (end_of_job moment w a outputs) mid new (Err e)

      -- The job was ended.
      pub ended_job : StepRan (done_ends w a outputs) (end_of_job moment w a outputs) mid new (Ok tt) → FinishRan moment w size old new gone (Ok outputs) job
      ended_job ended = record {
        attempt = a;
        runs = run;
        ran = record {
          refusal = None;
          because = inl wrote.whole;
          ran =
              then_ran _ wrote.lead
              (record { to_end = subst (λ (attempts : List Attempt). RunsTo (end_of_job moment w a outputs) mid new (Gives (Reports (finished_job outputs attempts)))) gone_same ended.to_end });
        };
      }

      -- It was not.
      pub ended_not : (e : SlateDBError) → Ends e → FinishRan moment w size old new gone (Err e) job
      ended_not e ended = record {
        attempt = a;
        runs = run;
        ran = record {
          refusal = None;
          because = inl wrote.whole;
          ran = then_ran _ wrote.lead (record { to_end = err_alike (RunsTo (end_of_job moment w a outputs) mid new) (done_ends w a outputs) (all_ends gone) e ended.to_end });
        };
      }

      -- The tables are described after that.
      pub shown_after : (done : Unit {0}) → StepRan (done_ends w a outputs) (end_of_job moment w a outputs) mid new (Ok done) → AreShown outputs mid.world.store → AreShown outputs new.world.store
      shown_after done ended shown = still_shown mid.world.store new.world.store outputs (step_later (done_ends w a outputs) mid new (end_of_job moment w a outputs) (Ok done) ended) shown

-- ---- the exit of a finish

module _ (moment : ℕ) (w : WorkerParts) (job size : ℕ) (old new : StoreView) (merges : IsLawful old.who.merge) (ready : IsReady old w) (stopped : Bool) where
  abbrev others : List AttemptParts
  others = without_parts (job ∷ []) w.attempts

  -- The result tells the end of the run with the attempts that are left.
  pub left_ran : (result : Result Outputs SlateDBError) → FinishRan moment w size old new others result job → FinishRan moment w size old new (left_finished result job w.attempts) result job
  left_ran (Ok outputs) ran = ran
  left_ran (Err e) ran = record {
    attempt = ran.attempt;
    runs = ran.runs;
    ran = other_next moment w size old new others (left_finished {A = Outputs} (Err e) job w.attempts) e ran.attempt ran.ran;
  }

  abbrev Ready : List AttemptParts → Type 0
  Ready next = OnFalse stopped (IsReady new (record w { attempts = next; stopped = stopped }))

  -- The worker is ready after a run of the finish, given what the operator refused.
  ready_ran : (a : AttemptParts) (run : run_at w.attempts a.job ≡ Some a) (refusal : Option (List ℕ)) → WholeUnless old.who.merge old.world.store.tables (attempt_of a) refusal → (result : Result Outputs SlateDBError)
      → StepRan (all_ends others) (finish_of old (asked_all moment w a size refusal)) old new result → stopped ≡ stops result → Ready (left_finished result job w.attempts)
  ready_ran a run refusal whole (Ok outputs) ran is =
      ready_after (λ (outputs : Outputs). finished_job outputs (map attempt_of others)) (λ (report : FinishedJob). report.attempts) old new w (finish_of old (asked_all moment w a size refusal)) merges ready
      (all_safe moment old w a size merges ready run refusal whole) (Ok outputs) ran stopped is others refl (λ store noted. some_noted store (λ a. not (contains (job ∷ []) a.job)) w.attempts noted)
  ready_ran a run refusal whole (Err e) ran is = by (is_left {A = Outputs} (Err e))
    where
      kept : Ready w.attempts
      kept =
          ready_after (λ (outputs : Outputs). finished_job outputs (map attempt_of others)) (λ (report : FinishedJob). report.attempts) old new w (finish_of old (asked_all moment w a size refusal)) merges ready
          (all_safe moment old w a size merges ready run refusal whole) (Err e) ran stopped is w.attempts refl (λ store noted. noted)

      by : (b : Bool) → Ready (cond b others w.attempts)
      by true = fewer_ready new w stopped (job ∷ []) kept
      by false = kept

  -- The worker is ready after the finish.
  pub finished_ready : (result : Result Outputs SlateDBError) → FinishRan moment w size old new others result job → stopped ≡ stops result → Ready (left_finished result job w.attempts)
  finished_ready result ran is = by ran.ran.refusal ran.ran.because ran.ran.ran result refl
    where
      a : AttemptParts
      a = ran.attempt

      run : run_at w.attempts a.job ≡ Some a
      run = run_here w.attempts job a ran.runs

      by : (refusal : Option (List ℕ)) → IsWhy a old new result refusal → StepRan (all_ends others) (finish_of old (asked_all moment w a size refusal)) old new result → (r : Result Outputs SlateDBError) → result ≡ r → Ready (left_finished result job w.attempts)
      by (Some message) because done r same = ready_ran a run (Some message) tt result done is
      by None (inl whole) done r same = ready_ran a run None (whole_all moment old w a size merges ready run whole) result done is
      by None (inr stop) done (Ok outputs) same = absurd (subst (λ (r : Result Outputs SlateDBError). StopsAtGets a old new r) same stop)
      by None (inr stop) done (Err e) same =
          subst (λ (r : Result Outputs SlateDBError). Ready (left_finished r job w.attempts)) (sym same)
          (ready_ran a run (Some []) tt (Err e) (err_run e (gets_end moment old w a size merges ready run new e (subst (λ (r : Result Outputs SlateDBError). StopsAtGets a old new r) same stop) (Some []))) (is ∙ ap stops same))
        where
          err_run : (e : SlateDBError) → StepRan (all_ends w.attempts) (finish_of old (asked_all moment w a size (Some []))) old new (Err e) → StepRan {A = Outputs} (all_ends others) (finish_of old (asked_all moment w a size (Some []))) old new (Err e)
          err_run e ran = record { to_end = err_alike (RunsTo (finish_of old (asked_all moment w a size (Some []))) old new) (all_ends w.attempts) (all_ends others) e ran.to_end }
