-- A worker goes on after an output or a finish, however it ends.
use Rattle.std.proofs.Common.{◌≡◌, refl, subst, ℕ, false, inl, inr, List, [], Option, Some, None, Result, Ok, Err}
use Rattle.std.specs.Bool.{OnFalse}
use Rattle.row_model.specs.Fold.{IsLawful}
use Rattle.step_model.specs.Courses.StepEnds.{StepEnd}
use Rattle.step_model.specs.Steps.FinishSteps.{FinishedJob}
use Rattle.step_model.specs.Views.{StoreView}
use Rattle.course_laws.specs.Finishes.{WholeUnless}
use Rattle.fleet_rows.specs.declared.errors.SlateDBError.{SlateDBError}
use Rattle.fleet_finish.specs.Puts.{Outputs}
use Rattle.fleet_step.specs.Steps.{StepRan}
use Rattle.fleet_tree.specs.declared.handle.SsTableHandle.{SsTableHandle}
use Rattle.fleet_worker.specs.Finishing.{FinishRan, IsWhy, StopsAtGets, all_ends, asked_all, finish_of}
use Rattle.fleet_worker.specs.Outputs.{OutputRan}
use Rattle.fleet_worker.specs.Workers.{AttemptParts, IsReady, WorkerParts, attempt_of, run_at}
use Rattle.fleet_worker.proofs.FinishTurns.{all_safe, gets_end, whole_all}
use Rattle.fleet_worker.proofs.Outputs.{output_safe}
use Rattle.fleet_worker.proofs.RunAttempts.{run_here}
use Rattle.party_tests.specs.Callers.{GoesOn, IsHand}
use Rattle.party_tests.proofs.Hands.{goes_on, ready_hand}

module _ (moment : ℕ) (w next : WorkerParts) (job : ℕ) (old new : StoreView) (lawful : IsLawful old.who.merge) (hand : IsHand old w) (running : w.stopped ≡ false) (number : next.number ≡ w.number) (ready : OnFalse next.stopped (IsReady new next)) where
  was_ready : IsReady old w
  was_ready = ready_hand old w hand running

  -- After a finish.
  module _ (size : ℕ) (result : Result Outputs SlateDBError) (ran : FinishRan moment w size old new next.attempts result job) where
    abbrev a : AttemptParts
    a = ran.attempt

    run : run_at w.attempts a.job ≡ Some a
    run = run_here w.attempts job a ran.runs

    with_refusal : {A : Type 0} (ends : A → StepEnd FinishedJob) (refusal : Option (List ℕ)) → WholeUnless old.who.merge old.world.store.tables (attempt_of a) refusal → (result : Result A SlateDBError) → StepRan ends (finish_of old (asked_all moment w a size refusal)) old new result → GoesOn old new w next
    with_refusal ends refusal whole result done = goes_on ends (finish_of old (asked_all moment w a size refusal)) old new result done w next lawful hand number (all_safe moment old w a size lawful was_ready run refusal whole).lawful ready

    pub finish_goes_on : GoesOn old new w next
    finish_goes_on = by ran.ran.refusal ran.ran.because ran.ran.ran result refl
      where
        by : (refusal : Option (List ℕ)) → IsWhy a old new result refusal → StepRan (all_ends next.attempts) (finish_of old (asked_all moment w a size refusal)) old new result → (r : Result Outputs SlateDBError) → result ≡ r → GoesOn old new w next
        by (Some message) because done r same = with_refusal (all_ends next.attempts) (Some message) tt result done
        by None (inl whole) done r same = with_refusal (all_ends next.attempts) None (whole_all moment old w a size lawful was_ready run whole) result done
        by None (inr stop) done (Ok outputs) same = absurd (subst (λ (r : Result Outputs SlateDBError). StopsAtGets a old new r) same stop)
        by None (inr stop) done (Err e) same =
            with_refusal {A = Outputs} (all_ends w.attempts) (Some []) tt (Err e)
            (gets_end moment old w a size lawful was_ready run new e (subst (λ (r : Result Outputs SlateDBError). StopsAtGets a old new r) same stop) (Some []))

  -- After an output.
  module _ (place rows : ℕ) (result : Result (Option SsTableHandle) SlateDBError) (ran : OutputRan moment w place rows old new next.attempts result job) where
    pub output_goes_on : GoesOn old new w next
    output_goes_on =
        goes_on _ _ old new result ran.ran.ran w next lawful hand number
        (output_safe old w ran.attempt place ran.part lawful was_ready (run_here w.attempts job ran.attempt ran.runs) ran.at moment rows ran.ran.refusal).lawful ready
