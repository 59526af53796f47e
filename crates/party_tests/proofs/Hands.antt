-- A worker that calls its store calls it on after a step.
use Rattle.std.proofs.Common.{◌≡◌, refl, sym, ◌∙◌, ap, subst, ℕ, Bool, true, false, List, [], Option, Some, None, Result}
use Rattle.std.specs.Bool.{OnFalse}
use Rattle.row_model.specs.Fold.{IsLawful, Operator}
use Rattle.fleet_model.specs.History.{Worker}
use Rattle.step_model.specs.LawfulRecords.{OfSome}
use Rattle.step_model.specs.Courses.Course.{Course}
use Rattle.step_model.specs.Courses.CourseRuns.{End, IsLawfulCourse}
use Rattle.step_model.specs.Courses.StepEnds.{StepEnd}
use Rattle.step_model.specs.Past.{World}
use Rattle.step_model.specs.Rivals.{Caller}
use Rattle.step_model.specs.Views.{SameCaller, StoreView}
use Rattle.fleet_rows.specs.declared.errors.SlateDBError.{SlateDBError}
use Rattle.fleet_step.specs.Steps.{RunsTo, StepRan, end_of}
use Rattle.fleet_step.proofs.Keeping.{step_keeps}
use Rattle.step_model.specs.Steps.BeatSteps.{Beaten, heartbeat, release_all}
use Rattle.step_model.specs.Steps.ClaimSteps.{Claimed, WorkerOptions, claim}
use Rattle.fleet_worker.specs.Workers.{IsReady, IsReadyAnywhere, MayStep, WorkerParts, live_of}
use Rattle.fleet_worker.proofs.Beats.{beat_safe}
use Rattle.fleet_worker.proofs.Claims.{claim_safe}
use Rattle.fleet_worker.proofs.Releases.{release_safe}
use Rattle.party_tests.specs.Callers.{GoesOn, IsHand, IsIdle, IsStaffed, MayHire}

-- A worker that is not stopped is ready for a step.
pub ready_hand : (view : StoreView) (w : WorkerParts) → IsHand view w → w.stopped ≡ false → IsReady view w
ready_hand view w hand running = record {
  may = record { party = hand.party; keeps = hand.staffed.keeps; holds = hand.staffed.holds running };
  noted = hand.staffed.noted running;
}

on_false : {P : Type 0} (b : Bool) → OnFalse b P → b ≡ false → P
on_false true p running = absurd (cc running)
on_false false p running = p

module _ {A B : Type 0} (ends : A → StepEnd B) (course : Course (StepEnd B)) (old new : StoreView) (result : Result A SlateDBError) (ran : StepRan ends course old new result) where
  -- The caller stays the same.
  pub same_caller : SameCaller old new
  same_caller = by (end_of ends result) ran.to_end
    where
      by : (end : Option (End (StepEnd B))) → OfSome (RunsTo course old new) end → SameCaller old new
      by None runs = absurd runs
      by (Some end) runs = runs.same

  -- The worker goes on.
  pub goes_on : (w next : WorkerParts) → IsLawful old.who.merge → IsHand old w → next.number ≡ w.number → IsLawfulCourse old.who old.world course → OnFalse next.stopped (IsReady new next) → GoesOn old new w next
  goes_on w next lawful hand number calls ready = record {
    same = same_caller;
    number = number;
    hand = record {
      party = ap (λ (who : Caller). who.party) same_caller.who ∙ (hand.party ∙ ap Worker (sym number));
      staffed = record {
        keeps = step_keeps ends course old new result lawful hand.staffed.keeps calls ran;
        holds = λ running. (on_false next.stopped ready running).may.holds;
        noted = λ running. (on_false next.stopped ready running).noted;
      };
    };
  }

-- A worker that made no call goes on.
pub goes_nowhere : (view : StoreView) (w : WorkerParts) → IsHand view w → GoesOn view view w w
goes_nowhere view w hand = record { same = record { who = refl; lent = refl; place = refl }; number = refl; hand = hand }

-- The worker goes on after a claim, a heartbeat or a release of all its jobs.
module _ (old new : StoreView) (w next : WorkerParts) (lawful : IsLawful old.who.merge) (hand : IsHand old w) (running : w.stopped ≡ false) (number : next.number ≡ w.number) (ready : OnFalse next.stopped (IsReady new next)) where
  may : MayStep old (live_of w)
  may = (ready_hand old w hand running).may

  pub claim_goes_on : {A : Type 0} (ends : A → StepEnd Claimed) (options : WorkerOptions) (moment : ℕ) (result : Result A SlateDBError) → StepRan ends (claim options moment (live_of w)) old new result → GoesOn old new w next
  claim_goes_on ends options moment result ran = goes_on ends (claim options moment (live_of w)) old new result ran w next lawful hand number (claim_safe old options moment (live_of w) lawful may).lawful ready

  pub beat_goes_on : {A : Type 0} (ends : A → StepEnd Beaten) (moment : ℕ) (result : Result A SlateDBError) → StepRan ends (heartbeat moment (live_of w)) old new result → GoesOn old new w next
  beat_goes_on ends moment result ran = goes_on ends (heartbeat moment (live_of w)) old new result ran w next lawful hand number (beat_safe old moment (live_of w) lawful may).lawful ready

  pub release_goes_on : {A : Type 0} (ends : A → StepEnd (List ℕ)) (result : Result A SlateDBError) → StepRan ends (release_all (live_of w)) old new result → GoesOn old new w next
  release_goes_on ends result ran = goes_on ends (release_all (live_of w)) old new result ran w next lawful hand number (release_safe old (live_of w) lawful may).lawful ready

-- A worker that is ready anywhere fits each store that meets the invariant.
pub ready_idle : (w : WorkerParts) → IsReadyAnywhere w → IsIdle w
ready_idle w anywhere merge world keeps =
    let view : StoreView = record {
      who = record { merge = merge; line = 0; party = Worker w.number; alone = true };
      world = world;
      faults = 0;
      waits = None;
      processed = [];
      lent = 0;
      place = [];
    } in
    let ready = anywhere view refl keeps in
    record { keeps = keeps; holds = λ running. ready.may.holds; noted = λ running. ready.noted }

-- A worker that has just started calls the store.
pub hired_hand : (view : StoreView) (number : ℕ) (w : WorkerParts) → MayHire view number → w.number ≡ number → IsReadyAnywhere w → IsHand view w
hired_hand view number w may same anywhere = record {
  party = may.party ∙ ap Worker (sym same);
  staffed = ready_idle w anywhere view.who.merge view.world may.keeps;
}

-- A worker that fits a store calls one that shows the same to it.
pub hand_as : (merge : Operator) (world : World) (w : WorkerParts) (view : StoreView) → IsStaffed merge world w → view.who.party ≡ Worker w.number → view.who.merge ≡ merge → view.world ≡ world → IsHand view w
hand_as merge world w view staffed party folds same = record {
  party = party;
  staffed = subst (λ (m : Operator). IsStaffed m view.world w) (sym folds) (subst (λ (met : World). IsStaffed merge met w) (sym same) staffed);
}
