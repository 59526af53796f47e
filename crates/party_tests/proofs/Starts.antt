-- What holds after a step of a coordinator, a submitter or the writer.
use Rattle.std.proofs.Common.{◌≡◌, ◌∙◌, ap, subst, sym, ℕ, None, Result, Ok, Err}
use Rattle.std.specs.Bool.{OnFalse}
use Rattle.std.specs.Prelude.{IfOk}
use Rattle.std.proofs.lemmas.Bool.{OnFalse_at, OnFalse_from}
use Rattle.row_model.specs.Append.{append}
use Rattle.row_model.specs.Fold.{Operator}
use Rattle.step_model.specs.Courses.Course.{Course}
use Rattle.step_model.specs.Courses.StepEnds.{StepEnd}
use Rattle.step_model.specs.Kept.Keeps.{Keeps}
use Rattle.step_model.specs.Fits.{CoordinatorHolds}
use Rattle.step_model.specs.Past.{World}
use Rattle.step_model.specs.Rivals.{Caller}
use Rattle.step_model.specs.Views.{StoreView}
use Rattle.fleet_model.specs.History.{Coordinator}
use Rattle.fleet_coordinator.specs.Handling.{CoordinatorParts, IsReady}
use Rattle.fleet_rows.specs.declared.errors.SlateDBError.{SlateDBError}
use Rattle.fleet_step.specs.Steps.{StepRan}
use Rattle.fleet_worker.specs.Workers.{WorkerParts}
use Rattle.party_tests.specs.Callers.{IsIdle, IsStaffed}
use Rattle.party_tests.specs.Starts.{MayLead, MayStart}
use Rattle.party_tests.proofs.Hands.{same_caller}

module _ {A B : Type 0} (ends : A → StepEnd B) (course : Course (StepEnd B)) (old new : StoreView) (result : Result A SlateDBError) (ran : StepRan ends course old new result) where
  -- Rows are merged by the same operator.
  pub same_merge : (merge : Operator) → old.who.merge ≡ merge → new.who.merge ≡ merge
  same_merge merge same = ap (λ (who : Caller). who.merge) (same_caller ends course old new result ran).who ∙ same

  -- A coordinator calls the store on.
  pub may_start_on : MayStart old → Keeps new.who.merge new.world → MayStart new
  may_start_on may keeps = record {
    by = record {
      number = may.by.number;
      party = ap (λ (who : Caller). who.party) (same_caller ends course old new result ran).who ∙ may.by.party;
    };
    keeps = keeps;
  }

  -- A worker that runs nothing fits the store.
  pub idle_after : (merge : Operator) → old.who.merge ≡ merge → Keeps new.who.merge new.world → (w : WorkerParts) → IsIdle w → IsStaffed merge new.world w
  idle_after merge same keeps w idle = idle merge new.world (subst (λ (m : Operator). Keeps m new.world) (same_merge merge same) keeps)

-- A store that shows the same meets the invariant too.
pub keeps_as : (merge : Operator) (world : World) (view : StoreView) → Keeps merge world → view.who.merge ≡ merge → view.world ≡ world → Keeps view.who.merge view.world
keeps_as merge world view keeps folds same = subst (λ (m : Operator). Keeps m view.world) (sym folds) (subst (Keeps merge) (sym same) keeps)

-- The coordinator 1 may poll over a store that shows what it may lead.
pub ready_as : (world : World) (c : CoordinatorParts) (view : StoreView) → MayLead world c → view.who.party ≡ Coordinator 1 → view.who.merge ≡ append → view.world ≡ world → IsReady view c
ready_as world c view may party folds same = record {
  number = 1;
  party = party;
  keeps = keeps_as append world view may.keeps folds same;
  holds = subst (λ (met : World). CoordinatorHolds met (record { number = 1; epoch = c.epoch }) None) (sym same) may.holds;
}

-- The coordinator 1 may lead where it may poll.
leads_here : (view : StoreView) (c : CoordinatorParts) → IsReady view c → view.who.party ≡ Coordinator 1 → view.who.merge ≡ append → MayLead view.world c
leads_here view c ready party folds =
    let named : Coordinator ready.number ≡ Coordinator 1 = sym ready.party ∙ party in
    record {
      keeps = subst (λ (merge : Operator). Keeps merge view.world) folds ready.keeps;
      holds = subst (λ (number : ℕ). CoordinatorHolds view.world (record { number = number; epoch = c.epoch }) None) (cc named) ready.holds;
    }

module _ {A B : Type 0} (ends : A → StepEnd B) (course : Course (StepEnd B)) (old new : StoreView) (result : Result A SlateDBError) (ran : StepRan ends course old new result) (party : old.who.party ≡ Coordinator 1) (folds : old.who.merge ≡ append) where
  -- It may lead where it may poll after its step.
  leads_after : (c : CoordinatorParts) → IsReady new c → MayLead new.world c
  leads_after c ready =
      leads_here new c ready (ap (λ (who : Caller). who.party) (same_caller ends course old new result ran).who ∙ party)
      (same_merge ends course old new result ran append folds)

  -- So it is if it has started, or is not stopped.
  pub leads_if_ok : (started : Result CoordinatorParts SlateDBError) → IfOk started (IsReady new) → IfOk started (MayLead new.world)
  leads_if_ok (Ok c) ready = leads_after c ready
  leads_if_ok (Err e) ready = tt

  pub leads_on : (c : CoordinatorParts) → OnFalse c.stopped (IsReady new c) → OnFalse c.stopped (MayLead new.world c)
  leads_on c ready = OnFalse_from c.stopped (MayLead new.world c) (λ running. leads_after c (OnFalse_at running ready))
