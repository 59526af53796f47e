use Rattle.std.proofs.Common.{rules, ◌∙◌, ap}
use Rattle.step_model.specs.Courses.StepEnds.{Reports}
use Rattle.step_model.specs.Steps.PollSteps.{start}
use Rattle.fleet_store.specs.Under.{store_of}
use Rattle.fleet_coordinator.specs.Handling.{CoordinatorParts}
use Rattle.fleet_lines.proofs.Made.{keeps_back}
use Rattle.fleet_lines.proofs.steps.started.Goals as goal

pub returns-in-Ok-clause-keeps : goal.returns-in-Ok-clause-keeps
returns-in-Ok-clause-keeps g c =
    keeps_back (λ (d : CoordinatorParts). Reports d.epoch) start _ _ _ (store_of c.set_actor.new.self) _ _ c.start.result (ap (λ o. g.O.MergeOperator.merged (g.O.MergeOperator.settings o)) (c.set_actor.ensures.same_operator ∙ c.under-under.ensures.operator)) (search rules)
    c.start.ensures.ran c.start.ensures.keeps

pub returns-in-Err-clause-keeps : goal.returns-in-Err-clause-keeps
returns-in-Err-clause-keeps g c =
    keeps_back (λ (d : CoordinatorParts). Reports d.epoch) start _ _ _ (store_of c.set_actor.new.self) _ _ c.start.result (ap (λ o. g.O.MergeOperator.merged (g.O.MergeOperator.settings o)) (c.set_actor.ensures.same_operator ∙ c.under-under.ensures.operator)) (search rules)
    c.start.ensures.ran c.start.ensures.keeps
