use Rattle.std.proofs.Common.{rules, ◌∙◌, sym, subst, List}
use Rattle.fleet_model.specs.Work.Parties.{LiveCoordinator}
use Rattle.fleet_lines.specs.Lists.{IsTaken}
use Rattle.fleet_lines.proofs.Taken.{none_taken, removed, taken}
use Rattle.fleet_lines.proofs.parties.take_coordinator.Goals as goal

pub returns-in_err-place-clause-found : goal.returns-in_err-place-clause-found
returns-in_err-place-clause-found c = (search rules) ∙ (none_taken (λ (d : LiveCoordinator). d.number) c.args.number c.args.coordinators.now.items (search rules)).0

pub returns-in_err-place-clause-others : goal.returns-in_err-place-clause-others
returns-in_err-place-clause-others c = (none_taken (λ (d : LiveCoordinator). d.number) c.args.number c.args.coordinators.now.items (search rules)).1

pub returns-clause-found : goal.returns-clause-found
returns-clause-found c = (taken (λ (d : LiveCoordinator). d.number) c.args.number c.args.coordinators.now.items c.in_ok-place.place c.remove.result (search rules) (search rules) c.requires).0

pub returns-clause-others : goal.returns-clause-others
returns-clause-others c = c.remove.ensures.items ∙ (taken (λ (d : LiveCoordinator). d.number) c.args.number c.args.coordinators.now.items c.in_ok-place.place c.remove.result (search rules) (search rules) c.requires).1

pub returns-clause-place : goal.returns-clause-place
returns-clause-place c =
    subst (λ (rest : List LiveCoordinator). IsTaken c.args.coordinators.now.items c.in_ok-place.place c.remove.result rest) (sym c.remove.ensures.items)
    (removed c.args.coordinators.now.items c.in_ok-place.place c.remove.result (search rules) (search rules))
