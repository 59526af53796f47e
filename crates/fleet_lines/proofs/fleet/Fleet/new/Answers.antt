use Rattle.std.proofs.Common.{List, [], sym, ap, subst}
use Rattle.fleet_model.specs.Work.Parties.{LiveCoordinator}
use Rattle.fleet_store.specs.Memory.{StoreParts}
use Rattle.fleet_worker.specs.Workers.{WorkerParts}
use Rattle.fleet_lines.specs.Fleets.{IsFresh}
use Rattle.fleet_lines.proofs.Fresh.{is_fresh}
use Rattle.fleet_lines.proofs.fleet.Fleet.new.Goals as goal

pub returns-clause-fresh : goal.returns-clause-fresh
returns-clause-fresh c =
    subst (λ (cs : List LiveCoordinator). IsFresh (record { options = c.args.options; moment = 0; last_name = 0; store = c.in_ok-new.field-0; coordinators = cs; workers = c.new-3.result.items })) (sym c.new-2.ensures.items)
    (subst (λ (ws : List WorkerParts). IsFresh (record { options = c.args.options; moment = 0; last_name = 0; store = c.in_ok-new.field-0; coordinators = []; workers = ws })) (sym c.new-3.ensures.items)
    (is_fresh c.args.options c.in_ok-new.field-0 c.requires.few (ap (λ (s : StoreParts). s.world) c.in_ok-new.ensures.store) (ap (λ (s : StoreParts). s.waits) c.in_ok-new.ensures.store)))
