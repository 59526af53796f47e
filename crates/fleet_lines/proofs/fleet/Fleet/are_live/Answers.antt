use Rattle.std.proofs.Common.{◌∙◌, ap}
use Rattle.fleet_lines.specs.Fleets.{FleetParts}
use Rattle.fleet_lines.proofs.WorkLeft.{none_lives, worker_decides}
use Rattle.fleet_lines.proofs.fleet.Fleet.are_live.Goals as goal

pub returns-then-has_coordinator : goal.returns-then-has_coordinator
returns-then-has_coordinator c =
    worker_decides c.args.coordinator c.args.worker c.args.self.now c.as_slice.result.now c.as_slice-then-has_coordinator.result.now (c.as_slice.ensures.value ∙ ap (λ (f : FleetParts). f.coordinators) c.self.view_is)
    c.has_coordinator.result c.has_worker.result c.has_coordinator.ensures c.if-has_coordinator.true (c.as_slice-then-has_coordinator.ensures.value ∙ ap (λ (f : FleetParts). f.workers) c.self.view_is) c.has_worker.ensures

pub returns-else-has_coordinator : goal.returns-else-has_coordinator
returns-else-has_coordinator c =
    none_lives c.args.coordinator c.args.worker c.args.self.now c.as_slice.result.now c.args.self.now.workers (c.as_slice.ensures.value ∙ ap (λ (f : FleetParts). f.coordinators) c.self.view_is)
    c.has_coordinator.result c.has_coordinator.ensures c.if-has_coordinator.false
