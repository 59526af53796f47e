use Rattle.std.proofs.Common.{◌-◌}
use Rattle.step_model.specs.Steps.PollSteps.{start, start_try}
use Rattle.step_model.specs.Courses.Tries.{tries}
use Rattle.fleet_step.specs.Steps.{Leads}
use Rattle.fleet_coordinator.proofs.coordinator.start.Given as goal

-- So far the coordinator came to the tries that are left.
abbrev pub invariant-tries : goal.invariant-tries
invariant-tries g l = Leads start (g.S.Store.view l.initial.store) (tries start_try (64 - l.tries) l.seen) (g.S.Store.view l.store)
