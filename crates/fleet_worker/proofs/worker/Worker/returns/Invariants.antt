use Rattle.std.proofs.Common.{◌-◌}
use Rattle.step_model.specs.Steps.MessageSteps.{take_failed}
use Rattle.step_model.specs.Courses.Tries.{tries}
use Rattle.fleet_step.specs.Steps.{Leads}
use Rattle.fleet_worker.specs.Messages.{one_return}
use Rattle.fleet_worker.specs.Workers.{attempt_of, live_of}
use Rattle.fleet_worker.proofs.worker.Worker.returns.Given as goal

-- So far the worker came to the tries that are left.
abbrev pub invariant-tries : goal.invariant-tries
invariant-tries g l =
    Leads (take_failed (live_of l.self) l.fn.job l.fn.number) (g.S.Store.view l.initial.store) (tries (one_return (live_of l.self) (attempt_of l.attempt)) (64 - l.tries) l.seen) (g.S.Store.view l.store)
