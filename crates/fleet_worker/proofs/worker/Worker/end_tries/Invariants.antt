use Rattle.std.proofs.Common.{◌-◌}
use Rattle.step_model.specs.Courses.Tries.{tries}
use Rattle.fleet_step.specs.Steps.{Leads}
use Rattle.fleet_worker.specs.Finishes.{end_of_job, one_finish}
use Rattle.fleet_worker.proofs.worker.Worker.end_tries.Given as goal

-- So far the worker came to the tries that are left.
abbrev pub invariant-tries : goal.invariant-tries
invariant-tries g l =
    Leads (end_of_job l.moment l.self l.attempt l.outputs) (g.S.Store.view l.initial.store) (tries (one_finish l.moment l.self l.attempt l.outputs) (64 - l.tries) l.seen) (g.S.Store.view l.store)
