use Rattle.std.proofs.Common.{◌-◌}
use Rattle.step_model.specs.Steps.BeatSteps.{beat_try, heartbeat}
use Rattle.step_model.specs.Courses.Tries.{tries}
use Rattle.fleet_step.specs.Steps.{Leads}
use Rattle.fleet_worker.specs.Workers.{live_of}
use Rattle.fleet_worker.proofs.worker.Worker.beats.Given as goal

-- So far the worker came to the tries that are left.
abbrev pub invariant-tries : goal.invariant-tries
invariant-tries g l =
    Leads (heartbeat l.moment (live_of l.self)) (g.S.Store.view l.initial.store) (tries (beat_try l.moment (live_of l.self)) (64 - l.tries) l.seen) (g.S.Store.view l.store)
