use Rattle.std.proofs.Common.{◌-◌}
use Rattle.step_model.specs.Steps.BeatSteps.{release_all}
use Rattle.step_model.specs.Courses.Tries.{tries}
use Rattle.fleet_step.specs.Steps.{Leads}
use Rattle.fleet_worker.specs.Workers.{live_of}
use Rattle.fleet_worker.specs.Releases.{one_release}
use Rattle.fleet_worker.proofs.worker.Worker.releases.Given as goal

-- So far the worker came to the tries that are left.
abbrev pub invariant-tries : goal.invariant-tries
invariant-tries g l =
    Leads (release_all (live_of l.self)) (g.S.Store.view l.initial.store) (tries (one_release (live_of l.self)) (64 - l.tries) l.seen) (g.S.Store.view l.store)
