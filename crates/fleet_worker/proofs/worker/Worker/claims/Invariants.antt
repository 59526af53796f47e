use Rattle.std.proofs.Common.{◌-◌}
use Rattle.step_model.specs.Steps.ClaimSteps.{claim, claim_try}
use Rattle.step_model.specs.Courses.Tries.{tries}
use Rattle.fleet_claim.specs.Beginnings.{options_of}
use Rattle.fleet_step.specs.Steps.{Leads}
use Rattle.fleet_worker.specs.Workers.{live_of}
use Rattle.fleet_worker.proofs.worker.Worker.claims.Given as goal

-- So far the worker came to the tries that are left.
abbrev pub invariant-tries : goal.invariant-tries
invariant-tries g l =
    Leads (claim (options_of l.options) l.moment (live_of l.self)) (g.S.Store.view l.initial.store) (tries (claim_try (options_of l.options) l.moment (live_of l.self)) (64 - l.tries) l.seen) (g.S.Store.view l.store)
