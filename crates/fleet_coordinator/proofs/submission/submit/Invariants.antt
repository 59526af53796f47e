use Rattle.std.proofs.Common.{◌-◌}
use Rattle.std.specs.Prelude.{map}
use Rattle.step_model.specs.Steps.SubmitSteps.{submit, submit_try}
use Rattle.step_model.specs.Courses.Tries.{tries}
use Rattle.fleet_jobs.specs.Specs.{spec_of}
use Rattle.fleet_step.specs.Steps.{Leads}
use Rattle.fleet_coordinator.proofs.submission.submit.Given as goal

-- So far the submitter came to the tries that are left.
abbrev pub invariant-tries : goal.invariant-tries
invariant-tries g l =
    Leads (submit l.moment (map spec_of l.specs.items)) (g.S.Store.view l.initial.store) (tries (submit_try l.moment (map spec_of l.specs.items)) (64 - l.tries) l.seen) (g.S.Store.view l.store)
