use Rattle.std.proofs.Common.{◌-◌}
use Rattle.step_model.specs.Steps.SubmitSteps.{request_try, submit_request}
use Rattle.step_model.specs.Courses.Tries.{tries}
use Rattle.fleet_book.specs.Requests.{request_of}
use Rattle.fleet_step.specs.Steps.{Leads}
use Rattle.fleet_coordinator.proofs.requesting.submit_request.Given as goal

-- So far the submitter came to the tries that are left.
abbrev pub invariant-tries : goal.invariant-tries
invariant-tries g l =
    Leads (submit_request l.moment ((goal.CompactionScheduler-dyn g l.scheduler.now).answers l.scheduler.now.1) (request_of l.request)) (g.S.Store.view l.initial.store)
    (tries (request_try l.moment ((goal.CompactionScheduler-dyn g l.scheduler.now).answers l.scheduler.now.1) (request_of l.request)) (64 - l.tries) l.seen) (g.S.Store.view l.store)
