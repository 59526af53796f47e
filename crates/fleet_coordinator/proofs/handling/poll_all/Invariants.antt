use Rattle.std.proofs.Common.{◌-◌}
use Rattle.step_model.specs.Courses.Tries.{counted_tries}
use Rattle.step_model.specs.Steps.PollSteps.{poll, poll_try}
use Rattle.fleet_step.specs.Steps.{Leads}
use Rattle.fleet_coordinator.specs.Polling.{ask_of}
use Rattle.fleet_coordinator.proofs.handling.poll_all.Given as goal

-- So far the coordinator came to the tries that are left.
abbrev pub invariant-tries : goal.invariant-tries
invariant-tries g l =
    let ask = ask_of ((goal.CompactionScheduler-dyn g l.scheduler.now).answers l.scheduler.now.1) l.options l.turn in
    Leads (poll ask) (g.S.Store.view l.initial.store) (counted_tries (poll_try ask) (64 - l.tries) l.seen) (g.S.Store.view l.store)
