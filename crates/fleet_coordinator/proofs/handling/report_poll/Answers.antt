use Rattle.std.proofs.lemmas.Result.{err_from_is_err_and}
use Rattle.step_model.specs.Steps.PollSteps.{poll}
use Rattle.fleet_coordinator.specs.Polling.{ask_of}
use Rattle.fleet_coordinator.proofs.Handled as law
use Rattle.fleet_coordinator.proofs.handling.report_poll.Goals as goal

pub returns-in_err-poll : goal.returns-in_err-poll
returns-in_err-poll g c =
    let s = (goal.CompactionScheduler-dyn g c.args.scheduler.now).answers c.args.scheduler.now.1 in
    let p = err_from_is_err_and c.from_residual.result c.from_residual.ensures.1 in
    rw (p.1, p.2) (law.error_handled (poll (ask_of s c.args.options.now c.args.turn)) _ _ c.in_err-poll.field-0.0 c.in_err-poll.ensures)

pub returns : goal.returns
returns g c =
    let s = (goal.CompactionScheduler-dyn g c.args.scheduler.now).answers c.args.scheduler.now.1 in
    law.report_handled (poll (ask_of s c.args.options.now c.args.turn)) _ _ c.in_ok-poll.poll c.in_ok-poll.ensures c.into_report.result c.into_report.ensures.report c.into_report.ensures.memory
