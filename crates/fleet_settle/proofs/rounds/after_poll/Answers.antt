use Rattle.std.proofs.Common.{sym, ◌∙◌}
use Rattle.fleet_lines.specs.Fleets.{state_of}
use Rattle.fleet_settle.specs.Steps.{inputs_of}
use Rattle.fleet_settle.proofs.RoundsTaken.{goes_on}
use Rattle.fleet_settle.proofs.rounds.after_poll.Goals as goal

pub returns-then-has_active_jobs-clause-goes : goal.returns-then-has_active_jobs-clause-goes
returns-then-has_active_jobs-clause-goes g c = λ left. c.work.ensures.works c.args.coordinator left c.args.round

pub returns-then-has_added-clause-goes : goal.returns-then-has_added-clause-goes
returns-then-has_added-clause-goes g c = λ left.
    let inputs = inputs_of (g.O.MergeOperator.merged (g.O.MergeOperator.settings c.args.operator.now)) ((goal.CompactionScheduler-dyn g c.args.scheduler.now).answers c.args.scheduler.now.1) in
    goes_on inputs c.args.number c.args.coordinator c.args.worker left c.args.round (state_of c.args.fleet.now) (sym c.has_active_jobs.ensures ∙ c.if-has_active_jobs.false) (sym c.has_added.ensures ∙ c.if-has_added.true)
