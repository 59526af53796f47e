use Rattle.std.proofs.Common.{sym, ◌∙◌}
use Rattle.fleet_lines.specs.Fleets.{state_of}
use Rattle.fleet_settle.specs.Steps.{inputs_of}
use Rattle.fleet_settle.proofs.RoundsTaken.{poll_ends, poll_goes}
use Rattle.fleet_settle.proofs.rounds.one_round.Goals as goal

pub returns-then-is_some-clause-goes : goal.returns-then-is_some-clause-goes
returns-then-is_some-clause-goes g c = λ left begun is.
    let inputs = inputs_of (g.O.MergeOperator.merged (g.O.MergeOperator.settings c.args.operator.now)) ((goal.CompactionScheduler-dyn g c.args.scheduler.now).answers c.args.scheduler.now.1) in
    poll_ends inputs c.args.number c.args.coordinator c.args.worker left begun c.args.round (state_of c.args.fleet.now) (state_of c.step.new.fleet) c.in_ok-refused.refused is (sym c.is_some.ensures ∙ c.if-is_some.true) c.in_ok-refused.ensures.step

pub returns-clause-goes : goal.returns-clause-goes
returns-clause-goes g c = λ left begun is.
    let inputs = inputs_of (g.O.MergeOperator.merged (g.O.MergeOperator.settings c.args.operator.now)) ((goal.CompactionScheduler-dyn g c.args.scheduler.now).answers c.args.scheduler.now.1) in
    poll_goes inputs c.args.number c.args.coordinator c.args.worker left begun c.args.round (state_of c.args.fleet.now) (state_of c.step.new.fleet) (state_of c.after_poll.new.fleet) c.in_ok-refused.refused c.after_poll.result is
    (sym c.is_some.ensures ∙ c.if-is_some.false) c.in_ok-refused.ensures.step (c.after_poll.ensures.goes left)
