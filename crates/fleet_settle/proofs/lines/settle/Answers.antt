use Rattle.std.proofs.Common.{sym, ◌∙◌}
use Rattle.fleet_lines.specs.Fleets.{state_of}
use Rattle.fleet_settle.specs.Steps.{inputs_of}
use Rattle.fleet_settle.proofs.RoundsTaken.{nobody_settles}
use Rattle.fleet_settle.proofs.lines.settle.Goals as goal

pub returns-then-not-are_live-clause-ran : goal.returns-then-not-are_live-clause-ran
returns-then-not-are_live-clause-ran g c =
    let inputs = inputs_of (g.O.MergeOperator.merged (g.O.MergeOperator.settings c.args.operator.now)) ((goal.CompactionScheduler-dyn g c.args.scheduler.now).answers c.args.scheduler.now.1) in
    nobody_settles inputs c.args.number c.args.coordinator c.args.worker c.args.rounds (state_of c.args.fleet.now) c.no_such_party.result (sym c.are_live.ensures ∙ c.if-not-are_live.true) c.no_such_party.ensures.reply
