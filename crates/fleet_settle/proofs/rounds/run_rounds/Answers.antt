use Rattle.std.proofs.Common.{arith}
use Rattle.fleet_lines.specs.Fleets.{state_of}
use Rattle.fleet_settle.specs.Steps.{inputs_of}
use Rattle.fleet_settle.proofs.RoundsTaken.{came_more, came_through, came_to_end}
use Rattle.fleet_settle.proofs.rounds.run_rounds.Goals as goal

pub returns-in-Some-clause-ran : goal.returns-in-Some-clause-ran
returns-in-Some-clause-ran g c =
    let inputs = inputs_of (g.O.MergeOperator.merged (g.O.MergeOperator.settings c.args.operator.now)) ((goal.CompactionScheduler-dyn g c.args.scheduler.now).answers c.args.scheduler.now.1) in
    came_to_end inputs c.args.number c.args.coordinator c.args.worker c.args.rounds c.rounds.begun (state_of c.args.fleet.now) (state_of c.rounds.fleet) (state_of c.one_round.new.fleet) c.in_ok-ended.ended c.in-Some.reply c.in-Some.is
    (omega arith) c.rounds.invariant.so_far c.in_ok-ended.ensures.goes

pub rounds-preserved : goal.rounds-preserved
rounds-preserved g c =
    let inputs = inputs_of (g.O.MergeOperator.merged (g.O.MergeOperator.settings c.args.operator.now)) ((goal.CompactionScheduler-dyn g c.args.scheduler.now).answers c.args.scheduler.now.1) in
    record {
      so_far = came_more inputs c.args.number c.args.coordinator c.args.worker c.args.rounds c.rounds.begun (state_of c.args.fleet.now) (state_of c.rounds.fleet) (state_of c.one_round.new.fleet) c.in_ok-ended.ended c.in_default.is
          c.rounds.invariant.so_far c.in_ok-ended.ensures.goes;
      serving = c.in_ok-ended.ensures.serving;
    }

pub returns-clause-ran : goal.returns-clause-ran
returns-clause-ran g c =
    let inputs = inputs_of (g.O.MergeOperator.merged (g.O.MergeOperator.settings c.args.operator.now)) ((goal.CompactionScheduler-dyn g c.args.scheduler.now).answers c.args.scheduler.now.1) in
    came_through inputs c.args.number c.args.coordinator c.args.worker c.args.rounds c.rounds.begun (state_of c.args.fleet.now) (state_of c.rounds.fleet) c.rounds_taken.result (omega arith) c.rounds.invariant.so_far c.rounds_taken.ensures.reply
