use Rattle.fleet_lines.specs.Fleets.{IsServing, state_of}
use Rattle.fleet_settle.specs.Steps.{inputs_of}
use Rattle.fleet_settle.proofs.RoundsTaken.{Came}
use Rattle.fleet_settle.proofs.rounds.run_rounds.Given as goal

-- The line came through the rounds so far, and the fleet may run the next line.
abbrev pub invariant-rounds : goal.invariant-rounds
invariant-rounds g l =
    let merge = g.O.MergeOperator.merged (g.O.MergeOperator.settings l.operator) in
    let inputs = inputs_of merge ((goal.CompactionScheduler-dyn g l.scheduler.now).answers l.scheduler.now.1) in
    record {
      so_far : Came inputs l.number l.coordinator l.worker l.rounds l.begun (state_of l.fn.fleet) (state_of l.fleet);
      serving : IsServing merge l.fleet;
    }
