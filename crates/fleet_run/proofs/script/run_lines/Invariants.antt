use Rattle.std.proofs.Common.{◌≡◌, ◌+◌, length}
use Rattle.fleet_lines.specs.Fleets.{IsServing, options_of, state_of}
use Rattle.fleet_text.specs.Lines.{lines_of}
use Rattle.fleet_settle.specs.Steps.{inputs_of}
use Rattle.fleet_run.proofs.Runs.{RunSoFar}
use Rattle.fleet_run.proofs.script.run_lines.Given as goal

-- The lines so far ran, and the fleet may run the next one.
abbrev pub invariant-lines : goal.invariant-lines
invariant-lines g l =
    let view = g.K.Sink.view in
    let merge = g.O.MergeOperator.merged (g.O.MergeOperator.settings l.operator) in
    record {
      so_far : RunSoFar (inputs_of merge ((goal.CompactionScheduler-dyn g l.scheduler.now).answers l.scheduler.now.1)) (options_of l.fn.fleet.options) (lines_of l.initial.left.items) (lines_of l.left.items) (state_of l.fleet) (view l.fn.sink) (view l.sink);
      serving : IsServing merge l.fleet;
      total : l.total ≡ length l.initial.left.items;
    }

abbrev pub decreases-lines : goal.decreases-lines
decreases-lines g l = length l.left.items
