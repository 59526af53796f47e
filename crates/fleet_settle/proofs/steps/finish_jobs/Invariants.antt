use Rattle.std.proofs.Common.{drop, None}
use Rattle.fleet_lines.specs.Fleets.{IsServing, state_of}
use Rattle.fleet_settle.specs.Steps.{FinishesEach, inputs_of}
use Rattle.fleet_settle.proofs.steps.finish_jobs.Given as goal

-- The jobs so far are finished, and the fleet may run the next line.
abbrev pub invariant-jobs : goal.invariant-jobs
invariant-jobs g l =
    let merge = g.O.MergeOperator.merged (g.O.MergeOperator.settings l.operator) in
    let inputs = inputs_of merge ((goal.CompactionScheduler-dyn g l.scheduler.now).answers l.scheduler.now.1) in
    record {
      so_far : FinishesEach inputs l.number l.worker l.jobs (state_of l.fn.fleet) (drop l.job-index l.jobs) (state_of l.fleet) None;
      serving : IsServing merge l.fleet;
    }
