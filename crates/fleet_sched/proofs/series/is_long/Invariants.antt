use Rattle.std.proofs.Common.{◌≡◌, ◌≤◌, take}
use Rattle.sched_model.specs.Series.{least_size}
use Rattle.fleet_sched.proofs.Joined.{IsMidway, similar}
use Rattle.fleet_sched.proofs.series.is_long.Given as goal

abbrev pub invariant-runs : goal.invariant-runs
invariant-runs l = record {
  midway : IsMidway (similar l.options) l.runs l.i;
  least : l.least ≡ least_size (take l.i l.runs);
  short : l.i ≤ l.options.most;
}
