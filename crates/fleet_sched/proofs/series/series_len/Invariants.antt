use Rattle.std.proofs.Common.{◌≡◌, take, true}
use Rattle.fleet_model.specs.Sources.{is_apart}
use Rattle.sched_model.specs.Series.{least_size, may_join}
use Rattle.sched_model.specs.Sizes.{run_names, total_size}
use Rattle.fleet_sched.proofs.Joined.{IsMidway}
use Rattle.fleet_sched.proofs.series.series_len.Given as goal

abbrev pub invariant-runs : goal.invariant-runs
invariant-runs l = record {
  midway : IsMidway (may_join l.options l.used) l.runs l.i;
  least : l.least ≡ least_size (take l.i l.runs);
  size : l.size ≡ total_size (take l.i l.runs);
  free : is_apart (run_names (take l.i l.runs)) l.used ≡ true;
}
