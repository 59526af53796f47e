use Rattle.std.proofs.Common.{◌≡◌, ◌++◌, take}
use Rattle.fleet_sched.specs.Sizes.{planned_in}
use Rattle.fleet_sched.specs.Views.{shown_jobs}
use Rattle.fleet_sched.proofs.planning.add_segments.Given as goal

abbrev pub invariant-segments : goal.invariant-segments
invariant-segments l = l.trees.items ≡ l.initial.trees.items ++ planned_in (shown_jobs l.state) (take l.segment-index l.segments)
