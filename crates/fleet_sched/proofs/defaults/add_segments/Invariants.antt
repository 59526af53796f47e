use Rattle.std.proofs.Common.{◌≡◌, ◌++◌, map, take}
use Rattle.std.specs.List.{filter_map}
use Rattle.fleet_jobs.specs.Specs.{spec_of}
use Rattle.fleet_sched.specs.Full.{full_spec_in}
use Rattle.fleet_sched.proofs.defaults.add_segments.Given as goal

abbrev pub invariant-segments : goal.invariant-segments
invariant-segments l = map spec_of l.specs.items ≡ map spec_of l.initial.specs.items ++ filter_map full_spec_in (take l.segment-index l.segments)
