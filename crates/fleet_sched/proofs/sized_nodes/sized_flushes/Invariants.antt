use Rattle.std.proofs.Common.{◌≡◌, ◌++◌, map}
use Rattle.fleet_sched.specs.Sizes.{flush_in}
use Rattle.fleet_sched.proofs.sized_nodes.sized_flushes.Given as goal

-- The sizes so far and those left are all sizes.
abbrev pub invariant-views : goal.invariant-views
invariant-views l = l.flushes.items ++ map flush_in l.view-iterator ≡ map flush_in l.views
