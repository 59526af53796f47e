use Rattle.std.proofs.Common.{◌≡◌, ◌≤◌, None, drop, length}
use Rattle.fleet_range.specs.Keys.{successor}
use Rattle.fleet_range.proofs.prefix.successor.Given as goal

-- All bytes from `kept` on are 0xff.
abbrev pub invariant-trailing : goal.invariant-trailing
invariant-trailing l = record {
  inside : l.kept ≤ length l.prefix;
  no_more : successor (drop l.kept l.prefix) ≡ None;
}

abbrev pub decreases-trailing : goal.decreases-trailing
decreases-trailing l = l.kept
