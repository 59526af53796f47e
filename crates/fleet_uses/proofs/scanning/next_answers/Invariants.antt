use Rattle.std.proofs.Common.{◌≡◌, ◌≤◌, ◌++◌, ◌-◌, length, map, false}
use Rattle.fleet_scan.specs.Answered.{pair_of}
use Rattle.fleet_uses.proofs.scanning.next_answers.Given as goal

-- The answers given and those left are all answers that there were.
abbrev pub invariant-keys : goal.invariant-keys
invariant-keys g l = record {
  alive : l.scan.failed ≡ false;
  few : length l.answers.items ≤ l.limit;
  all : l.fn.scan.left ≡ map pair_of l.answers.items ++ l.scan.left;
}

abbrev pub decreases-keys : goal.decreases-keys
decreases-keys g l = l.limit - length l.answers.items
