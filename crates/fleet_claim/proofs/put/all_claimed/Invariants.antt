use Rattle.std.proofs.Common.{◌≡◌, map}
use Rattle.fleet_claim.specs.Puts.{claimed_record}
use Rattle.fleet_claim.proofs.put.all_claimed.Given as goal

abbrev pub invariant-jobs : goal.invariant-jobs
invariant-jobs l = l.new.items ≡ map (claimed_record l.worker l.moment l.attempts) l.yielded
