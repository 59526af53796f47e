use Rattle.std.proofs.Common.{◌≡◌, map, take}
use Rattle.fleet_poll.proofs.poll.new_ids.Given as goal

abbrev pub invariant-new : goal.invariant-new
invariant-new l = l.ids ≡ map (λ new. new.0) (take l.job-index l.new)
