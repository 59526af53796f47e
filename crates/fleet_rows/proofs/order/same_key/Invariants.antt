use Rattle.std.proofs.Common.{length}
use Rattle.fleet_rows.proofs.Words.{AreLeft}
use Rattle.fleet_rows.proofs.order.same_key.Given as goal

abbrev pub invariant-words : goal.invariant-words
invariant-words l = AreLeft l.key l.other l.rest l.other_rest

abbrev pub decreases-words : goal.decreases-words
decreases-words l = length l.rest
