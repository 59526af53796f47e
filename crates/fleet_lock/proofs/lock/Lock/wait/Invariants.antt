use Rattle.std.proofs.Common.{◌≡◌}
use Rattle.fleet_lock.proofs.lock.Lock.wait.Given as goal

-- The seat is as it was.
abbrev pub invariant-loop : goal.invariant-loop
invariant-loop g l = (l.seat.table_id ≡ l.initial.seat.table_id) × (l.seat.me ≡ l.initial.seat.me)
