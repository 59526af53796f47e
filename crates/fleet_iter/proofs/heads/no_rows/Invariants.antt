use Rattle.std.proofs.Common.{◌≡◌, map, None}
use Rattle.std.specs.List.{range_with_len}
use Rattle.fleet_iter.proofs.heads.no_rows.Given as goal

abbrev pub invariant-places : goal.invariant-places
invariant-places l = l.rows.items ≡ map (λ _. None) (range_with_len 0 l._place)
