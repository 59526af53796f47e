use Rattle.std.proofs.Common.{◌≡◌, not, take}
use Rattle.std.specs.Prelude.{filter}
use Rattle.std.specs.BTreeSet.{contains}
use Rattle.std.specs.Ordering.{nat_cmp}
use Rattle.fleet_sweep.proofs.unneeded_tables.others.Given as goal

abbrev pub invariant-ids : goal.invariant-ids
invariant-ids l = l.others.items ≡ filter (λ id. not (contains nat_cmp l.set id)) (take l.id-index l.ids)
