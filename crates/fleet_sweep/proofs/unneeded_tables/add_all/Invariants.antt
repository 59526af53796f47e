use Rattle.std.proofs.Common.{◌≡◌, ℕ, take}
use Rattle.std.specs.Prelude.{◌||◌}
use Rattle.std.specs.BTreeSet.{contains}
use Rattle.std.specs.Ordering.{nat_cmp}
use Rattle.fleet_model.specs.Jobs as jobs
use Rattle.fleet_sweep.proofs.unneeded_tables.add_all.Given as goal

abbrev pub invariant-ids : goal.invariant-ids
invariant-ids l = (id : ℕ) → contains nat_cmp l.set id ≡ (contains nat_cmp l.initial.set id || jobs.contains (take l.id-index l.ids) id)
