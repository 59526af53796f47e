-- Nodes of trees, in two sets.
use Rattle.std.specs.Prelude.{◌≡◌, ℕ, ◌||◌, List}
use Rattle.std.specs.BTreeSet.{BTreeSet, contains}
use Rattle.std.specs.Ordering.{nat_cmp}
use Rattle.fleet_model.specs.Nodes.{NodeName, L0, Run, name_eq, names_contain}

-- The first set has the ids of the runs among these nodes, and the second one the ids of the flushes.
pub record IsIndex (runs flushes : BTreeSet ℕ) (nodes : List NodeName) : Type 0 where
  pub run : (id : ℕ) → contains nat_cmp runs id ≡ names_contain nodes (Run id)
  pub flush : (id : ℕ) → contains nat_cmp flushes id ≡ names_contain nodes (L0 id)

-- The new sets have what the old ones have, and the node.
pub record HasMore (old_runs new_runs old_flushes new_flushes : BTreeSet ℕ) (node : NodeName) : Type 0 where
  pub run : (id : ℕ) → contains nat_cmp new_runs id ≡ (contains nat_cmp old_runs id || name_eq node (Run id))
  pub flush : (id : ℕ) → contains nat_cmp new_flushes id ≡ (contains nat_cmp old_flushes id || name_eq node (L0 id))
