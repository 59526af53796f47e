-- A table as a tree names it, and the range of its keys.
use Rattle.std.specs.Prelude.{ℕ, List}
use Rattle.std.specs.declared.ops.Bound.TheVariants.{Included}
use Rattle.fleet_range.specs.Ranges.{Ends}
use Rattle.fleet_tree.specs.declared.handle.SsTableHandle.{SsTableHandle}

-- What an `SsTableView` shows: the id by which a tree names a table, and the table's description.
pub record View : Type 0 where
  pub id : ℕ
  pub sst : SsTableHandle

-- The range from the table's first key to its last key, both included.
abbrev pub key_range : SsTableHandle → Ends (List ℕ)
key_range sst = (Included sst.first_key, Included sst.last_key)
