-- The rows of a table, with their size and their blocks.
use Rattle.std.specs.Prelude.{◌≡◌, ◌≢◌, ℕ, List, [], length}
use Rattle.std.specs.List.{AllByRecursion}
use Rattle.row_model.specs.Bounds.{IsInBounds}
use Rattle.row_model.specs.Rows.{Row, IsStrictlyOrdered}
use Rattle.row_model.specs.Written.Sizes.{blocks, table_size}
use Rattle.row_model.specs.Written.TableBytes.{blocks_of_rows, table_bytes, IsWritable}
use Rattle.fleet_model.specs.Handles.{seq_of_last}
use Rattle.fleet_model.specs.Trees as trees
use Rattle.fleet_block.specs.Places.{places_from}
use Rattle.fleet_block.specs.declared.place.BlockPlace.{BlockPlace}
use Rattle.fleet_tree.specs.Handles.{blocks_of}
use Rattle.fleet_tree.specs.declared.block.BlockMeta.{BlockMeta}

-- The rows of a table: at least one row, strictly ordered, each row in bounds.
pub record IsTableRows (rows : List Row) : Type 0 where
  pub some : rows ≢ []
  pub ordered : IsStrictlyOrdered rows
  pub in_bounds : AllByRecursion IsInBounds rows

-- A table of these rows has these bytes. It has this size, these blocks, which begin at these places, so many
-- rows, and this sequence of its last row.
pub record IsKept (rows : List Row) (bytes : List ℕ) (places : List BlockPlace) (listed : List BlockMeta)
    (measured count seq : ℕ) : Type 0 where
  pub table : IsTableRows rows
  pub writable : AllByRecursion IsWritable rows
  pub spelt : bytes ≡ table_bytes rows
  pub placed : places ≡ places_from 0 0 (blocks_of_rows 0 rows)
  pub index : blocks_of listed ≡ blocks rows
  pub size : measured ≡ table_size rows
  pub counted : count ≡ length rows
  pub ends_at : seq ≡ seq_of_last 0 rows

-- The first and the last of these rows have these keys.
pub record AreEndKeys (rows : List Row) (first last : List ℕ) : Type 0 where
  pub begins : first ≡ trees.first_key rows
  pub ends : last ≡ trees.last_key [] rows
