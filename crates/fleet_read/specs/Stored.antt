-- The tables that a tree of a program names, as a store holds them.
use Rattle.std.specs.Prelude.{◌≡◌, ℕ, true, List, [], flat_map, Option, Some, None}
use Rattle.row_model.specs.Ranges.{Range, Included}
use Rattle.row_model.specs.Rows.{Row, rows_of_key}
use Rattle.fleet_model.specs.Nodes.{table_rows}
use Rattle.fleet_model.specs.Store.{Store, is_held}
use Rattle.fleet_model.specs.Invariants.TreesFit.{IsTable}
use Rattle.fleet_store.specs.Handles.{NamesTable}
use Rattle.fleet_tree.specs.Views.{View}

-- The store holds the table that the view names, and the view describes it.
pub record IsHeldView (store : Store) (view : View) : Type 0 where
  pub names : NamesTable store.tables view
  pub held : is_held store view.sst.id ≡ true
  pub table : IsTable (table_rows store.tables view.sst.id)

-- The rows of a key in the tables that these views name.
abbrev pub view_rows : Store → List ℕ → List View → List Row
view_rows store key views = flat_map (λ view. rows_of_key key (table_rows store.tables view.sst.id)) views

-- The range of this key alone.
abbrev pub only_key : List ℕ → Range
only_key key = record { from = Included key; to = Included key }

-- The rows that a look-up gave, or none.
abbrev pub rows_or_none : Option (List Row) → List Row
rows_or_none None = []
rows_or_none (Some rows) = rows
