-- The tables that a store holds.
use Rattle.std.specs.Prelude.{ℕ, ◌==◌, List, map, find, Option, option_map}
use Rattle.row_model.specs.Rows.{Row}
use Rattle.fleet_model.specs.Jobs.{in_id_order}
use Rattle.fleet_model.specs.Nodes.{Tables}
use Rattle.fleet_model.specs.Store.{Store, held_tables}

-- The rows of the table with this id, if it is among these.
abbrev pub rows_among : ℕ → Tables → Option (List Row)
rows_among id tables = option_map (λ table. table.1) (find (λ table. id == table.0) tables)

-- The rows of the table with this id, if it is held.
abbrev pub held_rows : ℕ → Store → Option (List Row)
held_rows id store = rows_among id (held_tables store)

-- The ids of the held tables, in rising order.
abbrev pub held_ids : Store → List ℕ
held_ids store = in_id_order (map (λ table. table.0) (held_tables store))
