-- A range of keys of a segment is scanned over all rows that were flushed into its tree, or over the rows
-- that its nodes hold.
use Rattle.std.specs.Prelude.{ℕ, ℤ, List, flat_map}
use Rattle.row_model.specs.Fold.{Operator, Outcome}
use Rattle.row_model.specs.Ranges.{Range}
use Rattle.row_model.specs.Scans.{scanned_pairs}
use Rattle.fleet_model.specs.Nodes.{tree_at, node_rows, flushed_node_rows}
use Rattle.fleet_model.specs.Store.{Store}

-- The answers of a scan over the rows of all flushes that went into the segment's tree.
abbrev pub flushed_scan : (merge : Operator) (store : Store) (segment : List ℕ) (range : Range) (seq : ℕ) (now : ℤ)
    → List (List ℕ × Outcome)
flushed_scan merge store segment range seq now =
    scanned_pairs merge range seq now (flat_map (flushed_node_rows store.tables) (tree_at segment store.manifest.trees))

-- The answers of a scan over the rows that the nodes of the segment's tree hold.
abbrev pub stored_scan : (merge : Operator) (store : Store) (segment : List ℕ) (range : Range) (seq : ℕ) (now : ℤ)
    → List (List ℕ × Outcome)
stored_scan merge store segment range seq now =
    scanned_pairs merge range seq now (flat_map (node_rows store.tables) (tree_at segment store.manifest.trees))
