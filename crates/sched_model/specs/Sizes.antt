-- What the size-tiered scheduler looks at in a view: the nodes of each tree with their sizes.
use Rattle.std.specs.Prelude.{ℕ, List, [], ◌∷◌, drop, length, map, sum_by, take, Option, Some, None}
use Rattle.std.specs.List.{filter_map}
use Rattle.row_model.specs.Written.Sizes.{saturated_sum}
use Rattle.fleet_model.specs.Nodes.{NodeName, L0, Run, Tree, Trees}
use Rattle.fleet_model.specs.Handles.{Handle, tree_tables}

-- A flush or a run, by its name or id, with the size of its tables in bytes.
pub record Sized : Type 0 where
  pub id : ℕ
  pub size : ℕ

-- The flushes and the runs of a tree, both newest first.
pub record SizedTree : Type 0 where
  pub segment : List ℕ
  pub flushes : List Sized
  pub runs : List Sized

-- The names of flushes.
abbrev pub flush_names : List Sized → List NodeName
flush_names flushes = map (λ flush. L0 flush.id) flushes

-- The names of runs.
abbrev pub run_names : List Sized → List NodeName
run_names runs = map (λ run. Run run.id) runs

-- The sum of the sizes, or the greatest unsigned 64-bit number if the sum is greater.
abbrev pub total_size : List Sized → ℕ
total_size nodes = saturated_sum (sum_by (λ node. node.size) nodes)

-- The size of the tables with these handles.
abbrev pub tables_size : List Handle → ℕ
tables_size handles = saturated_sum (sum_by (λ handle. handle.size) handles)

-- The nodes of a tree with their sizes. The handles of the nodes' tables come first in the list, node by
-- node.
abbrev pub sized_nodes : List Handle → Tree → List (NodeName × ℕ)
sized_nodes handles [] = []
sized_nodes handles (node ∷ tree) =
    (node.name, tables_size (take (length node.pieces) handles)) ∷ sized_nodes (drop (length node.pieces) handles) tree

-- The flush of this name and size, or None for a run.
abbrev pub sized_flush : NodeName × ℕ → Option Sized
sized_flush (L0 name, size) = Some (record { id = name; size = size })
sized_flush (Run id, size) = None

-- The run of this name and size, or None for a flush.
abbrev pub sized_run : NodeName × ℕ → Option Sized
sized_run (L0 name, size) = None
sized_run (Run id, size) = Some (record { id = id; size = size })

-- The flushes and the runs among these nodes.
abbrev pub sized_tree : List ℕ → List (NodeName × ℕ) → SizedTree
sized_tree segment nodes = record {
  segment = segment;
  flushes = filter_map sized_flush nodes;
  runs = filter_map sized_run nodes;
}

-- The trees with the sizes of their nodes. The handles of the trees' tables come first in the list, tree by
-- tree.
abbrev pub sized_trees : List Handle → Trees → List SizedTree
sized_trees handles [] = []
sized_trees handles (s ∷ trees) =
    sized_tree s.prefix (sized_nodes handles s.tree) ∷ sized_trees (drop (length (tree_tables s)) handles) trees
