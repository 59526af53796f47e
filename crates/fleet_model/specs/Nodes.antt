-- A segment has a tree of nodes: flushes, newest first, and then sorted runs. The rows of a node are in
-- tables.
use Rattle.std.specs.Prelude.{ℕ, Bool, true, false, ◌==◌, if◌then◌else◌, List, [], ◌∷◌, map, filter, not, flat_map, find, Option, Some, None, bytes_eq}
use Rattle.std.specs.List.{list_any}
use Rattle.row_model.specs.Rows.{Row, rows_of_key, sorted_rows}

-- Tables: lists of rows, each with its id. The id of a flush's table is the flush's name.
abbrev pub Tables : Type 0
Tables = List (ℕ × List Row)

-- The rows of a table, or no rows if there is no table.
abbrev pub rows_or_none : Option (ℕ × List Row) → List Row
rows_or_none None = []
rows_or_none (Some held) = held.1

-- The rows of the table with this id, or no rows if there is no such table.
abbrev pub table_rows : Tables → ℕ → List Row
table_rows tables id = rows_or_none (find (λ held. held.0 == id) tables)

-- True if a table with this id is among these.
abbrev pub is_among : Tables → ℕ → Bool
is_among tables table = list_any (λ other. other.0 == table) tables

-- The name of a node. A flush that no job has taken yet is in level 0 (L0) and has a name. A sorted run has
-- an id.
pub data NodeName : Type 0 where
  L0 : (name : ℕ) → NodeName
  Run : (id : ℕ) → NodeName

-- True if both names are equal.
abbrev pub name_eq : (name other : NodeName) → Bool
name_eq (L0 a) (L0 b) = a == b
name_eq (L0 a) (Run b) = false
name_eq (Run a) (L0 b) = false
name_eq (Run a) (Run b) = a == b

-- True if the node is a flush.
abbrev pub is_l0 : NodeName → Bool
is_l0 (L0 name) = true
is_l0 (Run id) = false

-- True if the name is in the list.
abbrev pub names_contain : List NodeName → NodeName → Bool
names_contain [] name = false
names_contain (x ∷ names) name = if name_eq x name then true else names_contain names name

-- A node has its name, the names of the flushes that went into it, and the ids of the tables that hold its
-- rows.
pub record Node : Type 0 where
  pub name : NodeName
  pub flushes : List ℕ
  pub pieces : List ℕ

-- The rows in the tables of a node.
abbrev pub node_rows : Tables → Node → List Row
node_rows tables node = flat_map (table_rows tables) node.pieces

-- The rows of all flushes that went into a node.
abbrev pub flushed_node_rows : Tables → Node → List Row
flushed_node_rows tables node = flat_map (table_rows tables) node.flushes

-- The nodes of a tree, newest first: flushes, and then runs by falling id.
abbrev pub Tree : Type 0
Tree = List Node

-- The names of the nodes of a tree, in the tree's order.
abbrev pub names : Tree → List NodeName
names tree = map (λ node. node.name) tree

-- The flushes of a tree, newest first.
abbrev pub flushes_of : Tree → Tree
flushes_of tree = filter (λ node. is_l0 node.name) tree

-- The runs of a tree, newest first.
abbrev pub runs_of : Tree → Tree
runs_of tree = filter (λ node. not (is_l0 node.name)) tree

-- The node with this name, if the tree has one.
abbrev pub node_named : NodeName → Tree → Option Node
node_named name tree = find (λ node. name_eq name node.name) tree

-- A segment has a tree, the greatest sequence of its flushes, and a watermark. The watermark is the newest
-- flush that a job took or dropped last, if a job did. That flush and older ones must not be added to the
-- tree again.
pub record Segment : Type 0 where
  pub prefix : List ℕ
  pub tree : Tree
  pub last_seq : Option ℕ
  pub watermark : Option ℕ

-- The segments of a store: the root segment, and then the others by rising prefix.
abbrev pub Trees : Type 0
Trees = List Segment

-- The segment with this prefix, if there is one.
abbrev pub segment_at : List ℕ → Trees → Option Segment
segment_at prefix trees = find (λ segment. bytes_eq prefix segment.prefix) trees

-- The tree of a segment, or an empty tree if there is no segment.
abbrev pub tree_or_empty : Option Segment → Tree
tree_or_empty None = []
tree_or_empty (Some segment) = segment.tree

-- The tree of the segment with this prefix, or an empty tree if there is no such segment.
abbrev pub tree_at : List ℕ → Trees → Tree
tree_at prefix trees = tree_or_empty (segment_at prefix trees)

-- The greatest sequence that was flushed into a segment. It is None if there is no segment, or no flush.
abbrev pub last_seq_of : Option Segment → Option ℕ
last_seq_of None = None
last_seq_of (Some segment) = segment.last_seq

-- The rows of a key in all flushes that went into a tree, newest first.
abbrev pub flushed_rows : Tables → Tree → List ℕ → List Row
flushed_rows tables tree key = sorted_rows (rows_of_key key (flat_map (flushed_node_rows tables) tree))

-- The rows of a key in the tables of all nodes of a tree, newest first.
abbrev pub stored_rows : Tables → Tree → List ℕ → List Row
stored_rows tables tree key = sorted_rows (rows_of_key key (flat_map (node_rows tables) tree))
