-- Tests of the trees and tables of a store: the parts of its invariant that can be computed.
use Rattle.std.specs.Prelude.{ℕ, Bool, true, false, not, nat_lt, nat_le, ◌&&◌, ◌||◌, ◌==◌, List, [], ◌∷◌, Option, Some, None, bytes_eq}
use Rattle.std.specs.Ordering.{is_lt}
use Rattle.std.specs.List.{list_all}
use Rattle.row_model.specs.Rows.{are_ordered, key_cmp}
use Rattle.fleet_model.specs.Nodes.{Tables, is_among, NodeName, L0, Run, Node, names, node_rows, Segment, Trees}
use Rattle.fleet_model.specs.Jobs.{is_active}
use Rattle.fleet_model.specs.Sources.{is_apart}
use Rattle.fleet_model.specs.Work.Gates.{is_nonempty}
use Rattle.fleet_model.specs.Handles.{job_tables}
use Rattle.fleet_model.specs.Store.{Store, stored_jobs, records_epoch, is_held}
use Rattle.fleet_model.specs.Invariants.TreesFit.{node_and_flushed_rows}

-- The test holds of each element with each later element.
abbrev pub all_pairs : {A : Type 0} → (A → A → Bool) → List A → Bool
all_pairs test [] = true
all_pairs test (x ∷ xs) = list_all (test x) xs && all_pairs test xs

-- ---- one tree

-- Flushes are before runs, and the ids of runs fall.
abbrev pub is_before : (name other : NodeName) → Bool
is_before (L0 a) other = true
is_before (Run a) (L0 b) = false
is_before (Run a) (Run b) = nat_lt b a

-- Every row of the newer node and its flushes has a greater sequence than every row of the older node
-- and its flushes.
abbrev pub is_newer : (tables : Tables) (newer older : Node) → Bool
is_newer tables newer older =
    list_all (λ r. list_all (λ q. nat_lt q.seq r.seq) (node_and_flushed_rows tables older))
    (node_and_flushed_rows tables newer)

-- There is a last sequence, and the given sequence is at most the last one.
abbrev pub is_at_most : Option ℕ → ℕ → Bool
is_at_most None seq = false
is_at_most (Some last) seq = nat_le seq last

-- The nodes are in order, newer rows are before older ones, no row is above the last sequence, and
-- the rows of each node are strictly ordered.
abbrev pub is_tree : Tables → Segment → Bool
is_tree tables s =
    all_pairs is_before (names s.tree)
    && all_pairs (is_newer tables) s.tree
    && list_all (λ node. list_all (λ r. is_at_most s.last_seq r.seq) (node_and_flushed_rows tables node)) s.tree
    && list_all (λ node. are_ordered (node_rows tables node)) s.tree

-- ---- all trees

-- The first segment is the root.
abbrev pub begins_with_root : Trees → Bool
begins_with_root [] = false
begins_with_root (s ∷ trees) = bytes_eq s.prefix []

-- Each tree is in order, prefixes rise from the root on, no node is in two trees, and the epoch of
-- the records is at most that of the manifest.
abbrev pub are_trees : Store → Bool
are_trees store =
    list_all (is_tree store.tables) store.manifest.trees
    && begins_with_root store.manifest.trees
    && all_pairs (λ a b. is_lt (key_cmp a.prefix b.prefix)) store.manifest.trees
    && all_pairs (λ a b. is_apart (names a.tree) (names b.tree)) store.manifest.trees
    && nat_le (records_epoch store.records) store.manifest.epoch

-- ---- tables

-- Each table has rows, in strict order, and an id of its own.
abbrev pub are_tables : Tables → Bool
are_tables tables =
    list_all (λ t. is_nonempty t.1 && are_ordered t.1) tables && all_pairs (λ a b. not (a.0 == b.0)) tables

-- The tables that trees and active jobs name are held. The flushes that went into nodes and the source
-- tables of active jobs were put.
abbrev pub are_named_held : Store → Bool
are_named_held store =
    list_all
    (λ s. list_all (λ node. list_all (is_held store) node.pieces && list_all (is_among store.tables) node.flushes)
    s.tree) store.manifest.trees
    && list_all
    (λ job. not (is_active job)
    || (list_all (is_held store) (job_tables job) && list_all (is_among store.tables) job.source_tables))
    (stored_jobs store)
