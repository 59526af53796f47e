-- Flushes and the steps of commits change the trees and the horizon.
use Rattle.std.specs.Prelude.{ℕ, Bool, false, not, nat_lt, max, if◌then◌else◌, List, [], ◌∷◌, map, filter, filter_map, flat_map, Option, Some, None, bytes_eq, true, ◌&&◌}
use Rattle.std.specs.Ordering.{is_lt}
use Rattle.row_model.specs.Lists.{insert_before, insert_after}
use Rattle.row_model.specs.Rows.{Row, key_cmp}
use Rattle.fleet_model.specs.Nodes.{Tables, table_rows, NodeName, L0, Run, names_contain, Node, Tree, node_named, Segment, Trees, tree_at}
use Rattle.fleet_model.specs.Jobs.{JobSpec}
use Rattle.fleet_model.specs.History.{Step, Join, Move, Drain}

-- The nodes of the tree that are sources, in the order of the sources' names.
abbrev pub source_nodes : List NodeName → Tree → List Node
source_nodes sources tree = filter_map (λ name. node_named name tree) sources

-- The tree without the sources.
abbrev pub without_nodes : List NodeName → Tree → Tree
without_nodes sources tree = filter (λ node. not (names_contain sources node.name)) tree

-- True if the node is a run with a lower id.
abbrev pub is_run_below : ℕ → NodeName → Bool
is_run_below id (L0 name) = false
is_run_below id (Run other) = nat_lt other id

-- Inserts a run in front of the first run with a lower id. The runs of a tree are by falling id.
abbrev pub put_run : ℕ → Node → Tree → Tree
put_run id run tree = insert_before {A = Node} (λ run node. is_run_below id node.name) run tree

-- Replaces the sources of a tree by one run with these tables. The run has all flushes of the sources.
abbrev pub with_run_for : (sources : List NodeName) (id : ℕ) (pieces : List ℕ) (tree : Tree) → Tree
with_run_for sources id pieces tree =
    put_run id
    (record { name = Run id; flushes = flat_map (λ node. node.flushes) (source_nodes sources tree); pieces = pieces })
    (without_nodes sources tree)

-- The key of the first row, or the empty key if there are no rows.
abbrev pub first_key : List Row → List ℕ
first_key [] = []
first_key (r ∷ rows) = r.key

-- True if the first key of the one table is below that of the other.
abbrev pub is_first_below : Tables → (piece other : ℕ) → Bool
is_first_below tables piece other =
    is_lt (key_cmp (first_key (table_rows tables piece)) (first_key (table_rows tables other)))

-- Inserts a table in front of the first table whose first key is not below its own.
abbrev pub put_by_first_key : Tables → ℕ → List ℕ → List ℕ
put_by_first_key tables piece pieces = insert_after (is_first_below tables) piece pieces

-- The tables, sorted by rising first key.
abbrev pub by_first_key : Tables → List ℕ → List ℕ
by_first_key tables [] = []
by_first_key tables (piece ∷ pieces) = put_by_first_key tables piece (by_first_key tables pieces)

-- The tables of the sources.
abbrev pub source_pieces : List NodeName → Tree → List ℕ
source_pieces sources tree = flat_map (λ node. node.pieces) (source_nodes sources tree)

-- Changes a tree by a step that makes a run. Without a destination the tree stays as it is.
abbrev pub to_run : (ℕ → Tree → Tree) → Option ℕ → Tree → Tree
to_run change None tree = tree
to_run change (Some id) tree = change id tree

-- The tree of a job's segment after a step, given the job's spec and the tables that it recorded. A join
-- replaces the sources by a run of the recorded tables, and a move replaces them by a run of their own
-- tables. A drain drops the sources.
abbrev pub stepped_tree : (tables : Tables) (step : Step) (spec : JobSpec) (outputs : List ℕ) (tree : Tree) → Tree
stepped_tree tables (Join job) spec outputs tree =
    to_run (λ id. with_run_for spec.sources id outputs) spec.destination tree
stepped_tree tables (Move job) spec outputs tree =
    to_run
    (λ id. with_run_for spec.sources id (by_first_key tables (source_pieces spec.sources tree))) spec.destination tree
stepped_tree tables (Drain job) spec outputs tree = without_nodes spec.sources tree

-- The name of a flush, or the given mark for a run.
abbrev pub l0_or : Option ℕ → NodeName → Option ℕ
l0_or mark (L0 name) = Some name
l0_or mark (Run id) = mark

-- The watermark after a step: the newest flush among the sources, or the old watermark if no source is a
-- flush.
abbrev pub watermark_after : List NodeName → Tree → Option ℕ → Option ℕ
watermark_after sources [] mark = mark
watermark_after sources (node ∷ tree) mark =
    if names_contain sources node.name then l0_or mark node.name else watermark_after sources tree mark

-- Changes the tree and the watermark of the segment with this prefix, and leaves any other segment as it
-- is.
abbrev pub on_segment : (prefix : List ℕ) (sources : List NodeName) (change : Tree → Tree) (s : Segment) → Segment
on_segment prefix sources change s =
    if bytes_eq prefix s.prefix then record s {
      tree = change s.tree;
      watermark = watermark_after sources s.tree s.watermark;
    }
    else s

-- The trees after a step, which changes only the tree of its job's segment.
abbrev pub stepped_in : (tables : Tables) (step : Step) (spec : JobSpec) (outputs : List ℕ) (trees : Trees) → Trees
stepped_in tables step spec outputs trees =
    map (on_segment spec.segment spec.sources (stepped_tree tables step spec outputs)) trees

-- The greater of two sequences, or the second if there is no first.
abbrev pub greater_seq : Option ℕ → ℕ → Option ℕ
greater_seq None seq = Some seq
greater_seq (Some last) seq = Some (max last seq)

-- The greatest of the given sequence, if there is one, and the sequences of the rows.
abbrev pub greatest_seq : Option ℕ → List Row → Option ℕ
greatest_seq last [] = last
greatest_seq last (r ∷ rows) = greatest_seq (greater_seq last r.seq) rows

-- The segment after a flush, which comes to the front of its tree.
abbrev pub flushed_on : ℕ → List Row → Segment → Segment
flushed_on name rows s = record s {
  tree = record { name = L0 name; flushes = name ∷ []; pieces = name ∷ [] } ∷ s.tree;
  last_seq = greatest_seq s.last_seq rows;
}

-- A new segment, with an empty tree and no flush so far.
abbrev pub empty_segment : List ℕ → Segment
empty_segment prefix = record { prefix = prefix; tree = []; last_seq = None; watermark = None }

-- The trees after a flush into the segment with this prefix. The segment is made if there is none.
abbrev pub flushed_trees : (prefix : List ℕ) (name : ℕ) (rows : List Row) (trees : Trees) → Trees
flushed_trees prefix name rows [] = flushed_on name rows (empty_segment prefix) ∷ []
flushed_trees prefix name rows (s ∷ trees) =
    if bytes_eq prefix s.prefix then flushed_on name rows s ∷ trees
    else (if is_lt (key_cmp prefix s.prefix) then flushed_on name rows (empty_segment prefix) ∷ s ∷ trees
    else s ∷ flushed_trees prefix name rows trees)

-- The job that a step is taken for.
abbrev pub job_of : Step → ℕ
job_of (Join job) = job
job_of (Move job) = job
job_of (Drain job) = job

-- The trees after the steps of a commit, taken in order, given each job's spec and recorded tables.
abbrev pub stepped_all : (tables : Tables) (jobs : ℕ → JobSpec × List ℕ) (steps : List Step) (trees : Trees) → Trees
stepped_all tables jobs [] trees = trees
stepped_all tables jobs (step ∷ steps) trees =
    stepped_all tables jobs steps (stepped_in tables step (jobs (job_of step)).0 (jobs (job_of step)).1 trees)

-- The horizon after a step. A join raises it to the cut that its job kept, or to the stored floor if the
-- job kept none, unless it is higher already. A move and a drain leave it as it is.
abbrev pub horizon_after : (floor : ℕ) (step : Step) (kept_cut : Option ℕ) (horizon : ℕ) → ℕ
horizon_after floor (Join job) None horizon = max horizon floor
horizon_after floor (Join job) (Some cut) horizon = max horizon cut
horizon_after floor (Move job) kept_cut horizon = horizon
horizon_after floor (Drain job) kept_cut horizon = horizon

-- The horizon after the steps of a commit, taken in order, given the cut that each job kept.
abbrev pub horizon_after_all : (floor : ℕ) (cuts : ℕ → Option ℕ) (steps : List Step) (horizon : ℕ) → ℕ
horizon_after_all floor cuts [] horizon = horizon
horizon_after_all floor cuts (step ∷ steps) horizon =
    horizon_after_all floor cuts steps (horizon_after floor step (cuts (job_of step)) horizon)

-- The key of the last row, or the given key if there are no rows.
abbrev pub last_key : List ℕ → List Row → List ℕ
last_key key [] = key
last_key key (r ∷ rows) = last_key r.key rows

-- True if the last key of each table is below the first key of the next table.
abbrev pub are_apart : Tables → List ℕ → Bool
are_apart tables [] = true
are_apart tables (a ∷ []) = true
are_apart tables (a ∷ b ∷ pieces) =
    is_lt (key_cmp (last_key [] (table_rows tables a)) (first_key (table_rows tables b)))
    && are_apart tables (b ∷ pieces)

-- The tables that the sources of a job have in the trees now.
abbrev pub tables_now : Trees → JobSpec → List ℕ
tables_now trees spec = source_pieces spec.sources (tree_at spec.segment trees)
