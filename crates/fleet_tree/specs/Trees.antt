-- Trees of a program, and how they are turned into trees of the model.
use Rattle.std.specs.Prelude.{ℕ, Bool, true, false, ◌==◌, ◌++◌, not, take_while, List, [], ◌∷◌, map, Option, Some, None, bytes_eq, if◌then◌else◌}
use Rattle.std.specs.Borrow.{Bor}
use Rattle.std.specs.Ordering.{is_lt}
use Rattle.row_model.specs.Rows.{key_cmp}
use Rattle.fleet_model.specs.Nodes.{Node, L0, Run, Tree, Segment, Trees}
use Rattle.fleet_tree.specs.Views.{View}
use Rattle.fleet_tree.specs.declared.run.SortedRun.{SortedRun}
use Rattle.fleet_tree.specs.declared.tree.LsmTreeState.{LsmTreeState}
use Rattle.fleet_tree.specs.declared.manifest.ManifestCore.{ManifestCore}

abbrev pub empty_tree : LsmTreeState
empty_tree = record { l0 = []; compacted = []; last_compacted_l0_sst_view_id = None; last_seq = None }

-- The views before the one with this id. They are newer, since views are ordered newest first. If there is no
-- id, or no view has it, these are all the views.
abbrev pub newer_than : Option ℕ → List View → List View
newer_than None views = views
newer_than (Some mark) views = take_while (λ view. not (view.id == mark)) views

-- A compactor's tree with the flushes of its writer. It has the remote flushes that are newer than the local
-- watermark, and the remote last sequence. The runs and the watermark are the local ones.
abbrev pub from_writer : (local remote : LsmTreeState) → LsmTreeState
from_writer local remote = record {
  l0 = newer_than local.last_compacted_l0_sst_view_id remote.l0;
  compacted = local.compacted;
  last_compacted_l0_sst_view_id = local.last_compacted_l0_sst_view_id;
  last_seq = remote.last_seq;
}

-- The trees of a manifest, each with the prefix of its segment. The root comes first, and then the segments.
abbrev pub trees_with_prefix : ManifestCore → List (List ℕ × LsmTreeState)
trees_with_prefix core = ([], core.tree) ∷ core.segments

-- The tree with a flush put in front. `seq` becomes the tree's last sequence.
abbrev pub flushed_on : View → ℕ → LsmTreeState → LsmTreeState
flushed_on view seq t = record t { l0 = view ∷ t.l0; last_seq = Some seq }

-- The trees after a flush is put in front of its segment's tree. If the segment is not among them, it is
-- inserted by rising prefix, with a tree of this flush alone.
abbrev pub flushed_segments : (prefix : List ℕ) (view : View) (seq : ℕ) (trees : List (List ℕ × LsmTreeState))
    → List (List ℕ × LsmTreeState)
flushed_segments prefix view seq [] = (prefix, flushed_on view seq empty_tree) ∷ []
flushed_segments prefix view seq (s ∷ trees) =
    if bytes_eq prefix s.0 then (prefix, flushed_on view seq s.1) ∷ trees
    else (if is_lt (key_cmp prefix s.0) then (prefix, flushed_on view seq empty_tree) ∷ s ∷ trees
    else s ∷ flushed_segments prefix view seq trees)

-- Whether this segment has this prefix, and its tree if it does. Without such a segment the tree is empty.
abbrev pub tree_or_empty : List ℕ → Option (List ℕ × LsmTreeState) → Bool × LsmTreeState
tree_or_empty prefix None = (false, empty_tree)
tree_or_empty prefix (Some s) = if bytes_eq prefix s.0 then (true, s.1) else (false, empty_tree)

-- Which flushes went into each run, given by the prefix of the run's segment and by the run's id. Runs of two
-- segments may have the same id.
abbrev pub RunFlushes : Type 0
RunFlushes = (prefix : List ℕ) → (run : ℕ) → List ℕ

-- The model's tree of a program's tree. A program does not keep which flushes went into a run, so they are given
-- by the run's id.
module _ (flushes : ℕ → List ℕ) where
  abbrev pub flush_node : View → Node
  flush_node view = record { name = L0 view.id; flushes = view.id ∷ []; pieces = view.sst.id ∷ [] }

  abbrev pub run_node : SortedRun → Node
  run_node run = record { name = Run run.id; flushes = flushes run.id; pieces = map (λ view. view.sst.id) run.views }

  abbrev pub tree_of : LsmTreeState → Tree
  tree_of t = map flush_node t.l0 ++ map run_node t.compacted

-- The model's trees of a program's trees.
module _ (flushes : RunFlushes) where
  abbrev pub segment_of : List ℕ × LsmTreeState → Segment
  segment_of s = record {
    prefix = s.0;
    tree = tree_of (flushes s.0) s.1;
    last_seq = s.1.last_seq;
    watermark = s.1.last_compacted_l0_sst_view_id;
  }

  abbrev pub trees_of : ManifestCore → Trees
  trees_of core = map segment_of (trees_with_prefix core)

-- The tree of the root, as a list. It is empty if there is no root left to iterate over.
abbrev pub root_tree : Option (Bor LsmTreeState) → List LsmTreeState
root_tree None = []
root_tree (Some root) = root.now ∷ []
