-- A law: a flush changes a program's manifest as a flush of the model changes the model's manifest.
use Rattle.std.specs.Prelude.{◌≡◌, ℕ, ℤ, List, [], ◌∷◌, Some, bytes_eq, if◌then◌else◌}
use Rattle.std.specs.Ordering.{is_lt}
use Rattle.row_model.specs.Rows.{Row, key_cmp}
use Rattle.fleet_model.specs.Tracker.{least_seq_of, tracked_after}
use Rattle.fleet_model.specs.Trees.{greatest_seq}
use Rattle.fleet_model.specs.Trees as model
use Rattle.fleet_tree.specs.Manifests.{manifest_of, tracker_of}
use Rattle.fleet_tree.specs.Trees.{RunFlushes, empty_tree, flushed_segments, trees_of, trees_with_prefix}
use Rattle.fleet_tree.specs.Views.{View}
use Rattle.fleet_tree.specs.declared.manifest.ManifestCore.{ManifestCore}
use Rattle.fleet_tree.specs.declared.tree.LsmTreeState.{LsmTreeState}

-- The tree to which a flush of this segment is added. It is empty if the segment has no tree yet.
abbrev pub met_tree : List ℕ → List (List ℕ × LsmTreeState) → LsmTreeState
met_tree prefix [] = empty_tree
met_tree prefix (s ∷ trees) =
    if bytes_eq prefix s.0 then s.1 else (if is_lt (key_cmp prefix s.0) then empty_tree else met_tree prefix trees)

-- The arguments of `ManifestCore::add_flush`.
pub record FlushArguments : Type 0 where
  pub segment : List ℕ
  pub view : View
  pub last_seq : ℕ
  pub least_seq : ℕ
  pub floor : ℕ
  pub tick : ℤ
  pub moment : ℕ
  pub retention : ℕ

-- The arguments fit a flush of these rows. The view's id is its table's own id. The last sequence is the
-- greatest among the rows and the tree's last sequence. The least sequence is the least one of the rows.
pub record IsFlushOf (rows : List Row) (flush : FlushArguments) (before : ManifestCore) : Type 0 where
  pub own : flush.view.sst.id ≡ flush.view.id
  pub last : greatest_seq (met_tree flush.segment (trees_with_prefix before)).last_seq rows ≡ Some flush.last_seq
  pub least : flush.least_seq ≡ least_seq_of rows

-- `ManifestCore::add_flush` ensures this of the manifests before and after it, where it succeeds.
pub record IsFlushed (flush : FlushArguments) (before after : ManifestCore) : Type 0 where
  pub trees : trees_with_prefix after
      ≡ flushed_segments flush.segment flush.view flush.last_seq (trees_with_prefix before)
  pub floor : after.recent_snapshot_min_seq ≡ flush.floor
  pub tick : after.last_l0_clock_tick ≡ flush.tick
  pub tracker : tracker_of after.tracker
      ≡ tracked_after flush.moment flush.retention flush.least_seq (tracker_of before.tracker)
  pub horizon : after.horizon ≡ before.horizon

-- Let a flush take a manifest from `before` to `after`, with arguments that fit its rows. Then the model's
-- manifest of `after` is the one of `before` after the model's flush. The floor and the tick are the given
-- ones, and the tracker is the model's. The name of the model's flush is the view's id.
abbrev pub FlushesAreTheModels : Type 0
FlushesAreTheModels = (flushes : RunFlushes) (version epoch : ℕ) (rows : List Row) (flush : FlushArguments)
    (before after : ManifestCore)
    → IsFlushOf rows flush before → IsFlushed flush before after
    → manifest_of flushes version epoch after ≡ record (manifest_of flushes version epoch before) {
      trees = model.flushed_trees flush.segment flush.view.id rows (trees_of flushes before);
      floor = flush.floor;
      tick = flush.tick;
      tracker = tracked_after flush.moment flush.retention (least_seq_of rows) (tracker_of before.tracker);
    }
