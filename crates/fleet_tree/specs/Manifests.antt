-- These functions turn a program's manifest into a manifest of the model.
use Rattle.std.specs.Prelude.{ℕ, List, [], map}
use Rattle.fleet_model.specs.Store.{Manifest, cut_at}
use Rattle.fleet_model.specs.Tracker as model
use Rattle.fleet_tree.specs.Trees.{RunFlushes, trees_of}
use Rattle.fleet_tree.specs.declared.manifest.ManifestCore.{ManifestCore}
use Rattle.fleet_tree.specs.declared.tracker.Tracked.{Tracked}

abbrev pub tracked_of : Tracked → model.Tracked
tracked_of flush = record { least_seq = flush.least_seq; moment = flush.moment }

abbrev pub tracker_of : List Tracked → List model.Tracked
tracker_of tracker = map tracked_of tracker

-- The model's manifest with the contents of a program's manifest. The version and the epoch are given. A
-- program does not keep which flushes went into a run, so they are given too.
abbrev pub manifest_of : (flushes : RunFlushes) → (version epoch : ℕ) → ManifestCore → Manifest
manifest_of flushes version epoch core = record {
  version = version;
  epoch = epoch;
  trees = trees_of flushes core;
  floor = core.recent_snapshot_min_seq;
  tick = core.last_l0_clock_tick;
  tracker = tracker_of core.tracker;
  horizon = core.horizon;
}

-- The cut that the model computes for this manifest. It depends on neither the version, nor the epoch, nor
-- the flushes of runs. So it is stated for a version and an epoch of 0, and for runs without flushes.
abbrev pub cut_of : ManifestCore → (moment retention : ℕ) → ℕ
cut_of core moment retention = cut_at (manifest_of (λ prefix run. []) 0 0 core) moment retention
