-- Worked examples of the schedulers: what they propose, which jobs the size-tiered one accepts, and what
-- requests give.
use Rattle.std.specs.Prelude.{◌≡◌, ℕ, true, false, List, [], ◌∷◌, ◌++◌, map, codes, Some, None}
use Rattle.fleet_model.specs.Nodes.{Segment, L0, Run, Node, NodeName}
use Rattle.fleet_model.specs.Jobs.{JobSpec}
use Rattle.fleet_model.specs.Store.{fresh_store}
use Rattle.fleet_model.specs.Handles.{Handle}
use Rattle.fleet_model.specs.Work.Scheduler.{View, Specs, Invalid, Full, FullSegment, OneSpec, default_generate}
use Rattle.sched_model.specs.Levels.{LevelOptions, level_picks}
use Rattle.sched_model.specs.Series.{TieredOptions}
use Rattle.sched_model.specs.SizeTiered.{tiered_proposals, tiered_validate}

-- The options that the scheduler has if none are given.
abbrev pub usual : TieredOptions
usual = record { least = 4; most = 8; numerator = 4; denominator = 1 }

-- A table with the size that is given for it. Each pair is a table's id and its size in bytes.
abbrev pub sized_table : ℕ × ℕ → Handle
sized_table table = record {
  id = table.0;
  first_key = codes "a";
  last_key = codes "a";
  last_seq = 1;
  rows = 1;
  size = table.1;
  blocks = [];
}

-- A flush with its one table. Each pair is the flush's name and its size.
abbrev pub small_flush : ℕ × ℕ → Node
small_flush flush = record { name = L0 flush.0; flushes = flush.0 ∷ []; pieces = flush.0 ∷ [] }

-- A run of one table. Each pair is the run's id, which is also the table's id, and its size.
abbrev pub small_run : ℕ × ℕ → Node
small_run run = record { name = Run run.0; flushes = []; pieces = run.0 ∷ [] }

-- A segment with these flushes and runs, newest first.
abbrev pub small_segment : List ℕ → (flushes runs : List (ℕ × ℕ)) → Segment
small_segment prefix flushes runs = record {
  prefix = prefix;
  tree = map small_flush flushes ++ map small_run runs;
  last_seq = None;
  watermark = None;
}

-- A view of these segments and tables, without jobs.
abbrev pub view_of : List Segment → List (ℕ × ℕ) → View
view_of segments tables = record {
  manifest = record fresh_store.manifest { trees = segments };
  records_version = 1;
  records_epoch = 0;
  jobs = [];
  handles = map sized_table tables;
}

-- A view of these runs of the root, newest first.
abbrev pub view_of_runs : List (ℕ × ℕ) → View
view_of_runs runs = view_of (small_segment [] [] runs ∷ []) runs

-- The job that makes this run of a segment of these nodes.
abbrev pub into : List ℕ → List NodeName → ℕ → JobSpec
into segment sources run = record { segment = segment; sources = sources; destination = Some run }

-- Four runs of one size are joined into the oldest of them. If that run is much larger, none are joined.
pub record AlikeRunsAreJoined : Type 0 where
  pub alike : tiered_proposals usual 4 (view_of_runs ((3, 10) ∷ (2, 10) ∷ (1, 10) ∷ (0, 10) ∷ []))
      ≡ into [] (Run 3 ∷ Run 2 ∷ Run 1 ∷ Run 0 ∷ []) 0 ∷ []
  pub larger : tiered_proposals usual 4 (view_of_runs ((3, 10) ∷ (2, 10) ∷ (1, 10) ∷ (0, 1000) ∷ [])) ≡ []

-- The ten flushes of the root, and the four flushes of another segment.
abbrev pub ten_flushes : List (ℕ × ℕ)
ten_flushes = map (λ name. (name, 10)) (10 ∷ 9 ∷ 8 ∷ 7 ∷ 6 ∷ 5 ∷ 4 ∷ 3 ∷ 2 ∷ 1 ∷ [])

abbrev pub four_flushes : List (ℕ × ℕ)
four_flushes = (14, 16) ∷ (13, 16) ∷ (12, 16) ∷ (11, 16) ∷ []

-- A view of these flushes.
abbrev pub view_of_flushes : View
view_of_flushes =
    let segments : List Segment =
    small_segment [] ten_flushes [] ∷ small_segment (codes "user1:") four_flushes [] ∷ [] in
    view_of segments (ten_flushes ++ four_flushes)

-- The job of the eight oldest flushes of the root.
abbrev pub eight_oldest : JobSpec
eight_oldest = into [] (map L0 (8 ∷ 7 ∷ 6 ∷ 5 ∷ 4 ∷ 3 ∷ 2 ∷ 1 ∷ [])) 0

-- The job of all flushes of the other segment.
abbrev pub all_four : JobSpec
all_four = into (codes "user1:") (map L0 (14 ∷ 13 ∷ 12 ∷ 11 ∷ [])) 1

-- The eight oldest flushes of the root make run 0, and the four flushes of the other segment make run 1. If
-- one job may be under way, only the first is proposed.
pub record FlushesAreJoined : Type 0 where
  pub both : tiered_proposals usual 4 view_of_flushes ≡ eight_oldest ∷ all_four ∷ []
  pub one : tiered_proposals usual 1 view_of_flushes ≡ eight_oldest ∷ []

-- A view of three flushes of the root.
abbrev pub view_of_three : View
view_of_three =
    let flushes : List (ℕ × ℕ) = (3, 10) ∷ (2, 10) ∷ (1, 10) ∷ [] in
    view_of (small_segment [] flushes [] ∷ []) flushes

-- The scheduler accepts a job of the oldest flush. It refuses one that leaves out a flush between its
-- sources, and one without sources.
pub record StretchesAreAccepted : Type 0 where
  pub oldest : tiered_validate view_of_three (into [] (L0 1 ∷ []) 5) ≡ true
  pub apart : tiered_validate view_of_three (into [] (L0 3 ∷ L0 1 ∷ []) 5) ≡ false
  pub none : tiered_validate view_of_three (into [] [] 5) ≡ false

-- A spec gives itself. A segment without runs, or without a tree, gives nothing.
pub record RequestsAreAnswered : Type 0 where
  pub itself : default_generate view_of_three (OneSpec (into [] (L0 1 ∷ []) 5))
      ≡ Specs (into [] (L0 1 ∷ []) 5 ∷ [])
  pub no_runs : default_generate view_of_three (FullSegment []) ≡ Invalid
  pub no_tree : default_generate view_of_three (FullSegment (codes "s")) ≡ Invalid

-- The root with one flush, and a segment with two runs.
abbrev pub one_with_runs : List Segment
one_with_runs = small_segment [] ((3, 10) ∷ []) [] ∷ small_segment (codes "s") [] ((1, 10) ∷ (0, 10) ∷ []) ∷ []

-- All runs of a tree are merged into the lowest of them, wherever it stands. Trees without runs give nothing
-- to a request for all trees.
pub record WholeTreesAreMerged : Type 0 where
  pub falling : default_generate (view_of_runs ((3, 10) ∷ (2, 10) ∷ (1, 10) ∷ [])) (FullSegment [])
      ≡ Specs (into [] (Run 3 ∷ Run 2 ∷ Run 1 ∷ []) 1 ∷ [])
  pub anywhere : default_generate (view_of_runs ((5, 10) ∷ (2, 10) ∷ (7, 10) ∷ (4, 10) ∷ [])) (FullSegment [])
      ≡ Specs (into [] (Run 5 ∷ Run 2 ∷ Run 7 ∷ Run 4 ∷ []) 2 ∷ [])
  pub all : default_generate (view_of one_with_runs []) Full ≡ Specs (into (codes "s") (Run 1 ∷ Run 0 ∷ []) 0 ∷ [])

-- The levelled scheduler compacts two flushes. The newest run may have 20 bytes, and each older one twice as
-- many.
abbrev pub small_levels : LevelOptions
small_levels = record { l0_trigger = 2; base = 20; ratio = 2 }

-- What it proposes on a view of two flushes of the root and these runs, with four places.
abbrev pub with_flushes : List (ℕ × ℕ) → List JobSpec
with_flushes runs =
    let flushes : List (ℕ × ℕ) = (12, 10) ∷ (11, 10) ∷ [] in
    level_picks small_levels 4 (view_of (small_segment [] flushes runs ∷ []) (flushes ++ runs))

-- The flushes go into the newest run while that is small, and into a fresh run otherwise. The oldest run is
-- not held to a limit.
pub record FlushesGoToLevels : Type 0 where
  pub newest : with_flushes ((0, 20) ∷ []) ≡ into [] (L0 12 ∷ L0 11 ∷ Run 0 ∷ []) 0 ∷ []
  pub fresh : with_flushes ((1, 21) ∷ (0, 1000) ∷ [])
      ≡ into [] (L0 12 ∷ L0 11 ∷ []) 2 ∷ into [] (Run 1 ∷ Run 0 ∷ []) 0 ∷ []
  pub oldest : level_picks small_levels 4 (view_of_runs ((1, 20) ∷ (0, 1000) ∷ [])) ≡ []
