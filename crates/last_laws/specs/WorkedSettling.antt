-- A worked settle line, which shows that the premises of the law on settle lines with the levelled scheduler can be
-- met.
use Rattle.std.specs.Prelude.{◌≡◌, List, [], ◌∷◌, pos, None}
use Rattle.row_model.specs.Append.{append}
use Rattle.fleet_model.specs.Nodes.{L0, Run, names, tree_at}
use Rattle.sched_model.specs.Levels.{LevelOptions, level_scheduler}
use Rattle.script_model.specs.Script.{Line, StartCoordinator, StartWorker, FlushRows, Settle}
use Rattle.script_model.specs.States.{Inputs, State}
use Rattle.script_model.specs.Lines.Settles.{settled_reply}
use Rattle.line_laws.specs.Scripts.{HasRun}
use Rattle.line_laws.specs.WorkedRun.{worked_row}
use Rattle.last_laws.specs.Levels.{flushes_in, runs_in, LevelLine}

-- Two flushes are compacted. Each run except the oldest is above its size, since the newest may have one byte.
abbrev pub tight_levels : LevelOptions
tight_levels = record { l0_trigger = 2; base = 1; ratio = 2 }

-- The inputs of a levelled scheduler with these options that may have one job under way.
abbrev pub tight_inputs : Inputs
tight_inputs = record { merge = append; scheduler = level_scheduler tight_levels 1 }

-- Two flushes of the root settle into a run. Two more flushes follow, and a flush of another segment.
abbrev pub lines_before : List Line
lines_before =
    FlushRows 1 [] 0 (pos 0) (worked_row 0x61 1)
    ∷ FlushRows 2 [] 0 (pos 0) (worked_row 0x61 2)
    ∷ StartCoordinator 1
    ∷ StartWorker 1 None
    ∷ Settle 1 1 5
    ∷ FlushRows 3 [] 0 (pos 0) (worked_row 0x61 3)
    ∷ FlushRows 4 [] 0 (pos 0) (worked_row 0x61 4)
    ∷ FlushRows 5 (0x62 ∷ []) 0 (pos 0) (worked_row 0x62 5)
    ∷ []

-- A settle line follows these lines and meets the premises of the law. It settles in round 3: a job makes a run of
-- the two flushes, and then a job joins both runs of the root. The flush of the other segment is within its sizes.
pub record WorkedSettling : Type 0 where
  pub old : State
  pub new : State
  pub before : HasRun tight_inputs lines_before old
  pub line : LevelLine tight_inputs tight_levels 1 old 1 1 8 (settled_reply 3) new
  pub flushes : flushes_in old.store.manifest.trees ≡ 3
  pub runs : runs_in old.store.manifest.trees ≡ 1
  pub root : names (tree_at [] new.store.manifest.trees) ≡ Run 0 ∷ []
  pub other : names (tree_at (0x62 ∷ []) new.store.manifest.trees) ≡ L0 5 ∷ []
