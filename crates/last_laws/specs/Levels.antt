-- The levelled scheduler settles a fleet.
use Rattle.std.specs.Prelude.{◌≡◌, ℕ, ◌+◌, ◌*◌, ◌<◌, ◌≤◌, true, false, List, length, sum_by}
use Rattle.fleet_model.specs.Nodes.{Trees, flushes_of, runs_of}
use Rattle.sched_model.specs.Levels.{LevelOptions, are_allowed, is_within, level_scheduler}
use Rattle.script_model.specs.States.{Inputs, State}
use Rattle.script_model.specs.Lines.Settles.{has_active, settled_reply}
use Rattle.last_laws.specs.Weights.{trees_weight}
use Rattle.last_laws.specs.Settling.{Settling, CalmLine, AreSmall}

-- If its options are allowed and it may have a job under way, the levelled scheduler settles trees to the sizes of
-- its options.
abbrev pub LevelsSettle : Type 0
LevelsSettle = (o : LevelOptions) → are_allowed o ≡ true → (most : ℕ) → 1 ≤ most
    → Settling (level_scheduler o most) (is_within o)

-- How many flushes all trees have.
abbrev pub flushes_in : Trees → ℕ
flushes_in trees = sum_by (λ s. length (flushes_of s.tree)) trees

-- How many runs all trees have.
abbrev pub runs_in : Trees → ℕ
runs_in trees = sum_by (λ s. length (runs_of s.tree)) trees

-- The trees weigh twice their flushes, and their runs.
abbrev pub WeightsCount : Type 0
WeightsCount = (trees : Trees) → trees_weight trees ≡ 2 * flushes_in trees + runs_in trees

-- A settle line with the levelled scheduler. It has more rounds than twice the flushes and the runs of all trees.
pub record LevelLine (inputs : Inputs) (o : LevelOptions) (most : ℕ) (old : State) (coordinator worker rounds : ℕ)
    (answer : List ℕ) (new : State) : Type 0 where
  pub allowed : are_allowed o ≡ true
  pub some_job : 1 ≤ most
  pub levels : inputs.scheduler ≡ level_scheduler o most
  pub line : CalmLine inputs old coordinator worker rounds answer new
  pub enough : 2 * flushes_in old.store.manifest.trees + runs_in old.store.manifest.trees < rounds

-- The line settled in time. No job is active, and every tree is within its sizes.
pub record LevelsSettled (o : LevelOptions) (old : State) (answer : List ℕ) (new : State) : Type 0 where
  pub round : ℕ
  pub says : answer ≡ settled_reply round
  pub in_time : round ≤ 2 * flushes_in old.store.manifest.trees + runs_in old.store.manifest.trees + 1
  pub none_active : has_active new ≡ false
  pub within : AreSmall (is_within o) new.store.tables new.store.manifest.trees

-- Such a settle line settles, and every tree is within its sizes after it.
abbrev pub LevelLinesSettle : Type 0
LevelLinesSettle = (inputs : Inputs) (o : LevelOptions) (most : ℕ) (old : State) (coordinator worker rounds : ℕ)
    (answer : List ℕ) (new : State)
    → LevelLine inputs o most old coordinator worker rounds answer new → LevelsSettled o old answer new
