-- The law on scripts: each line leaves a state that keeps the invariant.
use Rattle.std.specs.Prelude.{◌≡◌, ℕ, ◌+◌, List, ◌++◌, length}
use Rattle.std.specs.List.{AllByRecursion}
use Rattle.row_model.specs.Fold.{IsLawful}
use Rattle.script_model.specs.Script.{Line, IsInBounds}
use Rattle.script_model.specs.States.{Inputs, State, FleetOptions, fresh_state}
use Rattle.script_model.specs.Follows.{ScriptRun}
use Rattle.line_laws.specs.Alone.{HadRoom}
use Rattle.line_laws.specs.States.{StateKeeps}

-- A fresh fleet ran these lines, which are in bounds, and left this state. The operator is lawful, and
-- the history of the state had room for all draws.
pub record HasRun (inputs : Inputs) (lines : List Line) (last : State) : Type 0 where
  pub lawful : IsLawful inputs.merge
  pub in_bounds : AllByRecursion IsInBounds lines
  pub options : FleetOptions
  pub answers : List (List ℕ)
  pub run : ScriptRun inputs 1 (fresh_state options) lines answers last
  pub had_room : HadRoom last.store

-- The first lines ran too, in a run of their own with the same options and the first replies, and then the
-- others from the state that they left.
pub record RanFirst (inputs : Inputs) (first others : List Line) (last : State)
    (run : HasRun inputs (first ++ others) last) : Type 0 where
  pub mid : State
  pub before : HasRun inputs first mid
  pub options : before.options ≡ run.options
  pub answers : List (List ℕ)
  pub replies : run.answers ≡ before.answers ++ answers
  pub rest : ScriptRun inputs (length first + 1) mid others answers last

-- Lines that ran may be cut in two anywhere. So what is said of the last state of a run is said of the
-- state after each of its lines.
abbrev pub FirstLinesRun : Type 0
FirstLinesRun = (inputs : Inputs) (first others : List Line) (last : State) (run : HasRun inputs (first ++ others) last)
    → RanFirst inputs first others last run

-- The state after each line of a script keeps the invariant, and each live party fits.
abbrev pub ScriptsKeep : Type 0
ScriptsKeep = (inputs : Inputs) (lines : List Line) (last : State) → HasRun inputs lines last
    → StateKeeps inputs.merge last
