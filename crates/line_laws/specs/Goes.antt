-- The laws on completeness: each line but a together line goes on, and so do lines one after the other.
use Rattle.std.specs.Prelude.{◌≡◌, ℕ, Bool, true, false, List}
use Rattle.std.specs.List.{AllByRecursion}
use Rattle.fleet_model.specs.Store.{Store}
use Rattle.script_model.specs.Script.{Line, Together, Grammar, IsScript}
use Rattle.script_model.specs.Grammars.{full_grammar, served_grammar}
use Rattle.script_model.specs.States.{Inputs, State, FleetOptions}
use Rattle.script_model.specs.Follows.{LineStep, ScriptRun, Follows}

-- Nothing says yet what a together line does.
abbrev pub is_together : Line → Bool
is_together (Together workers turns) = true
is_together line = false

-- The line has a reply, and a state that it leaves.
pub record Goes (inputs : Inputs) (number : ℕ) (old : State) (line : Line) : Type 0 where
  pub answer : List ℕ
  pub new : State
  pub step : LineStep inputs number old line answer new

-- So a fleet that runs lines is never stuck at one, from any state. If the operator refuses a fold that the line needs,
-- there is a message of a refusal to reply with.
abbrev pub LinesGo : Type 0
LinesGo = (inputs : Inputs) (number : ℕ) (old : State) (line : Line) → is_together line ≡ false
    → Goes inputs number old line

-- These lines have replies, and a state that they leave.
pub record RunsToEnd (inputs : Inputs) (number : ℕ) (old : State) (lines : List Line) : Type 0 where
  pub answers : List (List ℕ)
  pub new : State
  pub run : ScriptRun inputs number old lines answers new

-- So there is a run of any lines, from any state.
abbrev pub ScriptsGo : Type 0
ScriptsGo = (inputs : Inputs) (number : ℕ) (old : State) (lines : List Line)
    → AllByRecursion (λ line. is_together line ≡ false) lines → RunsToEnd inputs number old lines

-- A fresh fleet with these options can follow the script: it has bytes to write and a store to leave.
pub record CanFollow (grammar : Grammar) (inputs : Inputs) (options : FleetOptions) (text : List ℕ) : Type 0 where
  pub store : Store
  pub written : List ℕ
  pub follows : Follows grammar inputs options text store written

-- So it can follow each script of the lines that the program serves, and each script of the full grammar without
-- together lines.
pub record TextsGo : Type 0 where
  pub full : (inputs : Inputs) (options : FleetOptions) (text : List ℕ) (lines : List Line)
      → IsScript full_grammar text lines → AllByRecursion (λ line. is_together line ≡ false) lines
      → CanFollow full_grammar inputs options text
  pub served : (inputs : Inputs) (options : FleetOptions) (text : List ℕ) (lines : List Line)
      → IsScript served_grammar text lines → CanFollow served_grammar inputs options text
