-- How a fleet runs a script: with these replies, and with this store at the end. Each line begins
-- in the state that the line before it left.
use Rattle.std.specs.Prelude.{◌≡◌, ℕ, ◌+◌, Bool, true, false, List, [], ◌∷◌}
use Rattle.std.specs.List.{concat}
use Rattle.fleet_model.specs.Store.{Store}
use Rattle.script_model.specs.Script.{Line, Settle, Together, Grammar, IsScript}
use Rattle.script_model.specs.States.{Inputs, State, FleetOptions, fresh_state}
use Rattle.script_model.specs.LineSteps.{OneCourse}
use Rattle.script_model.specs.Lines.Settles.{are_live, SettleRun}

-- How a settle line is run: in rounds if both its parties are live, and otherwise by one course,
-- which refuses it.
abbrev pub SettleStep : (live : Bool) → Inputs → (number : ℕ) → (old : State) → (coordinator worker rounds : ℕ)
    → (answer : List ℕ) → (new : State) → Type 0
SettleStep true inputs number old coordinator worker rounds answer new =
    SettleRun inputs number coordinator worker rounds old answer new
SettleStep false inputs number old coordinator worker rounds answer new =
    OneCourse inputs number old (Settle coordinator worker rounds) answer new

-- One line takes the old state to the new one with this reply. Lines are numbered from 1. A settle
-- line may run several courses, and each other line runs one. Nothing here says what a together line
-- does, so no run has one.
abbrev pub LineStep : (inputs : Inputs) (number : ℕ) (old : State) (line : Line) (answer : List ℕ) (new : State)
    → Type 0
LineStep inputs number old (Settle coordinator worker rounds) answer new =
    SettleStep (are_live coordinator worker old) inputs number old coordinator worker rounds answer new
LineStep inputs number old (Together workers turns) answer new = ⊥
LineStep inputs number old line answer new = OneCourse inputs number old line answer new

-- True if the line runs one course, whatever its parties are.
abbrev pub runs_one_course : Line → Bool
runs_one_course (Settle coordinator worker rounds) = false
runs_one_course (Together workers turns) = false
runs_one_course _ = true

-- The lines take the old state to the new one, each with its reply. `number` is the number of the
-- first line.
abbrev pub ScriptRun : (inputs : Inputs) (number : ℕ) (old : State) (lines : List Line) (answers : List (List ℕ))
    (new : State) → Type 0
ScriptRun inputs number old [] [] new = new ≡ old
ScriptRun inputs number old (line ∷ lines) (answer ∷ answers) new =
    (mid : State) × LineStep inputs number old line answer mid × ScriptRun inputs (number + 1) mid lines answers new
ScriptRun inputs number old [] (answer ∷ answers) new = ⊥
ScriptRun inputs number old (line ∷ lines) [] new = ⊥

-- The text is a script of the grammar. A fresh fleet that runs it gives one reply for each line,
-- and ends with this store, which includes the store's history.
pub record Follows (grammar : Grammar) (inputs : Inputs) (options : FleetOptions) (text : List ℕ) (store : Store)
    (written : List ℕ) : Type 0 where
  pub lines : List Line
  pub answers : List (List ℕ)
  pub last : State
  pub script : IsScript grammar text lines
  pub run : ScriptRun inputs 1 (fresh_state options) lines answers last
  pub stored : last.store ≡ store
  pub replies : written ≡ concat answers
