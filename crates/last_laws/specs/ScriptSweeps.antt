-- The law on sweeps: in a script they leave no trace, apart from the tables that they delete.
use Rattle.std.specs.Prelude.{ℕ, List}
use Rattle.fleet_model.specs.Jobs.{JobSpec}
use Rattle.fleet_model.specs.Store.{Store}
use Rattle.fleet_laws.specs.Transparent.{SweepersOnlySweep, SweepsLeaveNoTrace}
use Rattle.script_model.specs.Script.{Line}
use Rattle.script_model.specs.States.{Inputs, State}
use Rattle.line_laws.specs.Scripts.{HasRun}

-- The sweepers of a store made only gets, lists and deletions. Whatever else the history says, it says without
-- their entries too.
pub record IsSweptClean (store : Store) : Type 0 where
  pub only : SweepersOnlySweep store.history
  pub no_trace : (specs : ℕ → JobSpec) → SweepsLeaveNoTrace store.tables specs store.history

-- So it is after each line of a script.
abbrev pub ScriptsSweepClean : Type 0
ScriptsSweepClean = (inputs : Inputs) (lines : List Line) (last : State) → HasRun inputs lines last
    → IsSweptClean last.store
