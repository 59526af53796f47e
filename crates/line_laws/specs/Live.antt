-- The laws on live parties: the history alone says which coordinators and workers are live.
use Rattle.std.specs.Prelude.{◌≡◌, ℕ, List, map, is_some}
use Rattle.fleet_model.specs.Nodes.{Tables}
use Rattle.fleet_model.specs.Jobs.{JobSpec, contains}
use Rattle.fleet_model.specs.Past.Live.{live_after}
use Rattle.fleet_model.specs.Work.Parties.{worker_with}
use Rattle.script_model.specs.Script.{Line}
use Rattle.script_model.specs.States.{Inputs, State}
use Rattle.line_laws.specs.Scripts.{HasRun}

-- The workers that are live by the history are those of the state. This depends on no table and on no spec.
abbrev pub WorkersAreLive : State → Type 0
WorkersAreLive s = (tables : Tables) (specs : ℕ → JobSpec) (n : ℕ)
    → contains (live_after tables specs s.store.history).workers n ≡ is_some (worker_with n s.parties)

-- So it is in the state after each line of a script.
abbrev pub LiveWorkers : Type 0
LiveWorkers = (inputs : Inputs) (lines : List Line) (last : State) → HasRun inputs lines last → WorkersAreLive last

-- The coordinators that are live by the history are those of the state, each with its epoch, and the last one
-- that started comes first in both. This depends on no table and on no spec.
abbrev pub CoordinatorsAreLive : State → Type 0
CoordinatorsAreLive s = (tables : Tables) (specs : ℕ → JobSpec)
    → (live_after tables specs s.store.history).coordinators ≡ map (λ c. (c.number, c.epoch)) s.parties.coordinators

-- So it is in the state after each line of a script.
abbrev pub LiveCoordinators : Type 0
LiveCoordinators = (inputs : Inputs) (lines : List Line) (last : State) → HasRun inputs lines last
    → CoordinatorsAreLive last
