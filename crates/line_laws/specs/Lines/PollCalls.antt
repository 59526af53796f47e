-- The law on poll lines: which calls a poll makes, what it replies and which parties it leaves, whether it is
-- refused or not.
use Rattle.std.specs.Prelude.{◌≡◌, ℕ, nat_lt, Bool, if◌then◌else◌, List, [], ◌∷◌, ◌++◌, map, Option, Some, None, codes}
use Rattle.fleet_model.specs.History.{Coordinator, GetManifest, Done}
use Rattle.fleet_model.specs.Store.{Store}
use Rattle.fleet_model.specs.Work.Parties.{LiveCoordinator, Parties, coordinator_with, without_coordinator}
use Rattle.fleet_model.specs.Work.PollStates.{PollState}
use Rattle.fleet_model.specs.Exchanges.{does_stand}
use Rattle.step_model.specs.Courses.StepEnds.{StepEnd, Reports, Fenced}
use Rattle.step_model.specs.Steps.PollSteps.{PollAsk, records_or_none}
use Rattle.script_model.specs.States.{Inputs, State}
use Rattle.script_model.specs.Replies.{reply}
use Rattle.script_model.specs.LineRuns.{step_reply, step_parties}
use Rattle.script_model.specs.Lines.PollLines.{poll_ask}
use Rattle.script_model.specs.LineSteps.{OneCourse}
use Rattle.line_laws.specs.Lines.PollRuns.{Answered, entry_of, gets_at, calls_before, puts_of, drawn_at, reached_state}
use Rattle.line_laws.specs.Lines.PollLines.{poll_of, spell_poll}
use Rattle.line_laws.specs.Faults.{MadeOf, AllMade, CutAt}

-- The state that a poll over this store reaches.
abbrev pub reached_at : PollAsk → Store → PollState
reached_at ask store = reached_state ask store (drawn_at ask store)

-- The calls of a poll that no fault strikes. It ends after a get that shows an epoch above its own. Otherwise
-- it gets both objects, draws, and puts the manifest and then the records, each if it changed it.
abbrev pub calls_of : PollAsk → Store → List Answered
calls_of ask store =
    if nat_lt ask.epoch store.manifest.epoch then (GetManifest, Done store.manifest.version) ∷ []
    else (if nat_lt ask.epoch (records_or_none store.records).epoch then gets_at store
    else calls_before store (drawn_at ask store) ++ puts_of store (reached_at ask store))

-- How it ends: it is fenced by such an epoch, or it reports what it reached. It never gives up.
abbrev pub ends_as : PollAsk → Store → StepEnd PollState
ends_as ask store =
    if nat_lt ask.epoch store.manifest.epoch then Fenced store.manifest.epoch
    else (if nat_lt ask.epoch (records_or_none store.records).epoch
    then Fenced (records_or_none store.records).epoch else Reports (reached_at ask store))

-- The reply of a step that ends so, or storefault if a fault struck one of its calls.
abbrev pub reply_if : {A : Type 0} {stands : Bool} {calls made : List Answered} → MadeOf stands calls made
    → (A → List ℕ) → StepEnd A → List ℕ
reply_if (AllMade same) spell end = step_reply spell end
reply_if (CutAt before event answer after counts whole cut) spell end = reply (codes "storefault" ∷ [])

-- The parties after a poll that ends so. The coordinator is no longer live if its poll was fenced or struck.
abbrev pub parties_if : {stands : Bool} {calls made : List Answered} → MadeOf stands calls made
    → (all others : Parties) → StepEnd PollState → Parties
parties_if (AllMade same) all others end = step_parties (λ reached. all) others end
parties_if (CutAt before event answer after counts whole cut) all others end = others

-- The poll of a live coordinator made all these calls, or the first ones up to a struck one. So the manifest
-- is put before the records also where the poll is struck between them.
pub record PollCalled (inputs : Inputs) (number : ℕ) (commits_only : Bool) (n : ℕ) (old : State) (answer : List ℕ)
    (new : State) (c : LiveCoordinator) : Type 0 where
  pub made : List Answered
  pub of : MadeOf (does_stand old.fault) (calls_of (poll_ask inputs old c commits_only) old.store) made
  pub history : new.store.history ≡ old.store.history ++ map (entry_of number (Coordinator n)) made
  pub printed : answer ≡ reply_if of (spell_poll commits_only) (ends_as (poll_ask inputs old c commits_only) old.store)
  pub live : new.parties
      ≡ parties_if of old.parties (without_coordinator n old.parties)
      (ends_as (poll_ask inputs old c commits_only) old.store)

-- The same for a coordinator that may be live. If it is not, the line is refused and changes nothing.
abbrev pub PollCalledBy : (inputs : Inputs) (number : ℕ) (commits_only : Bool) (n : ℕ) (old : State) (answer : List ℕ)
    (new : State) (c : Option LiveCoordinator) → Type 0
PollCalledBy inputs number commits_only n old answer new None =
    (answer ≡ reply (codes "nosuchparty" ∷ [])) × (new ≡ old)
PollCalledBy inputs number commits_only n old answer new (Some c) =
    PollCalled inputs number commits_only n old answer new c

-- Each course of a poll is so, from any state.
abbrev pub PollsCall : Type 0
PollsCall = (inputs : Inputs) (old new : State) (commits_only : Bool) (n number : ℕ) (answer : List ℕ)
    → OneCourse inputs number old (poll_of commits_only n) answer new
    → PollCalledBy inputs number commits_only n old answer new (coordinator_with n old.parties)
