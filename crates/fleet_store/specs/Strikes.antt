-- What a fault that strikes a call does, if one does.
use Rattle.std.specs.Prelude.{ℕ, ◌+◌, Bool, true, false, Option, Some, None, if◌then◌else◌}
use Rattle.fleet_model.specs.History.{Event, Answer, Lost}
use Rattle.fleet_model.specs.Exchanges.{Exchange, Fault, after_exchange, strikes, waiting_after, does_stand, stands_or_lost}
use Rattle.fleet_model.specs.Store.{Store}
use Rattle.step_model.specs.Rivals.{Strike}

-- The fault that strikes this event, if one does.
abbrev pub strike_by : Event → Option Fault → Strike
strike_by event waits = if strikes event waits then Some (does_stand waits) else None

-- The fault that waits after this event, if one does.
abbrev pub waits_after : Event → Option Fault → Option Fault
waits_after event waits = if strikes event waits then None else waiting_after event waits

-- The number of faults after a call.
abbrev pub faults_after : Strike → ℕ → ℕ
faults_after None faults = faults
faults_after (Some stands) faults = faults + 1

-- The answer to a call, given its answer without a fault.
abbrev pub answer_under : Strike → Answer → Answer
answer_under None answer = answer
answer_under (Some true) answer = stands_or_lost answer
answer_under (Some false) answer = Lost

-- True if the call is performed.
abbrev pub is_performed : Strike → Bool
is_performed None = true
is_performed (Some stands) = stands

-- The store after a call, without the call's entry in the history.
abbrev pub performed_under : Strike → Exchange → Store → Store
performed_under strike x store = if is_performed strike then after_exchange x store else store
