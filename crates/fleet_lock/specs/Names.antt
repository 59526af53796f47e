-- The names under which passes make their calls.
use Rattle.std.specs.Prelude.{ℕ, ◌+◌}
use Rattle.fleet_model.specs.History.{Party, Writer, Submitter, Coordinator, Worker, Sweeper}
use Rattle.fleet_history.specs.Parties.{party_of}
use Rattle.fleet_store.specs.Memory.{StoreParts}

-- The name of a party, as a number. No two parties have one name.
abbrev pub name_of : Party → ℕ
name_of Writer = 0
name_of Submitter = 1
name_of Sweeper = 2
name_of (Coordinator number) = 3 + (number + number)
name_of (Worker number) = 4 + (number + number)

-- The name of the party whose call left this state.
abbrev pub name_at : StoreParts → ℕ
name_at state = name_of (party_of state.party)
