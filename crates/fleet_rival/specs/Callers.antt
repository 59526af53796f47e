-- Who calls a store in memory that other parties call too.
use Rattle.std.specs.Prelude.{ℕ, false}
use Rattle.row_model.specs.Fold.{Operator}
use Rattle.step_model.specs.Rivals.{Caller}
use Rattle.fleet_history.specs.Parties.{party_of}
use Rattle.fleet_history.specs.declared.party.Party.{Party}

-- The party with the line of its entries. It is not alone.
abbrev pub shared_caller : Operator → ℕ → Party → Caller
shared_caller merge line party = record { merge = merge; line = line; party = party_of party; alone = false }
