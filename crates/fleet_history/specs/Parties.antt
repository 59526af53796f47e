-- Parties as the model has them.
use Rattle.fleet_model.specs.History as model
use Rattle.fleet_history.specs.declared.party.Party.{Party}
use Rattle.fleet_history.specs.declared.party.Party.TheVariants.{Writer, Submitter, Coordinator, Worker, Sweeper}

-- The model's party.
abbrev pub party_of : Party → model.Party
party_of Writer = model.Writer
party_of Submitter = model.Submitter
party_of (Coordinator number) = model.Coordinator number
party_of (Worker number) = model.Worker number
party_of Sweeper = model.Sweeper
