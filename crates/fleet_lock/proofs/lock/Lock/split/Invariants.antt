use Rattle.fleet_history.specs.Parties.{party_of}
use Rattle.fleet_lock.specs.Names.{name_of}
use Rattle.fleet_lock.proofs.lock.Lock.split.Given as goal

-- The name of the new pass's party.
abbrev pub ghosts-cut : goal.ghosts-cut
ghosts-cut g a = record { name = name_of (party_of a.party) }
