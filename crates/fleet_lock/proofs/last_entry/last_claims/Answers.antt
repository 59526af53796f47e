use Rattle.fleet_history.specs.Entries.{entry_of}
use Rattle.fleet_lock.proofs.LastEntry.{claims_last}
use Rattle.fleet_lock.proofs.last_entry.last_claims.Goals as goal

pub returns-in-Some : goal.returns-in-Some
returns-in-Some c = claims_last entry_of _ _ _ _ c.in-Some.ensures.cases.0 c.claimed.ensures
