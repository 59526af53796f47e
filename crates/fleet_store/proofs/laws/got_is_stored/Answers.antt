use Rattle.fleet_store.proofs.Later as law
use Rattle.fleet_store.proofs.laws.got_is_stored.Goals as goal

pub returns : goal.returns
returns c = law.got_is_stored
