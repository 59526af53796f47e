use Rattle.coordinator_laws.proofs.GotObjects as law
use Rattle.coordinator_laws.proofs.got_objects_merge.Goals as goal

pub returns : goal.returns
returns c = law.got_objects_merge
