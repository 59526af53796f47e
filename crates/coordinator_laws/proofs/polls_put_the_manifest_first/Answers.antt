use Rattle.coordinator_laws.proofs.ManifestFirst as law
use Rattle.coordinator_laws.proofs.polls_put_the_manifest_first.Goals as goal

pub returns : goal.returns
returns c = law.polls_put_the_manifest_first
