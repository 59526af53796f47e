use Rattle.fleet_book.proofs.ModelManifests as law
use Rattle.fleet_book.proofs.laws.merged_manifests_are_the_models.Goals as goal

pub returns : goal.returns
returns c = law.merged_manifests_are_the_models
