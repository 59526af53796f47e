use Rattle.fleet_book.proofs.ModelMerges.{merges_are}
use Rattle.fleet_book.proofs.laws.merges_are_the_models.Goals as goal

pub returns : goal.returns
returns c = merges_are
