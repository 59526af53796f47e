use Rattle.party_tests.proofs.Splits.{first_lends}
use Rattle.party_tests.proofs.passes.share.Goals as goal

pub returns-in-Ok-clause-lends : goal.returns-in-Ok-clause-lends
returns-in-Ok-clause-lends c = first_lends _ _ _ _ c.in-Ok.ensures.first c.requires.keeps
