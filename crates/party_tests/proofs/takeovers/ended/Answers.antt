use Rattle.party_tests.proofs.takeovers.ended.Goals as goal

pub made-requires-clause-lends : goal.made-requires-clause-lends
made-requires-clause-lends g c κs within = (rw c.expect-shared.ensures at c.share.ensures.lends) 5
