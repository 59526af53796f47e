use Rattle.party_tests.proofs.locks.passes_tell_claims_and_commits.Goals as goal

pub lead-one-requires-clause-lends : goal.lead-one-requires-clause-lends
lead-one-requires-clause-lends g c = c.in-Ok.ensures.lends 5
