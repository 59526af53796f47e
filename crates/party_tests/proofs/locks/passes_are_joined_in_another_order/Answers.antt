use Rattle.row_model.specs.Append.{append}
use Rattle.party_tests.proofs.Splits.{fresh_meets}
use Rattle.party_tests.proofs.locks.passes_are_joined_in_another_order.Goals as goal

pub share-requires-clause-keeps : goal.share-requires-clause-keeps
share-requires-clause-keeps g c = fresh_meets _ _ _ c.expect-store.ensures c.new.ensures.store (c.fresh_keeps.ensures append)

pub lead-one-requires-clause-lends : goal.lead-one-requires-clause-lends
lead-one-requires-clause-lends g c = c.in-Ok.ensures.lends 5
