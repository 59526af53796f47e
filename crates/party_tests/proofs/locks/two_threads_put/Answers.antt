use Rattle.std.proofs.Crossing.{crosses}
use denote.Param.Send.{sendable}
use Rattle.row_model.specs.Append.{append}
use Rattle.fleet_store.proofs.Threads.{store_send}
use Rattle.party_tests.proofs.Splits.{fresh_meets}
use Rattle.party_tests.proofs.locks.two_threads_put.Goals as goal

pub share-requires-clause-keeps : goal.share-requires-clause-keeps
share-requires-clause-keeps g c = fresh_meets _ _ _ c.expect-store.ensures c.new.ensures.store (c.fresh_keeps.ensures append)

pub serve-two-requires-clause-lends : goal.serve-two-requires-clause-lends
serve-two-requires-clause-lends g c = c.in-Ok.ensures.lends 6

pub two_put-pass-requires-send-S : goal.two_put-pass-requires-send-S
two_put-pass-requires-send-S g c κs = search (store_send, crosses, sendable) depth 24
