use Rattle.std.proofs.Crossing.{crosses}
use denote.Param.Send.{sendable}
use Rattle.fleet_store.proofs.Threads.{store_send}
use Rattle.party_tests.proofs.locks.a_worker_and_a_coordinator_call_at_once.Goals as goal

pub at_once-requires-clause-lends : goal.at_once-requires-clause-lends
at_once-requires-clause-lends g c κs = c.in-Ok.ensures.lends 5

pub at_once-requires-send-S : goal.at_once-requires-send-S
at_once-requires-send-S g c κs = search (store_send, crosses, sendable) depth 24
