use Rattle.std.proofs.Common.{subst, sym}
use Rattle.std.proofs.Crossing.{crosses}
use denote.Param.Send.{sendable}
use Rattle.row_model.specs.Append.{append}
use Rattle.step_model.specs.Kept.Keeps.{Keeps}
use Rattle.fleet_store.proofs.Threads.{store_send}
use Rattle.fleet_store.specs.Memory.{StoreParts}
use Rattle.party_tests.proofs.Splits.{fresh_meets}
use Rattle.party_tests.proofs.locks.a_fault_strikes_one_of_four_threads.Goals as goal

pub share-requires-clause-keeps : goal.share-requires-clause-keeps
share-requires-clause-keeps g c =
    subst (λ (store : StoreParts). Keeps append store.world) (sym c.set_fault.ensures) (fresh_meets _ _ _ c.expect-store.ensures c.new.ensures.store (c.fresh_keeps.ensures append))

pub lead-two-requires-clause-lends : goal.lead-two-requires-clause-lends
lead-two-requires-clause-lends g c = c.in-Ok.ensures.lends 5

pub four_put-pass-requires-send-S : goal.four_put-pass-requires-send-S
four_put-pass-requires-send-S g c κs = search (store_send, crosses, sendable) depth 24
