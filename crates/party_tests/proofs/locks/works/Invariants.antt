use Rattle.party_tests.specs.Callers.{IsHand}
use Rattle.party_tests.proofs.locks.works.Given as goal

-- The worker calls the store.
abbrev pub invariant-beats : goal.invariant-beats
invariant-beats g l = IsHand (g.S.Store.view l.store) l.worker
