use Rattle.party_tests.specs.Starts.{MayStart}
use Rattle.party_tests.proofs.locks.starts.Given as goal

-- A coordinator may start over the store.
abbrev pub invariant-starts : goal.invariant-starts
invariant-starts g l = MayStart (g.S.Store.view l.store)
