use Rattle.step_model.specs.Views.{SameCaller}
use Rattle.party_tests.proofs.locks.put_many.Given as goal

-- The caller is the same.
abbrev pub invariant-tries : goal.invariant-tries
invariant-tries g l = SameCaller (g.S.Store.view l.initial.store) (g.S.Store.view l.store)
