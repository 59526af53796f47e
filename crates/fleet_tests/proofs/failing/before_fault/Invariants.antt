use Rattle.fleet_tests.proofs.failing.before_fault.Given as goal

abbrev pub invariant-rows : goal.invariant-rows
invariant-rows g l = g.T.RowEntryIterator.sound l.source
