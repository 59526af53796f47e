use Rattle.fleet_tests.proofs.spelt_rows.given.Given as goal

abbrev pub invariant-rows : goal.invariant-rows
invariant-rows g l = g.T.RowEntryIterator.sound l.source
