use Rattle.case_words.proofs.given_rows.take_rows.Given as goal

abbrev pub invariant-rows : goal.invariant-rows
invariant-rows g l = g.T.RowEntryIterator.sound l.source
