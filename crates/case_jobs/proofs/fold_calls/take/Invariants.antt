use Rattle.fleet_iter.specs.Iteration.{AreRising}
use Rattle.case_jobs.proofs.fold_calls.take.Given as goal

abbrev pub invariant-taken : goal.invariant-taken
invariant-taken g l = record {
  sound : g.T.RowEntryIterator.sound l.source;
  rising : AreRising (g.T.RowEntryIterator.state l.source).rows;
}
