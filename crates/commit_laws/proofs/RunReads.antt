-- Runs keep reads: those that joins make, and those that moves make.
use Rattle.std.proofs.Common.{◌∷◌}
use Rattle.row_model.specs.Fold.{Operator, IsLawful}
use Rattle.commit_laws.specs.RunReads.{RunsKeepReads, moved_tables}
use Rattle.commit_laws.proofs.RunRows.{join_fits}
use Rattle.commit_laws.proofs.MoveRows.{move_fits}
use Rattle.commit_laws.proofs.Segments.{run_reads}

pub runs_keep_reads : (merge : Operator) → IsLawful merge → RunsKeepReads merge
runs_keep_reads merge lawful = record {
  joins = λ store oldest node nodes id outputs settings part makes. run_reads merge store oldest id outputs node nodes part.newest_first part.reads (join_fits merge store oldest id (node ∷ nodes) outputs settings lawful part.newest_first part.ordered makes);
  moves = λ store oldest node nodes id part tables apart. run_reads merge store oldest id (moved_tables store.tables (node ∷ nodes)) node nodes part.newest_first part.reads (move_fits merge store oldest id (node ∷ nodes) part.newest_first part.ordered tables apart);
}
