use Rattle.std.proofs.Common.{◌≡◌, vec_len}
use Rattle.row_model.specs.KeptRows.{without_old_tombstones}
use Rattle.fleet_rows.specs.Row.{rows_of}
use Rattle.fleet_fold.proofs.keeping.remove_old_tombstones.Given as goal

abbrev pub invariant-old : goal.invariant-old
invariant-old l = without_old_tombstones (rows_of l.rows.items) ≡ without_old_tombstones (rows_of l.fn.rows.items)

abbrev pub decreases-old : goal.decreases-old
decreases-old l = vec_len l.rows
