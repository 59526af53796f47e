use Rattle.std.proofs.Common.{◌≡◌, ◌++◌, vec_len}
use Rattle.std.specs.Prelude.{reverse}
use Rattle.row_model.specs.KeptRows.{retention_walk}
use Rattle.fleet_rows.specs.Row.{rows_of}
use Rattle.fleet_fold.proofs.keeping.walked.Given as goal

abbrev pub invariant-rows : goal.invariant-rows
invariant-rows l =
    rows_of l.kept.items ++ retention_walk l.settings.cut l.settings.tick (rows_of (reverse l.rest.items))
    ≡ retention_walk l.settings.cut l.settings.tick (rows_of l.fn.rows.items)

abbrev pub decreases-rows : goal.decreases-rows
decreases-rows l = vec_len l.rest
