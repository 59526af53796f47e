use Rattle.std.proofs.Common.{◌≡◌, ◌++◌, take, drop}
use Rattle.row_model.specs.KeptRows.{retention_walk}
use Rattle.fleet_rows.specs.Row.{rows_of}
use Rattle.fleet_fold.proofs.keeping.kept_as_they_are.Given as goal

-- The walk keeps the rows before this place as they are.
abbrev pub invariant-rows : goal.invariant-rows
invariant-rows l =
    retention_walk l.settings.cut l.settings.tick (rows_of l.rows)
    ≡ rows_of (take l.i l.rows) ++ retention_walk l.settings.cut l.settings.tick (rows_of (drop l.i l.rows))
