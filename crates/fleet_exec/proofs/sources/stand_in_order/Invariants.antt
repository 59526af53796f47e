use Rattle.std.proofs.Common.{◌≡◌, ◌∷◌, length}
use Rattle.row_model.specs.Rows.{are_ordered}
use Rattle.fleet_rows.specs.Row.{row_of}
use Rattle.fleet_exec.specs.Taking.{ReadsOn}
use Rattle.fleet_exec.proofs.sources.stand_in_order.Given as goal

abbrev pub invariant-rows : goal.invariant-rows
invariant-rows g l =
    let s = g.T.RowSource.state l.source in
    let old = g.T.RowSource.state l.fn.source in
    record {
      sound : g.T.RowSource.sound l.source;
      reads : ReadsOn old s;
      rows : are_ordered old.rows ≡ are_ordered (row_of l.last ∷ s.rows);
    }

abbrev pub decreases-rows : goal.decreases-rows
decreases-rows g l = length (g.T.RowSource.state l.source).rows
