use Rattle.std.proofs.Common.{rules, ◌≡◌, ◌∷◌, ap, subst}
use Rattle.fleet_iter.specs.Iteration.{IteratorState}
use Rattle.fleet_rows.specs.Row.{row_of}
use Rattle.fleet_scan.specs.KeyRows.{Adds}
use Rattle.fleet_scan.specs.declared.key_rows.ReadPoint.{ReadPoint}
use Rattle.fleet_scan.proofs.Steps.{reads_next}
use Rattle.fleet_scan.proofs.KeyTaken.{taken_more}
use Rattle.fleet_scan.proofs.key_read.KeyRead.take.Goals as goal

pub rows-preserved : goal.rows-preserved
rows-preserved g c =
    let s = g.T.RowSource.state c.rows.source in
    let new = g.T.RowSource.state c.next_row.new.self in
    let next : s ≡ record new { rows = row_of c.in-Some.row ∷ new.rows } = search rules in
    let adds = subst (λ (p : ReadPoint). Adds p c.rows.self-inside.rows (row_of c.in-Some.row) c.add.new.self) c.rows.invariant.point c.in_ok-add.ensures in
    record {
      sound = search rules;
      reading = reads_next s new (row_of c.in-Some.row ∷ new.rows) next c.rows.invariant.reading;
      point = c.rows.invariant.point;
      so_far = taken_more _ _ c.rows.self-inside.rows c.add.new.self _ s new (row_of c.in-Some.row) c.rows.invariant.so_far (ap (λ (t : IteratorState). t.rows) next) adds;
    }
