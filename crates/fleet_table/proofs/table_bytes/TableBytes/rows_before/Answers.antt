use Rattle.std.proofs.Common.{sym, ◌∙◌, ap, List, length, arith}
use Rattle.std.specs.Prelude.{slice_index_or}
use Rattle.row_model.specs.Written.TableBytes.{blocks_of_rows}
use Rattle.row_model.specs.Rows.{Row}
use Rattle.fleet_block.specs.Places.{places_from}
use Rattle.fleet_block.proofs.Places.{places_count}
use Rattle.fleet_table.proofs.Cursors.{before_end, before_start}
use Rattle.fleet_table.proofs.table_bytes.TableBytes.rows_before.Goals as goal

pub returns-in-Some : goal.returns-in-Some
returns-in-Some c =
    let placed = c.self.invariant.placed ∙ ap (λ (rows : List Row). places_from 0 0 (blocks_of_rows 0 rows)) c.self.view_is in
    before_start c.args.self.now c.self.inside.places.items c.args.block c.in-Some.start.now c.in-Some.start.now placed
    (let len = ap length c.as_slice.ensures.value in grind (arith, len, c.in-Some.ensures.lookup.0))
    (c.in-Some.ensures.lookup.1 ∙ ap (λ xs. slice_index_or xs c.args.block c.in-Some.start.now) c.as_slice.ensures.value)

pub returns-in-None : goal.returns-in-None
returns-in-None c =
    let placed = c.self.invariant.placed ∙ ap (λ (rows : List Row). places_from 0 0 (blocks_of_rows 0 rows)) c.self.view_is in
    let counted = ap length placed ∙ places_count 0 0 (blocks_of_rows 0 c.args.self.now) in
    c.self.invariant.counted ∙ ap length c.self.view_is ∙ sym (before_end c.args.self.now c.args.block (let len = ap length c.as_slice.ensures.value in grind (arith, len, counted, c.in-None.ensures.lookup.0)))
