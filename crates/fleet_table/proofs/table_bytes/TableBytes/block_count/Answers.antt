use Rattle.std.proofs.Common.{◌∙◌, ap, List, length, arith}
use Rattle.row_model.specs.Written.TableBytes.{blocks_of_rows}
use Rattle.row_model.specs.Rows.{Row}
use Rattle.fleet_block.specs.Places.{places_from}
use Rattle.fleet_block.proofs.Places.{places_count}
use Rattle.fleet_table.proofs.table_bytes.TableBytes.block_count.Goals as goal

pub returns : goal.returns
returns c =
    let counted = ap length (c.self.invariant.placed ∙ ap (λ (rows : List Row). places_from 0 0 (blocks_of_rows 0 rows)) c.self.view_is) ∙ places_count 0 0 (blocks_of_rows 0 c.args.self.now) in
    omega (arith, counted)
