use Rattle.std.proofs.Common.{◌≤◌, length, arith}
use Rattle.row_model.specs.Written.TableBytes.{blocks_of_rows}
use Rattle.fleet_table.proofs.Pieces.{all_inside, block_inside, block_there, none_there}
use Rattle.fleet_table.proofs.table_bytes.TableBytes.block_place.Goals as goal

pub returns-then-block-block_count-clause-within : goal.returns-then-block-block_count-clause-within
returns-then-block-block_count-clause-within c =
    let at = c.block_start.ensures.stands.1 c.block_start.ensures.within in
    block_inside c.args.self.now c.block_start.result at c.args.block c.block_start.ensures.block c.block_start.ensures.row

pub returns-then-block-block_count-clause-later : goal.returns-then-block-block_count-clause-later
returns-then-block-block_count-clause-later c =
    let at = c.block_start.ensures.stands.1 c.block_start.ensures.within in
    block_there c.args.self.now c.block_start.result at c.args.block c.block_start.ensures.block c.block_start.ensures.row

pub returns-else-block-block_count-clause-within : goal.returns-else-block-block_count-clause-within
returns-else-block-block_count-clause-within c = all_inside c.args.self.now _ c.self.inside.bytes c.len.result c.self.view_is c.self.invariant.spelt c.len.ensures.value

pub returns-else-block-block_count-clause-later : goal.returns-else-block-block_count-clause-later
returns-else-block-block_count-clause-later c =
    let past : length (blocks_of_rows 0 c.args.self.now) ≤ c.args.block = omega (arith, c.block_count.ensures, c.if-block-block_count.false) in
    none_there c.args.self.now _ c.self.inside.bytes c.len.result c.self.view_is c.self.invariant.spelt c.len.ensures.value c.args.block past
