use Rattle.std.proofs.Common.{◌+◌, arith}
use Rattle.fleet_table.proofs.Cursors.{before_within}
use Rattle.fleet_table.proofs.table_bytes.TableBytes.find_from.Goals as goal

pub overflow_add-block : goal.overflow_add-block
overflow_add-block c = omega (arith, c.block_count-few.ensures, c.block_count-few.type_inv, c.find_block-block.ensures.within)

pub scan-requires-clause-within : goal.scan-requires-clause-within
scan-requires-clause-within c =
    let within = before_within c.args.self.now (c.find_block-block.result + 1) in
    omega (arith, within, c.rows_before-end.ensures)
