use Rattle.std.proofs.Common.{arith}
use Rattle.fleet_table.proofs.Cursors.{block_within, next_new, next_same}
use Rattle.fleet_table.proofs.table_bytes.TableBytes.next.Goals as goal

pub overflow_add-row : goal.overflow_add-row
overflow_add-row c = omega (arith, c.requires.row, c.count.ensures, c.count.type_inv)

pub overflow_add-cursor : goal.overflow_add-cursor
overflow_add-cursor c = let within = block_within c.args.self.now c.args.cursor (c.requires.stands.1 c.requires.row) in omega (arith, within, c.block_count.ensures, c.block_count.type_inv)

pub overflow_add-result : goal.overflow_add-result
overflow_add-result c = let within = block_within c.args.self.now c.args.cursor (c.requires.stands.1 c.requires.row) in omega (arith, within, c.block_count.ensures, c.block_count.type_inv)

pub returns-then-row-rows_before-clause-stands : goal.returns-then-row-rows_before-clause-stands
returns-then-row-rows_before-clause-stands c =
    let at = c.requires.stands.1 c.requires.row in
    next_new c.args.self.now c.args.cursor at c.args.place (c.requires.place at) (grind (arith, c.if-row-rows_before.true, c.rows_before.ensures))

pub returns-else-row-rows_before-clause-stands : goal.returns-else-row-rows_before-clause-stands
returns-else-row-rows_before-clause-stands c =
    let at = c.requires.stands.1 c.requires.row in
    next_same c.args.self.now c.args.cursor at c.args.place (c.requires.place at) (λ h. grind (arith, h, c.if-row-rows_before.false, c.rows_before.ensures))
