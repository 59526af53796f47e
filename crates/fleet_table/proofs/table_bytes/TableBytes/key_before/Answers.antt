use Rattle.std.proofs.Common.{sym, ◌∙◌}
use Rattle.fleet_table.proofs.Cursors.{key_is, key_there}
use Rattle.fleet_table.proofs.table_bytes.TableBytes.key_before.Goals as goal

pub unreachable-requires : goal.unreachable-requires
unreachable-requires c =
    let at = c.requires.stands.1 c.requires.row in
    key_there c.args.self.now _ c.self.inside.blocks c.args.cursor at c.self.view_is c.self.invariant.index (λ h. c.if-cursor-rows_before.false (h ∙ sym c.rows_before.ensures)) (sym c.in-None.ensures)

pub returns : goal.returns
returns c at =
    c.as_slice.ensures ∙ key_is c.args.self.now _ c.self.inside.blocks c.args.cursor at c.self.view_is c.self.invariant.index (λ h. c.if-cursor-rows_before.false (h ∙ sym c.rows_before.ensures)) c.in-Some.block.now c.in-Some.ensures
