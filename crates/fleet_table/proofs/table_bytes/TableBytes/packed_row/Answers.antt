use Rattle.std.proofs.Common.{sym, ◌∙◌, ap, subst, length, arith}
use Rattle.std.specs.Prelude.{Some}
use Rattle.std.specs.List.{AllByRecursion}
use Rattle.row_model.specs.Written.TableBytes.{IsWritable}
use Rattle.fleet_rows.specs.Row.{row_of}
use Rattle.fleet_block.proofs.Found.{found_none, found_some}
use Rattle.fleet_table.proofs.Cursors.{row_there, writable_there}
use Rattle.fleet_table.proofs.Pieces.{bytes_within, next_in_piece, place_fits, place_in_piece, read_in_piece, within_some}
use Rattle.fleet_table.proofs.table_bytes.TableBytes.packed_row.Goals as goal

pub packed_row_at-requires : goal.packed_row_at-requires
packed_row_at-requires c = let at = c.requires.stands.1 c.requires.row in place_in_piece c.args.self.now c.args.cursor at c.args.piece.now c.requires.piece c.requires.reached

pub unreachable-requires : goal.unreachable-requires
unreachable-requires c =
    let at = c.requires.stands.1 c.requires.row in
    let fits = writable_there c.args.self.now c.args.cursor at (subst (AllByRecursion IsWritable) c.self.view_is c.self.invariant.writable) in
    found_none row_of at.here (bytes_within c.args.self.now c.args.cursor at c.args.piece.now.end c.requires.reached.1) c.args.piece.now.bytes c.in_ok-row.field-0 c.in_default.is
    (c.in_ok-row.ensures.found at.here (bytes_within c.args.self.now c.args.cursor at c.args.piece.now.end c.requires.reached.1) fits (read_in_piece c.args.self.now c.args.cursor at c.args.piece.now c.requires.piece c.requires.reached c.key_before-first.result.now (c.key_before-first.ensures at)))

pub overflow_add-piece : goal.overflow_add-piece
overflow_add-piece c =
    let at = c.requires.stands.1 c.requires.row in
    let within = within_some c.in_ok-row.field-0 c.in-Some.row c.in-Some.place (length c.args.piece.now.bytes) c.in-Some.is c.in_ok-row.ensures.within in
    let fits = place_fits c.args.self.now c.args.cursor at c.args.piece.now c.requires.piece c.requires.reached _ c.self.inside.bytes c.len-small.result c.in-Some.place c.self.view_is c.self.invariant.spelt c.len-small.ensures.value c.len-small.ensures.bound within in
    omega (arith, fits)

pub next-requires-clause-place : goal.next-requires-clause-place
next-requires-clause-place c at =
    let fits = writable_there c.args.self.now c.args.cursor at (subst (AllByRecursion IsWritable) c.self.view_is c.self.invariant.writable) in
    let within = within_some c.in_ok-row.field-0 c.in-Some.row c.in-Some.place (length c.args.piece.now.bytes) c.in-Some.is c.in_ok-row.ensures.within in
    let found = found_some row_of at.here (bytes_within c.args.self.now c.args.cursor at c.args.piece.now.end c.requires.reached.1) c.args.piece.now.bytes c.in_ok-row.field-0 c.in-Some.row c.in-Some.place c.in-Some.is
    (c.in_ok-row.ensures.found at.here (bytes_within c.args.self.now c.args.cursor at c.args.piece.now.end c.requires.reached.1) fits (read_in_piece c.args.self.now c.args.cursor at c.args.piece.now c.requires.piece c.requires.reached c.key_before-first.result.now (c.key_before-first.ensures at))) in
    next_in_piece c.args.self.now c.args.cursor at c.args.piece.now c.requires.piece c.requires.reached c.in-Some.place within found.1

pub returns-clause-value : goal.returns-clause-value
returns-clause-value c =
    let at = c.requires.stands.1 c.requires.row in
    let fits = writable_there c.args.self.now c.args.cursor at (subst (AllByRecursion IsWritable) c.self.view_is c.self.invariant.writable) in
    let found = found_some row_of at.here (bytes_within c.args.self.now c.args.cursor at c.args.piece.now.end c.requires.reached.1) c.args.piece.now.bytes c.in_ok-row.field-0 c.in-Some.row c.in-Some.place c.in-Some.is
    (c.in_ok-row.ensures.found at.here (bytes_within c.args.self.now c.args.cursor at c.args.piece.now.end c.requires.reached.1) fits (read_in_piece c.args.self.now c.args.cursor at c.args.piece.now c.requires.piece c.requires.reached c.key_before-first.result.now (c.key_before-first.ensures at))) in
    row_there c.args.self.now c.args.cursor at ∙ ap Some (sym found.0)
