use Rattle.std.proofs.Common.{◌<◌, ◌+◌, arith}
use Rattle.fleet_table.proofs.Cursors.{block_within}
use Rattle.fleet_table.proofs.Pieces.{place_ahead, split_up_to}
use Rattle.fleet_table.proofs.piece.end_of_piece.Goals as goal

pub returns-clause-place : goal.returns-clause-place
returns-clause-place c =
    let inside = block_within c.args.table.now c.args.cursor (c.requires.stands.1 c.requires.row) in
    let ahead : c.args.cursor.block < c.args.cursor.block + c.min.result = omega (arith, inside, c.block_count.ensures, c.min.ensures, c.requires.some) in
    place_ahead c.args.table.now c.args.cursor (c.requires.stands.1 c.requires.row) (c.args.cursor.block + c.min.result) c.block_place.result ahead c.block_place.ensures.within c.block_place.ensures.later

pub returns-clause-piece : goal.returns-clause-piece
returns-clause-piece c =
    let inside = block_within c.args.table.now c.args.cursor (c.requires.stands.1 c.requires.row) in
    let ahead : c.args.cursor.block < c.args.cursor.block + c.min.result = omega (arith, inside, c.block_count.ensures, c.min.ensures, c.requires.some) in
    split_up_to c.args.table.now c.args.cursor (c.requires.stands.1 c.requires.row) (c.args.cursor.block + c.min.result) c.block_place.result ahead c.block_place.ensures.within c.block_place.ensures.later
