use Rattle.std.proofs.Common.{arith}
use Rattle.std.proofs.lemmas.List.{length-map}
use Rattle.fleet_rows.specs.Row.{row_of, rows_of}
use Rattle.fleet_block.proofs.Cuts as cuts
use Rattle.fleet_block.proofs.cut.split_block.Goals as goal

pub split_at-requires : goal.split_at-requires
split_at-requires c =
    let within = cuts.first_within 0 (rows_of c.args.rows.now) in
    omega (arith, within, c.first_block_len.ensures.value, length-map c.args.rows.now row_of)

pub returns-clause-cut : goal.returns-clause-cut
returns-clause-cut c = cuts.cut_once c.args.rows.now c.split_at.result.0.now c.split_at.result.1.now c.first_block_len.result c.requires.some c.first_block_len.ensures.value c.split_at.ensures.front c.split_at.ensures.back

pub returns-clause-all : goal.returns-clause-all
returns-clause-all c = cuts.split_whole c.args.rows.now c.split_at.result.0.now c.split_at.result.1.now c.first_block_len.result c.split_at.ensures.front c.split_at.ensures.back

pub returns-clause-filled : goal.returns-clause-filled
returns-clause-filled c =
    let first = cuts.first_some 0 (rows_of c.args.rows.now) (cuts.mapped_some c.args.rows.now c.requires.some) in
    cuts.not_empty c.split_at.result.0.now (omega (arith, first, c.first_block_len.ensures.value, c.split_at.ensures.front_len))

pub returns-clause-short : goal.returns-clause-short
returns-clause-short c =
    let short = cuts.first_short (rows_of c.args.rows.now) in
    omega (arith, short, c.first_block_len.ensures.value, c.split_at.ensures.front_len)
