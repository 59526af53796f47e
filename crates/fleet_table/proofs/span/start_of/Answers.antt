use Rattle.std.proofs.Common.{sym, ◌∙◌}
use Rattle.fleet_block.proofs.Cuts.{blocks_some}
use Rattle.fleet_table.proofs.Spans.{start_excluded, start_included, start_open}
use Rattle.fleet_table.proofs.span.start_of.Goals as goal

pub block_start-requires : goal.block_start-requires
block_start-requires c = blocks_some c.args.table.now c.know_table.ensures.some

pub returns-in-Included-clause-row : goal.returns-in-Included-clause-row
returns-in-Included-clause-row c = c.find.ensures.row ∙ start_included c.args.range.now c.args.table.now c.in-Included.start.now c.in-Included.ensures

pub returns-in-Excluded-clause-row : goal.returns-in-Excluded-clause-row
returns-in-Excluded-clause-row c = c.find-in-Excluded.ensures.row ∙ start_excluded c.args.range.now c.args.table.now c.in-Excluded.start.now c.in-Excluded.ensures

pub returns-in-Unbounded-clause-row : goal.returns-in-Unbounded-clause-row
returns-in-Unbounded-clause-row c = c.block_start.ensures.row ∙ sym (start_open c.args.range.now c.args.table.now c.in-Unbounded.ensures)
