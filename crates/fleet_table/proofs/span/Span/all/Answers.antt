use Rattle.fleet_block.proofs.Cuts.{blocks_some}
use Rattle.fleet_table.proofs.Spans.{all_between}
use Rattle.fleet_table.proofs.span.Span.all.Goals as goal

pub block_start-requires : goal.block_start-requires
block_start-requires c = blocks_some c.args.table.now c.know_table.ensures.some

pub returns : goal.returns
returns c = all_between c.args.table.now c.block_start.result.row c.count.result c.block_start.ensures.row c.count.ensures
