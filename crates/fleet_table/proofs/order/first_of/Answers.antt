use Rattle.fleet_table.proofs.LastRow.{first_at}
use Rattle.fleet_table.proofs.order.first_of.Goals as goal

pub returns : goal.returns
returns c = first_at c.args.rows.now c.index-rows-0.result c.requires c.index-rows-0.is
