use Rattle.fleet_table.proofs.LastRow.{key_at, seq_at}
use Rattle.fleet_table.proofs.order.last_of.Goals as goal

pub returns-clause-key : goal.returns-clause-key
returns-clause-key c = key_at c.args.rows.now c.index-rows-rows.result c.requires c.index-rows-rows.is

pub returns-clause-seq : goal.returns-clause-seq
returns-clause-seq c = seq_at c.args.rows.now c.index-rows-rows.result c.requires c.index-rows-rows.is
