use Rattle.std.proofs.Common.{rules}
use Rattle.fleet_block.proofs.Cuts.{front_in_bounds}
use Rattle.fleet_table.proofs.BlockCuts.{listed}
use Rattle.fleet_table.proofs.cutting.cut_blocks.Goals as goal

pub size_with-offset-requires : goal.size_with-offset-requires
size_with-offset-requires c = front_in_bounds c.rest.rest.now c.split_block.result.0.now c.split_block.result.1.now c.split_block.ensures.all c.rest.invariant.in_bounds

pub rest-preserved : goal.rest-preserved
rest-preserved c =
    listed c.args.rows.now c.rest.rest.now c.split_block.result.0.now c.split_block.result.1.now c.first-item.result _ c.in_ok-first_key.first_key c.rest.blocks c.push.new.self c.rest.offset c.size_with-offset.result
    c.rest.invariant c.split_block.ensures.cut c.split_block.ensures.all c.split_block.ensures.filled
    c.first-item.is (search rules) c.in_ok-push.ensures.ok c.size_with-offset.ensures
