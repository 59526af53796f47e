use Rattle.std.proofs.Common.{arith}
use Rattle.std.proofs.lemmas.List.Sums.{prefix_len-le-length}
use Rattle.fleet_block.proofs.Cuts.{blocks_some}
use Rattle.fleet_table.specs.Cursors.{is_before_spot}
use Rattle.fleet_table.proofs.Cursors.{before_end}
use Rattle.fleet_table.proofs.table_bytes.TableBytes.find_block.Goals as goal

pub halves-init : goal.halves-init
halves-init c =
    let rows = c.args.self.now in
    let some = blocks_some rows c.know_table.ensures.some in
    let all = before_end rows c.block_count-high.result (omega (arith, c.block_count-high.ensures)) in
    let few = prefix_len-le-length (is_before_spot c.args.key.now c.args.ties) rows in
    record {
      some = omega (arith, some, c.block_count-high.ensures);
      within = omega (arith, c.block_count-high.ensures);
      start = omega arith;
      end = omega (arith, all, few);
    }
