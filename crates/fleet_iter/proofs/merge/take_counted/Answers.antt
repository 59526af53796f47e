use Rattle.std.proofs.Common.{◌∙◌, arith}
use Rattle.std.specs.Prelude.{map}
use Rattle.fleet_iter.proofs.Counts.{best_bytes}
use Rattle.fleet_iter.proofs.merge.take_counted.Goals as goal

pub returns-clause-bytes : goal.returns-clause-bytes
returns-clause-bytes g c =
    let ss = map g.T.RowSource.state c.args.sources.now.items in
    c.saturating_add.ensures
    ∙ best_bytes c.args.heads.now.order c.args.heads.now.rows ss c.least_bytes.result c.unwrap_or-bytes.result c.args.processed.now c.requires.taken c.least_bytes.ensures c.unwrap_or-bytes.ensures (omega arith)
