use Rattle.std.proofs.Common.{◌∙◌}
use Rattle.fleet_tree.proofs.Sizes.{fold-is}
use Rattle.fleet_sched.proofs.sized_nodes.total_size.Goals as goal

pub returns : goal.returns
returns c = c.size_of.ensures ∙ fold-is (λ flush. flush.size) c.args.flushes.now
