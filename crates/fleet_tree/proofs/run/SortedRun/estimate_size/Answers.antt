use Rattle.std.proofs.Common.{◌∙◌, ap}
use Rattle.fleet_tree.specs.Sizes.{run_size}
use Rattle.fleet_tree.proofs.Sizes.{fold-is}
use Rattle.fleet_tree.proofs.run.SortedRun.estimate_size.Goals as goal

pub returns : goal.returns
returns c = c.size_of.ensures ∙ fold-is (λ view. view.sst.size) c.sst_views.result.now ∙ ap run_size c.sst_views.ensures
