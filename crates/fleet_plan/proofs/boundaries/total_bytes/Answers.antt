use Rattle.std.proofs.Common.{◌+◌, ◌∙◌, rules}
use Rattle.std.proofs.lemmas.Iterator.{YieldsList-from_slice}
use Rattle.std.proofs.lemmas.Iterator.Consumers.{fold_from_yields_List}
use Rattle.row_model.specs.Written.Sizes.{saturated_sum}
use Rattle.fleet_plan.proofs.Sums.{total-is}
use Rattle.fleet_plan.proofs.boundaries.total_bytes.Goals as goal

pub returns : goal.returns
returns c =
    fold_from_yields_List _ (λ total a. saturated_sum (total + a.bytes)) 0 c.fold.result c.fold.ensures.ran (YieldsList-from_slice c.args.anchors.now cc) (λ a x b q k. search rules)
    ∙ total-is c.args.anchors.now
