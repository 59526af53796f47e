use Rattle.std.proofs.Common.{◌∙◌, ap, arith, length}
use Rattle.std.specs.Prelude.{max}
use Rattle.std.specs.Int.{div_ceil}
use Rattle.fleet_plan.proofs.Strides.{rounded_up}
use Rattle.fleet_plan.proofs.anchor.stride.Goals as goal

pub returns : goal.returns
returns c =
    let blocks = length c.args.blocks.now in
    c.div_ceil.ensures ∙ ap (div_ceil blocks) c.max-groups.ensures ∙ rounded_up blocks (max c.args.max_anchors 1) (omega arith)
