use Rattle.std.proofs.Common.{◌∙◌, sym, arith}
use Rattle.fleet_sched.proofs.Passes.{stops}
use Rattle.fleet_sched.proofs.picking.Picking.pass.Goals as goal

pub returns-then-count-slots : goal.returns-then-count-slots
returns-then-count-slots c =
    sym (c.trees.invariant ∙ stops c.args.options.now c.args.slots c.trees.trees c.trees.i c.trees.self (omega (arith, c.count.ensures)))
