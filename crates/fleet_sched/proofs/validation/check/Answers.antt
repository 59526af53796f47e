use Rattle.std.proofs.Common.{◌∙◌, sym}
use Rattle.fleet_sched.proofs.TreeViews.{accepts_is}
use Rattle.fleet_sched.proofs.validation.check.Goals as goal

pub returns-then-branch : goal.returns-then-branch
returns-then-branch c flushes = accepts_is flushes c.args.state.now c.args.spec.now ∙ sym c.in_ok-accepts.ensures ∙ c.if-branch.true

pub returns-else-branch : goal.returns-else-branch
returns-else-branch c flushes = accepts_is flushes c.args.state.now c.args.spec.now ∙ sym c.in_ok-accepts.ensures ∙ c.if-branch.false
