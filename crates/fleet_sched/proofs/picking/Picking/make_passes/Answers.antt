use Rattle.std.proofs.Common.{◌∙◌, sym, ◌-◌, length}
use Rattle.fleet_sched.proofs.Passes.{ended, kept, smaller}
use Rattle.fleet_sched.proofs.picking.Picking.make_passes.Goals as goal

pub passes-smaller : goal.passes-smaller
passes-smaller c =
    smaller c.args.options.now c.args.slots c.passes.trees c.pass.new.trees c.passes.self c.pass.new.self c.in_ok-pass.ensures
    (λ same. c.if-count-before.false (c.count.ensures ∙ same ∙ sym c.count-before.ensures))

pub passes-preserved : goal.passes-preserved
passes-preserved c = c.passes.invariant ∙ kept c.args.options.now c.args.slots c.passes.trees c.pass.new.trees c.passes.self c.pass.new.self c.in_ok-pass.ensures

pub returns-then-count-before : goal.returns-then-count-before
returns-then-count-before c =
    let same = sym c.count.ensures ∙ c.if-count-before.true ∙ c.count-before.ensures in
    sym (c.passes.invariant ∙ ended c.args.options.now c.args.slots c.passes.trees c.pass.new.trees c.passes.self c.pass.new.self c.in_ok-pass.ensures same (c.args.slots - length c.passes.self.picks))
