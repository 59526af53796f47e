use Rattle.std.proofs.Common.{◌∙◌, sym, ap}
use Rattle.fleet_tree.specs.Falling.{are_falling}
use Rattle.fleet_tree.proofs.Falling.{first_tells}
use Rattle.fleet_tree.proofs.run_list.RunList.are_below.Goals as goal

pub returns-in-Some : goal.returns-in-Some
returns-in-Some c =
    let falls = ap are_falling (sym c.self.view_is) ∙ sym c.self.invariant.1 ∙ c.if-self.true in
    first_tells c.args.id c.args.self.now c.in-Some.first.now c.next.new.self (sym c.iter.ensures ∙ c.in-Some.ensures.steps) falls
