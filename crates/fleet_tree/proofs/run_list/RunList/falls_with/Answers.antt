use Rattle.std.proofs.Common.{◌∙◌, sym, ap, ◌-◌, List, length}
use Rattle.std.specs.Prelude.{◌&&◌, slice_get}
use Rattle.std.specs.Option.{option_copied}
use Rattle.fleet_tree.specs.Falling.{are_falling, is_below_one}
use Rattle.fleet_tree.specs.Lists.{joined}
use Rattle.fleet_tree.specs.declared.run.SortedRun.{SortedRun}
use Rattle.fleet_tree.proofs.Falling.{falling_more, falling_not}
use Rattle.fleet_tree.proofs.run_list.RunList.falls_with.Goals as goal

pub returns-then-self : goal.returns-then-self
returns-then-self c =
    let last_of = λ (runs : List SortedRun). slice_get runs (length runs - 1) in
    let last = option_copied c.last_run.result in
    let falls = sym c.if-self.true ∙ c.self.invariant.1 ∙ ap are_falling c.self.view_is in
    let is = c.last_run.ensures ∙ ap (λ (chunks : List (List SortedRun)). last_of (joined chunks)) c.as_slice.ensures ∙ ap last_of c.self.view_is in
    c.is_below.ensures
    ∙ ap (λ b. b && is_below_one c.args.run.now last) falls
    ∙ falling_more c.args.self.now c.args.run.now last is

pub returns-else-self : goal.returns-else-self
returns-else-self c =
    let not_falls = ap are_falling (sym c.self.view_is) ∙ sym c.self.invariant.1 ∙ c.if-self.false in
    c.if-self.false ∙ sym (falling_not c.args.self.now c.args.run.now not_falls)
