use Rattle.std.proofs.Common.{◌∙◌, sym, ap, drop, take}
use Rattle.std.specs.Prelude.{◌&&◌}
use Rattle.std.specs.Option.{option_copied}
use Rattle.fleet_tree.specs.Falling.{is_above_first}
use Rattle.fleet_tree.proofs.Falling.{above_at, below_last}
use Rattle.fleet_tree.proofs.run_list.RunList.is_between.Goals as goal

pub returns-then-is_below : goal.returns-then-is_below
returns-then-is_below c =
    let runs = c.args.self.now in
    let below = sym c.if-is_below.true ∙ c.is_below.ensures ∙ below_last c.args.run.now (take c.args.place runs) (option_copied c.before-2.result) c.before-2.ensures in
    c.is_above.ensures
    ∙ above_at c.args.run.now runs c.args.end (option_copied c.get.result) c.get.ensures
    ∙ ap (λ b. b && is_above_first c.args.run.now (drop c.args.end runs)) below

pub returns-else-is_below : goal.returns-else-is_below
returns-else-is_below c =
    let runs = c.args.self.now in
    let not_below = sym c.if-is_below.false ∙ c.is_below.ensures ∙ below_last c.args.run.now (take c.args.place runs) (option_copied c.before-2.result) c.before-2.ensures in
    c.if-is_below.false ∙ ap (λ b. b && is_above_first c.args.run.now (drop c.args.end runs)) not_below
