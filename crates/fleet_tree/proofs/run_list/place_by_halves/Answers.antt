use Rattle.std.proofs.Common.{rules}
use Rattle.std.proofs.lemmas.Fn.{always_returns_same}
use Rattle.std.specs.Ordering.{nat_cmp}
use Rattle.fleet_tree.specs.declared.run.SortedRun.{SortedRun}
use Rattle.fleet_tree.proofs.Falling.{found_at, found_nowhere}
use Rattle.fleet_tree.proofs.run_list.place_by_halves.Goals as goal

pub returns-in-Ok : goal.returns-in-Ok
returns-in-Ok c =
    let compared = c.in-Ok.ensures.position (λ (run : SortedRun). nat_cmp c.args.id run.id) (always_returns_same _ _ _ (λ a r f called. search rules)) in
    found_at c.args.id c.args.runs.now c.requires c.in-Ok.place c.in-Ok.ensures.bound compared

pub returns-in-Err : goal.returns-in-Err
returns-in-Err c =
    let compared = c.in-Err.ensures.position (λ (run : SortedRun). nat_cmp c.args.id run.id) (always_returns_same _ _ _ (λ a r f called. search rules)) in
    found_nowhere c.args.id c.args.runs.now c.requires c.in-Err.field-0 compared
