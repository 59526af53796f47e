use Rattle.std.proofs.Common.{◌∙◌, ap, ◌==◌, List, arith}
use Rattle.std.specs.List.{position_or_len}
use Rattle.fleet_tree.specs.Lists.{joined}
use Rattle.fleet_tree.specs.declared.run.SortedRun.{SortedRun}
use Rattle.fleet_tree.proofs.Falling.{place_within}
use Rattle.fleet_tree.proofs.run_list.RunList.place_of.Goals as goal

pub returns-then-self-clause-within : goal.returns-then-self-clause-within
returns-then-self-clause-within c =
    let has = λ (run : SortedRun). run.id == c.args.id in
    let place = c.place_in_chunks.ensures ∙ ap (λ (chunks : List (List SortedRun)). position_or_len has (joined chunks)) c.as_slice.ensures ∙ ap (position_or_len has) c.self.view_is in
    let within = place_within c.args.id c.args.self.now in
    omega (arith, place, within)

pub returns-else-self-clause-within : goal.returns-else-self-clause-within
returns-else-self-clause-within c =
    let place = c.runs_before.ensures ∙ ap (position_or_len (λ (run : SortedRun). run.id == c.args.id)) c.iter.ensures in
    let within = place_within c.args.id c.args.self.now in
    omega (arith, place, within)
