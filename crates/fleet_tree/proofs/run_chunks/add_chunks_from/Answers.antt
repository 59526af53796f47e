use Rattle.std.proofs.lemmas.Result.{on_ok_weaker}
use Rattle.std.proofs.Common.{◌∙◌, sym, ap, subst, ◌++◌, ◌≤◌, List, drop, length, arith}
use Rattle.fleet_tree.specs.Lists.{joined}
use Rattle.fleet_tree.specs.declared.run.SortedRun.{SortedRun}
use Rattle.fleet_tree.proofs.Places.{added_from, dropped_from, first_left, place_inside}
use Rattle.fleet_tree.proofs.run_chunks.add_chunks_from.Goals as goal

pub behind-requires : goal.behind-requires
behind-requires c =
    let spot = c.spot_of-spot.result in
    let chunks = c.args.chunks.now in
    let there = first_left chunks spot.chunk c.in-Some.chunk.now c.in-Some.others.now (sym c.behind-left.ensures ∙ c.in-Some.ensures.cases.0) in
    let inside = place_inside chunks spot.chunk spot.place c.in-Some.chunk.now there c.spot_of-spot.ensures.inside in
    subst (λ (runs : List SortedRun). spot.place ≤ length runs) (sym c.as_slice.ensures) (omega (arith, inside))

pub returns-clause-chunks : goal.returns-clause-chunks
returns-clause-chunks c =
    let spot = c.spot_of-spot.result in
    let chunks = c.args.chunks.now in
    let rest = c.in_ok-from_vec.ensures.list ∙ c.in_ok-rest.ensures ∙ c.behind.ensures ∙ ap (λ (runs : List SortedRun). drop spot.place runs) c.as_slice.ensures in
    let left = ap (λ (runs : List SortedRun). runs ++ joined c.in-Some.others.now) rest
    ∙ dropped_from chunks spot.chunk c.args.place spot.place c.in-Some.chunk.now c.in-Some.others.now (sym c.behind-left.ensures ∙ c.in-Some.ensures.cases.0) c.spot_of-spot.ensures.place c.spot_of-spot.ensures.inside in
    on_ok_weaker c.add_copies.result
    (λ more. added_from c.args.added.now.items c.in-Some.others.now c.in_ok-from_vec.field-0 _ left c.push.new.self.items c.add_copies.new.added.items c.in_ok-push.ensures.items more) c.add_copies.ensures.chunks
