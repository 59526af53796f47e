use Rattle.std.proofs.Common.{◌≡◌, ◌+◌, ◌∙◌, sym, ap, subst, drop, length, ◌++◌}
use Rattle.std.specs.Vec.Iter.{into_iter_items, into_iter_steps}
use Rattle.fleet_output.specs.Finishes.{noted_and}
use Rattle.fleet_output.proofs.NotedTables.{is_missing, noted_all, noted_further}
use Rattle.fleet_output.proofs.outputs.all_outputs.Goals as goal

pub unreachable-requires : goal.unreachable-requires
unreachable-requires c =
    let steps = subst (λ r. into_iter_steps c.each.lists r c.next.new.self) c.in_default.is c.next.ensures.cases in
    is_missing c.args.parts.now c.each.part-index (length (into_iter_items c.each.lists)) c.each-test.true c.each.invariant.left (sym c.each.lists.rest.ok.0 ∙ steps.0)

pub each-preserved : goal.each-preserved
each-preserved c =
    let steps = subst (λ r. into_iter_steps c.each.lists r c.next.new.self) c.in-Some.is c.next.ensures.cases in
    let left = sym (ap length steps.0) ∙ c.each.invariant.left in
    let all = c.each.invariant.all ∙ ap (λ lists. c.each.outputs.items ++ noted_and (drop c.each.part-index c.args.parts.now) lists) steps.0 in
    let further = noted_further c.args.parts.now (noted_and c.args.parts.now c.args.new) c.each.outputs.items c.each.part-index c.in-Some.tables (into_iter_items c.next.new.self) c.part-item.result c.in_ok-all.all c.each-test.true c.part-item.is left c.in_ok-all.ensures.tables all in
    record {
      left = further.0;
      all = subst (λ made. noted_and c.args.parts.now c.args.new ≡ made ++ noted_and (drop (c.each.part-index + 1) c.args.parts.now) (into_iter_items c.next.new.self)) (sym c.in_ok-push.ensures.items) further.1;
    }

pub returns-clause-outputs : goal.returns-clause-outputs
returns-clause-outputs c = c.from_vec.ensures ∙ noted_all c.args.parts.now (noted_and c.args.parts.now c.args.new) c.each.outputs.items c.each.part-index (into_iter_items c.each.lists) c.each-test.false c.each.invariant.all
