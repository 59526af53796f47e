use Rattle.std.proofs.Common.{rules, ◌∙◌, sym, ap, subst, map, List}
use Rattle.std.specs.Vec.Iter.{into_iter_items}
use Rattle.std.proofs.lemmas.Result.{err_from_is_err_and}
use Rattle.fleet_rows.specs.Row.{rows_of}
use Rattle.fleet_tree.specs.declared.handle.SsTableHandle.{SsTableHandle}
use Rattle.fleet_output.proofs.PutsInOrder.{no_items, RangesOn, each_may, ranges_begin, ranges_further, ranges_lacks, ranges_put, ranges_stops}
use Rattle.fleet_output.proofs.ranges.put_ranges.Goals as goal

pub each-init : goal.each-init
each-init g c =
    let all = map (map rows_of) c.args.ranges in
    let old = g.S.Store.view c.args.store.now in
    let left = map (map rows_of) (into_iter_items c.into_iter-tables-iterator.result) in
    let same = ap (map (map rows_of)) (sym (c.into_iter-tables-iterator.ensures.into_iter_gives.0 ∙ c.into_vec-tables-items.ensures)) in
    record {
      next = search rules;
      finite = search rules;
      on = subst (λ (made : List (List SsTableHandle)). RangesOn c.args.moment all old old left made) (sym c.new-outputs.ensures) (ranges_begin c.args.moment all left old same c.requires.sound c.requires.may);
    }

pub put_tables-requires-clause-sound : goal.put_tables-requires-clause-sound
put_tables-requires-clause-sound g c =
    let on = subst (λ left. RangesOn c.args.moment (map (map rows_of) c.args.ranges) (g.S.Store.view c.args.store.now) (g.S.Store.view c.each.store) left c.each.outputs) (ap (map (map rows_of)) c.in-Some.ensures.steps.0) c.each.invariant.on in
    on.sound.0

pub put_tables-requires-clause-may : goal.put_tables-requires-clause-may
put_tables-requires-clause-may g c =
    let on = subst (λ left. RangesOn c.args.moment (map (map rows_of) c.args.ranges) (g.S.Store.view c.args.store.now) (g.S.Store.view c.each.store) left c.each.outputs) (ap (map (map rows_of)) c.in-Some.ensures.steps.0) c.each.invariant.on in
    each_may c.args.moment (map (map rows_of) c.args.ranges) (g.S.Store.view c.args.store.now) (g.S.Store.view c.each.store) _ _ c.each.outputs on

pub returns-in_err-handles-clause-put : goal.returns-in_err-handles-clause-put
returns-in_err-handles-clause-put g c =
    let on = subst (λ left. RangesOn c.args.moment (map (map rows_of) c.args.ranges) (g.S.Store.view c.args.store.now) (g.S.Store.view c.each.store) left c.each.outputs) (ap (map (map rows_of)) c.in-Some.ensures.steps.0) c.each.invariant.on in
    let p = err_from_is_err_and c.from_residual.result c.from_residual.ensures.1 in
    rw (p.1, p.2)
    (ranges_stops c.args.moment (map (map rows_of) c.args.ranges) (g.S.Store.view c.args.store.now) (g.S.Store.view c.each.store) _ _ c.each.outputs on (g.S.Store.view c.put_tables.new.store) c.in_err-handles.field-0.0 c.in_err-handles.ensures.put)

pub returns-in_err-push-clause-put : goal.returns-in_err-push-clause-put
returns-in_err-push-clause-put g c =
    let on = subst (λ left. RangesOn c.args.moment (map (map rows_of) c.args.ranges) (g.S.Store.view c.args.store.now) (g.S.Store.view c.each.store) left c.each.outputs) (ap (map (map rows_of)) c.in-Some.ensures.steps.0) c.each.invariant.on in
    let p = err_from_is_err_and c.from_residual-in_err-push.result c.from_residual-in_err-push.ensures.1 in
    rw (p.1, p.2, c.in_err-push.ensures.memory)
    (ranges_lacks c.args.moment (map (map rows_of) c.args.ranges) (g.S.Store.view c.args.store.now) (g.S.Store.view c.each.store) _ _ c.each.outputs on (g.S.Store.view c.put_tables.new.store) c.in_ok-handles.handles c.in_ok-handles.ensures.put)

pub each-preserved : goal.each-preserved
each-preserved g c =
    let new = g.S.Store.view c.put_tables.new.store in
    let on = subst (λ left. RangesOn c.args.moment (map (map rows_of) c.args.ranges) (g.S.Store.view c.args.store.now) (g.S.Store.view c.each.store) left c.each.outputs) (ap (map (map rows_of)) c.in-Some.ensures.steps.0) c.each.invariant.on in
    let further = ranges_further c.args.moment (map (map rows_of) c.args.ranges) (g.S.Store.view c.args.store.now) (g.S.Store.view c.each.store) _ _ c.each.outputs on new c.in_ok-handles.handles c.in_ok-handles.ensures.put c.in_ok-handles.ensures.described in
    record {
      next = search rules;
      finite = search rules;
      on = subst (λ (outputs : List (List SsTableHandle)). RangesOn c.args.moment (map (map rows_of) c.args.ranges) (g.S.Store.view c.args.store.now) new (map (map rows_of) (into_iter_items c.next.new.self)) outputs) (sym c.in_ok-push.ensures.ok) further;
    }

pub returns-clause-put : goal.returns-clause-put
returns-clause-put g c =
    let on = subst (λ left. RangesOn c.args.moment (map (map rows_of) c.args.ranges) (g.S.Store.view c.args.store.now) (g.S.Store.view c.each.store) left c.each.outputs) (ap (map (map rows_of)) (no_items (into_iter_items c.each.tables-iterator) (sym c.each.tables-iterator.rest.ok.0 ∙ c.in-None.ensures.steps.0))) c.each.invariant.on in
    ranges_put c.args.moment (map (map rows_of) c.args.ranges) (g.S.Store.view c.args.store.now) (g.S.Store.view c.each.store) c.each.outputs on

pub returns-clause-described : goal.returns-clause-described
returns-clause-described g c = c.each.invariant.on.described
