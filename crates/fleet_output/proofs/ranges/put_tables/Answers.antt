use Rattle.std.proofs.Common.{rules, ◌∙◌, sym, ap, subst, map, List}
use Rattle.std.specs.Vec.Iter.{into_iter_items}
use Rattle.std.proofs.lemmas.Result.{err_from_is_err_and}
use Rattle.fleet_rows.specs.Row.{rows_of}
use Rattle.fleet_tree.specs.declared.handle.SsTableHandle.{SsTableHandle}
use Rattle.fleet_output.proofs.PutsInOrder.{no_items, PutsOn, each_begin, each_further, each_lacks, each_put, each_stops, next_may}
use Rattle.fleet_output.proofs.ranges.put_tables.Goals as goal

pub tables-init : goal.tables-init
tables-init g c =
    let all = map rows_of c.args.tables in
    let old = g.S.Store.view c.args.store.now in
    let left = map rows_of (into_iter_items c.into_iter-rows-iterator.result) in
    let same = ap (map rows_of) (sym (c.into_iter-rows-iterator.ensures.into_iter_gives.0 ∙ c.into_vec-rows-items.ensures)) in
    record {
      next = search rules;
      finite = search rules;
      on = subst (λ (made : List SsTableHandle). PutsOn c.args.moment all old old left made) (sym c.new-handles.ensures) (each_begin c.args.moment all left old same c.requires.sound c.requires.may);
    }

pub put_output-requires-clause-sound : goal.put_output-requires-clause-sound
put_output-requires-clause-sound g c =
    let on = subst (λ left. PutsOn c.args.moment (map rows_of c.args.tables) (g.S.Store.view c.args.store.now) (g.S.Store.view c.tables.store) left c.tables.handles) (ap (map rows_of) c.in-Some.ensures.steps.0) c.tables.invariant.on in
    on.sound.0

pub put_output-requires-clause-may : goal.put_output-requires-clause-may
put_output-requires-clause-may g c =
    let on = subst (λ left. PutsOn c.args.moment (map rows_of c.args.tables) (g.S.Store.view c.args.store.now) (g.S.Store.view c.tables.store) left c.tables.handles) (ap (map rows_of) c.in-Some.ensures.steps.0) c.tables.invariant.on in
    next_may c.args.moment (map rows_of c.args.tables) (g.S.Store.view c.args.store.now) (g.S.Store.view c.tables.store) _ _ c.tables.handles on

pub returns-in_err-handle-clause-put : goal.returns-in_err-handle-clause-put
returns-in_err-handle-clause-put g c =
    let on = subst (λ left. PutsOn c.args.moment (map rows_of c.args.tables) (g.S.Store.view c.args.store.now) (g.S.Store.view c.tables.store) left c.tables.handles) (ap (map rows_of) c.in-Some.ensures.steps.0) c.tables.invariant.on in
    let p = err_from_is_err_and c.from_residual.result c.from_residual.ensures.1 in
    rw (p.1, p.2)
    (each_stops c.args.moment (map rows_of c.args.tables) (g.S.Store.view c.args.store.now) (g.S.Store.view c.tables.store) _ _ c.tables.handles on (g.S.Store.view c.put_output.new.store) c.in_err-handle.field-0.0 c.in_err-handle.ensures.put)

pub returns-in_err-push-clause-put : goal.returns-in_err-push-clause-put
returns-in_err-push-clause-put g c =
    let on = subst (λ left. PutsOn c.args.moment (map rows_of c.args.tables) (g.S.Store.view c.args.store.now) (g.S.Store.view c.tables.store) left c.tables.handles) (ap (map rows_of) c.in-Some.ensures.steps.0) c.tables.invariant.on in
    let p = err_from_is_err_and c.from_residual-in_err-push.result c.from_residual-in_err-push.ensures.1 in
    rw (p.1, p.2, c.in_err-push.ensures.memory)
    (each_lacks c.args.moment (map rows_of c.args.tables) (g.S.Store.view c.args.store.now) (g.S.Store.view c.tables.store) _ _ c.tables.handles on (g.S.Store.view c.put_output.new.store) c.in_ok-handle.handle c.in_ok-handle.ensures.put)

pub tables-preserved : goal.tables-preserved
tables-preserved g c =
    let new = g.S.Store.view c.put_output.new.store in
    let on = subst (λ left. PutsOn c.args.moment (map rows_of c.args.tables) (g.S.Store.view c.args.store.now) (g.S.Store.view c.tables.store) left c.tables.handles) (ap (map rows_of) c.in-Some.ensures.steps.0) c.tables.invariant.on in
    let further = each_further c.args.moment (map rows_of c.args.tables) (g.S.Store.view c.args.store.now) (g.S.Store.view c.tables.store) _ _ c.tables.handles on new c.in_ok-handle.handle c.in_ok-handle.ensures.put c.in_ok-handle.ensures.described in
    record {
      next = search rules;
      finite = search rules;
      on = subst (λ (handles : List SsTableHandle). PutsOn c.args.moment (map rows_of c.args.tables) (g.S.Store.view c.args.store.now) new (map rows_of (into_iter_items c.next.new.self)) handles) (sym c.in_ok-push.ensures.ok) further;
    }

pub returns-clause-put : goal.returns-clause-put
returns-clause-put g c =
    let on = subst (λ left. PutsOn c.args.moment (map rows_of c.args.tables) (g.S.Store.view c.args.store.now) (g.S.Store.view c.tables.store) left c.tables.handles) (ap (map rows_of) (no_items (into_iter_items c.tables.rows-iterator) (sym c.tables.rows-iterator.rest.ok.0 ∙ c.in-None.ensures.steps.0))) c.tables.invariant.on in
    each_put c.args.moment (map rows_of c.args.tables) (g.S.Store.view c.args.store.now) (g.S.Store.view c.tables.store) c.tables.handles on

pub returns-clause-described : goal.returns-clause-described
returns-clause-described g c = c.tables.invariant.on.described
