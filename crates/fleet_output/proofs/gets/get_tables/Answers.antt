use Rattle.std.proofs.Common.{◌∙◌, sym, ap, subst, take, inr}
use Rattle.std.specs.Prelude.{IsTrue}
use Rattle.std.proofs.lemmas.Result.{err_from_is_err_and}
use Rattle.fleet_model.specs.Store.{is_held}
use Rattle.fleet_output.specs.Gets.{GotEach, sources_at}
use Rattle.fleet_output.proofs.GotTables.{each_held, fails_at, got_more, held_at, held_each, take_whole}
use Rattle.fleet_output.proofs.gets.get_tables.Goals as goal

pub get_source-requires : goal.get_source-requires
get_source-requires g c =
    let store = (g.S.Store.view c.args.store.now).world.store in
    each_held (take c.tables.id-index c.args.ids.now) _ _ c.id-item.result c.tables.invariant.0
    (subst (λ n. IsTrue (is_held store n)) (sym c.id-item.is) (held_at store c.args.ids.now c.tables.id-index c.id-item.result c.tables-test.true (held_each store c.args.ids.now c.requires.held)))

pub returns-in_err-source : goal.returns-in_err-source
returns-in_err-source g c =
    let p = err_from_is_err_and c.from_residual.result c.from_residual.ensures.1 in
    rw (p.1, p.2) (fails_at c.args.ids.now c.tables.id-index c.id-item.result c.tables-test.true c.id-item.is _ _ _ c.tables.invariant.0 c.in_err-source.field-0.0 c.in_err-source.ensures)

pub returns-in_err-push : goal.returns-in_err-push
returns-in_err-push g c =
    let p = err_from_is_err_and c.from_residual-in_err-push.result c.from_residual-in_err-push.ensures.1 in
    rw (p.1, p.2)
    (fails_at c.args.ids.now c.tables.id-index c.id-item.result c.tables-test.true c.id-item.is _ _ _ c.tables.invariant.0 c.in_err-push.field-0.0 (inr (c.in_err-push.ensures.memory, c.in_ok-source.ensures.got)))

pub tables-preserved : goal.tables-preserved
tables-preserved g c =
    rw c.in_ok-push.ensures.ok
    (got_more c.args.ids.now c.tables.id-index c.id-item.result c.tables-test.true c.id-item.is _ _ _ c.tables.invariant.0 c.requires.held c.tables.sources c.in_ok-source.source c.tables.invariant.1 c.in_ok-source.ensures)

pub returns : goal.returns
returns g c =
    let all = take_whole c.args.ids.now c.tables.id-index c.tables-test.false in
    record {
      got = subst (λ l. GotEach l (g.S.Store.view c.args.store.now) (g.S.Store.view c.tables.store)) all c.tables.invariant.0;
      are = c.tables.invariant.1 ∙ ap (sources_at (g.S.Store.view c.args.store.now).world.store.tables) all;
    }
