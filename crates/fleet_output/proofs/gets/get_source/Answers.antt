use Rattle.std.proofs.Common.{◌∙◌, ◌∷◌, [], ap, subst, inr, Ok}
use Rattle.std.proofs.lemmas.Result.{err_from_is_err_and}
use Rattle.fleet_store.specs.Asks.{GetsTable}
use Rattle.fleet_output.proofs.GotTables.{answers_rows, is_answered}
use Rattle.fleet_output.proofs.gets.get_source.Goals as goal

pub unreachable-requires : goal.unreachable-requires
unreachable-requires g c =
    is_answered (g.S.Store.view c.args.store.now) (g.S.Store.view c.get_table.new.self) c.args.id c.requires
    (subst (λ o. GetsTable (g.S.Store.view c.args.store.now) (g.S.Store.view c.get_table.new.self) c.args.id (Ok o)) c.in_default.is c.in_ok-table.ensures)

pub returns-in_err-source : goal.returns-in_err-source
returns-in_err-source g c =
    let p = err_from_is_err_and c.from_residual-in_err-source.result c.from_residual-in_err-source.ensures.1 in
    let got = subst (λ o. GetsTable (g.S.Store.view c.args.store.now) (g.S.Store.view c.get_table.new.self) c.args.id (Ok o)) c.in-Some.is c.in_ok-table.ensures in
    rw (p.1, p.2) (inr (c.in_err-source.ensures.memory, (c.in-Some.table, got)))

pub returns : goal.returns
returns g c =
    let got = subst (λ o. GetsTable (g.S.Store.view c.args.store.now) (g.S.Store.view c.get_table.new.self) c.args.id (Ok o)) c.in-Some.is c.in_ok-table.ensures in
    record {
      got = (c.in-Some.table, got);
      is = c.in_ok-source.ensures.source ∙ ap (λ rows. rows ∷ []) (answers_rows _ _ c.args.id c.requires c.in-Some.table got);
    }
