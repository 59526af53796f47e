use Rattle.std.proofs.Common.{◌∙◌, refl, ap, subst, inr, Ok}
use Rattle.std.proofs.lemmas.Result.{err_from_is_err_and}
use Rattle.fleet_model.specs.Handles.{describe}
use Rattle.fleet_rows.specs.Row.{rows_of}
use Rattle.fleet_store.specs.Asks.{PutsTableRows}
use Rattle.fleet_output.proofs.Puts.{described_as, may_put}
use Rattle.fleet_output.proofs.put.put_output.Goals as goal

pub returns-in_err-handle-clause-put : goal.returns-in_err-handle-clause-put
returns-in_err-handle-clause-put g c =
    let p = err_from_is_err_and c.from_residual-in_err-handle.result c.from_residual-in_err-handle.ensures.1 in
    rw (p.1, p.2)
    (inr (inr (record {
      mid = g.S.Store.view c.draw_table.new.self;
      id = c.in_ok-id.id;
      drawn = c.in_ok-id.ensures;
      stopped = inr (c.in_err-handle.ensures.memory, refl);
    })))

pub returns-clause-described : goal.returns-clause-described
returns-clause-described g c =
    let rows = rows_of c.args.rows in
    let are = c.in_ok-table.ensures.table ∙ ap rows_of c.into_vec.ensures in
    let mid = g.S.Store.view c.draw_table.new.self in
    let new = g.S.Store.view c.put_table.new.self in
    described_as mid new c.in_ok-id.id rows c.in_ok-handle.handle
    (may_put c.args.moment c.in_ok-id.id rows (g.S.Store.view c.args.store.now) mid c.requires.may c.in_ok-id.ensures)
    (subst (λ t. PutsTableRows mid new c.in_ok-id.id t (Ok tt)) are c.in_ok-put_table.ensures)
    (c.in_ok-handle.ensures.handle ∙ ap (describe c.in_ok-id.id) are)
