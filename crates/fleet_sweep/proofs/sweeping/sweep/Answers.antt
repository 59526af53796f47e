use Rattle.std.proofs.Common.{sym, subst, Ok}
use Rattle.std.proofs.lemmas.Result.{err_from_is_err_and}
use Rattle.step_model.specs.Courses.Course.{Ends}
use Rattle.step_model.specs.Steps.SweepSteps.{deletes_each, sweep}
use Rattle.fleet_step.specs.Steps.{Leads}
use Rattle.fleet_sweep.specs.Sweeps.{SweepRan}
use Rattle.fleet_sweep.proofs.Deleting.{delete_fails, deleted_all, deletes_on, may_delete}
use Rattle.fleet_sweep.proofs.Exact.{sweep_swept}
use Rattle.fleet_sweep.proofs.sweeping.sweep.Goals as goal

pub tables-init : goal.tables-init
tables-init g c =
    subst (λ ids. Leads (sweep c.args.pins.now) (g.S.Store.view c.args.store.now) (deletes_each ids (Ends ids)) (g.S.Store.view c.find.new.store)) (sym c.as_slice-id-items.ensures) c.in_ok-tables.ensures

pub delete_table-requires : goal.delete_table-requires
delete_table-requires g c =
    may_delete c.args.pins.now _ _ c.as_slice-id-items.result.now c.tables.id-index c.id-item.result c.tables-test.true c.id-item.is c.tables.invariant c.requires.may

pub returns-in_err-delete_table-clause-ran : goal.returns-in_err-delete_table-clause-ran
returns-in_err-delete_table-clause-ran g c =
    let p = err_from_is_err_and c.from_residual-in_err-delete_table.result c.from_residual-in_err-delete_table.ensures.1 in
    rw (p.1, p.2)
    (delete_fails c.args.pins.now _ _ c.as_slice-id-items.result.now c.tables.id-index c.id-item.result c.tables-test.true c.id-item.is c.tables.invariant _ c.in_err-delete_table.field-0.0 c.in_err-delete_table.ensures)

pub tables-preserved : goal.tables-preserved
tables-preserved g c =
    deletes_on c.args.pins.now _ _ c.as_slice-id-items.result.now c.tables.id-index c.id-item.result c.tables-test.true c.id-item.is c.tables.invariant _ c.in_ok-delete_table.ensures

pub returns-clause-ran : goal.returns-clause-ran
returns-clause-ran g c =
    subst (λ ids. SweepRan c.args.pins.now (g.S.Store.view c.args.store.now) (g.S.Store.view c.tables.store) (Ok ids)) c.as_slice-id-items.ensures
    (deleted_all c.args.pins.now _ _ c.as_slice-id-items.result.now c.tables.id-index c.tables-test.false c.tables.invariant)

pub returns-clause-swept : goal.returns-clause-swept
returns-clause-swept g c = sweep_swept c.args.pins.now _ _ _ c.requires.may (returns-clause-ran g c)
