use Rattle.std.proofs.lemmas.Result.{err_from_is_err_and}
use Rattle.step_model.specs.Courses.StepEnds.{Reports}
use Rattle.fleet_coordinator.proofs.Starts as law
use Rattle.fleet_coordinator.proofs.coordinator.try_start.Goals as goal

pub returns-in_err-got : goal.returns-in_err-got
returns-in_err-got g c = λ again.
    let p = err_from_is_err_and c.from_residual.result c.from_residual.ensures.1 in
    rw (p.1, p.2) (law.both_fail Reports (law.start_next again) again _ _ c.in_err-got.field-0.0 c.in_err-got.ensures)

pub returns-in_err-put : goal.returns-in_err-put
returns-in_err-put g c = λ again.
    let p = err_from_is_err_and c.from_residual-in_err-put.result c.from_residual-in_err-put.ensures.1 in
    rw (p.1, p.2, c.in_err-put.ensures.memory) (law.no_memory _ _ c.in_ok-got.got c.in_ok-got.records c.in_ok-got.ensures again)

pub put_manifest-requires : goal.put_manifest-requires
put_manifest-requires g c = (law.manifest_fits _ _ c.in_ok-got.got c.in_ok-got.records c.in_ok-got.ensures c.in_ok-put.put c.in_ok-put.ensures.put c.requires.by)

pub returns-in_err-put_manifest : goal.returns-in_err-put_manifest
returns-in_err-put_manifest g c = λ again.
    let p = err_from_is_err_and c.from_residual-in_err-put_manifest.result c.from_residual-in_err-put_manifest.ensures.1 in
    rw (p.1, p.2)
    (law.manifest_failed _ _ c.in_ok-got.got c.in_ok-got.records c.in_ok-got.ensures c.in_ok-put.put c.in_ok-put.ensures.put again _ c.in_err-put_manifest.field-0.0
    (c.in_err-put_manifest.ensures))

pub put_records-requires : goal.put_records-requires
put_records-requires g c =
    law.records_fit _ _ c.in_ok-got.got c.in_ok-got.records c.in_ok-got.ensures c.in_ok-put.put c.in_ok-put.ensures.put c.requires.by _ _ (c.in_ok-put_manifest.ensures)

pub returns-in_err-put_records : goal.returns-in_err-put_records
returns-in_err-put_records g c = λ again.
    let p = err_from_is_err_and c.from_residual-in_err-put_records.result c.from_residual-in_err-put_records.ensures.1 in
    rw (p.1, p.2)
    (law.records_failed _ _ c.in_ok-got.got c.in_ok-got.records c.in_ok-got.ensures c.in_ok-put.put c.in_ok-put.ensures.put again _ _ (c.in_ok-put_manifest.ensures)
    _ c.in_err-put_records.field-0.0 c.in_err-put_records.ensures)

pub returns : goal.returns
returns g c = λ again.
    law.then_holds _ _ c.in_ok-got.got c.in_ok-got.records c.in_ok-got.ensures c.in_ok-put.put c.in_ok-put.ensures.put again _ _ (c.in_ok-put_manifest.ensures)
    _ _ _ c.hold.result c.in_ok-put_records.ensures (c.hold.ensures again)
