use Rattle.std.proofs.lemmas.Result.{err_from_is_err_and}
use Rattle.step_model.specs.Courses.StepEnds.{Reports}
use Rattle.fleet_coordinator.proofs.Starts as law
use Rattle.fleet_coordinator.proofs.coordinator.hold.Goals as goal

pub returns-in_err-manifest : goal.returns-in_err-manifest
returns-in_err-manifest g c = λ again.
    let p = err_from_is_err_and c.from_residual.result c.from_residual.ensures.1 in
    rw (p.1, p.2) (law.both_fail Reports (law.hold_next c.args.epoch) again _ _ c.in_err-manifest.field-0.0 c.in_err-manifest.ensures)

pub returns-then-epoch-stored : goal.returns-then-epoch-stored
returns-then-epoch-stored g c = λ again.
    law.fenced_here _ _ c.in_ok-manifest.manifest c.in_ok-manifest.records c.in_ok-manifest.ensures c.args.epoch c.last_epoch-stored.result c.last_epoch-stored.ensures again c.if-epoch-stored.true

pub returns-else-epoch-stored : goal.returns-else-epoch-stored
returns-else-epoch-stored g c = λ again.
    law.holds_here _ _ c.in_ok-manifest.manifest c.in_ok-manifest.records c.in_ok-manifest.ensures c.args.epoch c.last_epoch-stored.result c.last_epoch-stored.ensures again c.if-epoch-stored.false
