use Rattle.std.proofs.Common.{refl}
use Rattle.std.proofs.lemmas.Result.{err_from_is_err_and}
use Rattle.step_model.specs.Courses.StepEnds.{Reports}
use Rattle.step_model.specs.Steps.SubmitSteps.{request_by}
use Rattle.fleet_book.specs.Requests.{request_of}
use Rattle.fleet_step.proofs.Puts.{got_records}
use Rattle.fleet_step.proofs.Steps.{then_tried}
use Rattle.fleet_step.proofs.Turns.{get_fails}
use Rattle.fleet_coordinator.proofs.Requests as law
use Rattle.fleet_coordinator.proofs.Submits.{has_no_records}
use Rattle.fleet_coordinator.proofs.requesting.try_request.Goals as goal

pub returns-in_default : goal.returns-in_default
returns-in_default g c = λ again.
    has_no_records Reports (got_records (rw c.in_default.is at c.in_ok-got.ensures) (λ got. request_by c.args.moment ((goal.CompactionScheduler-dyn g c.args.scheduler.now).answers c.args.scheduler.now.1) (request_of c.args.request.now) got again)) refl

pub returns-in_err-manifest : goal.returns-in_err-manifest
returns-in_err-manifest g c = λ again.
    let p = err_from_is_err_and c.from_residual-in_err-manifest.result c.from_residual-in_err-manifest.ensures.1 in
    rw (p.1, p.2)
    (then_tried Reports (got_records (rw c.in-Some.is at c.in_ok-got.ensures) (λ got. request_by c.args.moment ((goal.CompactionScheduler-dyn g c.args.scheduler.now).answers c.args.scheduler.now.1) (request_of c.args.request.now) got again)) (get_fails c.in_err-manifest.ensures))

pub returns-in_err-specs : goal.returns-in_err-specs
returns-in_err-specs g c = λ again.
    let p = err_from_is_err_and c.from_residual-in_err-specs.result c.from_residual-in_err-specs.ensures.1 in
    rw (p.1, p.2)
    (law.refuses c.args.moment ((goal.CompactionScheduler-dyn g c.args.scheduler.now).answers c.args.scheduler.now.1) (request_of c.args.request.now) _ _ _ c.in-Some.got (rw c.in-Some.is at c.in_ok-got.ensures) c.in_ok-manifest.manifest c.in_ok-manifest.ensures (g.met.S.Store.lawful _) c.requires.keeps again
    c.in_err-specs.field-0.0 c.in_err-specs.ensures)

pub submit_specs-requires : goal.submit_specs-requires
submit_specs-requires g c = record {
  may = rw c.as_slice.ensures.value
      (law.may_submit_generated c.args.moment ((goal.CompactionScheduler-dyn g c.args.scheduler.now).answers c.args.scheduler.now.1) (request_of c.args.request.now) _ _ _ c.in-Some.got (rw c.in-Some.is at c.in_ok-got.ensures) c.in_ok-manifest.manifest c.in_ok-manifest.ensures (g.met.S.Store.lawful _) c.requires.keeps
      c.in_ok-specs.specs c.in_ok-specs.ensures c.requires.by);
}

pub returns : goal.returns
returns g c = λ again.
    then_tried Reports
    (law.at_specs c.args.moment ((goal.CompactionScheduler-dyn g c.args.scheduler.now).answers c.args.scheduler.now.1) (request_of c.args.request.now) _ _ _ c.in-Some.got (rw c.in-Some.is at c.in_ok-got.ensures) c.in_ok-manifest.manifest c.in_ok-manifest.ensures (g.met.S.Store.lawful _) c.requires.keeps
    c.in_ok-specs.specs c.in_ok-specs.ensures again) (rw c.as_slice.ensures.value at c.submit_specs.ensures again)
