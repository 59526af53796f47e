use Rattle.std.proofs.Common.{refl}
use Rattle.std.specs.Prelude.{map}
use Rattle.step_model.specs.Courses.StepEnds.{Reports}
use Rattle.step_model.specs.Steps.SubmitSteps.{submit_by}
use Rattle.fleet_jobs.specs.Specs.{spec_of}
use Rattle.fleet_step.proofs.Puts.{got_records}
use Rattle.fleet_step.proofs.Steps.{then_tried}
use Rattle.fleet_coordinator.proofs.Submits as law
use Rattle.fleet_coordinator.proofs.submission.try_submit.Goals as goal

pub returns-in_default : goal.returns-in_default
returns-in_default g c = λ again.
    law.has_no_records Reports (got_records (rw c.in_default.is at c.in_ok-got.ensures) (λ got. submit_by c.args.moment (map spec_of c.args.specs.now) got again)) refl

pub submit_specs-requires : goal.submit_specs-requires
submit_specs-requires g c = record { may = law.may_submit (rw c.in-Some.is at c.in_ok-got.ensures) (g.met.S.Store.lawful _) c.requires.keeps c.args.moment c.args.specs.now c.requires.by }

pub returns : goal.returns
returns g c = λ again.
    then_tried Reports (got_records (rw c.in-Some.is at c.in_ok-got.ensures) (λ got. submit_by c.args.moment (map spec_of c.args.specs.now) got again)) (c.submit_specs.ensures again)
