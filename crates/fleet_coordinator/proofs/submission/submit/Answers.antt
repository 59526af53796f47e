use Rattle.std.proofs.Common.{◌∙◌, ◌-◌, ◌+◌, Err, sym, ap, arith}
use Rattle.std.specs.Prelude.{map}
use Rattle.step_model.specs.Rivals.{Caller}
use Rattle.step_model.specs.Courses.StepEnds.{Reports}
use Rattle.step_model.specs.Steps.SubmitSteps.{submit_try}
use Rattle.fleet_rows.specs.declared.errors.SlateDBError.TheVariants.{Conflict}
use Rattle.fleet_jobs.specs.Specs.{spec_of}
use Rattle.fleet_step.proofs.Retries.{tries_end, tries_on, tries_out}
use Rattle.fleet_coordinator.proofs.Submits as law
use Rattle.fleet_coordinator.proofs.submission.submit.Goals as goal

pub tries-init : goal.tries-init
tries-init g c = law.first_submit _ c.args.moment (map spec_of c.args.specs.items)

pub try_submit-tried-requires-clause-by : goal.try_submit-tried-requires-clause-by
try_submit-tried-requires-clause-by g c = ap (λ (w : Caller). w.party) c.tries.invariant.same.who ∙ c.requires.by

pub try_submit-tried-requires-clause-keeps : goal.try_submit-tried-requires-clause-keeps
try_submit-tried-requires-clause-keeps g c =
    law.keeps_midway _ _ (g.S.Store.view c.args.store.now) (g.S.Store.view c.tries.store) (g.met.S.Store.lawful _) c.requires.keeps (law.submit_lawful (g.S.Store.view c.args.store.now) c.args.moment (map spec_of c.args.specs.items) (g.met.S.Store.lawful _) c.requires.by c.requires.keeps) c.tries.invariant

pub returns-in_default-clause-ran : goal.returns-in_default-clause-ran
returns-in_default-clause-ran g c =
    tries_end Reports (λ left seen. submit_try c.args.moment (map spec_of c.args.specs.items)) (64 - c.tries.tries) c.tries.seen c.tries.invariant
    (64 - (c.tries.tries + 1)) (omega (arith, c.tries-test.true)) (sym c.refused_at.ensures ∙ c.in_default.is) (rw c.as_slice.ensures.value at c.try_submit-tried.ensures _)

pub returns-in_default-clause-keeps : goal.returns-in_default-clause-keeps
returns-in_default-clause-keeps g c =
    law.submitted_keeps _ _ c.args.moment (map spec_of c.args.specs.items) c.try_submit-tried.result c.requires.by (g.met.S.Store.lawful _) c.requires.keeps (returns-in_default-clause-ran g c)

pub tries-preserved : goal.tries-preserved
tries-preserved g c =
    tries_on Reports (λ left seen. submit_try c.args.moment (map spec_of c.args.specs.items)) (64 - c.tries.tries) c.tries.seen c.tries.invariant
    (64 - (c.tries.tries + 1)) c.in-Some.version (omega (arith, c.tries-test.true)) (sym c.refused_at.ensures ∙ c.in-Some.is) (rw c.as_slice.ensures.value at c.try_submit-tried.ensures _)

pub returns-clause-ran : goal.returns-clause-ran
returns-clause-ran g c =
    tries_out Reports (λ left seen. submit_try c.args.moment (map spec_of c.args.specs.items)) (64 - c.tries.tries) c.tries.seen c.tries.invariant (omega (arith, c.tries-test.false))

pub returns-clause-keeps : goal.returns-clause-keeps
returns-clause-keeps g c =
    law.submitted_keeps _ _ c.args.moment (map spec_of c.args.specs.items) (Err (Conflict c.tries.seen)) c.requires.by (g.met.S.Store.lawful _) c.requires.keeps
    (tries_out Reports (λ left seen. submit_try c.args.moment (map spec_of c.args.specs.items)) (64 - c.tries.tries) c.tries.seen c.tries.invariant (omega (arith, c.tries-test.false)))
