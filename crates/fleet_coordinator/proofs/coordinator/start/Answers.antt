use Rattle.std.proofs.Common.{◌∙◌, ◌-◌, ◌+◌, Err, sym, ap, arith}
use Rattle.step_model.specs.Steps.PollSteps.{start_try}
use Rattle.step_model.specs.Rivals.{Caller}
use Rattle.step_model.specs.Courses.StepEnds.{Reports}
use Rattle.fleet_rows.specs.declared.errors.SlateDBError.TheVariants.{Conflict}
use Rattle.fleet_coordinator.proofs.Starts as law
use Rattle.fleet_step.proofs.Retries.{tries_end, tries_on, tries_out}
use Rattle.fleet_coordinator.proofs.coordinator.start.Goals as goal

pub tries-init : goal.tries-init
tries-init g c = law.first_start _

pub try_start-tried-requires : goal.try_start-tried-requires
try_start-tried-requires g c = record { by = record { number = c.requires.by.number; party = ap (λ (w : Caller). w.party) c.tries.invariant.same.who ∙ c.requires.by.party } }

pub returns-in_default-clause-ran : goal.returns-in_default-clause-ran
returns-in_default-clause-ran g c =
    tries_end Reports (λ left seen. start_try) (64 - c.tries.tries) c.tries.seen c.tries.invariant
    (64 - (c.tries.tries + 1)) (omega (arith, c.tries-test.true)) (sym c.refused_at.ensures ∙ c.in_default.is) (c.try_start-tried.ensures _)

pub returns-in_default-clause-fits : goal.returns-in_default-clause-fits
returns-in_default-clause-fits g c = law.started_fits _ _ c.try_start-tried.result (g.met.S.Store.lawful _) c.requires.keeps (returns-in_default-clause-ran g c)

pub returns-in_default-clause-keeps : goal.returns-in_default-clause-keeps
returns-in_default-clause-keeps g c = law.started_keeps _ _ c.try_start-tried.result c.requires.by (g.met.S.Store.lawful _) c.requires.keeps (returns-in_default-clause-ran g c)

pub tries-preserved : goal.tries-preserved
tries-preserved g c =
    tries_on Reports (λ left seen. start_try) (64 - c.tries.tries) c.tries.seen c.tries.invariant
    (64 - (c.tries.tries + 1)) c.in-Some.version (omega (arith, c.tries-test.true)) (sym c.refused_at.ensures ∙ c.in-Some.is) (c.try_start-tried.ensures _)

pub returns-clause-keeps : goal.returns-clause-keeps
returns-clause-keeps g c =
    law.started_keeps _ _ (Err (Conflict c.tries.seen)) c.requires.by (g.met.S.Store.lawful _) c.requires.keeps
    (tries_out Reports (λ left seen. start_try) (64 - c.tries.tries) c.tries.seen c.tries.invariant (omega (arith, c.tries-test.false)))
