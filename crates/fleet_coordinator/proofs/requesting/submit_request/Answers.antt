use Rattle.std.proofs.Common.{◌∙◌, ◌-◌, ◌+◌, Err, sym, ap, arith}
use Rattle.step_model.specs.Rivals.{Caller}
use Rattle.step_model.specs.Courses.StepEnds.{Reports}
use Rattle.step_model.specs.Steps.SubmitSteps.{request_try}
use Rattle.fleet_rows.specs.declared.errors.SlateDBError.TheVariants.{Conflict}
use Rattle.fleet_book.specs.Requests.{request_of}
use Rattle.fleet_step.proofs.Retries.{tries_end, tries_on, tries_out}
use Rattle.fleet_coordinator.proofs.Requests as law
use Rattle.fleet_coordinator.proofs.Submits.{keeps_midway}
use Rattle.fleet_coordinator.proofs.requesting.submit_request.Goals as goal

pub tries-init : goal.tries-init
tries-init g c = law.first_request _ c.args.moment ((goal.CompactionScheduler-dyn g c.args.scheduler.now).answers c.args.scheduler.now.1) (request_of c.args.request.now)

pub try_request-tried-requires-clause-by : goal.try_request-tried-requires-clause-by
try_request-tried-requires-clause-by g c = ap (λ (w : Caller). w.party) c.tries.invariant.same.who ∙ c.requires.by

pub try_request-tried-requires-clause-keeps : goal.try_request-tried-requires-clause-keeps
try_request-tried-requires-clause-keeps g c =
    keeps_midway _ _ (g.S.Store.view c.args.store.now) (g.S.Store.view c.tries.store) (g.met.S.Store.lawful _) c.requires.keeps
    (law.request_lawful (g.S.Store.view c.args.store.now) c.args.moment ((goal.CompactionScheduler-dyn g c.args.scheduler.now).answers c.args.scheduler.now.1) (request_of c.args.request.now) (g.met.S.Store.lawful _) c.requires.by c.requires.keeps) c.tries.invariant

pub returns-in_default-clause-ran : goal.returns-in_default-clause-ran
returns-in_default-clause-ran g c =
    tries_end Reports (λ left seen. request_try c.args.moment ((goal.CompactionScheduler-dyn g c.args.scheduler.now).answers c.args.scheduler.now.1) (request_of c.args.request.now)) (64 - c.tries.tries) c.tries.seen c.tries.invariant
    (64 - (c.tries.tries + 1)) (omega (arith, c.tries-test.true)) (sym c.refused_at.ensures ∙ c.in_default.is) (c.try_request-tried.ensures _)

pub returns-in_default-clause-keeps : goal.returns-in_default-clause-keeps
returns-in_default-clause-keeps g c =
    law.requested_keeps _ _ c.args.moment ((goal.CompactionScheduler-dyn g c.args.scheduler.now).answers c.args.scheduler.now.1) (request_of c.args.request.now) c.try_request-tried.result c.requires.by (g.met.S.Store.lawful _) c.requires.keeps (returns-in_default-clause-ran g c)

pub tries-preserved : goal.tries-preserved
tries-preserved g c =
    tries_on Reports (λ left seen. request_try c.args.moment ((goal.CompactionScheduler-dyn g c.args.scheduler.now).answers c.args.scheduler.now.1) (request_of c.args.request.now)) (64 - c.tries.tries) c.tries.seen c.tries.invariant
    (64 - (c.tries.tries + 1)) c.in-Some.version (omega (arith, c.tries-test.true)) (sym c.refused_at.ensures ∙ c.in-Some.is) (c.try_request-tried.ensures _)

pub returns-clause-ran : goal.returns-clause-ran
returns-clause-ran g c = tries_out Reports (λ left seen. request_try c.args.moment ((goal.CompactionScheduler-dyn g c.args.scheduler.now).answers c.args.scheduler.now.1) (request_of c.args.request.now)) (64 - c.tries.tries) c.tries.seen c.tries.invariant (omega (arith, c.tries-test.false))

pub returns-clause-keeps : goal.returns-clause-keeps
returns-clause-keeps g c =
    law.requested_keeps _ _ c.args.moment ((goal.CompactionScheduler-dyn g c.args.scheduler.now).answers c.args.scheduler.now.1) (request_of c.args.request.now) (Err (Conflict c.tries.seen)) c.requires.by (g.met.S.Store.lawful _) c.requires.keeps
    (tries_out Reports (λ left seen. request_try c.args.moment ((goal.CompactionScheduler-dyn g c.args.scheduler.now).answers c.args.scheduler.now.1) (request_of c.args.request.now)) (64 - c.tries.tries) c.tries.seen c.tries.invariant (omega (arith, c.tries-test.false)))
