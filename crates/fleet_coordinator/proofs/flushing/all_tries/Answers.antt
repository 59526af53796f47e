use Rattle.std.proofs.Common.{◌∙◌, ◌-◌, ◌+◌, sym, arith, false}
use Rattle.step_model.specs.Steps.FlushSteps.{flushes_from}
use Rattle.fleet_step.proofs.Steps.{begins}
use Rattle.fleet_coordinator.specs.Flushes.{asked_of}
use Rattle.fleet_coordinator.proofs.Flushes as law
use Rattle.fleet_coordinator.proofs.flushing.all_tries.Goals as goal

pub tries-init : goal.tries-init
tries-init g c = (begins (flushes_from c.args.moment c.args.retention_ms (asked_of c.args.flush.now) 64 false 0) _, λ e. absurd (cc e))

pub try_flush-tried-requires-clause-may : goal.try_flush-tried-requires-clause-may
try_flush-tried-requires-clause-may g c =
    law.may_try c.args.moment c.args.retention_ms (asked_of c.args.flush.now) (64 - c.tries.tries) c.tries.is_put c.tries.seen c.tries.invariant.0
    (64 - (c.tries.tries + 1)) (omega (arith, c.tries-test.true)) (g.met.S.Store.lawful _) c.requires.may.keeps c.requires.may.lawful c.tries.invariant.1

pub returns-in_default : goal.returns-in_default
returns-in_default g c =
    law.flush_last c.args.moment c.args.retention_ms (asked_of c.args.flush.now) (64 - c.tries.tries) c.tries.is_put c.tries.seen c.tries.invariant.0 _ c.try_flush-tried.result
    (64 - (c.tries.tries + 1)) (omega (arith, c.tries-test.true)) (sym c.refused_at.ensures ∙ c.in_default.is) c.try_flush-tried.ensures.ran

pub tries-preserved : goal.tries-preserved
tries-preserved g c = (
  law.flush_on c.args.moment c.args.retention_ms (asked_of c.args.flush.now) (64 - c.tries.tries) c.tries.is_put c.tries.seen c.tries.invariant.0 _ c.try_flush-tried.result
      (64 - (c.tries.tries + 1)) c.in-Some.version (omega (arith, c.tries-test.true)) (sym c.refused_at.ensures ∙ c.in-Some.is) c.try_flush-tried.ensures.ran,
  λ e. c.try_flush-tried.ensures.put c.in-Some.version (sym c.refused_at.ensures ∙ c.in-Some.is),
)

pub returns : goal.returns
returns g c = law.flush_out c.args.moment c.args.retention_ms (asked_of c.args.flush.now) (64 - c.tries.tries) c.tries.is_put c.tries.seen c.tries.invariant.0 (omega (arith, c.tries-test.false))
