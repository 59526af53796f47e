use Rattle.std.proofs.Common.{◌∙◌, ◌-◌, ◌+◌, sym, arith}
use Rattle.step_model.specs.Steps.ClaimSteps.{claim_try}
use Rattle.fleet_claim.specs.Beginnings.{options_of}
use Rattle.fleet_worker.specs.Claims.{claim_ends_with}
use Rattle.fleet_worker.specs.Workers.{live_of}
use Rattle.fleet_worker.proofs.Claims.{claim_safe, first_claim}
use Rattle.fleet_worker.proofs.Ready.{ready_midway}
use Rattle.fleet_step.proofs.Retries.{tries_end, tries_on}
use Rattle.fleet_worker.proofs.worker.Worker.claims.Goals as goal

pub tries-init : goal.tries-init
tries-init g c = first_claim (options_of c.args.options.now) c.args.moment (live_of c.args.self.now) _

pub try_claim-tried-requires-clause-ready : goal.try_claim-tried-requires-clause-ready
try_claim-tried-requires-clause-ready g c =
    ready_midway _ _ c.args.self.now _ _ _ (g.met.S.Store.lawful _) c.requires.ready (claim_safe _ (options_of c.args.options.now) c.args.moment (live_of c.args.self.now) (g.met.S.Store.lawful _) c.requires.ready.may) c.tries.invariant

pub returns-in_default-clause-ran : goal.returns-in_default-clause-ran
returns-in_default-clause-ran g c =
    tries_end claim_ends_with (λ left seen. claim_try (options_of c.args.options.now) c.args.moment (live_of c.args.self.now)) (64 - c.tries.tries) c.tries.seen c.tries.invariant
    (64 - (c.tries.tries + 1)) (omega (arith, c.tries-test.true)) (sym c.refused_at.ensures ∙ c.in_default.is) (c.try_claim-tried.ensures.ran _)

pub tries-preserved : goal.tries-preserved
tries-preserved g c =
    tries_on claim_ends_with (λ left seen. claim_try (options_of c.args.options.now) c.args.moment (live_of c.args.self.now)) (64 - c.tries.tries) c.tries.seen c.tries.invariant
    (64 - (c.tries.tries + 1)) c.in-Some.version (omega (arith, c.tries-test.true)) (sym c.refused_at.ensures ∙ c.in-Some.is) (c.try_claim-tried.ensures.ran _)
