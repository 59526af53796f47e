use Rattle.std.proofs.Common.{◌∙◌, ap, subst, sym, refl, Ok, Err}
use Rattle.std.specs.Bool.{OnFalse}
use Rattle.step_model.specs.Steps.ClaimSteps.{Claimed, claim}
use Rattle.fleet_claim.specs.Beginnings.{options_of}
use Rattle.fleet_step.specs.Steps.{StepRan, stops}
use Rattle.fleet_worker.specs.Claims.{claim_ends_with, claimed_with}
use Rattle.fleet_worker.specs.Workers.{IsReady, WorkerParts, live_of}
use Rattle.fleet_worker.proofs.Claims.{claim_safe}
use Rattle.fleet_worker.proofs.Ready.{noted_after, ready_with}
use Rattle.fleet_worker.proofs.worker.Worker.claim.Goals as goal

pub returns-in-Ok-clause-ready : goal.returns-in-Ok-clause-ready
returns-in-Ok-clause-ready g c =
    let w = c.args.self.now in
    let stopped = c.stops-self-inside.result in
    let next = c.in-Ok.attempts in
    subst (λ (w : WorkerParts). OnFalse stopped (IsReady (g.S.Store.view c.claims-claimed.new.store) (record w { attempts = next; stopped = stopped }))) (sym c.self.view_is)
    (ready_with (λ answer. claimed_with answer.1 answer.0) (λ (report : Claimed). report.attempts) _ _ w _ (g.met.S.Store.lawful _) c.requires.ready (claim_safe _ (options_of c.args.options.now) c.args.moment (live_of w) (g.met.S.Store.lawful _) c.requires.ready.may)
    (Ok (c.in-Ok.report, next)) (subst (StepRan claim_ends_with (claim (options_of c.args.options.now) c.args.moment (live_of w)) _ _) c.in-Ok.is c.claims-claimed.ensures.ran) stopped (c.stops-self-inside.ensures ∙ ap stops c.in-Ok.is)
    next refl (rw c.in-Ok.is at c.claims-claimed.ensures.noted))

pub returns-in-Err-clause-ready : goal.returns-in-Err-clause-ready
returns-in-Err-clause-ready g c =
    let w = c.args.self.now in
    let stopped = c.stops-self-inside.result in
    let ran = subst (StepRan claim_ends_with (claim (options_of c.args.options.now) c.args.moment (live_of w)) _ _) c.in-Err.is c.claims-claimed.ensures.ran in
    subst (λ (w : WorkerParts). OnFalse stopped (IsReady (g.S.Store.view c.claims-claimed.new.store) (record w { stopped = stopped }))) (sym c.self.view_is)
    (ready_with (λ answer. claimed_with answer.1 answer.0) (λ (report : Claimed). report.attempts) _ _ w _ (g.met.S.Store.lawful _) c.requires.ready (claim_safe _ (options_of c.args.options.now) c.args.moment (live_of w) (g.met.S.Store.lawful _) c.requires.ready.may)
    (Err c.in-Err.error) ran stopped (c.stops-self-inside.ensures ∙ ap stops c.in-Err.is) w.attempts refl (noted_after claim_ends_with _ _ w _ (Err c.in-Err.error) ran c.requires.ready))

pub returns-in-Ok-clause-named : goal.returns-in-Ok-clause-named
returns-in-Ok-clause-named g c = rw c.in-Ok.is at c.claims-claimed.ensures.named
