use Rattle.std.proofs.Common.{◌∙◌, ap, map, refl}
use Rattle.fleet_claim.specs.declared.beginning.ClaimedAttempt.{ClaimedAttempt}
use Rattle.fleet_worker.specs.Workers.{WorkerParts}
use Rattle.fleet_worker.proofs.Claims.{claim_start}
use Rattle.fleet_worker.proofs.worker.Worker.start_under.Goals as goal

pub returns-clause-start : goal.returns-clause-start
returns-clause-start c =
    claim_start c.args.options.now c.args.moment c.args.self.now c.args.manifest c.args.claimed.now c.args.stopped c.self.inside.release c.in_ok-begun.field-0 _ c.in_ok-jobs.jobs c.from_vec.result c.as_slice.result.now c.in_ok-begun.field-0.begun.items c.as_slice-running.result.now
    (ap (λ (w : WorkerParts). w.release) c.self.view_is) c.in_ok-begun.ensures.starts refl refl (c.in_ok-jobs.ensures.jobs ∙ ap (map (λ (a : ClaimedAttempt). a.job)) c.deref.ensures.value) c.from_vec.ensures (c.from_vec-2.ensures ∙ c.in_ok-attempts.ensures.next) c.as_slice.ensures refl
    (c.as_slice-running.ensures ∙ ap (λ (w : WorkerParts). w.attempts) c.self.view_is)
