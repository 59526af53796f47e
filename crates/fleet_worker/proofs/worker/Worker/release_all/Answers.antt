use Rattle.std.proofs.Common.{subst, sym, refl}
use Rattle.std.specs.Bool.{OnFalse}
use Rattle.fleet_step.specs.Steps.{stops}
use Rattle.fleet_worker.specs.Workers.{IsReady, WorkerParts, live_of}
use Rattle.fleet_worker.proofs.Releases.{ready_unless_over, release_safe, same_after}
use Rattle.fleet_worker.proofs.Ready.{ready_after}
use Rattle.fleet_worker.proofs.worker.Worker.release_all.Goals as goal

pub returns-clause-ready : goal.returns-clause-ready
returns-clause-ready g c =
    let w = c.args.self.now in
    let result = c.releases-released.result in
    let over = c.is_over-self-inside.result in
    subst (λ (w : WorkerParts). OnFalse over (IsReady (g.S.Store.view c.releases-released.new.store) (record w { stopped = over }))) (sym c.self.view_is)
    (subst (λ over. OnFalse over (IsReady (g.S.Store.view c.releases-released.new.store) (record w { stopped = over }))) (sym c.is_over-self-inside.ensures)
    (ready_unless_over _ w result
    (ready_after (λ jobs. jobs) (λ jobs. (live_of w).attempts) _ _ w _ (g.met.S.Store.lawful _) c.requires.ready (release_safe _ (live_of w) (g.met.S.Store.lawful _) c.requires.ready.may)
    result c.releases-released.ensures (stops result) refl w.attempts (same_after w result) (λ store noted. noted))))
