use Rattle.std.proofs.Common.{subst, sym, refl, map, not, [], ◌∷◌, List}
use Rattle.std.specs.Bool.{OnFalse}
use Rattle.fleet_model.specs.Jobs.{contains}
use Rattle.fleet_model.specs.Work.Parties.{Attempt}
use Rattle.fleet_worker.specs.Claims.{without_parts}
use Rattle.fleet_worker.specs.Workers.{IsReady, WorkerParts, attempt_of, live_of}
use Rattle.fleet_worker.proofs.Later.{some_noted}
use Rattle.fleet_worker.proofs.Ready.{ready_after}
use Rattle.fleet_worker.proofs.Returns.{failed_safe}
use Rattle.fleet_worker.proofs.worker.Worker.take_failed.Goals as goal

pub returns-in-Ok-clause-ready : goal.returns-in-Ok-clause-ready
returns-in-Ok-clause-ready g c =
    let w = c.args.self.now in
    let stopped = c.stops-self-inside.result in
    let next = without_parts (c.args.job ∷ []) w.attempts in
    rw c.drop_attempt.ensures
    (subst (λ (w : WorkerParts). OnFalse stopped (IsReady (g.S.Store.view c.returns-returned.new.store) (record w { attempts = without_parts (c.args.job ∷ []) w.attempts; stopped = stopped }))) (sym c.self.view_is)
    (ready_after (λ done. map attempt_of next) (λ (attempts : List Attempt). attempts) _ _ w _ (g.met.S.Store.lawful _) c.requires.ready (failed_safe _ (live_of w) c.args.job c.args.number (g.met.S.Store.lawful _) c.requires.ready.may) c.returns-returned.result
    c.returns-returned.ensures stopped c.stops-self-inside.ensures next (rw c.in-Ok.is refl) (λ store noted. some_noted store (λ a. not (contains (c.args.job ∷ []) a.job)) w.attempts noted)))

pub returns-in-Err-clause-ready : goal.returns-in-Err-clause-ready
returns-in-Err-clause-ready g c =
    let w = c.args.self.now in
    let stopped = c.stops-self-inside.result in
    let next = without_parts (c.args.job ∷ []) w.attempts in
    subst (λ (w : WorkerParts). OnFalse stopped (IsReady (g.S.Store.view c.returns-returned.new.store) (record w { stopped = stopped }))) (sym c.self.view_is)
    (ready_after (λ done. map attempt_of next) (λ (attempts : List Attempt). attempts) _ _ w _ (g.met.S.Store.lawful _) c.requires.ready (failed_safe _ (live_of w) c.args.job c.args.number (g.met.S.Store.lawful _) c.requires.ready.may) c.returns-returned.result
    c.returns-returned.ensures stopped c.stops-self-inside.ensures w.attempts (rw c.in-Err.is refl) (λ store noted. noted))
