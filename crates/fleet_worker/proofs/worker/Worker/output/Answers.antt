use Rattle.std.proofs.Common.{◌∙◌, ap, subst, sym, Ok}
use Rattle.std.specs.Bool.{OnFalse}
use Rattle.fleet_worker.specs.Outputs.{left_by}
use Rattle.fleet_worker.specs.Workers.{IsReady, WorkerParts}
use Rattle.fleet_worker.proofs.OutputParts.{err_exit, none_exit, some_exit}
use Rattle.fleet_worker.proofs.worker.Worker.output.Goals as goal

pub returns-in-Ok-None-clause-ready : goal.returns-in-Ok-None-clause-ready
returns-in-Ok-None-clause-ready g c =
    let stopped = c.stops-self-inside.result in
    let result = c.outputs-written.result in
    rw c.leave_refused.ensures
    (subst (λ (v : WorkerParts). OnFalse stopped (IsReady (g.S.Store.view c.outputs-written.new.store) (record v { attempts = left_by result c.args.job v.attempts; stopped = stopped }))) (sym c.self.view_is)
    (none_exit c.args.moment c.args.self.now c.args.job c.args.range c.args.rows _ _ (g.met.S.Store.lawful _) c.requires.ready stopped result c.outputs-written.ensures.ran c.outputs-written.ensures.answered c.stops-self-inside.ensures (c.in-Ok-None.is ∙ ap Ok c.in-Ok-None.field-0-is)).1)

pub returns-in-Ok-Some-clause-ready : goal.returns-in-Ok-Some-clause-ready
returns-in-Ok-Some-clause-ready g c =
    let stopped = c.stops-self-inside.result in
    let result = c.outputs-written.result in
    let next = c.in-Ok-Some.attempts in
    subst (λ (v : WorkerParts). OnFalse v.stopped (IsReady (g.S.Store.view c.outputs-written.new.store) (record v { attempts = next }))) (sym (c.self-2.view_is ∙ c.leave_refused.ensures))
    (subst (λ (v : WorkerParts). OnFalse stopped (IsReady (g.S.Store.view c.outputs-written.new.store) (record v { attempts = next; stopped = stopped }))) (sym c.self.view_is)
    (some_exit c.args.moment c.args.self.now c.args.job c.args.range c.args.rows _ _ (g.met.S.Store.lawful _) c.requires.ready stopped result c.outputs-written.ensures.ran c.outputs-written.ensures.answered c.stops-self-inside.ensures c.in-Ok-Some.table next (c.in-Ok-Some.is ∙ ap Ok c.in-Ok-Some.field-0-is)).1)

pub returns-in-Err-clause-ready : goal.returns-in-Err-clause-ready
returns-in-Err-clause-ready g c =
    let stopped = c.stops-self-inside.result in
    let result = c.outputs-written.result in
    rw c.leave_refused.ensures
    (subst (λ (v : WorkerParts). OnFalse stopped (IsReady (g.S.Store.view c.outputs-written.new.store) (record v { attempts = left_by result c.args.job v.attempts; stopped = stopped }))) (sym c.self.view_is)
    (err_exit c.args.moment c.args.self.now c.args.job c.args.range c.args.rows _ _ (g.met.S.Store.lawful _) c.requires.ready stopped result c.outputs-written.ensures.ran c.outputs-written.ensures.answered c.stops-self-inside.ensures c.in-Err.error c.in-Err.is).1)
