use Rattle.std.proofs.Common.{subst, sym, map}
use Rattle.std.specs.Bool.{OnFalse}
use Rattle.step_model.specs.Steps.MessageSteps.{take_finished}
use Rattle.fleet_jobs.specs.Contexts.{table_ids}
use Rattle.fleet_step.specs.Steps.{StepRan}
use Rattle.fleet_worker.specs.Finishes.{finish_ends, left_after}
use Rattle.fleet_worker.specs.Workers.{IsReady, WorkerParts, live_of}
use Rattle.fleet_worker.proofs.Finishes.{left_ran, left_ready}
use Rattle.fleet_worker.proofs.worker.Worker.take_finished.Goals as goal

pub returns-clause-ran : goal.returns-clause-ran
returns-clause-ran g c =
    let w = c.args.self.now in
    let outputs = c.args.outputs.now in
    let result = c.finishes-ended.result in
    rw c.leave.ensures
    (subst (λ (v : WorkerParts). StepRan (finish_ends outputs (left_after result c.args.job c.args.number v.attempts)) (take_finished c.args.moment (live_of w) c.args.job c.args.number (map table_ids outputs)) (g.S.Store.view c.args.store.now) (g.S.Store.view c.finishes-ended.new.store) result) (sym c.self.view_is)
    (left_ran c.args.moment w c.args.job c.args.number outputs _ _ result c.finishes-ended.ensures))

pub returns-clause-ready : goal.returns-clause-ready
returns-clause-ready g c =
    let result = c.finishes-ended.result in
    let stopped = c.stops-self-inside.result in
    rw c.leave.ensures
    (subst (λ (v : WorkerParts). OnFalse stopped (IsReady (g.S.Store.view c.finishes-ended.new.store) (record v { attempts = left_after result c.args.job c.args.number v.attempts; stopped = stopped }))) (sym c.self.view_is)
    (left_ready c.args.moment c.args.self.now c.args.job c.args.number c.args.outputs.now _ _ stopped (g.met.S.Store.lawful _) c.requires.ready c.requires.fits result c.finishes-ended.ensures c.stops-self-inside.ensures))
