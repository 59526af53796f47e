use Rattle.std.proofs.Common.{subst, sym}
use Rattle.std.specs.Bool.{OnFalse}
use Rattle.fleet_worker.specs.Finishing.{FinishRan, left_finished}
use Rattle.fleet_worker.specs.Workers.{IsReady, WorkerParts}
use Rattle.fleet_worker.proofs.FinishEnds.{finished_ready, left_ran}
use Rattle.fleet_worker.proofs.worker.Worker.finish.Goals as goal

pub returns-clause-ran : goal.returns-clause-ran
returns-clause-ran g c =
    let w = c.args.self.now in
    let size = c.args.options.now.max_sst_size in
    let old = g.S.Store.view c.args.store.now in
    let new = g.S.Store.view c.writes_and_ends-ended.new.store in
    let result = c.writes_and_ends-ended.result in
    let stopped = c.stops-self-inside.result in
    rw c.leave_finished.ensures
    (subst (λ (v : WorkerParts). FinishRan c.args.moment w size old new (left_finished result c.args.job v.attempts) result c.args.job) (sym c.self.view_is)
    (left_ran c.args.moment w c.args.job size old new (g.met.S.Store.lawful _) c.requires.ready stopped result c.writes_and_ends-ended.ensures.ran))

pub returns-clause-ready : goal.returns-clause-ready
returns-clause-ready g c =
    let w = c.args.self.now in
    let size = c.args.options.now.max_sst_size in
    let old = g.S.Store.view c.args.store.now in
    let new = g.S.Store.view c.writes_and_ends-ended.new.store in
    let result = c.writes_and_ends-ended.result in
    let stopped = c.stops-self-inside.result in
    rw c.leave_finished.ensures
    (subst (λ (v : WorkerParts). OnFalse stopped (IsReady new (record v { attempts = left_finished result c.args.job v.attempts; stopped = stopped }))) (sym c.self.view_is)
    (finished_ready c.args.moment w c.args.job size old new (g.met.S.Store.lawful _) c.requires.ready stopped result c.writes_and_ends-ended.ensures.ran c.stops-self-inside.ensures))
