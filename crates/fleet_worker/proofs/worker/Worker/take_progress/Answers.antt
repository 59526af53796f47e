use Rattle.std.proofs.Common.{subst, sym}
use Rattle.std.proofs.lemmas.Result.{err_from_is_err_and}
use Rattle.fleet_worker.specs.Messages.{StaysReady}
use Rattle.fleet_worker.specs.Workers.{WorkerParts}
use Rattle.fleet_worker.proofs.Progress.{progress_ran, progress_wants, stays_ready}
use Rattle.fleet_worker.proofs.worker.Worker.take_progress.Goals as goal

pub returns-in_err-self-inside-clause-ran : goal.returns-in_err-self-inside-clause-ran
returns-in_err-self-inside-clause-ran c = λ view.
    let p = err_from_is_err_and c.from_residual.result c.from_residual.ensures.1 in
    rw (p.1, p.2, c.in_err-self-inside.ensures.memory) (progress_wants c.args.self.now c.args.job c.args.number c.args.ctx c.args.self.now.attempts view)

pub returns-clause-ran : goal.returns-clause-ran
returns-clause-ran c = λ view. rw c.in_ok-self-inside.ensures.next (progress_ran c.args.self.now c.args.job c.args.number c.args.ctx view)

pub returns-clause-ready : goal.returns-clause-ready
returns-clause-ready c =
    let w = c.args.self.now in
    subst (λ (v : WorkerParts). StaysReady w c.args.job c.args.number c.args.ctx (record v { attempts = c.in_ok-self-inside.field-0 })) (sym c.self.view_is)
    (subst (λ next. StaysReady w c.args.job c.args.number c.args.ctx (record w { attempts = next })) (sym c.in_ok-self-inside.ensures.next) (stays_ready w c.args.job c.args.number c.args.ctx))
