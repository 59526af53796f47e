use Rattle.std.proofs.Common.{◌∙◌, ap, subst, sym}
use Rattle.fleet_book.specs.Records.{AreRising}
use Rattle.fleet_book.specs.declared.compactions.Compactions.{Compactions}
use Rattle.fleet_worker.specs.Claims.{part_jobs}
use Rattle.fleet_worker.specs.Workers.{WorkerParts}
use Rattle.fleet_worker.proofs.Claims.{is_choice}
use Rattle.fleet_worker.proofs.worker.Worker.claim_choice.Goals as goal

pub returns-clause-choice : goal.returns-clause-choice
returns-clause-choice c =
    let running = c.in_ok-running.ensures.jobs ∙ ap part_jobs (c.as_slice.ensures ∙ ap (λ (w : WorkerParts). w.attempts) c.self.view_is) in
    let all = c.into_vec-jobs.ensures.jobs ∙ ap (λ (r : Compactions). r.jobs) c.in_ok-jobs.ensures.copy in
    is_choice c.args.options.now c.args.self.now c.args.records.now.jobs c.into_vec-jobs.result.items c.deref.result.now c.claimed_jobs-claimed.result.items c.in_ok-stopped.stopped c.as_slice-3.result.now c.as_slice-2.result.now c.self.inside.release
    (ap (λ (w : WorkerParts). w.release) c.self.view_is) (c.as_slice-3.ensures ∙ running) (c.as_slice-2.ensures ∙ running) all (c.deref.ensures.value ∙ all) (subst AreRising (sym c.into_vec-jobs.ensures.jobs) c.into_vec-jobs.ensures.rising)
    c.claimed_jobs-claimed.ensures c.in_ok-stopped.ensures.jobs
