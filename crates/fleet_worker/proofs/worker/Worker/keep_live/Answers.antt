use Rattle.std.proofs.Common.{rules, ◌∙◌, ap}
use Rattle.std.proofs.lemmas.Fn.{filter_same}
use Rattle.fleet_model.specs.Work.Parties.{is_live}
use Rattle.fleet_jobs.specs.Jobs.{jobs_of}
use Rattle.fleet_store.specs.Records.{jobs_or_none}
use Rattle.fleet_worker.specs.Beats.{live_parts}
use Rattle.fleet_worker.specs.Workers.{WorkerParts, attempt_of}
use Rattle.fleet_worker.proofs.worker.Worker.keep_live.Goals as goal

pub returns : goal.returns
returns c =
    let jobs = jobs_or_none c.args.got.now in
    let kept = filter_same _ (λ a. is_live (jobs_of jobs) c.self.inside.id (attempt_of a)) _ (λ x b f called. search rules) _ _ c.retain.ensures.filtered in
    let of = c.into_vec-attempts.ensures ∙ c.take.ensures.all in
    ap (λ (w : WorkerParts). record w { attempts = c.from_vec.result }) c.self.view_is
    ∙ ap (λ a. record c.args.self.now { attempts = a }) (c.from_vec.ensures ∙ (kept ∙ (ap (live_parts jobs c.self.inside.id) of ∙ ap (λ (w : WorkerParts). live_parts jobs w.number w.attempts) c.self.view_is)))
