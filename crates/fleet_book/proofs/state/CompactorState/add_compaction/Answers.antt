use Rattle.std.proofs.Common.{◌∙◌, ap}
use Rattle.std.proofs.lemmas.Result.{on_ok_weaker}
use Rattle.fleet_model.specs.Jobs.{put_job}
use Rattle.fleet_jobs.specs.Jobs.{job_of, jobs_of}
use Rattle.fleet_book.specs.Records.{record_with}
use Rattle.fleet_book.specs.States.{own_jobs}
use Rattle.fleet_book.proofs.Trimmed.{put_job_is}
use Rattle.fleet_book.proofs.state.CompactorState.add_compaction.Goals as goal

pub returns-clause-model : goal.returns-clause-model
returns-clause-model c =
    let new = c.args.compaction in
    let own = c.self.inside.compactions.compactions.jobs in
    let free = ap (λ s. record_with new.id (own_jobs s)) c.self.view_is ∙ c.requires in
    on_ok_weaker c.insert.result (λ e. ap (λ r. jobs_of r.compactions.jobs) e ∙ put_job_is new own free ∙ ap (λ s. put_job (job_of new) (jobs_of (own_jobs s))) c.self.view_is) c.insert.ensures.ok
