use Rattle.std.proofs.Common.{◌∙◌, ap}
use Rattle.std.proofs.lemmas.Result.{on_ok_weaker}
use Rattle.fleet_jobs.specs.Jobs.{jobs_of}
use Rattle.fleet_book.proofs.Trimmed.{put_job_is}
use Rattle.fleet_book.proofs.job_map.JobMap.insert_new.Goals as goal

pub returns-clause-model : goal.returns-clause-model
returns-clause-model c = on_ok_weaker c.insert.result (λ e. ap jobs_of e ∙ put_job_is c.args.job c.args.self.now c.requires) c.insert.ensures.ok
