use Rattle.std.proofs.Common.{ap, ◌∙◌}
use Rattle.std.proofs.lemmas.Result.{IfOk-weaker}
use Rattle.fleet_jobs.specs.Jobs.{job_of}
use Rattle.script_model.specs.Words.{list_text}
use Rattle.script_model.specs.Replies.{job_text, semicolon}
use Rattle.fleet_text.proofs.Parts.{mapped_twice}
use Rattle.fleet_text.proofs.listings.jobs_listed.Goals as goal

pub returns : goal.returns
returns c = IfOk-weaker c.listed_each_apart.result _ _ (λ text is. is ∙ ap (list_text semicolon) (mapped_twice job_of job_text c.args.jobs.now)) c.listed_each_apart.ensures
