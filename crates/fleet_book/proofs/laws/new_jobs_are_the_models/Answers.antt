use Rattle.fleet_book.proofs.Trimmed as law
use Rattle.fleet_book.proofs.laws.new_jobs_are_the_models.Goals as goal

pub returns : goal.returns
returns c = law.put_job_is
