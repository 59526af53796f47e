use Rattle.fleet_book.proofs.Trims as law
use Rattle.fleet_book.proofs.laws.last_over_jobs_are_kept.Goals as goal

pub returns : goal.returns
returns c = law.last_over_jobs_are_kept
