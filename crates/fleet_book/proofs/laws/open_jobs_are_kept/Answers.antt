use Rattle.fleet_book.proofs.Trims as law
use Rattle.fleet_book.proofs.laws.open_jobs_are_kept.Goals as goal

pub returns : goal.returns
returns c = law.open_jobs_are_kept
