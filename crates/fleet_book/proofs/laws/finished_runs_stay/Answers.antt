use Rattle.fleet_book.proofs.FinishedRuns as law
use Rattle.fleet_book.proofs.laws.finished_runs_stay.Goals as goal

pub returns : goal.returns
returns c = law.finished_runs_stay
