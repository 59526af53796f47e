use Rattle.fleet_book.proofs.FinishedFlushes as law
use Rattle.fleet_book.proofs.laws.finished_flushes_stay.Goals as goal

pub returns : goal.returns
returns c = law.finished_flushes_stay
