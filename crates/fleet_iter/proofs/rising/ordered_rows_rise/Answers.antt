use Rattle.fleet_iter.proofs.RisingRows as law
use Rattle.fleet_iter.proofs.rising.ordered_rows_rise.Goals as goal

pub returns : goal.returns
returns c = law.ordered_rows_rise
