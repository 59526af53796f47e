use Rattle.sched_laws.proofs.Greatest as law
use Rattle.sched_laws.proofs.greatest_id_is_refused.Goals as goal

pub returns : goal.returns
returns c = record { refused = law.greatest_id_is_refused; proposed = law.greatest_id_is_proposed }
