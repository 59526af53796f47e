use Rattle.last_laws.proofs.Rounds as law
use Rattle.last_laws.proofs.counted_rounds_settle.Goals as goal

pub returns : goal.returns
returns c = law.counted_rounds_settle
