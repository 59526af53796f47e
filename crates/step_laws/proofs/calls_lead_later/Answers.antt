use Rattle.step_laws.proofs.Later as law
use Rattle.step_laws.proofs.calls_lead_later.Goals as goal

pub returns : goal.returns
returns c = law.calls_lead
