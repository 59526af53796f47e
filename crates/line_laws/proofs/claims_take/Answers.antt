use Rattle.line_laws.proofs.ClaimLines as law
use Rattle.line_laws.proofs.claims_take.Goals as goal

pub returns : goal.returns
returns c = law.claims_take
