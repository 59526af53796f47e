use Rattle.line_laws.proofs.ClaimSettings as law
use Rattle.line_laws.proofs.claims_give_settings.Goals as goal

pub returns : goal.returns
returns c = law.claims_give_settings
