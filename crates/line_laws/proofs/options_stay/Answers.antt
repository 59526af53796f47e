use Rattle.line_laws.proofs.OptionLines as law
use Rattle.line_laws.proofs.options_stay.Goals as goal

pub returns : goal.returns
returns c = law.options_stay
