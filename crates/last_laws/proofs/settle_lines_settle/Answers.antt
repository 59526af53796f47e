use Rattle.last_laws.proofs.SettleLines as law
use Rattle.last_laws.proofs.settle_lines_settle.Goals as goal

pub returns : goal.returns
returns c = law.settle_lines_settle
