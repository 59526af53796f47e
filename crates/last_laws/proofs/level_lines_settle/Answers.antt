use Rattle.last_laws.proofs.LevelSettles as law
use Rattle.last_laws.proofs.level_lines_settle.Goals as goal

pub returns : goal.returns
returns c = law.level_lines_settle
