use Rattle.last_laws.proofs.ScriptSweeps as law
use Rattle.last_laws.proofs.scripts_sweep_clean.Goals as goal

pub returns : goal.returns
returns c = law.scripts_sweep_clean
