use Rattle.rival_laws.proofs.Runs as law
use Rattle.rival_laws.proofs.others_run.Goals as goal

pub returns : goal.returns
returns c = law.others_run_steps
