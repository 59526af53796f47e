use Rattle.fleet_run.proofs.Runs.{runs_nothing}
use Rattle.fleet_run.proofs.program.run_source.Goals as goal

pub returns-in-Err-Memory-clause-memory : goal.returns-in-Err-Memory-clause-memory
returns-in-Err-Memory-clause-memory g c = λ _. runs_nothing _ _ _ _ _ c.in-Err-Memory.ensures.front
