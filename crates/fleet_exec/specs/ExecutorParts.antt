-- What an `Executor` shows.
use Rattle.std.specs.Prelude.{Bool, List}
use Rattle.fleet_jobs.specs.Parts.ContextParts.{ContextParts}
use Rattle.fleet_exec.specs.declared.args.StartCompactionJobArgs.{StartCompactionJobArgs}

-- An active job: the arguments that it was started with, and its context with the tables that were added so
-- far.
pub record ActiveParts : Type 0 where
  pub args : StartCompactionJobArgs
  pub ctx : ContextParts

-- The active jobs by rising id, and whether the executor was stopped.
pub record ExecutorParts : Type 0 where
  pub jobs : List ActiveParts
  pub stopped : Bool
