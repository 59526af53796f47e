-- The law on attempts over many lines: as long as a worker runs an attempt, it has what its claim gave it.
use Rattle.std.specs.Prelude.{◌≡◌, ℕ, List, ◌++◌, Some}
use Rattle.fleet_model.specs.Invariants.AttemptsFit.{ContextExtends}
use Rattle.fleet_model.specs.Work.Parties.{Attempt, LiveWorker, attempt_at, worker_with}
use Rattle.script_model.specs.Script.{Line}
use Rattle.script_model.specs.States.{Inputs, State}
use Rattle.line_laws.specs.Scripts.{HasRun, RanFirst}

-- The worker of this number runs this attempt in this state.
pub record DoesRunAt (s : State) (n : ℕ) (a : Attempt) : Type 0 where
  pub worker : LiveWorker
  pub live : worker_with n s.parties ≡ Some worker
  pub runs : attempt_at a.job worker.attempts ≡ Some a

-- One attempt at one job, at two times: its source tables, its settings and its ranges are the same. For each range it
-- still notes what it had noted.
pub record StaysOne (a b : Attempt) : Type 0 where
  pub sources : a.sources ≡ b.sources
  pub context : ContextExtends a.context b.context

-- What a worker runs after some lines of a run and what it runs at the end are one attempt, if they have the same job
-- and the same number. So the settings that a claim gives stay until the attempt ends, whatever lines come between.
abbrev pub AttemptsStayOne : Type 0
AttemptsStayOne = (inputs : Inputs) (first others : List Line) (last : State)
    (run : HasRun inputs (first ++ others) last) (cut : RanFirst inputs first others last run) (n : ℕ) (a b : Attempt)
    → DoesRunAt cut.mid n a → DoesRunAt last n b → a.job ≡ b.job → a.number ≡ b.number → StaysOne a b
