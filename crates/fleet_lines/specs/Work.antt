-- How a worker writes tables of its jobs and finishes them over the store of a fleet, in a line of a script.
use Rattle.std.specs.Prelude.{◌≡◌, ◌==◌, ℕ, List, find, length, IfOk, IfSome, Option, Some, None, Result}
use Rattle.step_model.specs.Steps.FinishSteps.{finish}
use Rattle.step_model.specs.Steps.OutputSteps.{output, rows_written}
use Rattle.script_model.specs.LineRuns.{if_some}
use Rattle.script_model.specs.Lines.WorkLines.{finish_asked, output_asked}
use Rattle.script_model.specs.Refusals.{FinishMay, OutputMay}
use Rattle.script_model.specs.States.{Inputs, State}
use Rattle.fleet_rows.specs.declared.errors.SlateDBError.{SlateDBError}
use Rattle.fleet_tree.specs.declared.handle.SsTableHandle.{SsTableHandle}
use Rattle.fleet_plan.specs.Parts.{Part}
use Rattle.fleet_jobs.specs.Contexts.{noted_range}
use Rattle.fleet_history.specs.declared.party.Party.TheVariants as party
use Rattle.fleet_store.specs.Memory.{StoreParts}
use Rattle.fleet_finish.specs.Puts.{Outputs}
use Rattle.fleet_worker.specs.Finishing.{all_ends}
use Rattle.fleet_worker.specs.Outputs.{IsPartAt, output_ends}
use Rattle.fleet_worker.specs.Workers.{AttemptParts, WorkerParts, attempt_of, live_of, run_at, run_of_number}
use Rattle.fleet_lines.specs.Steps.{Made}

-- The attempt at the job of this number that the worker of this number runs, if there are both.
abbrev pub attempt_named : List WorkerParts → (worker job : ℕ) → Option AttemptParts
attempt_named workers worker job =
    if_some (find (λ w. worker == w.number) workers) None (λ w. run_of_number w.attempts job)

-- The table of an answer has as many rows as these.
abbrev pub IsCounted : ℕ → Result (Option SsTableHandle) SlateDBError → Type 0
IsCounted rows result = IfOk result (λ answer. IfSome answer (λ handle. handle.rows ≡ rows))

module _ (inputs : Inputs) (s : State) (number : ℕ) (w : WorkerParts) (old new : StoreParts)
    (next : List AttemptParts) where
  -- In this state the worker wrote the next rows of the range at this place of its attempt at the job, or they were
  -- refused as a line may be. After it the worker runs the `next` attempts.
  pub record OutputMade (place rows : ℕ) (result : Result (Option SsTableHandle) SlateDBError) (job : ℕ) : Type 0 where
    pub attempt : AttemptParts
    pub runs : run_at w.attempts job ≡ Some attempt
    pub part : Part
    pub at : IsPartAt attempt place part
    pub refusal : Option (List ℕ)
    pub may : OutputMay inputs s rows (Some (live_of w, attempt_of attempt, noted_range part)) refusal
    pub counted : IsCounted (length (rows_written inputs.merge s.store.tables
        (output_asked s place rows refusal (live_of w, attempt_of attempt, noted_range part)))) result
    pub made : Made
        (output_ends (rows_written inputs.merge s.store.tables
        (output_asked s place rows refusal (live_of w, attempt_of attempt, noted_range part))) next)
        (output inputs.merge s.store.tables
        (output_asked s place rows refusal (live_of w, attempt_of attempt, noted_range part)))
        inputs.merge number (party.Worker w.number) old new result

  -- In this state the worker finished its attempt at the job, or that was refused as a line may be. After it the worker
  -- runs the `next` attempts.
  pub record FinishMade (result : Result Outputs SlateDBError) (job : ℕ) : Type 0 where
    pub attempt : AttemptParts
    pub runs : run_at w.attempts job ≡ Some attempt
    pub refusal : Option (List ℕ)
    pub may : FinishMay inputs s (Some (live_of w, attempt_of attempt)) refusal
    pub made : Made (all_ends next)
        (finish inputs.merge s.store.tables (finish_asked s refusal (live_of w, attempt_of attempt)))
        inputs.merge number (party.Worker w.number) old new result
