-- The lines by which a worker claims jobs, sends heartbeats, writes tables, finishes jobs and
-- stops.
use Rattle.std.specs.Prelude.{ℕ, List, [], ◌∷◌, Option, codes}
use Rattle.row_model.specs.Ranges.{Range}
use Rattle.fleet_model.specs.History.{Worker, Kill}
use Rattle.fleet_model.specs.Work.Parties.{Attempt, LiveWorker, Parties, worker_with, without_worker, with_worker, without_attempts}
use Rattle.step_model.specs.Courses.Course.{Course}
use Rattle.step_model.specs.Courses.StepEnds.{StepEnd}
use Rattle.step_model.specs.Steps.ClaimSteps.{WorkerOptions, claim}
use Rattle.step_model.specs.Steps.BeatSteps.{heartbeat, release_all}
use Rattle.step_model.specs.Steps.OutputSteps.{OutputAsk, output}
use Rattle.step_model.specs.Steps.FinishSteps.{FinishAsk, finish}
use Rattle.script_model.specs.Replies.{reply, jobs_text, claim_reply, beat_reply, output_reply, ranges_text}
use Rattle.script_model.specs.LineRuns.{LineCourse, no_such_party, if_some, step_line, noted_line, line_end}
use Rattle.script_model.specs.States.{Inputs, State, FleetOptions}

-- A line of the live worker of this number. If there is none, the reply is nosuchparty.
abbrev pub at_worker : ℕ → State → (LiveWorker → LineCourse) → LineCourse
at_worker n s act = if_some (worker_with n s.parties) (no_such_party s) act

-- The options of a worker, as the fleet's options set them.
abbrev pub worker_options : FleetOptions → WorkerOptions
worker_options o = record {
  slots = o.slots;
  most_ranges = o.ranges;
  table_size = o.table_size;
  retention = o.retention;
}

-- The live parties after the worker's attempts were replaced by these.
abbrev pub parties_running : LiveWorker → State → List Attempt → Parties
parties_running w s attempts = with_worker (record w { attempts = attempts }) s.parties

-- A line that does one step of a worker. After a report the worker runs the attempts that the step
-- reports. After a refusal it runs the attempts of `refused`. If a fault strikes a call, the worker
-- is no longer live.
abbrev pub worker_line : {A : Type 0} → (w : LiveWorker) (s : State) (step : Course (StepEnd A)) (spell : A → List ℕ)
    (reported : A → List Attempt) (refused : List Attempt) → LineCourse
worker_line w s step spell reported refused =
    step_line (Worker w.number) step
    (line_end spell (λ report. parties_running w s (reported report)) (parties_running w s refused))
    (without_worker w.number s.parties)

-- The worker claims jobs.
abbrev pub claim_line : ℕ → State → LineCourse
claim_line n s =
    at_worker n s
    (λ w. worker_line w s (claim (worker_options s.options) s.moment w) (λ r. claim_reply r.begun r.stopped)
    (λ r. r.attempts) w.attempts)

-- The worker sends a heartbeat.
abbrev pub heartbeat_line : ℕ → State → LineCourse
heartbeat_line n s =
    at_worker n s
    (λ w. worker_line w s (heartbeat s.moment w) (λ r. beat_reply r.beat r.not_owner) (λ r. r.attempts) w.attempts)

-- The worker gives its live attempts back and stops. It is no longer live afterwards.
abbrev pub stop_worker : ℕ → State → LineCourse
stop_worker n s = at_worker n s (λ w.
    let others = without_worker n s.parties in
    noted_line (Worker n) (release_all w) (λ end. Kill (Worker n) ∷ [])
    (line_end (λ jobs. reply (codes "ok" ∷ codes "released" ∷ jobs_text jobs ∷ [])) (λ jobs. others) others) others)

-- The worker's attempts without those at the job of this attempt.
abbrev pub without_attempt : LiveWorker → Attempt → List Attempt
without_attempt w a = without_attempts (a.job ∷ []) w.attempts

-- What the output of a line is asked with, given the worker, its attempt and the attempt's range that
-- the line found.
abbrev pub output_asked : State → (place rows : ℕ) → (refusal : Option (List ℕ))
    → LiveWorker × Attempt × (Range × List ℕ) → OutputAsk
output_asked s place rows refusal found = record {
  moment = s.moment;
  worker = found.0;
  attempt = found.1;
  place = place;
  range = found.2;
  rows = rows;
  refusal = refusal;
}

-- The worker writes the next rows of a range of its attempt. If the operator refuses, the worker
-- gives the attempt back.
abbrev pub output_line : Inputs → State → OutputAsk → LineCourse
output_line inputs s ask = worker_line ask.worker s (output inputs.merge s.store.tables ask)
    (λ r. output_reply r.table) (λ r. r.attempts) (without_attempt ask.worker ask.attempt)

-- What the finish of a line is asked with, given the worker and its attempt that the line found.
abbrev pub finish_asked : State → (refusal : Option (List ℕ)) → LiveWorker × Attempt → FinishAsk
finish_asked s refusal found = record {
  moment = s.moment;
  worker = found.0;
  attempt = found.1;
  table_size = s.options.table_size;
  refusal = refusal;
}

-- The worker writes all rows that are left of each range and ends the job. If the operator refuses,
-- the worker gives the attempt back.
abbrev pub finish_line : Inputs → State → FinishAsk → LineCourse
finish_line inputs s ask = worker_line ask.worker s (finish inputs.merge s.store.tables ask)
    (λ r. reply (codes "ok" ∷ ranges_text r.outputs ∷ [])) (λ r. r.attempts) (without_attempt ask.worker ask.attempt)
