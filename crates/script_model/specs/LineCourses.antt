-- The course of each line of a script.
use Rattle.std.specs.Prelude.{ℕ, ◌-◌, List, Option, Some, None, slice_get, find, ◌==◌}
use Rattle.std.specs.Option.{unwrap_or}
use Rattle.row_model.specs.Ranges.{Range}
use Rattle.fleet_model.specs.Jobs.{number_of}
use Rattle.fleet_model.specs.Work.Parties.{Attempt, LiveWorker, worker_with}
use Rattle.script_model.specs.Script.{Line, Options, Clock, StartCoordinator, StartWorker, KillCoordinator, KillWorker, StopCoordinator, StopWorker, FlushRows, ReadKey, SubmitJob, SubmitDrain, SubmitFull, Poll, CommitOnly, ClaimJobs, Heartbeat, Output, FinishJob, SetFault, ShowTrees, ShowJobs, ShowTables, Dump, Sweep, Scan, Settle, Together}
use Rattle.script_model.specs.Replies.{ok, trees_reply}
use Rattle.script_model.specs.States.{Inputs, State}
use Rattle.script_model.specs.LineRuns.{LineCourse, only_replies, no_such_party, if_some}
use Rattle.script_model.specs.Lines.Starts.{start_coordinator, start_worker, end_coordinator, kill_worker}
use Rattle.script_model.specs.Lines.Flushes.{flush_line}
use Rattle.script_model.specs.Lines.Looks.{read_line, show_tables, dump, show_jobs}
use Rattle.script_model.specs.Lines.Scans.{scan}
use Rattle.script_model.specs.Lines.Submits.{submit_line, full_line}
use Rattle.script_model.specs.Lines.PollLines.{poll_line, commit_line}
use Rattle.script_model.specs.Lines.WorkLines.{claim_line, heartbeat_line, output_asked, output_line, finish_asked, finish_line, stop_worker}
use Rattle.script_model.specs.Lines.Sweeps.{sweep_line}

-- The state in which the line's course runs. Options, Clock and SetFault set the options, the
-- moment or the fault that waits. Other lines change nothing here.
abbrev pub prepared_state : Line → State → State
prepared_state (Options timeout concurrent slots ranges table_size moves retention) s =
    record s {
      options =
          record {
            timeout = timeout;
            concurrent = concurrent;
            slots = slots;
            ranges = ranges;
            table_size = table_size;
            moves = moves;
            retention = unwrap_or retention 0;
          };
    }
prepared_state (Clock moment) s = record s { moment = moment }
prepared_state (SetFault k stands) s = record s { fault = Some (record { k = k; stands = stands }) }
prepared_state _ s = s

-- The attempt at the job of this number. A script names a job by the number of its id, which no two
-- jobs share.
abbrev pub attempt_numbered : ℕ → List Attempt → Option Attempt
attempt_numbered number attempts = find (λ a. number == number_of a.job) attempts

-- The live worker of this number, with the attempt that it runs at the job of this number.
abbrev pub job_at : State → (worker job : ℕ) → Option (LiveWorker × Attempt)
job_at s worker job =
    if_some (worker_with worker s.parties) None (λ w. if_some (attempt_numbered job w.attempts) None (λ a. Some (w, a)))

-- The live worker of this number, the attempt that it runs at the job of this number, and the
-- attempt's range at this place, counted from 1.
abbrev pub range_at : State → (worker job place : ℕ) → Option (LiveWorker × Attempt × (Range × List ℕ))
range_at s worker job place =
    if_some (job_at s worker job) None
    (λ found. if_some (slice_get found.1.context.ranges (place - 1)) None (λ range. Some (found.0, found.1, range)))

-- The course of a line. The message is given if the operator refuses at a line that writes tables.
-- A settle line has this course only if one of its parties is not live; otherwise it is a run of
-- other lines' courses. A together line never has it.
unfoldable pub course_of : (inputs : Inputs) (line : Line) (refusal : Option (List ℕ)) (s : State) → LineCourse
course_of inputs (Options timeout concurrent slots ranges table_size moves retention) refusal s = only_replies s ok
course_of inputs (Clock moment) refusal s = only_replies s ok
course_of inputs (StartCoordinator n) refusal s = start_coordinator n s
course_of inputs (StartWorker n release) refusal s = start_worker n release s
course_of inputs (KillCoordinator n) refusal s = end_coordinator n s
course_of inputs (KillWorker n) refusal s = kill_worker n s
course_of inputs (StopCoordinator n) refusal s = end_coordinator n s
course_of inputs (StopWorker n) refusal s = stop_worker n s
course_of inputs (FlushRows name segment floor tick rows) refusal s = flush_line name segment floor tick rows s
course_of inputs (ReadKey segment key seq now) refusal s = read_line inputs segment key seq now s
course_of inputs (SubmitJob segment destination sources) refusal s =
    submit_line (record { segment = segment; sources = sources; destination = Some destination }) s
course_of inputs (SubmitDrain segment sources) refusal s =
    submit_line (record { segment = segment; sources = sources; destination = None }) s
course_of inputs (SubmitFull segment) refusal s = full_line inputs segment s
course_of inputs (Poll n) refusal s = poll_line inputs n s
course_of inputs (CommitOnly n) refusal s = commit_line inputs n s
course_of inputs (ClaimJobs n) refusal s = claim_line n s
course_of inputs (Heartbeat n) refusal s = heartbeat_line n s
course_of inputs (Output n job place rows) refusal s =
    if_some (range_at s n job place) (no_such_party s)
    (λ found. output_line inputs s (output_asked s place rows refusal found))
course_of inputs (FinishJob n job) refusal s =
    if_some (job_at s n job) (no_such_party s) (λ found. finish_line inputs s (finish_asked s refusal found))
course_of inputs (SetFault k stands) refusal s = only_replies s ok
course_of inputs ShowTrees refusal s = only_replies s (trees_reply s.store.manifest.trees)
course_of inputs ShowJobs refusal s = show_jobs s
course_of inputs (ShowTables segment node) refusal s = show_tables segment node s
course_of inputs (Dump segment node) refusal s = dump segment node s
course_of inputs Sweep refusal s = sweep_line s
course_of inputs (Scan segment from to seq now limit) refusal s = scan inputs segment from to seq now limit s
course_of inputs (Settle coordinator worker rounds) refusal s = no_such_party s
course_of inputs (Together workers turns) refusal s = no_such_party s
