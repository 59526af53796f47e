-- What a poll has reached, as the model has it.
use Rattle.std.specs.Prelude.{◌≡◌, ℕ, ◌==◌, false, List, map, None, if◌then◌else◌}
use Rattle.std.specs.List.{AllByRecursion}
use Rattle.row_model.specs.Lists.{Pairs}
use Rattle.fleet_model.specs.Jobs.{contains}
use Rattle.fleet_model.specs.Nodes.{Trees}
use Rattle.fleet_model.specs.Work.PollStates.{PollState}
use Rattle.fleet_model.specs.Trees.{tables_now}
use Rattle.fleet_tree.specs.Trees.{RunFlushes, trees_of}
use Rattle.fleet_jobs.specs.Parts.JobParts.{JobParts}
use Rattle.fleet_jobs.specs.Jobs.{jobs_of, with_status}
use Rattle.fleet_jobs.specs.Specs.{spec_of}
use Rattle.fleet_jobs.specs.declared.spec.CompactionSpec.{CompactionSpec}
use Rattle.fleet_jobs.specs.declared.status.CompactionStatus.TheVariants as own
use Rattle.fleet_history.specs.Changes.{new_specs, step_of}
use Rattle.fleet_book.specs.Records.{record_with}
use Rattle.fleet_book.specs.StateParts.{StateParts}
use Rattle.fleet_book.specs.States.{own_jobs}
use Rattle.fleet_poll.specs.declared.poll.Poll.{Poll}
use Rattle.fleet_poll.specs.declared.report.PollReport.{PollReport}

-- What the model's poll has reached with the contents of a program's poll. A program does not keep which flushes
-- went into a run, so they are given too.
abbrev pub poll_of : RunFlushes → Poll → PollState
poll_of flushes poll = record {
  trees = trees_of flushes poll.state.manifest.manifest.core;
  horizon = poll.state.manifest.manifest.core.horizon;
  jobs = jobs_of (own_jobs poll.state);
  steps = map step_of poll.steps;
  freed = poll.freed;
  done = poll.committed;
  lost = poll.lost;
  added = new_specs poll.added;
  dropped = poll.dropped;
  opened = poll.opened;
  moved = poll.moved;
  drained = poll.drained;
  refused = poll.refused;
}

-- The record of a job that waits for a worker again.
abbrev pub waiting_record : JobParts → JobParts
waiting_record job = record (with_status own.Scheduled job) { worker = None }

-- The record of a job that failed.
abbrev pub failed_record : JobParts → JobParts
failed_record job = with_status own.Failed job

-- The record of a job that was opened on these trees.
abbrev pub opened_record : Trees → JobParts → JobParts
opened_record trees job = record (with_status own.Scheduled job) {
  source_tables = tables_now trees (spec_of job.spec);
  ctx = None;
}

-- The record of a job after a change of the jobs with these ids.
abbrev pub changed_record : (JobParts → JobParts) → List ℕ → JobParts → JobParts
changed_record change these job = if contains these job.id then change job else job

-- Both states have one manifest, and the records have one version and epoch.
pub record HasSameObjects (old new : StateParts) : Type 0 where
  pub manifest : new.manifest ≡ old.manifest
  pub version : new.compactions.id ≡ old.compactions.id
  pub epoch : new.compactions.compactions.compactor_epoch ≡ old.compactions.compactions.compactor_epoch

-- No id is drawn twice, and no job has one of the ids.
pub record AreNew (drawn : List (ℕ × CompactionSpec)) (jobs : List JobParts) : Type 0 where
  pub once : Pairs (λ a b. (a.0 == b.0) ≡ false) drawn
  pub new : AllByRecursion (λ d. record_with d.0 jobs ≡ None) drawn

-- The report of a poll. A dropped proposal fails rule 9.
abbrev pub report_of : Poll → PollReport
report_of poll = record {
  freed = poll.freed;
  committed = poll.committed;
  lost = poll.lost;
  added = map (λ new. new.0) poll.added;
  dropped = map (λ place. (place, 9)) poll.dropped;
  opened = poll.opened;
  moved = poll.moved;
  drained = poll.drained;
  refused = poll.refused;
}
