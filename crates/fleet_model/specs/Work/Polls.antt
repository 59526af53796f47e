-- A poll of a coordinator takes four steps: it frees, commits, adds and opens jobs.
use Rattle.std.specs.Prelude.{ℕ, ◌+◌, ◌-◌, Bool, true, false, not, ◌&&◌, ◌||◌, ◌==◌, if◌then◌else◌, List, [], ◌∷◌, ◌++◌, filter, take, count_by, Option, Some, None, bytes_eq}
use Rattle.std.specs.List.{list_any, concat}
use Rattle.fleet_model.specs.Nodes.{Trees, tree_at}
use Rattle.fleet_model.specs.Jobs.{JobSpec, is_drain, Job, Jobs, Submitted, Running, Compacted, has_status, is_active, changed_jobs, put_job, ids, in_id_order, is_stale}
use Rattle.fleet_model.specs.History.{Step, Join, Move, Drain, PollChange}
use Rattle.fleet_model.specs.Trees.{source_pieces, by_first_key, are_apart, tables_now, stepped_in, horizon_after}
use Rattle.fleet_model.specs.Work.Records.{new_job, to_waiting, to_scheduled, to_completed, to_failed, firsts}
use Rattle.fleet_model.specs.Work.Gates.{submit_gate, commit_gate, is_nonempty}
pub use Rattle.fleet_model.specs.Work.PollStates.{PollOptions, PollInput, PollState, poll_begun, view_of, accepts}

-- Frees the jobs with these ids, so that they wait for a worker again.
abbrev pub with_freed : List ℕ → PollState → PollState
with_freed these p = record p { jobs = changed_jobs to_waiting these p.jobs; freed = these }

-- Step 1 frees the stale jobs, so that they wait for a worker again.
abbrev pub free_stale : PollInput → PollState → PollState
free_stale input p = with_freed (ids (filter (is_stale input.options.timeout input.moment) p.jobs)) p

-- Step 2, for one job. If a rule of the gate failed, the job fails. Otherwise its run replaces its sources.
-- The horizon rises to the cut that the job kept, or to the floor if it kept none, unless it is higher
-- already.
abbrev pub commit_by : (input : PollInput) (job : Job) (rule : Option ℕ) (p : PollState) → PollState
commit_by input job (Some rule) p = record p {
  jobs = changed_jobs to_failed (job.id ∷ []) p.jobs;
  lost = p.lost ++ (job.id, rule) ∷ [];
}
commit_by input job None p = record p {
  trees = stepped_in input.tables (Join job.id) job.spec (concat job.outputs) p.trees;
  horizon = horizon_after input.manifest.floor (Join job.id) job.kept_cut p.horizon;
  jobs = changed_jobs to_completed (job.id ∷ []) p.jobs;
  steps = p.steps ++ Join job.id ∷ [];
  done = p.done ++ job.id ∷ [];
}

-- Commits a Compacted job that passes the gate. A job that does not pass fails.
abbrev pub commit_job : PollInput → Job → PollState → PollState
commit_job input job p = commit_by input job (commit_gate p.trees (accepts input p) job) p

-- Takes a step for each job, in order.
abbrev pub each : (Job → PollState → PollState) → Jobs → PollState → PollState
each step [] p = p
each step (job ∷ jobs) p = each step jobs (step job p)

-- Step 2 commits all Compacted jobs that pass the gate. The others fail.
abbrev pub commit_finished : PollInput → PollState → PollState
commit_finished input p = each (commit_job input) (filter (has_status Compacted) p.jobs) p

-- True if both destinations are the same run, or if both jobs are drains and of one segment.
abbrev pub same_target : (destination other : Option ℕ) (same_segment : Bool) → Bool
same_target None None same_segment = same_segment
same_target None (Some b) same_segment = false
same_target (Some a) None same_segment = false
same_target (Some a) (Some b) same_segment = a == b

-- True if the job is active and has the target of the spec: both make the same run, or both are drains of
-- one segment.
abbrev pub clashes : JobSpec → Job → Bool
clashes spec job =
    is_active job && same_target spec.destination job.spec.destination (bytes_eq spec.segment job.spec.segment)

-- Step 3, for one proposal. It is dropped if it clashes with an active job, and becomes a job otherwise.
abbrev pub add_by : (id place : ℕ) (spec : JobSpec) (does_clash : Bool) (p : PollState) → PollState
add_by id place spec true p = record p { dropped = p.dropped ++ place ∷ [] }
add_by id place spec false p = record p {
  jobs = put_job (new_job (id, spec)) p.jobs;
  added = p.added ++ (id, spec) ∷ [];
}

-- Step 3 adds the proposals. An id was drawn for each of them, even for one that is dropped. Their places
-- count on from the given one.
abbrev pub add_drawn : ℕ → List (ℕ × JobSpec) → PollState → PollState
add_drawn place [] p = p
add_drawn place (drawn ∷ others) p =
    add_drawn (place + 1) others (add_by drawn.0 place drawn.1 (list_any (clashes drawn.1) p.jobs) p)

-- The proposals that a poll takes, at most as many as the Running jobs leave room for.
abbrev pub proposals : PollInput → PollState → List JobSpec
proposals input p =
    take (input.options.concurrent - count_by (has_status Running) p.jobs) (input.scheduler.propose (view_of input p))

-- True if step 4 can move a job: moves are allowed, its sources have at least one table, and, in order of
-- first key, each table ends before the next one begins.
abbrev pub can_move : PollInput → Trees → JobSpec → Bool
can_move input trees spec =
    let pieces = by_first_key input.tables (source_pieces spec.sources (tree_at spec.segment trees)) in
    input.options.moves && is_nonempty pieces && are_apart input.tables pieces

-- The jobs whose commits failed by the scheduler's rule, which is rule 0.
abbrev pub lost_to_scheduler : List (ℕ × ℕ) → List ℕ
lost_to_scheduler lost = firsts (filter (λ l. l.1 == 0) lost)

-- Takes a step on the trees that completes the job at once.
abbrev pub at_once : (input : PollInput) (step : Step) (job : Job) (p : PollState) → PollState
at_once input step job p = record p {
  trees = stepped_in input.tables step job.spec [] p.trees;
  jobs = changed_jobs to_completed (job.id ∷ []) p.jobs;
  steps = p.steps ++ step ∷ [];
}

-- Drains the sources of a job, which completes the job at once.
abbrev pub drain_job : PollInput → Job → PollState → PollState
drain_job input job p = let q = at_once input (Drain job.id) job p in record q { drained = q.drained ++ job.id ∷ [] }

-- Moves the tables of a job's sources, which completes the job at once.
abbrev pub move_job : PollInput → Job → PollState → PollState
move_job input job p = let q = at_once input (Move job.id) job p in record q { moved = q.moved ++ job.id ∷ [] }

-- Opens a job with the tables that its sources have now. The job then waits for a worker.
abbrev pub schedule_job : Job → PollState → PollState
schedule_job job p = record p {
  jobs = changed_jobs (to_scheduled (tables_now p.trees)) (job.id ∷ []) p.jobs;
  opened = p.opened ++ job.id ∷ [];
}

-- Step 4, for one job. If a rule of the gate failed, the job fails. Otherwise it is drained, moved or
-- opened.
abbrev pub open_by : (input : PollInput) (job : Job) (rule : Option ℕ) (p : PollState) → PollState
open_by input job (Some rule) p = record p {
  jobs = changed_jobs to_failed (job.id ∷ []) p.jobs;
  refused = p.refused ++ (job.id, rule) ∷ [];
}
open_by input job None p =
    if is_drain job.spec then drain_job input job p
    else (if can_move input p.trees job.spec then move_job input job p else schedule_job job p)

-- Opens, moves or drains a submitted job that passes the gate. A job that does not pass fails.
abbrev pub open_job : PollInput → Job → PollState → PollState
open_job input job p = open_by input job (submit_gate p.trees p.jobs (lost_to_scheduler p.lost) (accepts input p) job) p

-- Step 4 opens, moves or drains all submitted jobs that pass the gate. The others fail.
abbrev pub open_submitted : PollInput → PollState → PollState
open_submitted input p = each (open_job input) (filter (has_status Submitted) p.jobs) p

-- The state after the poll of a coordinator that only commits: it takes step 2 alone.
unfoldable pub committed_poll : PollInput → PollState
committed_poll input = commit_finished input (poll_begun input.manifest.trees input.manifest.horizon input.records.jobs)

-- The change of the records that a poll puts. The completed and the failed jobs are by rising id.
abbrev pub change_of : PollState → PollChange
change_of p = record {
  freed = p.freed;
  completed = in_id_order (p.done ++ p.moved ++ p.drained);
  failed = in_id_order (firsts p.lost ++ firsts p.refused);
  added = p.added;
  scheduled = p.opened;
}

-- True if the change names no job.
abbrev pub is_nothing : PollChange → Bool
is_nothing c =
    not (is_nonempty c.freed || is_nonempty c.completed || is_nonempty c.failed || is_nonempty (firsts c.added)
    || is_nonempty c.scheduled)
