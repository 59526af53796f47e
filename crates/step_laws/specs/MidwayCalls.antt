-- The calls that lead from a fresh store to the store of the module Midway. They are the calls of a
-- writer, a submitter, a coordinator and two workers. Only the last one is struck by a fault.
use Rattle.std.specs.Prelude.{ℕ, false, List, [], ◌∷◌, ◌++◌, pos, Option, Some, None}
use Rattle.row_model.specs.Ranges.{all_keys}
use Rattle.row_model.specs.Fold.{Operator}
use Rattle.fleet_model.specs.Nodes.{table_rows}
use Rattle.fleet_model.specs.Jobs.{Context, Job, Jobs, Lease, Status, Scheduled, Running, Completed}
use Rattle.fleet_model.specs.History.{Party, Writer, Submitter, Coordinator, Worker, Sweeper, GetManifest, Plan, ManifestEpoch, Flush, Commit, Join, RecordsEpoch, Submit, Polled, Claim, Beat, Finish}
use Rattle.fleet_model.specs.Store.{fresh_store}
use Rattle.fleet_model.specs.Trees.{empty_segment}
use Rattle.fleet_model.specs.Work.Records.{new_job}
use Rattle.fleet_model.specs.Exchanges.{Exchange, Plain, DrawsJob, DrawsTable, PutsTable, PutsManifest, PutsRecords}
use Rattle.step_model.specs.Past.{fresh_world}
use Rattle.step_model.specs.Rivals.{Caller, RivalCall, RivalsFrom}
use Rattle.step_laws.specs.Midway.{prefix, published_table, made_table, tables, spec, context, running_job, compacted_job, jobs, side, flushed_root, twice_flushed_root, joined_root, manifest, poll, midway_world}

-- ---- the jobs that the calls put

-- The lease of a worker whose last heartbeat came at this moment.
abbrev pub lease : (worker moment : ℕ) → Option Lease
lease worker moment = Some (record { worker = worker; heartbeat = moment })

-- Job 1 since it was opened, with this status, lease, attempt and context.
abbrev pub one_job : (status : Status) (held : Option Lease) (attempt : ℕ) (noted : Option Context) → Job
one_job status held attempt noted =
    record running_job { status = status; lease = held; attempt = attempt; context = noted }

-- Job 2 from its opening to its finish, with this status, lease and attempt.
abbrev pub two : Status → Option Lease → ℕ → Job
two status held attempt = record compacted_job {
  status = status;
  lease = held;
  attempt = attempt;
  outputs = [];
  kept_cut = None;
}

-- The jobs after each change.
abbrev pub submitted_jobs : Jobs
submitted_jobs = new_job (1, spec prefix 1 0) ∷ new_job (2, spec [] 2 1) ∷ []

abbrev pub opened_jobs : Jobs
opened_jobs = one_job Scheduled None 0 None ∷ two Scheduled None 0 ∷ []

abbrev pub taken_jobs_now : Jobs
taken_jobs_now = one_job Running (lease 1 500) 1 None ∷ two Scheduled None 0 ∷ []

abbrev pub beaten_jobs : Jobs
beaten_jobs = one_job Running (lease 1 600) 1 (Some context) ∷ two Scheduled None 0 ∷ []

abbrev pub both_claimed : Jobs
both_claimed = one_job Running (lease 1 600) 1 (Some context) ∷ two Running (lease 2 700) 1 ∷ []

abbrev pub freed_jobs : Jobs
freed_jobs = one_job Scheduled None 1 (Some context) ∷ two Running (lease 2 700) 1 ∷ []

abbrev pub retaken_jobs : Jobs
retaken_jobs = running_job ∷ two Running (lease 2 700) 1 ∷ []

-- The jobs of the put that was lost.
abbrev pub completed_jobs : Jobs
completed_jobs = running_job ∷ record compacted_job { status = Completed } ∷ []

-- ---- the calls

-- A call that no fault strikes.
abbrev pub call : ℕ → Party → Exchange → RivalCall
call line party exchange = record { line = line; party = party; exchange = exchange; strike = None }

-- A put of the table with this id.
abbrev pub table_put : ℕ → Exchange
table_put table = PutsTable table (table_rows tables table)

-- The epochs of the coordinator, two flushes, and the draws for two jobs.
abbrev pub first_calls : List RivalCall
first_calls =
    call 1 (Coordinator 1) (PutsManifest 1 (ManifestEpoch 1) (record fresh_store.manifest { epoch = 1 }))
    ∷ call 1 (Coordinator 1) (PutsRecords 0 (RecordsEpoch 1) 1 [])
    ∷ call 2 Writer (table_put 1)
    ∷ call 2 Writer (PutsManifest 2 (Flush 1 prefix 2 (pos 0)) (manifest 2 (empty_segment [] ∷ side ∷ []) 2 0))
    ∷ call 3 Writer (table_put 2)
    ∷ call 3 Writer (PutsManifest 3 (Flush 2 [] 4 (pos 0)) (manifest 3 (flushed_root ∷ side ∷ []) 4 0))
    ∷ call 4 Submitter (DrawsJob 0)
    ∷ call 4 Submitter (DrawsJob 0)
    ∷ []

-- Both jobs are submitted and opened.
abbrev pub opening_calls : List RivalCall
opening_calls =
    call 4 Submitter (PutsRecords 1 (Submit ((1, spec prefix 1 0) ∷ (2, spec [] 2 1) ∷ [])) 1 submitted_jobs)
    ∷ call 5 (Coordinator 1) (PutsRecords 2 (Polled (poll [] [] (1 ∷ 2 ∷ []))) 1 opened_jobs)
    ∷ []

-- Worker 1 takes job 1 and puts a table.
abbrev pub claim_calls : List RivalCall
claim_calls =
    call 6 (Worker 1) (PutsRecords 3 (Claim 1 ((1, 1) ∷ [])) 1 taken_jobs_now)
    ∷ call 6 (Worker 1) (Plain GetManifest)
    ∷ call 6 (Worker 1) (Plain (Plan 1 1 (all_keys ∷ [])))
    ∷ call 7 (Worker 1) (DrawsTable 0)
    ∷ call 7 (Worker 1) (table_put published_table)
    ∷ []

-- Worker 1 publishes its table.
abbrev pub beat_calls : List RivalCall
beat_calls = call 8 (Worker 1) (PutsRecords 4 (Beat 1 ((1, 1) ∷ [])) 1 beaten_jobs) ∷ []

-- Worker 2 takes job 2. Then job 1 is freed, and worker 2 takes it too, and puts a table for job 2.
abbrev pub takeover_calls : List RivalCall
takeover_calls =
    call 9 (Worker 2) (PutsRecords 5 (Claim 2 ((2, 1) ∷ [])) 1 both_claimed)
    ∷ call 9 (Worker 2) (Plain GetManifest)
    ∷ call 9 (Worker 2) (Plain (Plan 2 1 (all_keys ∷ [])))
    ∷ call 10 (Coordinator 1) (PutsRecords 6 (Polled (poll (1 ∷ []) [] [])) 1 freed_jobs)
    ∷ call 11 (Worker 2) (PutsRecords 7 (Claim 2 ((1, 2) ∷ [])) 1 retaken_jobs)
    ∷ call 11 (Worker 2) (Plain GetManifest)
    ∷ call 12 (Worker 2) (DrawsTable 0)
    ∷ call 12 (Worker 2) (table_put made_table)
    ∷ []

-- Worker 2 finishes job 2. Flush 3 comes, the run is joined, and the put of the records is lost.
abbrev pub last_calls : List RivalCall
last_calls =
    call 13 (Worker 2) (PutsRecords 8 (Finish 2 2 1 ((made_table ∷ []) ∷ [])) 1 jobs)
    ∷ call 14 Writer (table_put 3)
    ∷ call 14 Writer (PutsManifest 4 (Flush 3 [] 5 (pos 0)) (manifest 4 (twice_flushed_root ∷ side ∷ []) 5 0))
    ∷ call 15 (Coordinator 1) (PutsManifest 5 (Commit (Join 2 ∷ [])) (manifest 5 (joined_root ∷ side ∷ []) 5 4))
    ∷ record {
      line = 15;
      party = Coordinator 1;
      exchange = PutsRecords 9 (Polled (poll [] (2 ∷ []) [])) 1 completed_jobs;
      strike = Some false;
    }
    ∷ []

-- All calls, in their order.
abbrev pub midway_calls : List RivalCall
midway_calls = first_calls ++ opening_calls ++ claim_calls ++ beat_calls ++ takeover_calls ++ last_calls

-- A sweeper, which makes no call while the others call.
abbrev pub sweeper : Operator → Caller
sweeper merge = record { merge = merge; line = 0; party = Sweeper; alone = false }

-- Each of these calls is lawful where it comes, and together they lead from a fresh store to the
-- store in the midst of its jobs. To a sweeper they are calls of others.
abbrev pub MidwayIsReached : Operator → Type 0
MidwayIsReached merge = RivalsFrom (sweeper merge) midway_calls fresh_world midway_world
