-- Records of jobs, and the jobs of the model that they stand for.
use Rattle.std.specs.Prelude.{ℕ, Bool, not, List, [], ◌++◌, flat_map, map, option_map, Option, None}
use Rattle.fleet_model.specs.Jobs.{Job, Jobs, is_finished}
use Rattle.fleet_jobs.specs.Parts.ContextParts.{ContextParts}
use Rattle.fleet_tree.specs.declared.handle.SsTableHandle.{SsTableHandle}
use Rattle.fleet_jobs.specs.Contexts.{context_of, ranges_in, table_ids}
use Rattle.fleet_jobs.specs.Parts.JobParts.{JobParts}
use Rattle.fleet_jobs.specs.Specs.{spec_of}
use Rattle.fleet_jobs.specs.Status.{status_of}
use Rattle.fleet_jobs.specs.Workers.{lease_of}
use Rattle.fleet_jobs.specs.declared.spec.CompactionSpec.{CompactionSpec}
use Rattle.fleet_jobs.specs.declared.status.CompactionStatus.{CompactionStatus}
use Rattle.fleet_jobs.specs.declared.status.CompactionStatus.TheVariants as own

-- The model's job with the contents of a record. The model has no count of processed bytes.
abbrev pub job_of : JobParts → Job
job_of job = record {
  id = job.id;
  spec = spec_of job.spec;
  status = status_of job.status;
  lease = option_map lease_of job.worker;
  attempt = job.attempt;
  source_tables = job.source_tables;
  context = option_map context_of job.ctx;
  outputs = map table_ids job.outputs;
  kept_cut = job.cut;
}

-- The model's jobs with the contents of these records.
abbrev pub jobs_of : List JobParts → Jobs
jobs_of jobs = map job_of jobs

-- The record of a job that is submitted.
abbrev pub fresh_job : ℕ → CompactionSpec → JobParts
fresh_job id spec = record {
  id = id;
  spec = spec;
  bytes_processed = 0;
  status = own.Submitted;
  worker = None;
  attempt = 0;
  source_tables = [];
  ctx = None;
  outputs = [];
  cut = None;
}

-- The context of a job that gets this status. A job that fails loses its context.
abbrev pub context_under : CompactionStatus → Option ContextParts → Option ContextParts
context_under own.Submitted ctx = ctx
context_under own.Scheduled ctx = ctx
context_under own.Running ctx = ctx
context_under own.Compacted ctx = ctx
context_under own.Completed ctx = ctx
context_under own.Failed ctx = None

-- The record with this status. A job that fails loses its context.
abbrev pub with_status : CompactionStatus → JobParts → JobParts
with_status status job = record job { status = status; ctx = context_under status job.ctx }

-- True if the job is not over.
abbrev pub is_open : JobParts → Bool
is_open job = not (is_finished (status_of job.status))

-- The ids of the jobs, in their order.
abbrev pub job_ids : List JobParts → List ℕ
job_ids jobs = map (λ job. job.id) jobs

-- The tables that the record of a job names: first those of its context, and then those that it wrote.
abbrev pub job_handles : JobParts → List SsTableHandle
job_handles job = flat_map (λ range. range.output_ssts) (ranges_in job.ctx) ++ flat_map (λ tables. tables) job.outputs
