-- Workers and their releases as the model has them.
use Rattle.fleet_model.specs.Jobs.{Lease, Release, One, Two}
use Rattle.fleet_jobs.specs.declared.release.Release as own
use Rattle.fleet_jobs.specs.declared.release.Release.TheVariants as variant
use Rattle.fleet_jobs.specs.declared.worker_spec.WorkerSpec.{WorkerSpec}

-- The model's lease of a worker on its job.
abbrev pub lease_of : WorkerSpec → Lease
lease_of worker = record { worker = worker.worker_id; heartbeat = worker.last_heartbeat_ms }

-- The model's release.
abbrev pub release_of : own.Release → Release
release_of variant.One = One
release_of variant.Two = Two
