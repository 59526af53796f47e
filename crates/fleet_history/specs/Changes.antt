-- Changes of the manifest and of the records as the model has them.
use Rattle.std.specs.Prelude.{ℕ, List, map}
use Rattle.fleet_model.specs.History as model
use Rattle.fleet_model.specs.Jobs.{JobSpec}
use Rattle.fleet_jobs.specs.Specs.{spec_of}
use Rattle.fleet_jobs.specs.declared.spec.CompactionSpec.{CompactionSpec}
use Rattle.fleet_history.specs.declared.manifest_change.Step.{Step}
use Rattle.fleet_history.specs.declared.manifest_change.Step.TheVariants.{Join, Move, Drain}
use Rattle.fleet_history.specs.declared.manifest_change.ManifestChange.{ManifestChange}
use Rattle.fleet_history.specs.declared.manifest_change.ManifestChange.TheVariants as manifest
use Rattle.fleet_history.specs.declared.record_change.PollChange.{PollChange}
use Rattle.fleet_history.specs.declared.record_change.RecordChange.{RecordChange}
use Rattle.fleet_history.specs.declared.record_change.RecordChange.TheVariants as records

-- The model's step.
abbrev pub step_of : Step → model.Step
step_of (Join job) = model.Join job
step_of (Move job) = model.Move job
step_of (Drain job) = model.Drain job

-- The model's change of the manifest.
abbrev pub manifest_change_of : ManifestChange → model.ManifestChange
manifest_change_of (manifest.Epoch epoch) = model.ManifestEpoch epoch
manifest_change_of (manifest.Flush name segment floor tick) = model.Flush name segment floor tick
manifest_change_of (manifest.Commit steps) = model.Commit (map step_of steps)

-- The ids and the model's specs of new jobs.
abbrev pub new_specs : List (ℕ × CompactionSpec) → List (ℕ × JobSpec)
new_specs specs = map (λ new. (new.0, spec_of new.1)) specs

-- The model's change by a poll.
abbrev pub poll_change_of : PollChange → model.PollChange
poll_change_of change = record {
  freed = change.freed;
  completed = change.completed;
  failed = change.failed;
  added = new_specs change.added;
  scheduled = change.scheduled;
}

-- The model's change of the records.
abbrev pub record_change_of : RecordChange → model.RecordChange
record_change_of (records.Epoch epoch) = model.RecordsEpoch epoch
record_change_of (records.Submit specs) = model.Submit (new_specs specs)
record_change_of (records.Claim worker attempts) = model.Claim worker attempts
record_change_of (records.Beat worker attempts) = model.Beat worker attempts
record_change_of (records.Finish worker job attempt outputs) = model.Finish worker job attempt outputs
record_change_of (records.Release worker attempts) = model.Release worker attempts
record_change_of (records.Poll change) = model.Polled (poll_change_of change)
