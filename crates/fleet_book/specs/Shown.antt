-- What a view shows of a coordinator's state.
use Rattle.std.specs.Prelude.{◌≡◌, ℕ, ◌==◌, false, filter, List, Option, Some}
use Rattle.fleet_jobs.specs.Parts.JobParts.{JobParts}
use Rattle.fleet_jobs.specs.Jobs.{is_open}
use Rattle.fleet_book.specs.Records.{AreRising, record_with}
use Rattle.fleet_book.specs.StateParts.{StateParts}
use Rattle.fleet_book.specs.VersionedRecords.{VersionedRecords}
use Rattle.fleet_book.specs.Versions.{with_jobs}
use Rattle.fleet_book.specs.declared.view.CompactorStateView.{CompactorStateView}

-- The records that are shown have the version and the epoch of these records, and the same jobs that are not over.
pub record ShowsRecords (shown : Option VersionedRecords) (own : VersionedRecords) : Type 0 where
  pub jobs : List JobParts
  pub is : shown ≡ Some (with_jobs jobs own)
  pub still_open : filter is_open jobs ≡ filter is_open own.compactions.jobs

-- The view shows the manifest, and the jobs that are not over. It may show jobs that are over beside them.
pub record Shows (view : CompactorStateView) (state : StateParts) : Type 0 where
  pub manifest : view.manifest ≡ state.manifest
  pub records : ShowsRecords view.compactions state.compactions

-- The records that are shown were those of a state in which each job but the one with this id was as it is now.
pub record ShowedRecords (id : ℕ) (shown : Option VersionedRecords) (own : VersionedRecords) : Type 0 where
  pub before : VersionedRecords
  pub rising : AreRising before.compactions.jobs
  pub shows : ShowsRecords shown before
  pub others : (other : ℕ) → (id == other) ≡ false
      → record_with other own.compactions.jobs ≡ record_with other before.compactions.jobs
