-- What versioned records show.
use Rattle.std.specs.Prelude.{ℕ}
use Rattle.fleet_book.specs.declared.compactions.Compactions.{Compactions}

-- What a `VersionedCompactions` shows: the version, and the records of all jobs with their epoch.
pub record VersionedRecords : Type 0 where
  pub id : ℕ
  pub compactions : Compactions
