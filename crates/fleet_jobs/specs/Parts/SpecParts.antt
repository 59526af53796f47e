-- What specs of jobs show.
use Rattle.std.specs.Prelude.{ℕ, List}
use Rattle.fleet_jobs.specs.declared.source_id.SourceId.{SourceId}

-- What a `TieredCompactionSpec` shows: the prefix of a segment, the sources, and the id of the run that is
-- made of them.
pub record TieredSpec : Type 0 where
  pub segment : List ℕ
  pub sources : List SourceId
  pub destination : ℕ

-- What a `DrainSegmentSpec` shows: the prefix of a segment, and the sources that are dropped.
pub record DrainSpec : Type 0 where
  pub segment : List ℕ
  pub sources : List SourceId
