-- The parts of a program's spec, and the spec of the model that has them.
use Rattle.std.specs.Prelude.{ℕ, List, map, Option, Some, None}
use Rattle.fleet_model.specs.Jobs.{JobSpec}
use Rattle.fleet_jobs.specs.Sources.{name_of}
use Rattle.fleet_jobs.specs.declared.source_id.SourceId.{SourceId}
use Rattle.fleet_jobs.specs.declared.spec.CompactionSpec.{CompactionSpec}
use Rattle.fleet_jobs.specs.declared.spec.CompactionSpec.TheVariants.{Tiered, DrainSegment}

-- The prefix of the spec's segment.
abbrev pub segment_of : CompactionSpec → List ℕ
segment_of (Tiered spec) = spec.segment
segment_of (DrainSegment spec) = spec.segment

-- The sources that the spec names, in its order.
abbrev pub sources_of : CompactionSpec → List SourceId
sources_of (Tiered spec) = spec.sources
sources_of (DrainSegment spec) = spec.sources

-- The id of the run that is made, or None for a drain.
abbrev pub destination_of : CompactionSpec → Option ℕ
destination_of (Tiered spec) = Some spec.destination
destination_of (DrainSegment spec) = None

-- The model's spec with the contents of a program's spec.
abbrev pub spec_of : CompactionSpec → JobSpec
spec_of spec =
    record { segment = segment_of spec; sources = map name_of (sources_of spec); destination = destination_of spec }
