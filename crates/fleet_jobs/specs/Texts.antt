-- The texts that are printed for specs and jobs.
use Rattle.std.specs.Prelude.{ℕ, Bool, false, ◌&&◌, ◌==◌, ◌/◌, ◌%◌, not, nat_le, nat_lt, count_by, length, List, [], ◌∷◌, ◌++◌, flat_map, codes, decimal, bytes_eq, if◌then◌else◌}
use Rattle.std.specs.Fmt.{digits}
use Rattle.fleet_plan.specs.Parts.{Part}
use Rattle.fleet_jobs.specs.Contexts.{ranges_in}
use Rattle.fleet_jobs.specs.Parts.JobParts.{JobParts}
use Rattle.fleet_jobs.specs.Sources.{source_text}
use Rattle.fleet_jobs.specs.declared.source_id.SourceId.{SourceId}
use Rattle.fleet_jobs.specs.declared.spec.CompactionSpec.{CompactionSpec}
use Rattle.fleet_jobs.specs.declared.spec.CompactionSpec.TheVariants.{Tiered, DrainSegment}

-- True if the byte is printable ASCII, and neither a quote nor a backslash.
abbrev pub is_plain : ℕ → Bool
is_plain byte = nat_le 32 byte && nat_le byte 126 && not (byte == 34) && not (byte == 92)

-- A byte of a segment's prefix. It stands as it is if it is plain, and else as two hexadecimal digits.
abbrev pub byte_text : ℕ → List ℕ
byte_text byte =
    if is_plain byte then byte ∷ [] else codes "\\x" ++ digits 16 false (byte / 16) ++ digits 16 false (byte % 16)

-- The prefix of a segment.
abbrev pub segment_text : List ℕ → List ℕ
segment_text segment = codes "[seg=b\"" ++ flat_map byte_text segment ++ codes "\"] "

-- A source in quotes.
abbrev pub quoted_source : SourceId → List ℕ
quoted_source source = codes "\"" ++ source_text source ++ codes "\""

-- The sources in quotes, with commas between them, in brackets.
abbrev pub sources_text : List SourceId → List ℕ
sources_text [] = codes "[]"
sources_text (source ∷ sources) =
    codes "[" ++ quoted_source source ++ flat_map (λ other. codes ", " ++ quoted_source other) sources ++ codes "]"

-- The prefix of a segment, or nothing for the root.
abbrev pub segment_or_root : List ℕ → List ℕ
segment_or_root segment = if bytes_eq segment [] then [] else segment_text segment

-- A spec: its segment, and its sources with the run that is made of them.
abbrev pub spec_text : CompactionSpec → List ℕ
spec_text (Tiered spec) = segment_or_root spec.segment ++ sources_text spec.sources ++ codes " -> SR("
    ++ decimal spec.destination ++ codes ")"
spec_text (DrainSegment spec) = segment_text spec.segment ++ codes "drain " ++ sources_text spec.sources

-- The bytes that a job has processed, if there are any.
abbrev pub bytes_text : ℕ → List ℕ
bytes_text bytes = if nat_lt 0 bytes then codes " (" ++ decimal bytes ++ codes " processed)" else []

-- True if tables were written for the range.
abbrev pub has_output : Part → Bool
has_output range = not (length range.output_ssts == 0)

-- How many of all ranges have tables.
abbrev pub count_text : (with_output all : ℕ) → List ℕ
count_text with_output all =
    codes " [" ++ decimal with_output ++ codes "/" ++ decimal all ++ codes " subcompactions with output]"

-- How many of the ranges have tables, if there are ranges.
abbrev pub ranges_text : List Part → List ℕ
ranges_text ranges = if length ranges == 0 then [] else count_text (count_by has_output ranges) (length ranges)

-- A job: its spec, its processed bytes and its ranges.
abbrev pub job_text : JobParts → List ℕ
job_text job = spec_text job.spec ++ bytes_text job.bytes_processed ++ ranges_text (ranges_in job.ctx)
