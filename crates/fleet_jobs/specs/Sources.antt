-- Sources of jobs, and how they are named in the model.
use Rattle.std.specs.Prelude.{ℕ, Bool, true, false, List, Option, Some, None, codes, decimal}
use Rattle.fleet_model.specs.Nodes.{NodeName, L0, Run}
use Rattle.fleet_jobs.specs.declared.source_id.SourceId.{SourceId}
use Rattle.fleet_jobs.specs.declared.source_id.SourceId.TheVariants.{SortedRun, SstView}

-- The model's name of a source.
abbrev pub name_of : SourceId → NodeName
name_of (SortedRun id) = Run id
name_of (SstView id) = L0 id

-- The id of the run, if the source is one.
abbrev pub run_id_of : SourceId → Option ℕ
run_id_of (SortedRun id) = Some id
run_id_of (SstView id) = None

-- The id of the flush's view, if the source is a flush.
abbrev pub view_id_of : SourceId → Option ℕ
view_id_of (SortedRun id) = None
view_id_of (SstView id) = Some id

-- True if the source is a run.
abbrev pub is_run : SourceId → Bool
is_run (SortedRun id) = true
is_run (SstView id) = false

-- True if the source is a flush.
abbrev pub is_view : SourceId → Bool
is_view (SortedRun id) = false
is_view (SstView id) = true

-- The text that is printed for a source: a run's id, or `l0` for any flush.
abbrev pub source_text : SourceId → List ℕ
source_text (SortedRun id) = decimal id
source_text (SstView id) = codes "l0"
