-- The sources of a job, as a manifest has them.
use Rattle.std.specs.Prelude.{ℕ, ◌==◌, Bool, false, List, [], find, flat_map, Option, Some, None}
use Rattle.std.specs.Option.{option_to_list}
use Rattle.fleet_model.specs.Work.Attempts.{is_last}
use Rattle.fleet_model.specs.Nodes.{NodeName, L0, Run}
use Rattle.fleet_model.specs.Sources.{run_ids}
use Rattle.fleet_tree.specs.Views.{View}
use Rattle.fleet_tree.specs.declared.manifest.ManifestCore.{ManifestCore}
use Rattle.fleet_tree.specs.declared.run.SortedRun.{SortedRun}
use Rattle.fleet_tree.specs.declared.tree.LsmTreeState.{LsmTreeState}
use Rattle.fleet_jobs.specs.Specs.{segment_of, sources_of}
use Rattle.fleet_jobs.specs.Taken.{tree_in}
use Rattle.fleet_jobs.specs.declared.source_id.SourceId as source
use Rattle.fleet_jobs.specs.declared.source_id.SourceId.TheVariants.{SortedRun as OfRun, SstView}
use Rattle.fleet_jobs.specs.declared.spec.CompactionSpec.{CompactionSpec}

-- The views of the run, if there is one.
abbrev pub run_views : Option SortedRun → List View
run_views None = []
run_views (Some run) = run.views

-- The views that a source has in a tree: the flush's own, or those of the run.
abbrev pub views_at : LsmTreeState → source.SourceId → List View
views_at tree (SstView id) = option_to_list (find (λ view. view.id == id) tree.l0)
views_at tree (OfRun id) = run_views (find (λ run. run.id == id) tree.compacted)

-- The views that the sources have in the tree, source by source. Without a tree there are none.
abbrev pub views_in : Option LsmTreeState → List source.SourceId → List View
views_in None sources = []
views_in (Some tree) sources = flat_map (views_at tree) sources

-- The views that the job's sources have in the tree of its segment, source by source.
abbrev pub source_views : CompactionSpec → ManifestCore → List View
source_views spec core = views_in (tree_in (segment_of spec) core) (sources_of spec)

-- True if the run is the last one of some nodes and then this one, given whether it is the last one of those.
abbrev pub is_last_after : Bool → ℕ → NodeName → Bool
is_last_after last run (L0 name) = last
is_last_after last run (Run id) = id == run

-- True if a job with this destination makes the last run of a tree with these nodes.
abbrev pub is_last_in : Option ℕ → List NodeName → Bool
is_last_in None nodes = false
is_last_in (Some run) nodes = is_last run (run_ids nodes)
