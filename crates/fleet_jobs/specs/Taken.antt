-- The flushes and the runs that a job takes from the tree of its segment.
use Rattle.std.specs.Prelude.{ℕ, List, [], find, option_map, bytes_eq, ◌==◌, ◌++◌, flat_map, Option, Some, None}
use Rattle.std.specs.Option.{option_to_list}
use Rattle.fleet_tree.specs.Trees.{trees_with_prefix}
use Rattle.fleet_tree.specs.Views.{View}
use Rattle.fleet_tree.specs.declared.manifest.ManifestCore.{ManifestCore}
use Rattle.fleet_tree.specs.declared.run.SortedRun.{SortedRun}
use Rattle.fleet_tree.specs.declared.tree.LsmTreeState.{LsmTreeState}
use Rattle.fleet_jobs.specs.Sources.{run_id_of, view_id_of}
use Rattle.fleet_jobs.specs.Specs.{segment_of, sources_of}
use Rattle.fleet_jobs.specs.declared.source_id.SourceId.{SourceId}
use Rattle.fleet_jobs.specs.declared.spec.CompactionSpec.{CompactionSpec}

-- The tree of the segment with this prefix, if there is one.
abbrev pub tree_in : List ℕ → ManifestCore → Option LsmTreeState
tree_in segment core = option_map (λ s. s.1) (find (λ s. bytes_eq segment s.0) (trees_with_prefix core))

-- The flushes of a tree. Without a tree there are none.
abbrev pub l0_in : Option LsmTreeState → List View
l0_in None = []
l0_in (Some tree) = tree.l0

-- The runs of a tree. Without a tree there are none.
abbrev pub runs_in : Option LsmTreeState → List SortedRun
runs_in None = []
runs_in (Some tree) = tree.compacted

-- The first view with this id, if there is an id and a view has it.
abbrev pub view_with : Option ℕ → List View → Option View
view_with None views = None
view_with (Some id) views = find (λ view. view.id == id) views

-- The first run with this id, if there is an id and a run has it.
abbrev pub run_with : Option ℕ → List SortedRun → Option SortedRun
run_with None runs = None
run_with (Some id) runs = find (λ run. run.id == id) runs

-- The views that the sources name, in the order of the sources.
abbrev pub named_views : List SourceId → List View → List View
named_views sources views = flat_map (λ source. option_to_list (view_with (view_id_of source) views)) sources

-- The runs that the sources name, in the order of the sources.
abbrev pub named_runs : List SourceId → List SortedRun → List SortedRun
named_runs sources runs = flat_map (λ source. option_to_list (run_with (run_id_of source) runs)) sources

-- The flushes that a job with this spec takes. A source that the tree does not have is left out.
abbrev pub taken_views : CompactionSpec → ManifestCore → List View
taken_views spec core = named_views (sources_of spec) (l0_in (tree_in (segment_of spec) core))

-- The runs that a job with this spec takes. A source that the tree does not have is left out.
abbrev pub taken_runs : CompactionSpec → ManifestCore → List SortedRun
taken_runs spec core = named_runs (sources_of spec) (runs_in (tree_in (segment_of spec) core))

-- The tables that a job with this spec takes: the flushes first, and then the tables of the runs.
abbrev pub taken_tables : CompactionSpec → ManifestCore → List View
taken_tables spec core = taken_views spec core ++ flat_map (λ run. run.views) (taken_runs spec core)
