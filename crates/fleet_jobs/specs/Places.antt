-- The nodes of a program's trees, and where the sources of a job are among them.
use Rattle.std.specs.Prelude.{ℕ, Bool, ◌++◌, ◌||◌, ◌&&◌, List, [], filter, flat_map, map, Option, Some, None}
use Rattle.std.specs.List.{list_all}
use Rattle.fleet_model.specs.Work.Gates.{is_nonempty, names_older, reserves_nodes}
use Rattle.fleet_model.specs.Jobs.{Jobs, contains, nodes_of}
use Rattle.fleet_model.specs.Nodes.{NodeName, L0, Run, names_contain}
use Rattle.fleet_model.specs.Sources.{is_lowest_or_above, older_nodes, reaches_oldest, run_ids}
use Rattle.fleet_tree.specs.declared.manifest.ManifestCore.{ManifestCore}
use Rattle.fleet_tree.specs.declared.tree.LsmTreeState.{LsmTreeState}
use Rattle.fleet_jobs.specs.Sources.{name_of}
use Rattle.fleet_jobs.specs.Specs.{destination_of, segment_of, sources_of}
use Rattle.fleet_jobs.specs.Taken.{tree_in}
use Rattle.fleet_jobs.specs.declared.spec.CompactionSpec.{CompactionSpec}

-- The names of the nodes of a tree, newest first.
abbrev pub nodes_in : LsmTreeState → List NodeName
nodes_in tree = map (λ view. L0 view.id) tree.l0 ++ map (λ run. Run run.id) tree.compacted

-- The names of the nodes of a tree, newest first. Without a tree there are none.
abbrev pub nodes_if_there : Option LsmTreeState → List NodeName
nodes_if_there None = []
nodes_if_there (Some tree) = nodes_in tree

-- The names of the nodes of the tree that a segment has, newest first.
abbrev pub nodes_at : List ℕ → ManifestCore → List NodeName
nodes_at segment core = nodes_if_there (tree_in segment core)

-- True if a run with this id may be made of these sources of a tree with these nodes. There are sources, they are in
-- the tree one after the other, and if one is a flush they reach the oldest flush. The id is the lowest source run
-- or, if no run is a source, above all runs of the tree.
abbrev pub may_merge : (nodes sources : List NodeName) (run : ℕ) → Bool
may_merge nodes sources run = is_nonempty sources && reaches_oldest sources (older_nodes sources nodes)
    && is_lowest_or_above run (run_ids sources) (run_ids nodes)

-- True if these sources may be dropped from a tree with these nodes. They are in the tree, and every flush that is
-- older than a source is a source too.
abbrev pub may_drop : (nodes sources : List NodeName) → Bool
may_drop nodes sources = list_all (names_contain nodes) sources && names_older sources nodes

-- True if a job with these sources and this destination may be finished in a tree with these nodes. A job without a
-- destination is a drain.
abbrev pub stand_among : (nodes sources : List NodeName) (destination : Option ℕ) → Bool
stand_among nodes sources None = may_drop nodes sources
stand_among nodes sources (Some run) = may_merge nodes sources run

-- True if the sources of a job stand in the tree of its segment, so that the job may be finished.
abbrev pub sources_stand : CompactionSpec → ManifestCore → Bool
sources_stand spec core =
    stand_among (nodes_at (segment_of spec) core) (map name_of (sources_of spec)) (destination_of spec)

-- The nodes of the jobs that hold nodes. A job whose id is in the list holds its nodes whatever its status is.
abbrev pub held_nodes : Jobs → List ℕ → List NodeName
held_nodes jobs lost =
    flat_map (λ job. nodes_of job.spec) (filter (λ job. reserves_nodes job || contains lost job.id) jobs)
