-- The size-tiered scheduler. It joins flushes of a tree into a fresh run, and runs of similar sizes into the
-- oldest of them.
use Rattle.std.specs.Prelude.{ℕ, ◌-◌, Bool, ◌&&◌, ◌||◌, ◌==◌, true, nat_lt, List, [], ◌∷◌, count_by, filter, flat_map, length, map, Option, Some, None, is_some, bytes_eq}
use Rattle.row_model.specs.Lists.{insert_after}
use Rattle.fleet_model.specs.Nodes.{NodeName, Tree, names, segment_at, tree_at}
use Rattle.fleet_model.specs.Jobs.{Jobs, JobSpec, is_drain, nodes_of}
use Rattle.fleet_model.specs.Sources.{older_nodes, run_ids}
use Rattle.fleet_model.specs.Work.Gates.{is_nonempty}
use Rattle.sched_model.specs.FreshRuns.{fresh_run_id, is_under_way}
use Rattle.fleet_model.specs.Work.Scheduler.{Scheduler, View, default_generate, lowest_of}
use Rattle.sched_model.specs.Sizes.{SizedTree, sized_trees}
use Rattle.sched_model.specs.Series.{TieredOptions}
use Rattle.sched_model.specs.Picks.{Planned, passes}

-- The nodes that jobs of this segment use.
abbrev pub nodes_used : Jobs → List ℕ → List NodeName
nodes_used jobs segment = flat_map (λ job. nodes_of job.spec) (filter (λ job. bytes_eq segment job.spec.segment) jobs)

-- The tree before the first pick. The jobs use their nodes.
abbrev pub unplanned_tree : Jobs → SizedTree → Planned
unplanned_tree jobs tree = record { tree = tree; used = nodes_used jobs tree.segment }

-- Inserts a tree in front of the first tree with at most as many flushes.
abbrev pub put_by_flushes : Planned → List Planned → List Planned
put_by_flushes t others =
    insert_after {A = Planned} (λ a b. nat_lt (length b.tree.flushes) (length a.tree.flushes)) t others

-- The trees by falling number of flushes. Trees with one number keep their order.
abbrev pub by_flushes : List Planned → List Planned
by_flushes [] = []
by_flushes (t ∷ trees) = put_by_flushes t (by_flushes trees)

-- How many jobs may be added to those under way.
abbrev pub free_slots : ℕ → Jobs → ℕ
free_slots most jobs = most - count_by is_under_way jobs

-- The jobs that the scheduler proposes on a view, so that at most `most` jobs are under way. It makes a pass
-- for each free slot. A pass that picks nothing changes nothing, so that no later one picks anything.
unfoldable pub tiered_proposals : TieredOptions → ℕ → View → List JobSpec
tiered_proposals o most view =
    let slots = free_slots most view.jobs in
    passes o slots slots (by_flushes (map (unplanned_tree view.jobs) (sized_trees view.handles view.manifest.trees)))
    (record { fresh = fresh_run_id view; picks = [] })

-- The lowest run among the sources, if a run is a source.
abbrev pub lowest_run : List NodeName → Option ℕ
lowest_run sources = lowest_of (run_ids sources)

-- True if both ids are equal, or one of them is missing.
abbrev pub agree : (lowest id : Option ℕ) → Bool
agree None id = true
agree (Some lowest) None = true
agree (Some lowest) (Some id) = lowest == id

-- True if there are sources, and they are in the tree one after the other.
abbrev pub is_stretch : Tree → List NodeName → Bool
is_stretch tree sources = is_nonempty sources && is_some (older_nodes sources (names tree))

-- True if the scheduler accepts the job. It accepts each drain. The segment of any other job has a tree, the
-- sources are in it one after the other, and the destination is the lowest source run if a run is a source.
abbrev pub tiered_validate : View → JobSpec → Bool
tiered_validate view spec =
    is_drain spec
    || (is_some (segment_at spec.segment view.manifest.trees)
    && is_stretch (tree_at spec.segment view.manifest.trees) spec.sources
    && agree (lowest_run spec.sources) spec.destination)

-- The size-tiered scheduler with these options.
abbrev pub tiered_scheduler : TieredOptions → ℕ → Scheduler
tiered_scheduler o most = record {
  propose = tiered_proposals o most;
  validate = tiered_validate;
  generate = default_generate;
}
