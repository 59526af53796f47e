-- The runs that jobs make in a poll, and which flushes went into them.
use Rattle.std.specs.Prelude.{◌≡◌, ℕ, Bool, true, false, ◌==◌, ◌&&◌, List, flat_map, map, Option, Some, None, bytes_eq, is_some, if◌then◌else◌}
use Rattle.std.specs.List.{AllByRecursion}
use Rattle.std.specs.List.Sorted.{IsStrictlySortedBy}
use Rattle.std.specs.Ordering.{is_le}
use Rattle.row_model.specs.Rows.{key_cmp}
use Rattle.fleet_model.specs.Jobs.{is_drain}
use Rattle.fleet_model.specs.Nodes.{tree_at}
use Rattle.fleet_model.specs.Trees.{source_nodes}
use Rattle.fleet_tree.specs.Trees.{RunFlushes, trees_of, trees_with_prefix}
use Rattle.fleet_tree.specs.Views.{View}
use Rattle.fleet_tree.specs.declared.handle.SsTableHandle.{SsTableHandle}
use Rattle.fleet_tree.specs.declared.manifest.ManifestCore.{ManifestCore}
use Rattle.fleet_tree.specs.declared.run.SortedRun.{SortedRun}
use Rattle.fleet_jobs.specs.Parts.JobParts.{JobParts}
use Rattle.fleet_jobs.specs.Laws.{names_of}
use Rattle.fleet_jobs.specs.Moves.{moved_run}
use Rattle.fleet_jobs.specs.Specs.{destination_of, segment_of, spec_of}
use Rattle.fleet_jobs.specs.Taken.{taken_tables}
use Rattle.fleet_jobs.specs.declared.spec.CompactionSpec.{CompactionSpec}
use Rattle.fleet_book.specs.StateParts.{StateParts}

-- The contents of the manifest that the coordinator has.
abbrev pub own_core : StateParts → ManifestCore
own_core state = state.manifest.manifest.core

-- The prefixes of the segments rise.
abbrev pub PrefixesRise : ManifestCore → Type 0
PrefixesRise core = IsStrictlySortedBy key_cmp (map (λ s. s.0) (trees_with_prefix core))

-- True if the run with this id is the destination.
abbrev pub is_made : Option ℕ → ℕ → Bool
is_made None run = false
is_made (Some destination) run = destination == run

-- Which flushes went into each run after a job with this spec made its run in these trees: all flushes that went into
-- its sources. Each other run has the flushes that it had.
abbrev pub flushes_after : CompactionSpec → ManifestCore → RunFlushes → RunFlushes
flushes_after spec core flushes prefix run =
    let tree = tree_at (segment_of spec) (trees_of flushes core) in
    if bytes_eq (segment_of spec) prefix && is_made (destination_of spec) run
    then flat_map (λ node. node.flushes) (source_nodes (names_of spec) tree) else flushes prefix run

-- The run that a move of the job makes, if there is a job and it can be moved.
abbrev pub run_if_moved : Option JobParts → ManifestCore → Option SortedRun
run_if_moved None core = None
run_if_moved (Some job) core = moved_run (destination_of job.spec) (taken_tables job.spec core)

-- The tables that the worker of a job wrote, range by range.
abbrev pub written_tables : JobParts → List SsTableHandle
written_tables job = flat_map (λ tables. tables) job.outputs

-- No table's first key is above its last key.
abbrev pub EndsRise : List SsTableHandle → Type 0
EndsRise tables = AllByRecursion (λ table. is_le (key_cmp table.first_key table.last_key) ≡ true) tables

-- The views of these tables, each under its table's own id.
abbrev pub own_views : List SsTableHandle → List View
own_views tables = map (λ table. record { id = table.id; sst = table }) tables

-- The run of these tables that takes the place of the sources of a job. A drain makes none.
abbrev pub run_of_tables : Option ℕ → List SsTableHandle → Option SortedRun
run_of_tables None tables = None
run_of_tables (Some destination) tables = Some (record { id = destination; views = own_views tables })

-- The run that a join of the job makes.
abbrev pub joined_run : JobParts → Option SortedRun
joined_run job = run_of_tables (destination_of job.spec) (written_tables job)

-- Which flushes went into each run after step 2 of a poll for a job, given the rule that failed if one did.
abbrev pub flushes_committed : (rule : Option ℕ) (job : JobParts) (core : ManifestCore) (flushes : RunFlushes)
    → RunFlushes
flushes_committed (Some rule) job core flushes = flushes
flushes_committed None job core flushes = flushes_after job.spec core flushes

-- Which flushes went into each run after step 4 of a poll for a job, given the rule that failed if one did, and whether
-- moves are allowed.
abbrev pub flushes_opened : (rule : Option ℕ) (moves : Bool) (job : JobParts) (core : ManifestCore)
    (flushes : RunFlushes) → RunFlushes
flushes_opened (Some rule) moves job core flushes = flushes
flushes_opened None moves job core flushes =
    if moves && is_some (run_if_moved (Some job) core) then flushes_after job.spec core flushes else flushes

-- True if there is a job and it is a drain.
abbrev pub is_drain_if_there : Option JobParts → Bool
is_drain_if_there None = false
is_drain_if_there (Some job) = is_drain (spec_of job.spec)
