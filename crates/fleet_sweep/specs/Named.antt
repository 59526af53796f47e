-- The tables that a program's trees and jobs name.
use Rattle.std.specs.Prelude.{ℕ, Bool, ◌&&◌, not, List, ◌++◌, filter, flat_map, map}
use Rattle.fleet_model.specs.Jobs.{contains}
use Rattle.fleet_tree.specs.declared.handle.SsTableHandle.{SsTableHandle}
use Rattle.fleet_tree.specs.declared.run.SortedRun.{SortedRun}
use Rattle.fleet_tree.specs.declared.tree.LsmTreeState.{LsmTreeState}
use Rattle.fleet_plan.specs.Parts.{Part}
use Rattle.fleet_jobs.specs.Contexts.{ranges_in, table_ids}
use Rattle.fleet_jobs.specs.Jobs.{is_open}
use Rattle.fleet_jobs.specs.Parts.JobParts.{JobParts}

-- The tables of these runs, run by run.
abbrev pub ids_in_runs : List SortedRun → List ℕ
ids_in_runs runs = flat_map (λ run. map (λ view. view.sst.id) run.views) runs

-- The tables of a tree, node by node.
abbrev pub ids_in_tree : LsmTreeState → List ℕ
ids_in_tree tree = map (λ view. view.sst.id) tree.l0 ++ ids_in_runs tree.compacted

-- The tables of these trees, tree by tree.
abbrev pub ids_in_trees : List (List ℕ × LsmTreeState) → List ℕ
ids_in_trees trees = flat_map (λ s. ids_in_tree s.1) trees

-- The tables that are noted for these ranges.
abbrev pub ids_in_ranges : List Part → List ℕ
ids_in_ranges ranges = flat_map (λ range. table_ids range.output_ssts) ranges

-- The tables of these outputs.
abbrev pub ids_in_outputs : List (List SsTableHandle) → List ℕ
ids_in_outputs outputs = flat_map table_ids outputs

-- The tables that a job names in its context and in its outputs.
abbrev pub ids_in_job : JobParts → List ℕ
ids_in_job job = ids_in_ranges (ranges_in job.ctx) ++ ids_in_outputs job.outputs

-- The tables that the jobs that are not over name, job by job.
abbrev pub ids_in_jobs : List JobParts → List ℕ
ids_in_jobs jobs = flat_map ids_in_job (filter is_open jobs)

-- The tables that trees and jobs name.
abbrev pub named_ids : List (List ℕ × LsmTreeState) → List JobParts → List ℕ
named_ids trees jobs = ids_in_trees trees ++ ids_in_jobs jobs

-- True if the table is neither named nor pinned.
abbrev pub is_in_neither : (named pins : List ℕ) → ℕ → Bool
is_in_neither named pins table = not (contains named table) && not (contains pins table)
