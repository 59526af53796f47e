-- The tables that a program's trees and jobs name are those that the model's name.
use Rattle.std.proofs.Common.{◌≡◌, refl, sym, ◌∙◌, ap, ℕ, List, [], ◌∷◌, ◌++◌, map, Bool, true, false, not, cond}
use Rattle.std.specs.Prelude.{filter, flat_map, option_map, Option, Some, None}
use Rattle.std.specs.List.{concat}
use Rattle.fleet_model.specs.Handles.{context_tables, job_tables, named_tables, tree_tables}
use Rattle.fleet_model.specs.Jobs.{is_active, is_finished}
use Rattle.fleet_model.specs.Nodes.{Tree, Trees}
use Rattle.fleet_model.specs.Store as model
use Rattle.fleet_tree.specs.Trees.{RunFlushes, flush_node, run_node, segment_of, trees_of, trees_with_prefix}
use Rattle.fleet_tree.specs.Views.{View}
use Rattle.fleet_tree.specs.declared.handle.SsTableHandle.{SsTableHandle}
use Rattle.fleet_tree.specs.declared.manifest.VersionedManifest.{VersionedManifest}
use Rattle.fleet_tree.specs.declared.run.SortedRun.{SortedRun}
use Rattle.fleet_tree.specs.declared.tree.LsmTreeState.{LsmTreeState}
use Rattle.fleet_plan.specs.Parts.{Part}
use Rattle.fleet_jobs.specs.Contexts.{context_of, noted_range, ranges_in, table_ids}
use Rattle.fleet_jobs.specs.Jobs.{is_open, job_of, jobs_of}
use Rattle.fleet_jobs.specs.Parts.ContextParts.{ContextParts}
use Rattle.fleet_jobs.specs.Parts.JobParts.{JobParts}
use Rattle.fleet_jobs.specs.Status.{status_of}
use Rattle.fleet_book.specs.VersionedRecords.{VersionedRecords}
use Rattle.fleet_book.specs.Versions.{records_of}
use Rattle.fleet_store.specs.Manifests.{IsManifest, bare_node, bare_segment}
use Rattle.fleet_store.specs.Records.{jobs_or_none}
use Rattle.fleet_sweep.specs.Named.{ids_in_job, ids_in_jobs, ids_in_outputs, ids_in_ranges, ids_in_runs, ids_in_tree, ids_in_trees, named_ids}

-- ---- trees

module _ (flushes : ℕ → List ℕ) where
  ids_of_runs : (runs : List SortedRun) → flat_map (λ node. node.pieces) (map (run_node flushes) runs) ≡ ids_in_runs runs
  ids_of_runs [] = refl
  ids_of_runs (run ∷ runs) = ap (λ (ids : List ℕ). map (λ (view : View). view.sst.id) run.views ++ ids) (ids_of_runs runs)

  ids_of_nodes : (views : List View) (runs : List SortedRun)
      → flat_map (λ node. node.pieces) (map (flush_node flushes) views ++ map (run_node flushes) runs) ≡ map (λ view. view.sst.id) views ++ ids_in_runs runs
  ids_of_nodes [] runs = ids_of_runs runs
  ids_of_nodes (view ∷ views) runs = ap (λ (ids : List ℕ). view.sst.id ∷ ids) (ids_of_nodes views runs)

ids_of_trees : (flushes : RunFlushes) (trees : List (List ℕ × LsmTreeState)) → flat_map tree_tables (map (segment_of flushes) trees) ≡ ids_in_trees trees
ids_of_trees flushes [] = refl
ids_of_trees flushes (s ∷ trees) =
    ap (λ ids. ids ++ flat_map tree_tables (map (segment_of flushes) trees)) (ids_of_nodes (flushes s.0) s.1.l0 s.1.compacted)
    ∙ ap (λ ids. ids_in_tree s.1 ++ ids) (ids_of_trees flushes trees)

-- The flushes that went into nodes do not change which tables they have.
bare_nodes : (tree : Tree) → flat_map (λ node. node.pieces) (map bare_node tree) ≡ flat_map (λ node. node.pieces) tree
bare_nodes [] = refl
bare_nodes (node ∷ tree) = ap (λ (ids : List ℕ). node.pieces ++ ids) (bare_nodes tree)

bare_trees : (trees : Trees) → flat_map tree_tables (map bare_segment trees) ≡ flat_map tree_tables trees
bare_trees [] = refl
bare_trees (s ∷ trees) = ap (λ ids. ids ++ flat_map tree_tables (map bare_segment trees)) (bare_nodes s.tree) ∙ ap (λ ids. tree_tables s ++ ids) (bare_trees trees)

trees_name : (got : VersionedManifest) (store : model.Store) → IsManifest got store → ids_in_trees (trees_with_prefix got.manifest.core) ≡ flat_map tree_tables store.manifest.trees
trees_name got store is =
    let none : RunFlushes = λ prefix run. [] in
    sym (bare_trees (trees_of none got.manifest.core) ∙ ids_of_trees none (trees_with_prefix got.manifest.core))
    ∙ ap (λ (m : model.Manifest). flat_map tree_tables m.trees) is.same
    ∙ bare_trees store.manifest.trees

-- ---- jobs

ids_of_ranges : (ranges : List Part) → flat_map (λ range. range.1) (map noted_range ranges) ≡ ids_in_ranges ranges
ids_of_ranges [] = refl
ids_of_ranges (range ∷ ranges) = ap (λ (ids : List ℕ). table_ids range.output_ssts ++ ids) (ids_of_ranges ranges)

ids_of_context : (ctx : Option ContextParts) → context_tables (option_map context_of ctx) ≡ ids_in_ranges (ranges_in ctx)
ids_of_context None = refl
ids_of_context (Some ctx) = ids_of_ranges ctx.ranges

ids_of_outputs : (outputs : List (List SsTableHandle)) → concat (map table_ids outputs) ≡ ids_in_outputs outputs
ids_of_outputs [] = refl
ids_of_outputs (tables ∷ outputs) = ap (λ (ids : List ℕ). table_ids tables ++ ids) (ids_of_outputs outputs)

ids_of_job : (job : JobParts) → job_tables (job_of job) ≡ ids_in_job job
ids_of_job job =
    ap (λ ids. ids ++ concat (map table_ids job.outputs)) (ids_of_context job.ctx)
    ∙ ap (λ ids. ids_in_ranges (ranges_in job.ctx) ++ ids) (ids_of_outputs job.outputs)

ids_of_jobs : (jobs : List JobParts) → flat_map job_tables (filter is_active (jobs_of jobs)) ≡ ids_in_jobs jobs
ids_of_jobs [] = refl
ids_of_jobs (job ∷ jobs) = by (is_finished (status_of job.status)) (ids_of_jobs jobs)
  where
    by : (over : Bool) → flat_map job_tables (filter is_active (jobs_of jobs)) ≡ ids_in_jobs jobs
        → flat_map job_tables (cond (cond over false true) (job_of job ∷ filter is_active (jobs_of jobs)) (filter is_active (jobs_of jobs)))
        ≡ flat_map ids_in_job (cond (not over) (job ∷ filter is_open jobs) (filter is_open jobs))
    by true rest = rest
    by false rest = ap (λ ids. ids ++ flat_map job_tables (filter is_active (jobs_of jobs))) (ids_of_job job) ∙ ap (λ ids. ids_in_job job ++ ids) rest

jobs_are : (records : Option VersionedRecords) → model.jobs_in (option_map records_of records) ≡ jobs_of (jobs_or_none records)
jobs_are None = refl
jobs_are (Some records) = refl

-- What a manifest and records that were got name, the stored ones name too.
pub names_are : (got : VersionedManifest) (store : model.Store) (records : Option VersionedRecords) → IsManifest got store
    → named_ids (trees_with_prefix got.manifest.core) (jobs_or_none records) ≡ named_tables store.manifest.trees (filter is_active (model.jobs_in (option_map records_of records)))
names_are got store records is =
    ap (λ ids. ids ++ ids_in_jobs (jobs_or_none records)) (trees_name got store is)
    ∙ ap (λ ids. flat_map tree_tables store.manifest.trees ++ ids) (sym (ap (λ jobs. flat_map job_tables (filter is_active jobs)) (jobs_are records) ∙ ids_of_jobs (jobs_or_none records)))
