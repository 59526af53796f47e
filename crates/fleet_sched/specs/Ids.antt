-- The ids of runs that a program shows.
use Rattle.std.specs.Prelude.{ℕ, List, flat_map, map}
use Rattle.sched_model.specs.FreshRuns.{destination_list}
use Rattle.fleet_tree.specs.declared.tree.LsmTreeState.{LsmTreeState}
use Rattle.fleet_jobs.specs.Parts.JobParts.{JobParts}
use Rattle.fleet_jobs.specs.Specs.{destination_of}

-- The ids of the runs of these trees.
abbrev pub ids_in : List (List ℕ × LsmTreeState) → List ℕ
ids_in trees = flat_map (λ s. map (λ run. run.id) s.1.compacted) trees

-- The destinations of these jobs.
abbrev pub destinations_in : List JobParts → List ℕ
destinations_in jobs = flat_map (λ job. destination_list (destination_of job.spec)) jobs
