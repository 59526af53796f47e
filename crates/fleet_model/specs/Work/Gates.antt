-- The rules that a job must pass when it is opened and when it is committed. Replies and lists give a rule
-- by its number.
use Rattle.std.specs.Prelude.{ℕ, Bool, true, false, not, ◌&&◌, ◌||◌, ◌==◌, if◌then◌else◌, List, [], ◌∷◌, Option, Some, None, is_some}
use Rattle.std.specs.List.{list_all}
use Rattle.fleet_model.specs.Nodes.{NodeName, L0, Run, is_l0, names_contain, Tree, names, Trees, segment_at, tree_at}
use Rattle.fleet_model.specs.Jobs.{JobSpec, ids_eq, nodes_of, is_drain, Job, Jobs, Scheduled, Running, Compacted, has_status, contains}
use Rattle.fleet_model.specs.Trees.{source_pieces}
use Rattle.fleet_model.specs.Sources.{run_ids, is_apart, all_run_ids, is_whole_stretch, is_lowest_or_above}

-- The number of the first rule in the list that fails, or None if all rules hold.
abbrev pub first_failing : List (ℕ × Bool) → Option ℕ
first_failing [] = None
first_failing (rule ∷ rules) = if rule.1 then first_failing rules else Some rule.0

-- True if no node is named twice.
abbrev pub are_distinct : List NodeName → Bool
are_distinct [] = true
are_distinct (x ∷ xs) = not (names_contain xs x) && are_distinct xs

-- True if the list has an element.
abbrev pub is_nonempty : {A : Type 0} → List A → Bool
is_nonempty [] = false
is_nonempty (x ∷ xs) = true

-- True if every flush that is older than the newest named flush is named too.
abbrev pub names_older : (sources nodes : List NodeName) → Bool
names_older sources [] = true
names_older sources (L0 name ∷ rest) =
    if names_contain sources (L0 name) then list_all (λ other. not (is_l0 other) || names_contain sources other) rest
    else names_older sources rest
names_older sources (Run id ∷ rest) = names_older sources rest

-- True if there is no destination, or if it passes rule 7. It must not be 4,294,967,295. It must be the
-- lowest source run or, if no run is a source, above all runs of all trees.
abbrev pub destination_fits : Trees → List NodeName → Option ℕ → Bool
destination_fits trees sources None = true
destination_fits trees sources (Some id) =
    not (id == 4294967295) && is_lowest_or_above id (run_ids sources) (all_run_ids trees)

-- True if the job holds its sources and its destination. A Scheduled, Running or Compacted job holds them.
abbrev pub reserves_nodes : Job → Bool
reserves_nodes job = has_status Scheduled job || has_status Running job || has_status Compacted job

-- True if the job touches no node that another job holds. A job whose commit failed in this poll by the
-- scheduler's rule still holds its nodes.
abbrev pub is_free : Jobs → List ℕ → Job → Bool
is_free jobs lost job =
    list_all (λ other.
    (job.id == other.id) || not (reserves_nodes other || contains lost other.id)
    || is_apart (nodes_of job.spec) (nodes_of other.spec)) jobs

-- The rules for a submitted job, in the order in which they are asked. A reply gives the number of the first
-- rule that fails.
-- 1: There are sources, and each is named once.
-- 2: A drain is not of the root segment.
-- 3: The segment has a tree.
-- 4: Every source is in that tree.
-- 5: The sources of a run are in the tree one after the other. If one is a flush, they reach the oldest
--    flush.
-- 6: A drain names every flush that is older than the newest flush that it names.
-- 7: A run's id is not 4,294,967,295. It is the lowest source run or, if no run is a source, is above all
--    runs of all trees.
-- 8: No other job holds a source or the destination.
-- 0: The scheduler accepts the job.
abbrev pub submitted_rules : (trees : Trees) (jobs : Jobs) (lost : List ℕ) (accepts : JobSpec → Bool) (job : Job)
    (tree : Tree) → List (ℕ × Bool)
submitted_rules trees jobs lost accepts job tree =
    let spec = job.spec in
    (1, is_nonempty spec.sources && are_distinct spec.sources)
    ∷ (2, not (is_drain spec) || is_nonempty spec.segment)
    ∷ (3, is_some (segment_at spec.segment trees))
    ∷ (4, list_all (names_contain (names tree)) spec.sources)
    ∷ (5, is_drain spec || is_whole_stretch tree spec.sources)
    ∷ (6, not (is_drain spec) || names_older spec.sources (names tree))
    ∷ (7, destination_fits trees spec.sources spec.destination)
    ∷ (8, is_free jobs lost job)
    ∷ (0, accepts spec)
    ∷ []

-- The number of the first rule that a submitted job fails, or None if the job passes the gate.
abbrev pub submit_gate : (trees : Trees) (jobs : Jobs) (lost : List ℕ) (accepts : JobSpec → Bool) (job : Job) → Option ℕ
submit_gate trees jobs lost accepts job =
    first_failing (submitted_rules trees jobs lost accepts job (tree_at job.spec.segment trees))

-- The number of the first rule that a Compacted job fails, or None if the job passes the gate. Rule 10 says
-- that its sources have the tables that they had when the job was opened.
abbrev pub commit_gate : Trees → (JobSpec → Bool) → Job → Option ℕ
commit_gate trees accepts job =
    let spec = job.spec in
    let tree = tree_at spec.segment trees in
    first_failing (
    (4, list_all (names_contain (names tree)) spec.sources)
    ∷ (10, ids_eq (source_pieces spec.sources tree) job.source_tables)
    ∷ (0, accepts spec)
    ∷ [])
