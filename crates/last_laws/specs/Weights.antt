-- Each commit, move and drain of a poll makes the trees lighter. So a fleet settles.
use Rattle.std.specs.Prelude.{◌≡◌, ℕ, ◌+◌, ◌<◌, ◌≤◌, false, IsTrue, List, [], ◌∷◌, map, flat_map, length}
use Rattle.std.specs.List.{list_all, AllByRecursion}
use Rattle.std.specs.List.Sorted.{IsStrictlySortedBy}
use Rattle.row_model.specs.Rows.{key_cmp}
use Rattle.fleet_model.specs.Nodes.{NodeName, L0, Run, names_contain, Tables, Trees, names, tree_at}
use Rattle.fleet_model.specs.Jobs.{JobSpec, is_drain, Job, Submitted, Compacted, has_status}
use Rattle.fleet_model.specs.History.{Step}
use Rattle.fleet_model.specs.Work.Gates.{are_distinct}
use Rattle.fleet_model.specs.Trees.{stepped_in}
use Rattle.fleet_model.specs.Work.PollStates.{PollInput}
use Rattle.step_model.specs.Steps.PollSteps.{PollAsk, first_steps, last_steps}

-- A flush weighs 2, and a run weighs 1.
abbrev pub weight : NodeName → ℕ
weight (L0 name) = 2
weight (Run id) = 1

-- The weight of some nodes.
abbrev pub weight_of : List NodeName → ℕ
weight_of [] = 0
weight_of (x ∷ nodes) = weight x + weight_of nodes

-- The weight of all trees: twice the number of their flushes, and the number of their runs.
abbrev pub trees_weight : Trees → ℕ
trees_weight trees = weight_of (flat_map (λ s. names s.tree) trees)

-- A spec is heavy: it makes one run of sources that weigh at least 2.
pub record IsHeavy (spec : JobSpec) : Type 0 where
  pub makes_run : is_drain spec ≡ false
  pub weighs : 2 ≤ weight_of spec.sources

-- A spec lightens the trees: it is heavy, and names each source once.
pub record Lightens (spec : JobSpec) : Type 0 where
  pub heavy : IsHeavy spec
  pub distinct : IsTrue (are_distinct spec.sources)

-- No two segments have the same prefix.
abbrev pub PrefixesRise : Trees → Type 0
PrefixesRise trees = IsStrictlySortedBy key_cmp (map (λ s. s.prefix) trees)

-- A step for such a spec makes the trees lighter, if the sources are in their tree.
abbrev pub StepsLighten : Type 0
StepsLighten = (tables : Tables) (step : Step) (spec : JobSpec) (outputs : List ℕ) (trees : Trees) → PrefixesRise trees
    → Lightens spec
    → IsTrue (list_all (names_contain (names (tree_at spec.segment trees))) spec.sources)
    → trees_weight (stepped_in tables step spec outputs trees) < trees_weight trees

-- A job that waits to be opened is heavy, and one that waits for its commit lightens the trees.
pub record WaitsToLighten (job : Job) : Type 0 where
  pub opened : IsTrue (has_status Submitted job) → IsHeavy job.spec
  pub committed : IsTrue (has_status Compacted job) → Lightens job.spec

-- A poll makes the trees lighter by at least 1 for each of its steps, if the jobs that it finds, and those that
-- it adds, are so. The gate sees to it that a job that is opened names each source once.
abbrev pub PollsLighten : Type 0
PollsLighten = (ask : PollAsk) (input : PollInput) (drawn : List (ℕ × JobSpec)) → PrefixesRise input.manifest.trees
    → AllByRecursion WaitsToLighten input.records.jobs → AllByRecursion (λ d. IsHeavy d.1) drawn
    → let p =
    last_steps ask input drawn (first_steps ask input) in trees_weight p.trees + length p.steps
    ≤ trees_weight input.manifest.trees
