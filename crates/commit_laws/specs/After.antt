-- What the first steps of a commit leave: the trees after them, and the jobs that they joined.
use Rattle.std.specs.Prelude.{ℕ, List, [], ◌∷◌}
use Rattle.fleet_model.specs.Nodes.{Trees}
use Rattle.fleet_model.specs.Jobs.{JobSpec}
use Rattle.fleet_model.specs.History.{Step}
use Rattle.fleet_model.specs.Past.Replay.{outputs_in}
use Rattle.fleet_model.specs.Trees.{stepped_all}
use Rattle.step_model.specs.Past.{World}
use Rattle.step_model.specs.LawfulManifests.{joined_after}

-- The trees after the first steps of a commit.
abbrev pub trees_after : World → (ℕ → JobSpec) → List Step → Trees
trees_after world specs first =
    stepped_all world.store.tables
    (λ id. (specs id, outputs_in world.store.records id)) first world.store.manifest.trees

-- The jobs that are joined after these steps, with those joined before them.
abbrev pub joined_by : List Step → List ℕ → List ℕ
joined_by [] joined = joined
joined_by (step ∷ steps) joined = joined_by steps (joined_after step joined)
