-- What a step of a commit does to the trees: a join and a move put one run in place of their sources.
use Rattle.std.specs.Prelude.{◌≡◌, ◌≢◌, ℕ, false, true, List, [], ◌∷◌, ◌++◌, flat_map, Some}
use Rattle.std.specs.List.{AllByRecursion, concat}
use Rattle.row_model.specs.Fold.{Operator}
use Rattle.row_model.specs.Settings.{Settings}
use Rattle.row_model.specs.JobRows.{job_rows}
use Rattle.fleet_model.specs.Nodes.{Node, Tree, Trees, names, tree_at}
use Rattle.fleet_model.specs.Jobs.{JobSpec, Job}
use Rattle.fleet_model.specs.History.{Party, Step, Join, Move}
use Rattle.fleet_model.specs.Work.Attempts.{noted_rows, source_rows}
use Rattle.fleet_model.specs.Past.Claimed.{settings_of, without_cut}
use Rattle.fleet_model.specs.Trees.{stepped_in, job_of, by_first_key, tables_now}
use Rattle.fleet_model.specs.Invariants.JobsFit.{cut_or, was_joined}
use Rattle.step_model.specs.Past.{World}
use Rattle.step_model.specs.Kept.Faithful.{Faithful}
use Rattle.step_model.specs.LawfulManifests.{IsKnownTo, StepsFit, JoinFits, MoveFits}
use Rattle.step_model.specs.Kept.Keeps.{Keeps}
use Rattle.commit_laws.specs.After.{trees_after, joined_by}
use Rattle.commit_laws.specs.RunReads.{run_for}

-- One run of these tables stands where the sources stood, with the flushes of all of them. All other
-- trees are as they were.
pub record RunReplaces (trees others : Trees) (spec : JobSpec) (pieces : List ℕ) : Type 0 where
  pub id : ℕ
  pub to : spec.destination ≡ Some id
  pub newer : Tree
  pub taken : Tree
  pub older : Tree
  pub sources : names taken ≡ spec.sources
  pub before : tree_at spec.segment trees ≡ newer ++ (taken ++ older)
  pub after : tree_at spec.segment others ≡ newer ++ run_for id pieces taken ∷ older
  pub elsewhere : (prefix : List ℕ) → prefix ≢ spec.segment → tree_at prefix others ≡ tree_at prefix trees

-- The run of a join has the job's rows: all rows that the settings of one claim make of the sources,
-- by whichever faithful replay that claim is found.
pub record JoinReplaces (merge : Operator) (world : World) (trees : Trees) (job : Job) : Type 0 where
  pub run : RunReplaces trees
      (stepped_in world.store.tables (Join job.id) job.spec (concat job.outputs) trees) job.spec (concat job.outputs)
  pub settings : Settings
  pub claimed : (specs : ℕ → JobSpec) → Faithful world specs
      → settings_of world.store.tables specs world.store.history job.id job.attempt ≡ Some (without_cut settings)
  pub cut : settings.cut ≡ cut_or settings.floor job.kept_cut
  pub rows : job_rows merge settings
      (source_rows world.store.tables (flat_map (λ (node : Node). node.pieces) run.taken))
      ≡ record { rows = noted_rows world.store.tables (concat job.outputs); whole = true }

-- A join of a commit, be it after other steps, replaces the sources by the run of the job's rows,
-- unless the job was joined by an earlier commit.
abbrev pub JoinsReplace : Operator → Type 0
JoinsReplace merge = (world : World) (party : Party) (specs : ℕ → JobSpec) (first : List Step) (id : ℕ)
    → Keeps merge world
    → AllByRecursion (λ step. IsKnownTo party world specs (job_of step)) first
    → StepsFit world specs world.store.manifest.trees [] first
    → (fits : JoinFits world (trees_after world specs first) (joined_by first []) id)
    → was_joined world.store.history id ≡ false
    → JoinReplaces merge world (trees_after world specs first) fits.job

-- The tables of the sources, in the order of their first keys.
abbrev pub tables_in_order : World → Trees → JobSpec → List ℕ
tables_in_order world trees spec = by_first_key world.store.tables (tables_now trees spec)

-- The run of a move has the sources' own tables. One after the other, these hold the sources' rows in
-- order.
pub record MoveReplaces (world : World) (trees : Trees) (spec : JobSpec) (id : ℕ) (outputs : List ℕ) : Type 0 where
  pub run : RunReplaces trees (stepped_in world.store.tables (Move id) spec outputs trees) spec
      (tables_in_order world trees spec)
  pub rows : noted_rows world.store.tables (tables_in_order world trees spec)
      ≡ source_rows world.store.tables (tables_now trees spec)

-- A move of a commit, be it after other steps, replaces the sources by a run of their own tables.
abbrev pub MovesReplace : Operator → Type 0
MovesReplace merge = (world : World) (party : Party) (specs : ℕ → JobSpec) (first : List Step) (id : ℕ)
    (outputs : List ℕ)
    → Keeps merge world
    → AllByRecursion (λ step. IsKnownTo party world specs (job_of step)) first
    → StepsFit world specs world.store.manifest.trees [] first
    → MoveFits world (trees_after world specs first) (joined_by first []) (specs id) id
    → MoveReplaces world (trees_after world specs first) (specs id) id outputs
