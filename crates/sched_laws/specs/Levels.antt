-- Laws about the proposals of the levelled scheduler: they share nothing, pass the gate of submitted jobs, and
-- are none exactly where every tree is within its sizes.
use Rattle.std.specs.Prelude.{◌≡◌, ◌≢◌, ◌↔◌, ℕ, ◌<◌, ◌≤◌, ◌-◌, true, IsTrue, List, [], ◌∷◌, ◌++◌, None, count_by, flat_map, length}
use Rattle.std.specs.List.{AllByRecursion}
use Rattle.row_model.specs.Lists.{Pairs}
use Rattle.fleet_model.specs.Work.Gates.{submit_gate}
use Rattle.fleet_model.specs.Jobs.{Job, Jobs, JobSpec, nodes_of}
use Rattle.fleet_model.specs.Nodes.{names}
use Rattle.fleet_model.specs.Work.Scheduler.{View}
use Rattle.fleet_model.specs.Sources.{is_apart}
use Rattle.sched_model.specs.FreshRuns.{is_under_way}
use Rattle.sched_model.specs.Levels.{LevelOptions, are_allowed, is_within, level_picks, level_scheduler}
use Rattle.sched_laws.specs.Proposals.{HasFreeId, MakesRun, MayBeThere}
use Rattle.sched_laws.specs.Views.{ViewStands}

-- There are at most as many proposals as there are free places for jobs under way.
abbrev pub LevelsAreFew : Type 0
LevelsAreFew = (o : LevelOptions) (most : ℕ) (view : View)
    → length (level_picks o most view) ≤ most - count_by is_under_way view.jobs

-- Each proposal has sources, and makes a run of them.
abbrev pub LevelsMakeRuns : Type 0
LevelsMakeRuns = (o : LevelOptions) → are_allowed o ≡ true → (most : ℕ) (view : View)
    → AllByRecursion MakesRun (level_picks o most view)

-- The jobs have no source in common. Their destinations differ, unless they are 4,294,967,295.
pub record ShareNothing (a b : JobSpec) : Type 0 where
  pub sources : IsTrue (is_apart a.sources b.sources)
  pub destinations : HasFreeId a → a.destination ≢ b.destination

-- No two proposals on a view share anything, whatever the view shows.
abbrev pub LevelsShareNothing : Type 0
LevelsShareNothing = (o : LevelOptions) (most : ℕ) (view : View) → Pairs ShareNothing (level_picks o most view)

-- A job for a proposal passes the gate of submitted jobs, unless its destination is 4,294,967,295. It passes
-- beside the jobs of the view, and beside jobs that were opened for the other proposals. By then the
-- scheduler may be shown a later view, with the same trees.
abbrev pub LevelsPassTheGate : Type 0
LevelsPassTheGate = (o : LevelOptions) → are_allowed o ≡ true → (most : ℕ) (view : View) → ViewStands view
    → (before after : List JobSpec) (job : Job) → level_picks o most view ≡ before ++ job.spec ∷ after
    → HasFreeId job.spec
    → (jobs : Jobs) → AllByRecursion (MayBeThere view.jobs (before ++ after) job.id) jobs
    → (later : View) → later.manifest.trees ≡ view.manifest.trees
    → submit_gate later.manifest.trees jobs [] ((level_scheduler o most).validate later) job ≡ None

-- Every tree is within its sizes.
abbrev pub AllWithin : LevelOptions → View → Type 0
AllWithin o view = AllByRecursion (λ s. IsTrue (is_within o view.handles s.tree)) view.manifest.trees

-- If every tree is within its sizes, nothing is proposed.
abbrev pub LevelsRest : Type 0
LevelsRest = (o : LevelOptions) (most : ℕ) (view : View) → AllWithin o view → level_picks o most view ≡ []

-- There is a free place for a job, and no job of the view has a node of a tree as its source or destination.
pub record HasRoom (most : ℕ) (view : View) : Type 0 where
  pub place : count_by is_under_way view.jobs < most
  pub unused : IsTrue (is_apart (flat_map (λ s. names s.tree) view.manifest.trees)
      (flat_map (λ job. nodes_of job.spec) view.jobs))

-- On a view with room, nothing is proposed exactly where every tree is within its sizes.
abbrev pub LevelsGoOn : Type 0
LevelsGoOn = (o : LevelOptions) (most : ℕ) (view : View) → HasRoom most view
    → (level_picks o most view ≡ []) ↔ AllWithin o view
