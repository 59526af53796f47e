-- A root with few flushes needs no job.
use Rattle.std.proofs.Common.{◌≡◌, refl, ◌∙◌, ap, ◌<◌, List, [], ◌∷◌, ◌++◌, length, map, true, Ok, Err, Result}
use Rattle.std.specs.Prelude.{◌&&◌, IfOk, Vec, nat_lt}
use Rattle.std.specs.declared.alloc.Global.{Global}
use Rattle.std.proofs.lemmas.Bool.{lt-ltb}
use Rattle.std.proofs.lemmas.List.{length-map}
use Rattle.fleet_model.specs.Jobs.{JobSpec}
use Rattle.fleet_model.specs.Nodes.{Tree, flushes_of, runs_of}
use Rattle.fleet_model.specs.Work.Scheduler as model
use Rattle.sched_model.specs.Levels.{LevelOptions, are_runs_within, level_picks}
use Rattle.sched_laws.proofs.LevelRest.{rest_within}
use Rattle.fleet_rows.specs.declared.errors.SlateDBError.{SlateDBError}
use Rattle.fleet_tree.specs.Trees.{RunFlushes, flush_node}
use Rattle.fleet_tree.specs.Views.{View}
use Rattle.fleet_jobs.specs.Specs.{spec_of}
use Rattle.fleet_jobs.specs.declared.spec.CompactionSpec.{CompactionSpec}
use Rattle.fleet_sched.specs.Answers.{Proposes}
use Rattle.fleet_sched.specs.Views.{view_of}
use Rattle.fleet_uses.specs.Levels.{state_with}

-- No flushes went into any run.
abbrev pub unmerged : RunFlushes
unmerged prefix run = []

flushes_only : (views : List View) → flushes_of (map (flush_node (unmerged [])) views ++ []) ≡ map (flush_node (unmerged [])) views
flushes_only [] = refl
flushes_only (view ∷ views) = ap (λ (t : Tree). flush_node (unmerged []) view ∷ t) (flushes_only views)

no_runs : (views : List View) → runs_of (map (flush_node (unmerged [])) views ++ []) ≡ []
no_runs [] = refl
no_runs (view ∷ views) = no_runs views

-- With fewer flushes than the trigger, the levelled scheduler picks nothing.
nothing_picked : (o : LevelOptions) (flushes : List View) → length flushes < o.l0_trigger → level_picks o 4 (view_of unmerged (state_with flushes)) ≡ []
nothing_picked o flushes few =
    let tree : Tree = map (flush_node (unmerged [])) flushes ++ [] in
    let view : model.View = view_of unmerged (state_with flushes) in
    let many : length (flushes_of tree) ≡ length flushes = ap length (flushes_only flushes) ∙ length-map flushes (flush_node (unmerged [])) in
    rest_within o 4 view (
      (ap (λ n. nat_lt n o.l0_trigger && are_runs_within o view.handles 0 (runs_of tree)) many
          ∙ ap (λ runs. nat_lt (length flushes) o.l0_trigger && are_runs_within o view.handles 0 runs) (no_runs flushes)
          ∙ ap (λ b. b && true) (lt-ltb (length flushes) o.l0_trigger few)),
      tt,
    )

empty : (specs : List CompactionSpec) → map spec_of specs ≡ [] → specs ≡ []
empty [] none = refl
empty (spec ∷ specs) none = absurd (cc none)

none_proposed : (specs : List JobSpec) → specs ≡ [] → (result : Result (Vec CompactionSpec Global) SlateDBError) → Proposes specs result → IfOk result (λ jobs. jobs.items ≡ [])
none_proposed specs are (Ok made) proposes = empty made.items (proposes ∙ are)
none_proposed specs are (Err e) proposes = tt

-- So the level scheduler proposes none.
pub rests : (o : LevelOptions) (flushes : List View) (result : Result (Vec CompactionSpec Global) SlateDBError) → Proposes (level_picks o 4 (view_of unmerged (state_with flushes))) result
    → length flushes < o.l0_trigger → IfOk result (λ jobs. jobs.items ≡ [])
rests o flushes result proposes few = none_proposed (level_picks o 4 (view_of unmerged (state_with flushes))) (nothing_picked o flushes few) result proposes
