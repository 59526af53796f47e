-- The picks in a program's trees are the model's proposals.
use Rattle.std.proofs.Common.{◌≡◌, sym, ◌∙◌, ap, ℕ, List, [], map, take}
use Rattle.std.specs.Prelude.{flat_map}
use Rattle.std.specs.BTreeMap.{BTreeMap}
use Rattle.std.proofs.lemmas.List.{map-append}
use Rattle.fleet_model.specs.Handles.{Handle}
use Rattle.fleet_model.specs.Jobs.{JobSpec, nodes_of}
use Rattle.sched_model.specs.FreshRuns.{fresh_run_id}
use Rattle.sched_model.specs.Levels.{LevelOptions, LevelPicking, level_picks, pick_trees}
use Rattle.sched_model.specs.SizeTiered.{free_slots}
use Rattle.fleet_tree.specs.Handles.{handle_of}
use Rattle.fleet_tree.specs.Trees.{RunFlushes, segment_of}
use Rattle.fleet_jobs.specs.Jobs.{job_handles}
use Rattle.fleet_book.specs.declared.view.CompactorStateView.{CompactorStateView}
use Rattle.fleet_sched.specs.Views.{handles_in, open_records, shown_jobs, trees_in, view_of}
use Rattle.fleet_level.specs.Picks.{SamePicks}
use Rattle.fleet_level.specs.Sizes.{HasSizes, tables_of_trees}
use Rattle.fleet_level.proofs.SameSizes.{trees_alike}

-- The state before the first pick, on the view of a state.
abbrev pub begun_on : RunFlushes → CompactorStateView → LevelPicking
begun_on flushes state = record { used = flat_map (λ job. nodes_of job.spec) (shown_jobs state); fresh = fresh_run_id (view_of flushes state); picks = [] }

-- The first of the picks, as many as places are free, are the model's proposals on the view.
pub proposed_is : (o : LevelOptions) (most : ℕ) (flushes : RunFlushes) (state : CompactorStateView) (slots : ℕ) (sizes : BTreeMap ℕ ℕ) (begun picked : LevelPicking) (made : List JobSpec)
    → slots ≡ free_slots most (shown_jobs state) → HasSizes sizes (map handle_of (tables_of_trees (trees_in state))) → begun ≡ begun_on flushes state
    → ((handles : List Handle) → HasSizes sizes handles → SamePicks picked (pick_trees o handles (map (segment_of flushes) (trees_in state)) begun))
    → made ≡ take slots picked.picks → made ≡ level_picks o most (view_of flushes state)
unfolding level_picks
proposed_is o most flushes state slots sizes begun picked made free has begins picks are =
    let all = map handle_of (tables_of_trees (trees_in state)) in
    let more = map handle_of (flat_map job_handles (open_records state.compactions)) in
    let trees = map (segment_of flushes) (trees_in state) in
    let same = picks all has in
    let seen : pick_trees o all trees begun ≡ pick_trees o (map handle_of (handles_in state)) trees (begun_on flushes state) =
    ap (pick_trees o all trees) begins
    ∙ sym (trees_alike all more o flushes (trees_in state) (λ id known. known) (begun_on flushes state))
    ∙ ap (λ handles. pick_trees o handles trees (begun_on flushes state)) (sym (map-append handle_of (tables_of_trees (trees_in state)) (flat_map job_handles (open_records state.compactions)))) in
    are
    ∙ ap (take slots) (same.picks ∙ ap (λ (p : LevelPicking). p.picks) seen)
    ∙ ap (λ n. take n (pick_trees o (map handle_of (handles_in state)) trees (begun_on flushes state)).picks) free
