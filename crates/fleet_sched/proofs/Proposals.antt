-- The picks in a program's trees are the model's proposals.
use Rattle.std.proofs.Common.{◌≡◌, refl, sym, ◌∙◌, ap, ℕ, List, [], ◌∷◌, map}
use Rattle.fleet_model.specs.Jobs.{Jobs, JobSpec}
use Rattle.fleet_model.specs.Work.Scheduler.{View}
use Rattle.sched_model.specs.FreshRuns.{fresh_run_id}
use Rattle.sched_model.specs.Picks.{Planned, passes}
use Rattle.sched_model.specs.Series.{TieredOptions}
use Rattle.sched_model.specs.Sizes.{SizedTree, sized_trees}
use Rattle.sched_model.specs.SizeTiered.{by_flushes, free_slots, tiered_proposals, unplanned_tree}
use Rattle.fleet_tree.specs.Trees.{RunFlushes}
use Rattle.fleet_tree.specs.declared.tree.LsmTreeState.{LsmTreeState}
use Rattle.fleet_book.specs.declared.view.CompactorStateView.{CompactorStateView}
use Rattle.fleet_sched.specs.Sizes.{planned_in, tree_in}
use Rattle.fleet_sched.specs.Views.{shown_jobs, trees_in, view_of}
use Rattle.fleet_sched.proofs.SizedViews.{sized_is}

unplanned_all : (jobs : Jobs) (trees : List (List ℕ × LsmTreeState)) → map (unplanned_tree jobs) (map tree_in trees) ≡ planned_in jobs trees
unplanned_all jobs [] = refl
unplanned_all jobs (s ∷ trees) = ap (λ (l : List Planned). unplanned_tree jobs (tree_in s) ∷ l) (unplanned_all jobs trees)

-- Picks by the slots, the fresh id and the trees of a view are the proposals on it.
pub proposed_is : (o : TieredOptions) (most : ℕ) (flushes : RunFlushes) (state : CompactorStateView) (slots fresh : ℕ) (trees : List Planned) (made : List JobSpec)
    → slots ≡ free_slots most (shown_jobs state) → fresh ≡ fresh_run_id (view_of flushes state) → trees ≡ by_flushes (planned_in (shown_jobs state) (trees_in state))
    → made ≡ passes o slots slots trees (record { fresh = fresh; picks = [] }) → made ≡ tiered_proposals o most (view_of flushes state)
unfolding tiered_proposals
proposed_is o most flushes state slots fresh trees made free id planned picks =
    let seen : trees ≡ by_flushes (map (unplanned_tree (shown_jobs state)) (map tree_in (trees_in state))) = planned ∙ sym (ap by_flushes (unplanned_all (shown_jobs state) (trees_in state))) in
    picks
    ∙ ap (λ (n : ℕ). passes o n n trees (record { fresh = fresh; picks = [] })) free
    ∙ ap (λ (f : ℕ). passes o (free_slots most (shown_jobs state)) (free_slots most (shown_jobs state)) trees (record { fresh = f; picks = [] })) id
    ∙ ap (λ (l : List Planned). passes o (free_slots most (shown_jobs state)) (free_slots most (shown_jobs state)) l (record { fresh = fresh_run_id (view_of flushes state); picks = [] })) seen
    ∙ sym (ap (λ (l : List SizedTree). passes o (free_slots most (shown_jobs state)) (free_slots most (shown_jobs state)) (by_flushes (map (unplanned_tree (shown_jobs state)) l)) (record { fresh = fresh_run_id (view_of flushes state); picks = [] })) (sized_is flushes state))

-- Without a free slot nothing is proposed.
pub none_proposed : (o : TieredOptions) (most : ℕ) (view : View) → 0 ≡ free_slots most view.jobs → [] ≡ tiered_proposals o most view
unfolding tiered_proposals
none_proposed o most view none =
    ap (λ (n : ℕ). passes o n n (by_flushes (map (unplanned_tree view.jobs) (sized_trees view.handles view.manifest.trees))) (record { fresh = fresh_run_id view; picks = [] })) none
