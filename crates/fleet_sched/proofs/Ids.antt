-- The ids that fresh runs must be above.
use Rattle.std.proofs.Common.{◌≡◌, refl, sym, ◌∙◌, ap, ℕ, ◌+◌, ◌<◌, ◌^◌, List, [], ◌∷◌, ◌++◌, append_assoc, get_or, take, length, map, max, arith}
use Rattle.std.specs.Prelude.{flat_map}
use Rattle.std.proofs.lemmas.List.{append-nil, take_more, map-append}
use Rattle.sched_model.specs.FreshRuns.{above_all, capped_id, destination_list, fresh_run_id}
use Rattle.fleet_model.specs.Sources.{all_run_ids}
use Rattle.fleet_tree.specs.Trees.{RunFlushes, segment_of}
use Rattle.fleet_tree.specs.declared.run.SortedRun.{SortedRun}
use Rattle.fleet_tree.specs.declared.tree.LsmTreeState.{LsmTreeState}
use Rattle.fleet_jobs.specs.Parts.JobParts.{JobParts}
use Rattle.fleet_jobs.specs.Jobs.{jobs_of}
use Rattle.fleet_book.specs.declared.view.CompactorStateView.{CompactorStateView}
use Rattle.fleet_sched.specs.Ids.{destinations_in, ids_in}
use Rattle.fleet_sched.specs.Views.{open_records, shown_jobs, trees_in, view_of}
use Rattle.fleet_sched.proofs.TreeViews.{run_ids_of}

-- What is above two lists is above both.
pub above_all-append : (xs ys : List ℕ) → above_all (xs ++ ys) ≡ max (above_all xs) (above_all ys)
above_all-append [] ys = omega arith
above_all-append (x ∷ xs) ys =
    let rest = above_all-append xs ys in
    omega (arith, rest)

-- One run less is left.
pub one_run_less : (run : SortedRun) (left rest : List SortedRun) (next made : ℕ) → left ≡ run ∷ rest → made ≡ max next (capped_id (run.id + 1))
    → capped_id (max made (above_all (map (λ r. r.id) rest))) ≡ capped_id (max next (above_all (map (λ r. r.id) left)))
one_run_less run left rest next made is step =
    let all = ap (λ (runs : List SortedRun). above_all (map (λ r. r.id) runs)) is in
    omega (arith, all, step)

-- No run is left.
pub no_run_left : (left : List SortedRun) (next all : ℕ) → next < 2 ^ 32 → left ≡ [] → capped_id (max next (above_all (map (λ r. r.id) left))) ≡ all → next ≡ all
no_run_left left next all fits is so =
    let none = ap (λ (runs : List SortedRun). above_all (map (λ r. r.id) runs)) is in
    omega (arith, none, fits, so)

-- One more tree.
pub above_segment : (root : List ℕ × LsmTreeState) (above made : ℕ) (xs : List (List ℕ × LsmTreeState)) (i : ℕ) (x : List ℕ × LsmTreeState) → i < length xs → x ≡ get_or xs i x
    → above ≡ capped_id (above_all (ids_in (root ∷ take i xs))) → made ≡ capped_id (max above (above_all (map (λ run. run.id) x.1.compacted)))
    → made ≡ capped_id (above_all (ids_in (root ∷ take (i + 1) xs)))
above_segment root above made xs i x lt is so step =
    let more : take (i + 1) xs ≡ take i xs ++ x ∷ [] = take_more xs i x lt ∙ ap (λ y. take i xs ++ y ∷ []) (sym is) in
    let ids : ids_in (root ∷ take (i + 1) xs) ≡ ids_in (root ∷ take i xs) ++ map (λ run. run.id) x.1.compacted =
    ap (λ l. ids_in (root ∷ l)) more ∙ ids_in-more (root ∷ take i xs) x in
    let both : above_all (ids_in (root ∷ take (i + 1) xs)) ≡ max (above_all (ids_in (root ∷ take i xs))) (above_all (map (λ run. run.id) x.1.compacted)) =
    ap above_all ids ∙ above_all-append (ids_in (root ∷ take i xs)) (map (λ run. run.id) x.1.compacted) in
    omega (arith, both, so, step)
  where
    ids_in-more : (ys : List (List ℕ × LsmTreeState)) (y : List ℕ × LsmTreeState) → ids_in (ys ++ y ∷ []) ≡ ids_in ys ++ map (λ run. run.id) y.1.compacted
    ids_in-more [] y = append-nil (map (λ run. run.id) y.1.compacted)
    ids_in-more (z ∷ ys) y = ap (λ l. map (λ run. run.id) z.1.compacted ++ l) (ids_in-more ys y) ∙ sym (append_assoc (map (λ run. run.id) z.1.compacted) (ids_in ys) (map (λ run. run.id) y.1.compacted))

-- The ids of all runs of the model's trees.
pub all_run_ids_are : (flushes : RunFlushes) (trees : List (List ℕ × LsmTreeState)) → all_run_ids (map (segment_of flushes) trees) ≡ ids_in trees
all_run_ids_are flushes [] = refl
all_run_ids_are flushes (s ∷ trees) = cc (run_ids_of (flushes s.0) s.1, all_run_ids_are flushes trees)

-- The destinations of the model's jobs.
pub destinations_are : (jobs : List JobParts) → flat_map (λ job. destination_list job.spec.destination) (jobs_of jobs) ≡ destinations_in jobs
destinations_are [] = refl
destinations_are (job ∷ jobs) = ap (λ (l : List ℕ). destination_list (Rattle.fleet_jobs.specs.Specs.destination_of job.spec) ++ l) (destinations_are jobs)

-- The fresh id is above the runs and the destinations that are shown.
pub fresh_is : (flushes : RunFlushes) (state : CompactorStateView) (above made : ℕ) → above ≡ capped_id (above_all (ids_in (trees_in state)))
    → made ≡ capped_id (max above (above_all (destinations_in (open_records state.compactions)))) → made ≡ fresh_run_id (view_of flushes state)
fresh_is flushes state above made runs jobs =
    let all : above_all (all_run_ids (map (segment_of flushes) (trees_in state)) ++ flat_map (λ job. destination_list job.spec.destination) (shown_jobs state))
    ≡ above_all (ids_in (trees_in state) ++ destinations_in (open_records state.compactions)) =
    cc (all_run_ids_are flushes (trees_in state), destinations_are (open_records state.compactions)) in
    let both = above_all-append (ids_in (trees_in state)) (destinations_in (open_records state.compactions)) in
    let fresh : made ≡ capped_id (above_all (ids_in (trees_in state) ++ destinations_in (open_records state.compactions))) = omega (arith, both, runs, jobs) in
    fresh ∙ ap capped_id (sym all)
