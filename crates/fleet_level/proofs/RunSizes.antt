-- The sizes of runs, view by view.
use Rattle.std.proofs.Common.{◌≡◌, refl, sym, ◌∙◌, ap, ℕ, List, [], ◌∷◌, ◌++◌, ◌+◌, ◌<◌, length, get_or, take, map, arith}
use Rattle.std.specs.Prelude.{◌==◌, find, option_map, sum_by, Option, Some, None}
use Rattle.std.specs.BTreeMap.{BTreeMap}
use Rattle.std.specs.Option.{unwrap_or}
use Rattle.std.proofs.lemmas.List.{take_more}
use Rattle.std.proofs.lemmas.List.Sums.{sum_by-append, sum_by-cons}
use Rattle.row_model.specs.Written.Sizes.{saturated_sum}
use Rattle.fleet_model.specs.Handles.{Handle}
use Rattle.sched_model.specs.Levels.{node_size, size_of_table, size_or_none}
use Rattle.fleet_tree.specs.Trees.{run_node}
use Rattle.fleet_tree.specs.Views.{View}
use Rattle.fleet_tree.specs.declared.run.SortedRun.{SortedRun}
use Rattle.fleet_level.specs.Sizes.{HasSizes, size_in}

-- The size of these views in bytes, by the sizes of a map.
abbrev pub views_size : BTreeMap ℕ ℕ → List View → ℕ
views_size sizes views = saturated_sum (sum_by (λ view. size_in sizes view.sst.id) views)

-- One view more.
pub size_of_more : (sizes : BTreeMap ℕ ℕ) (views : List View) (i : ℕ) (view : View) (old new : ℕ) → i < length views → view ≡ get_or views i view
    → old ≡ views_size sizes (take i views) → new ≡ saturated_sum (old + size_in sizes view.sst.id) → new ≡ views_size sizes (take (i + 1) views)
size_of_more sizes views i view old new below is so step =
    let size : View → ℕ = λ v. size_in sizes v.sst.id in
    let more : take (i + 1) views ≡ take i views ++ view ∷ [] = take_more views i view below ∙ ap (λ v. take i views ++ v ∷ []) (sym is) in
    let sum : sum_by size (take (i + 1) views) ≡ sum_by size (take i views) + (0 + size view) = ap (sum_by size) more ∙ sum_by-append size (take i views) (view ∷ []) in
    omega (arith, sum, so, step)

-- The model's sizes are those of the map.
size_is : (found : Option Handle) → unwrap_or (option_map (λ (h : Handle). h.size) found) 0 ≡ size_or_none found
size_is None = refl
size_is (Some h) = refl

sums_are : (sizes : BTreeMap ℕ ℕ) (handles : List Handle) → HasSizes sizes handles → (views : List View)
    → sum_by (λ view. size_in sizes view.sst.id) views ≡ sum_by (size_of_table handles) (map (λ view. view.sst.id) views)
sums_are sizes handles has [] = refl
sums_are sizes handles has (view ∷ views) =
    let first : size_in sizes view.sst.id ≡ size_of_table handles view.sst.id = ap (λ size. unwrap_or size 0) (has.size view.sst.id) ∙ size_is (find (λ (h : Handle). h.id == view.sst.id) handles) in
    sum_by-cons (λ (v : View). size_in sizes v.sst.id) view views
    ∙ ap (λ n. n + sum_by (λ (v : View). size_in sizes v.sst.id) views) first
    ∙ ap (λ n. size_of_table handles view.sst.id + n) (sums_are sizes handles has views)
    ∙ sym (sum_by-cons (size_of_table handles) view.sst.id (map (λ (v : View). v.sst.id) views))

pub run_size_is : (sizes : BTreeMap ℕ ℕ) (handles : List Handle) (flushes : ℕ → List ℕ) (run : SortedRun) → HasSizes sizes handles → views_size sizes run.views ≡ node_size handles (run_node flushes run)
run_size_is sizes handles flushes run has = ap saturated_sum (sums_are sizes handles has run.views)
