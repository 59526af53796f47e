-- Tables in the order of their first keys, and tables whose ranges are disjoint.
use Rattle.std.proofs.Common.{◌≡◌, refl, ◌∙◌, ap, subst, ◌<◌, cond, List, [], ◌∷◌, length, Bool, true, arith}
use Rattle.std.specs.List.{AllByRecursion}
use Rattle.std.specs.List.Sorted.{IsSortedBy, IsStableBy}
use Rattle.std.specs.Cmp.{IsStrictWeakOrder}
use Rattle.std.specs.Ordering.{is_lt}
use Rattle.std.proofs.lemmas.Cmp.{nat_list_cmp_total}
use Rattle.std.proofs.lemmas.List.MinMax.{ranks_by}
use Rattle.row_model.specs.Rows.{key_cmp}
use Rattle.fleet_tree.specs.Views.{View}
use Rattle.fleet_plan.proofs.Sorting.{put, put_all as every_put, sorted, sorting_is}
use Rattle.fleet_jobs.specs.Moves.{put_view, by_start, are_disjoint}

abbrev pub is_below : View → View → Bool
is_below a b = is_lt (key_cmp a.sst.first_key b.sst.first_key)

pub ranks : IsStrictWeakOrder is_below
ranks = ranks_by nat_list_cmp_total (λ view. view.sst.first_key)

put_is : (x : View) (ys : List View) → put is_below ranks x ys ≡ put_view x ys
put_is x [] = refl
put_is x (y ∷ ys) = ap (λ rest. cond (is_below y x) (y ∷ rest) (x ∷ y ∷ ys)) (put_is x ys)

pub put_all : (P : View → Type 0) (x : View) (ys : List View) → P x → AllByRecursion P ys → AllByRecursion P (put_view x ys)
put_all P x ys h all = subst (AllByRecursion P) (put_is x ys) (every_put is_below ranks P x ys h all)

sorted_is : (xs : List View) → sorted is_below ranks xs ≡ by_start xs
sorted_is [] = refl
sorted_is (x ∷ xs) = ap (put is_below ranks x) (sorted_is xs) ∙ put_is x (by_start xs)

-- A stable sort by first keys gives `by_start`.
pub by_start_is : (views made : List View) → IsSortedBy is_below made → IsStableBy is_below views made → made ≡ by_start views
by_start_is views made up stable = sorting_is is_below ranks views made up stable ∙ sorted_is views

pub short_disjoint : (views : List View) → length views < 2 → are_disjoint views ≡ true
short_disjoint [] h = refl
short_disjoint (a ∷ []) h = refl
short_disjoint (a ∷ b ∷ views) h = absurd (omega arith)
