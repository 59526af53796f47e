-- Trees by falling number of flushes.
use Rattle.std.proofs.Common.{◌≡◌, refl, sym, ◌∙◌, ap, cond, ℕ, ◌≤◌, List, [], ◌∷◌, length, Bool, true, false, arith}
use Rattle.std.specs.Prelude.{nat_lt}
use Rattle.std.specs.List.Sorted.{IsSortedBy, IsStableBy}
use Rattle.std.specs.Cmp.{IsStrictWeakOrder, nat_cmp_is}
use Rattle.std.specs.declared.cmp.Ordering.TheVariants.{Less, Equal, Greater}
use Rattle.std.proofs.lemmas.Bool.{ltb-true, ltb-false}
use Rattle.std.specs.Ordering.{is_lt, nat_cmp}
use Rattle.std.proofs.lemmas.Cmp.{nat_cmp_total}
use Rattle.std.proofs.lemmas.List.MinMax.{ranks_by, IsStrictWeakOrder-flip}
use Rattle.sched_model.specs.Picks.{Planned}
use Rattle.sched_model.specs.SizeTiered.{by_flushes, put_by_flushes}
use Rattle.fleet_plan.proofs.Sorting.{put, sorted, sorting_is}

-- Comparing two numbers gives `Less` exactly if the first one is less.
lt_is : (a b : ℕ) → is_lt (nat_cmp a b) ≡ nat_lt a b
lt_is a b = by (nat_lt a b) refl
  where
    by : (t : Bool) → nat_lt a b ≡ t → is_lt (nat_cmp a b) ≡ t
    by true e = ap is_lt (sym (nat_cmp_is a b Less (ltb-true a b e)))
    by false e = later (nat_lt b a) refl
      where
        later : (t : Bool) → nat_lt b a ≡ t → is_lt (nat_cmp a b) ≡ false
        later true f = ap is_lt (sym (nat_cmp_is a b Greater (ltb-true b a f)))
        later false f =
            let above : b ≤ a = ltb-false a b e in
            let below : a ≤ b = ltb-false b a f in
            ap is_lt (sym (nat_cmp_is a b Equal (omega arith)))

-- The order in which trees are sorted: a tree with more flushes comes first.
abbrev pub is_before : Planned → Planned → Bool
is_before a b = is_lt (nat_cmp (length b.tree.flushes) (length a.tree.flushes))

pub ranks : IsStrictWeakOrder is_before
ranks = IsStrictWeakOrder-flip (λ (a b : Planned). is_lt (nat_cmp (length a.tree.flushes) (length b.tree.flushes))) (ranks_by nat_cmp_total (λ t. length t.tree.flushes))

put_is : (x : Planned) (ys : List Planned) → put is_before ranks x ys ≡ put_by_flushes x ys
put_is x [] = refl
put_is x (y ∷ ys) = ap (λ rest. cond (is_before y x) (y ∷ rest) (x ∷ y ∷ ys)) (put_is x ys)
    ∙ ap (λ b. cond b (y ∷ put_by_flushes x ys) (x ∷ y ∷ ys)) (lt_is (length x.tree.flushes) (length y.tree.flushes))

sorted_is : (xs : List Planned) → sorted is_before ranks xs ≡ by_flushes xs
sorted_is [] = refl
sorted_is (x ∷ xs) = ap (put is_before ranks x) (sorted_is xs) ∙ put_is x (by_flushes xs)

-- A stable sort by falling number of flushes gives `by_flushes`.
pub by_flushes_is : (trees made : List Planned) → IsSortedBy is_before made → IsStableBy is_before trees made → made ≡ by_flushes trees
by_flushes_is trees made up stable = sorting_is is_before ranks trees made up stable ∙ sorted_is trees
