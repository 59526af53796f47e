-- The tables that are neither named nor pinned, by a set of those that are.
use Rattle.std.proofs.Common.{◌≡◌, refl, sym, ◌∙◌, ap, ℕ, ◌+◌, ◌<◌, List, [], ◌∷◌, ◌++◌, get_or, length, take, cond, Bool, true, false, not}
use Rattle.std.specs.Prelude.{◌==◌, ◌&&◌, ◌||◌, filter}
use Rattle.std.specs.BTreeSet.{BTreeSet, contains}
use Rattle.std.specs.Ordering.{nat_cmp}
use Rattle.std.proofs.lemmas.List.{take_more}
use Rattle.fleet_model.specs.Jobs as jobs
use Rattle.fleet_sweep.specs.Named.{is_in_neither}

-- An id is in two lists if it is in one of them.
pub contains-append : (xs ys : List ℕ) (id : ℕ) → jobs.contains (xs ++ ys) id ≡ (jobs.contains xs id || jobs.contains ys id)
contains-append [] ys id = refl
contains-append (x ∷ xs) ys id = by (x == id) (contains-append xs ys id)
  where
    by : (b : Bool) → jobs.contains (xs ++ ys) id ≡ (jobs.contains xs id || jobs.contains ys id) → cond b true (jobs.contains (xs ++ ys) id) ≡ (cond b true (jobs.contains xs id) || jobs.contains ys id)
    by true rest = refl
    by false rest = rest

either : (a b c : Bool) → ((a || b) || c) ≡ (a || (b || c))
either true b c = refl
either false b c = refl

-- The set has the first ids, and has one id more.
pub one_more : (ids : List ℕ) (i x id : ℕ) (begun old new : Bool) → i < length ids → x ≡ get_or ids i x → old ≡ (begun || jobs.contains (take i ids) id) → new ≡ (old || (x == id))
    → new ≡ (begun || jobs.contains (take (i + 1) ids) id)
one_more ids i x id begun old new below is so step =
    step
    ∙ ap (λ b. old || b) (one (x == id))
    ∙ ap (λ b. b || jobs.contains (x ∷ []) id) so
    ∙ either begun (jobs.contains (take i ids) id) (jobs.contains (x ∷ []) id)
    ∙ ap (λ b. begun || b) (sym (contains-append (take i ids) (x ∷ []) id))
    ∙ ap (λ l. begun || jobs.contains l id) (sym (take_more ids i x below ∙ ap (λ y. take i ids ++ y ∷ []) (sym is)))
  where
    one : (b : Bool) → b ≡ cond b true false
    one true = refl
    one false = refl

same_left : (keeps others : ℕ → Bool) → ((id : ℕ) → keeps id ≡ others id) → (ids : List ℕ) → filter keeps ids ≡ filter others ids
same_left keeps others same [] = refl
same_left keeps others same (id ∷ ids) = ap (λ b. cond b (id ∷ filter keeps ids) (filter keeps ids)) (same id) ∙ ap (λ l. cond (others id) (id ∷ l) l) (same_left keeps others same ids)

neither : (a b : Bool) → not (a || b) ≡ (not a && not b)
neither true b = refl
neither false b = refl

-- The ids outside of a set of the named and the pinned ones are those that are neither.
pub outside : (set : BTreeSet ℕ) (named pins ids : List ℕ) → ((id : ℕ) → contains nat_cmp set id ≡ (jobs.contains named id || jobs.contains pins id))
    → filter (λ id. not (contains nat_cmp set id)) ids ≡ filter (is_in_neither named pins) ids
outside set named pins ids has = same_left (λ id. not (contains nat_cmp set id)) (is_in_neither named pins) (λ id. ap not (has id) ∙ neither (jobs.contains named id) (jobs.contains pins id)) ids
