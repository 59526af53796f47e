-- The merge of rising lists rises.
use Rattle.std.proofs.Common.{◌≡◌, ◌∙◌, refl, ap, List, [], ◌∷◌, Bool, true, false, cond, not}
use Rattle.std.specs.List.{AllByRecursion}
use Rattle.std.specs.declared.cmp.Ordering.{Ordering}
use Rattle.std.specs.declared.cmp.Ordering.TheVariants.{Less, Equal, Greater}
use Rattle.std.specs.Ordering.{is_gt, ordering_then, ordering_reverse, nat_cmp}
use Rattle.std.proofs.lemmas.Cmp.{nat_list_cmp_total}
use Rattle.row_model.specs.Rows.{Row, key_cmp}
use Rattle.row_laws.proofs.Elements.{all_weaken}
use Rattle.fleet_iter.specs.Iteration.{AreRising}
use Rattle.fleet_iter.specs.declared.iterator.IterationOrder.TheVariants.{Ascending}
use Rattle.fleet_iter.specs.Merge.{merge_two, merge_into, merged_lists, goes_first, hides, given_after, deduplicated_rows, given_rows, MergesRise}
use Rattle.fleet_iter.proofs.RisingRows.{not_after_too}
use Rattle.fleet_iter.proofs.MergedRows.{all_into, all_merged}

abbrev pub IsUpTo : Row → Row → Type 0
IsUpTo r q = is_gt (key_cmp r.key q.key) ≡ false

first_is_up : (r q : Row) → goes_first Ascending r q ≡ true → IsUpTo r q
first_is_up r q h = by (key_cmp r.key q.key) (nat_cmp q.seq r.seq) h
  where
    by : (o p : Ordering) → not (is_gt (ordering_then o p)) ≡ true → is_gt o ≡ false
    by Less p h = refl
    by Equal p h = refl
    by Greater p h = absurd (cc h)

other_is_up : (r q : Row) → goes_first Ascending r q ≡ false → IsUpTo q r
other_is_up r q h = ap is_gt (nat_list_cmp_total.antisymm q.key r.key) ∙ by (key_cmp r.key q.key) (nat_cmp q.seq r.seq) h
  where
    by : (o p : Ordering) → not (is_gt (ordering_then o p)) ≡ false → is_gt (ordering_reverse o) ≡ false
    by Less p h = absurd (cc h)
    by Equal p h = refl
    by Greater p h = refl

pub up_to_all : (r q : Row) (rows : List Row) → IsUpTo r q → AllByRecursion (IsUpTo q) rows → AllByRecursion (IsUpTo r) rows
up_to_all r q rows h all = all_weaken (IsUpTo q) (IsUpTo r) (λ x after. not_after_too r q x h after) rows all

-- If the merge of some rows with any rising list rises, so does the merge with one more row in front of
-- them.
rising_into : (x : Row) (xs ys : List Row) → AllByRecursion (IsUpTo x) xs → ((zs : List Row) → AreRising zs → AreRising (merge_two Ascending xs zs)) → AreRising ys → AreRising (merge_into Ascending x (merge_two Ascending xs) ys)
rising_into x xs [] up rest rising = (all_merged (IsUpTo x) xs [] up tt, rest [] tt)
rising_into x xs (y ∷ ys) up rest rising = by (goes_first Ascending x y) refl (rising_into x xs ys up rest rising.1)
  where
    by : (b : Bool) → goes_first Ascending x y ≡ b → AreRising (merge_into Ascending x (merge_two Ascending xs) ys) → AreRising (cond b (x ∷ merge_two Ascending xs (y ∷ ys)) (y ∷ merge_into Ascending x (merge_two Ascending xs) ys))
    by true h later =
        let here = first_is_up x y h in
        (all_merged (IsUpTo x) xs (y ∷ ys) up (here, up_to_all x y ys here rising.0), rest (y ∷ ys) rising)
    by false h later =
        let here = other_is_up x y h in
        (all_into (IsUpTo y) x (merge_two Ascending xs) (λ zs k. all_merged (IsUpTo y) xs zs (up_to_all y x xs here up) k) ys here rising.0, later)

rising_two : (xs ys : List Row) → AreRising xs → AreRising ys → AreRising (merge_two Ascending xs ys)
rising_two [] ys h g = g
rising_two (x ∷ xs) ys h g = rising_into x xs ys h.0 (λ zs k. rising_two xs zs h.1 k) g

pub rising_merged : (ls : List (List Row)) → AllByRecursion AreRising ls → AreRising (merged_lists Ascending ls)
rising_merged [] h = tt
rising_merged (rows ∷ ls) h = rising_two rows (merged_lists Ascending ls) h.0 (rising_merged ls h.1)

all_after : (P : Row → Type 0) (r : Row) (rows : List Row) → AllByRecursion P rows → AllByRecursion P (given_after r rows)
all_after P r [] all = tt
all_after P r (q ∷ rows) all = by (hides r q) (all_after P r rows all.1) (all_after P q rows all.1)
  where
    by : (b : Bool) → AllByRecursion P (given_after r rows) → AllByRecursion P (given_after q rows) → AllByRecursion P (cond b (given_after r rows) (q ∷ given_after q rows))
    by true rest later = rest
    by false rest later = (all.0, later)

rising_after : (r : Row) (rows : List Row) → AreRising rows → AreRising (given_after r rows)
rising_after r [] h = tt
rising_after r (q ∷ rows) h = by (hides r q) (rising_after r rows h.1) (rising_after q rows h.1)
  where
    by : (b : Bool) → AreRising (given_after r rows) → AreRising (given_after q rows) → AreRising (cond b (given_after r rows) (q ∷ given_after q rows))
    by true rest later = rest
    by false rest later = (all_after (IsUpTo q) q rows h.0, later)

rising_deduplicated : (rows : List Row) → AreRising rows → AreRising (deduplicated_rows rows)
rising_deduplicated [] h = tt
rising_deduplicated (r ∷ rows) h = (all_after (IsUpTo r) r rows h.0, rising_after r rows h.1)

pub rising_given_too : (dedup : Bool) (rows : List Row) → AreRising rows → AreRising (given_rows dedup rows)
rising_given_too true rows h = rising_deduplicated rows h
rising_given_too false rows h = h

pub merges_rise : MergesRise
merges_rise dedup ls h = rising_given_too dedup (merged_lists Ascending ls) (rising_merged ls h)
