-- Tables that do not meet a range may be left out of a scan of it.
use Rattle.std.proofs.Common.{◌≡◌, ◌≢◌, refl, sym, ◌∙◌, ap, cond, Bool, true, false, not, ◌&&◌, List, [], ◌∷◌, ◌++◌}
use Rattle.std.specs.Prelude.{filter, flat_map}
use Rattle.std.specs.List.{AllByRecursion}
use Rattle.std.specs.List.Sorted.{IsStrictlySortedBy}
use Rattle.std.specs.declared.cmp.Ordering.TheVariants.{Less}
use Rattle.std.proofs.lemmas.List.Elements.{filter-append}
use Rattle.row_model.specs.Lists.{Pairs}
use Rattle.row_model.specs.Ranges.{Range, is_after_start, is_before_end, is_in_range, rows_in}
use Rattle.row_model.specs.Rows.{IsStrictlyOrdered, Row, row_cmp}
use Rattle.row_laws.proofs.ApartRows.{false_or, filter_none}
use Rattle.row_laws.proofs.Elements.{all_append, all_back, all_front, all_weaken}
use Rattle.fleet_model.specs.Trees.{first_key, last_key}
use Rattle.commit_laws.proofs.Stretches.{pairs_across, pairs_append, pairs_first, pairs_second}
use Rattle.fleet_table.proofs.InRange.{before_range_too, not_after_too}

-- ---- the rows of some of the tables

module _ {A : Type 0} (rows_at : A → List Row) (keep : A → Bool) where
  all_kept : (P : Row → Type 0) (xs : List A) → AllByRecursion P (flat_map rows_at xs) → AllByRecursion P (flat_map rows_at (filter keep xs))
  all_kept P [] all = tt
  all_kept P (x ∷ xs) all = by (keep x) (all_kept P xs (all_back P (rows_at x) (flat_map rows_at xs) all))
    where
      by : (b : Bool) → AllByRecursion P (flat_map rows_at (filter keep xs)) → AllByRecursion P (flat_map rows_at (cond b (x ∷ filter keep xs) (filter keep xs)))
      by true rest = all_append P (rows_at x) (flat_map rows_at (filter keep xs)) (all_front P (rows_at x) (flat_map rows_at xs) all) rest
      by false rest = rest

  -- What holds of every two rows of all tables holds of every two rows of some of them.
  pub pairs_kept : (R : Row → Row → Type 0) (xs : List A) → Pairs R (flat_map rows_at xs) → Pairs R (flat_map rows_at (filter keep xs))
  pairs_kept R [] h = tt
  pairs_kept R (x ∷ xs) h = by (keep x) (pairs_kept R xs (pairs_second R (rows_at x) (flat_map rows_at xs) h))
    where
      across : AllByRecursion (λ r. AllByRecursion (R r) (flat_map rows_at (filter keep xs))) (rows_at x)
      across = all_weaken (λ r. AllByRecursion (R r) (flat_map rows_at xs)) (λ r. AllByRecursion (R r) (flat_map rows_at (filter keep xs))) (λ r. all_kept (R r) xs) (rows_at x) (pairs_across R (rows_at x) (flat_map rows_at xs) h)

      by : (b : Bool) → Pairs R (flat_map rows_at (filter keep xs)) → Pairs R (flat_map rows_at (cond b (x ∷ filter keep xs) (filter keep xs)))
      by true rest = pairs_append R (rows_at x) (flat_map rows_at (filter keep xs)) (pairs_first R (rows_at x) (flat_map rows_at xs) h) rest across
      by false rest = rest

  -- If the others have no row in the range, the kept tables have all rows in it.
  pub rows_kept : (range : Range) (xs : List A) → AllByRecursion (λ x. keep x ≡ false → rows_in range (rows_at x) ≡ []) xs → rows_in range (flat_map rows_at (filter keep xs)) ≡ rows_in range (flat_map rows_at xs)
  rows_kept range [] all = refl
  rows_kept range (x ∷ xs) all = by (keep x) refl (rows_kept range xs all.1) ∙ sym (filter-append (λ r. is_in_range range r.key) (rows_at x) (flat_map rows_at xs))
    where
      by : (b : Bool) → keep x ≡ b → rows_in range (flat_map rows_at (filter keep xs)) ≡ rows_in range (flat_map rows_at xs) → rows_in range (flat_map rows_at (cond b (x ∷ filter keep xs) (filter keep xs))) ≡ rows_in range (rows_at x) ++ rows_in range (flat_map rows_at xs)
      by true e rest = filter-append (λ r. is_in_range range r.key) (rows_at x) (flat_map rows_at (filter keep xs)) ∙ ap (λ rows. rows_in range (rows_at x) ++ rows) rest
      by false e rest = rest ∙ sym (ap (λ rows. rows ++ rows_in range (flat_map rows_at xs)) (all.0 e))

-- ---- strictly ordered rows are those of which each is before all later ones

abbrev pub IsBefore : Row → Row → Type 0
IsBefore r q = row_cmp r q ≡ Less

pub to_pairs : (rows : List Row) → IsStrictlyOrdered rows → Pairs IsBefore rows
unfolding IsStrictlySortedBy
to_pairs [] h = tt
to_pairs (r ∷ rows) h = (h.0, to_pairs rows h.1)

pub from_pairs : (rows : List Row) → Pairs IsBefore rows → IsStrictlyOrdered rows
unfolding IsStrictlySortedBy
from_pairs [] h = tt
from_pairs (r ∷ rows) h = (h.0, from_pairs rows h.1)

-- ---- a table that does not meet the range has no row in it

module _ (range : Range) where
  outside : (a b : Bool) → a ≡ false → (a && b) ≡ false
  outside true b e = absurd (cc e)
  outside false b e = refl

  outside_end : (a b : Bool) → b ≡ false → (a && b) ≡ false
  outside_end true b e = e
  outside_end false b e = refl

  -- The first row is after the range, so all rows are.
  all_after : (r : Row) (rows : List Row) → is_before_end range.to r.key ≡ false → AllByRecursion (IsBefore r) rows → AllByRecursion (λ q. is_in_range range q.key ≡ false) rows
  all_after r [] after less = tt
  all_after r (q ∷ rows) after less = (
    outside_end (is_after_start range.from q.key) (is_before_end range.to q.key) (false_or (is_before_end range.to q.key) (λ e. let r_too = not_after_too range r q less.0 e in absurd (cc (r_too, after)))),
    all_after r rows after less.1,
  )

  -- The last row is before the range, so all rows are.
  all_before : (r : Row) (rows : List Row) → Pairs IsBefore (r ∷ rows) → is_after_start range.from (last_key r.key rows) ≡ false → (is_after_start range.from r.key ≡ false) × AllByRecursion (λ q. is_in_range range q.key ≡ false) (r ∷ rows)
  all_before r [] ordered before = (before, (outside (is_after_start range.from r.key) (is_before_end range.to r.key) before, tt))
  all_before r (q ∷ rows) ordered before =
      let rest = all_before q rows ordered.1 before in
      let here : is_after_start range.from r.key ≡ false = flip (is_after_start range.from r.key) (before_range_too range r q ordered.0.0 (ap not rest.0)) in
      (here, (outside (is_after_start range.from r.key) (is_before_end range.to r.key) here, rest.1))
    where
      flip : (b : Bool) → not b ≡ true → b ≡ false
      flip true e = absurd (cc e)
      flip false e = refl

  pub none_met : (rows : List Row) → IsStrictlyOrdered rows → rows ≢ [] → (is_before_end range.to (first_key rows) && is_after_start range.from (last_key [] rows)) ≡ false → rows_in range rows ≡ []
  none_met [] ordered some misses = absurd (some refl)
  none_met (r ∷ rows) ordered some misses = filter_none (λ q. is_in_range range q.key) (r ∷ rows) (by (is_before_end range.to r.key) refl misses)
    where
      by : (b : Bool) → is_before_end range.to r.key ≡ b → (b && is_after_start range.from (last_key r.key rows)) ≡ false → AllByRecursion (λ q. is_in_range range q.key ≡ false) (r ∷ rows)
      by true e misses = (all_before r rows (to_pairs (r ∷ rows) ordered) misses).1
      by false e misses = (outside_end (is_after_start range.from r.key) (is_before_end range.to r.key) e, all_after r rows e (to_pairs (r ∷ rows) ordered).0)
