-- Rows of a table from one place up to another.
use Rattle.std.proofs.Common.{◌≡◌, ◌≢◌, refl, sym, ◌∙◌, ap, ℕ, zero, suc, ◌<◌, ◌≤◌, ◌+◌, ◌-◌, List, [], ◌∷◌, length, take, drop, Bool, true, false, cond, Some, arith}
use Rattle.std.specs.Prelude.{filter, min, not, slice_get}
use Rattle.std.specs.List.{prefix_len}
use Rattle.std.proofs.lemmas.List.{drop-drop, drop-take, length-drop, length-take, take_all}
use Rattle.std.specs.declared.ops.Bound.TheVariants.{Included, Excluded, Unbounded}
use Rattle.row_model.specs.Ranges.{Range, is_after_start, is_before_end, rows_in}
use Rattle.row_model.specs.Rows.{Row, IsStrictlyOrdered}
use Rattle.row_laws.specs.Keys.{is_below}
use Rattle.row_laws.proofs.ApartRows.{below_too, ordered_filter}
use Rattle.fleet_iter.specs.Iteration.{from_key}
use Rattle.fleet_range.specs.Keys.{model_bound, range_of}
use Rattle.fleet_range.specs.Ranges.{Ends}
use Rattle.fleet_table.specs.Cursors.{is_before_spot, rows_between}
use Rattle.fleet_table.specs.declared.cursor.Ties.TheVariants.{After, Before}
use Rattle.fleet_table.specs.Order.{is_before_range, is_not_after_range}
use Rattle.fleet_table.proofs.InRange.{before_excluded, before_included, before_range_too, in_range_is, not_before, not_after_too}
use Rattle.fleet_table.proofs.Spots.{before_is, after_is, failing_rows, passing_rows, prefix_after, prefix_same}

-- ---- the rows of a range

-- The rows in a range are those between the place of its first row and the place after its last one.
pub range_between : (range : Range) (rows : List Row) (start end : ℕ) → IsStrictlyOrdered rows → start ≡ prefix_len (is_before_range range) rows → end ≡ prefix_len (is_not_after_range range) rows → rows_between start end rows ≡ rows_in range rows
range_between range rows start end ordered from to =
    let p = is_before_range range in
    let q = is_not_after_range range in
    let kept : filter (λ r. not (p r)) rows ≡ drop start rows = failing_rows p (before_range_too range) rows ordered ∙ ap (λ n. drop n rows) (sym from) in
    let many : prefix_len q (drop start rows) ≡ end - start = prefix_after q (not_after_too range) rows ordered start ∙ ap (λ n. n - start) (sym to) in
    ap (λ n. take n (drop start rows)) (sym many)
    ∙ ap (λ rs. take (prefix_len q rs) rs) (sym kept)
    ∙ sym (passing_rows q (not_after_too range) (filter (λ r. not (p r)) rows) (ordered_filter (λ r. not (p r)) rows ordered))
    ∙ ap (filter q) (not_before range rows)
    ∙ in_range_is range rows

-- ---- rows that are taken from a span

pub none_between : (rows : List Row) (start end : ℕ) → end ≤ start → rows_between start end rows ≡ []
none_between rows start end h = let none : end - start ≡ 0 = omega (arith, h) in ap (λ n. take n (drop start rows)) none

pub some_between : (rows : List Row) (start end : ℕ) → start < end → end ≤ length rows → rows_between start end rows ≢ []
some_between rows start end some within none =
    let few = ap length none in
    omega (arith, few, length-take (end - start) (drop start rows), length-drop start rows)

first_of : (rows : List Row) (start : ℕ) (r : Row) → slice_get rows start ≡ Some r → drop start rows ≡ r ∷ drop (start + 1) rows
first_of [] start r got = absurd (cc got)
first_of (q ∷ rows) zero r got = let same : q ≡ r = cc got in ap (λ x. x ∷ rows) same
first_of (q ∷ rows) (suc start) r got = let one : suc (start + 1) ≡ suc start + 1 = omega arith in first_of rows start r got ∙ ap (λ n. r ∷ drop n (q ∷ rows)) one

pub taken_between : (rows : List Row) (start next end : ℕ) (r : Row) → start < end → slice_get rows start ≡ Some r → next ≡ start + 1 → rows_between start end rows ≡ r ∷ rows_between next end rows
taken_between rows start next end r some got at =
    let more : end - start ≡ suc (end - next) = omega (arith, at, some) in
    ap (λ n. take n (drop start rows)) more
    ∙ ap (take (suc (end - next))) (first_of rows start r got)
    ∙ ap (λ n. r ∷ take (end - next) (drop n rows)) (sym at)

-- Taking the first row of a span of which something is left.
pub taken_span : (rows span : List Row) (start next end : ℕ) (r : Row) → rows_between start end rows ≡ span → start < end → slice_get rows start ≡ Some r → next ≡ start + 1 → span ≡ r ∷ rows_between next end rows
taken_span rows span start next end r is some got at = sym is ∙ taken_between rows start next end r some got at

pub ended_span : (rows span : List Row) (start end : ℕ) → rows_between start end rows ≡ span → end ≤ start → span ≡ []
ended_span rows span start end is none = sym is ∙ none_between rows start end none

-- ---- rows from a key on

from_key_drops : (key : List ℕ) (rows : List Row) → from_key key rows ≡ drop (prefix_len (is_below key) rows) rows
from_key_drops key [] = refl
from_key_drops key (r ∷ rows) = by (is_below key r) (from_key_drops key rows)
  where
    by : (b : Bool) → from_key key rows ≡ drop (prefix_len (is_below key) rows) rows → cond b (from_key key rows) (r ∷ rows) ≡ drop (cond b (1 + prefix_len (is_below key) rows) 0) (r ∷ rows)
    by true rest = let one : suc (prefix_len (is_below key) rows) ≡ 1 + prefix_len (is_below key) rows = omega arith in rest ∙ ap (λ n. drop n (r ∷ rows)) one
    by false rest = refl

prefix_take : (p : Row → Bool) (n : ℕ) (rows : List Row) → prefix_len p (take n rows) ≡ min n (prefix_len p rows)
prefix_take p zero rows = omega arith
prefix_take p (suc n) [] = omega arith
prefix_take p (suc n) (r ∷ rows) = by (p r) (prefix_take p n rows)
  where
    by : (b : Bool) → prefix_len p (take n rows) ≡ min n (prefix_len p rows) → cond b (1 + prefix_len p (take n rows)) 0 ≡ min (suc n) (cond b (1 + prefix_len p rows) 0)
    by true rest = omega (arith, rest)
    by false rest = omega arith

module _ (key : List ℕ) (rows : List Row) (ordered : IsStrictlyOrdered rows) (start end there : ℕ) (at : there ≡ prefix_len (is_below key) rows) where
  dropped : from_key key (rows_between start end rows) ≡ drop (min (end - start) (there - start)) (rows_between start end rows)
  dropped =
      from_key_drops key (rows_between start end rows)
      ∙ ap (λ n. drop n (rows_between start end rows))
      (prefix_take (is_below key) (end - start) (drop start rows) ∙ ap (min (end - start)) (prefix_after (is_below key) (below_too key) rows ordered start ∙ ap (λ n. n - start) (sym at)))

  -- The first row of the key is after the start, so the rows before it are dropped.
  pub skipped_between : start < there → rows_between there end rows ≡ from_key key (rows_between start end rows)
  skipped_between ahead = by (end - there) refl
    where
      by : (n : ℕ) → end - there ≡ n → rows_between there end rows ≡ from_key key (rows_between start end rows)
      by zero none =
          let k = min (end - start) (there - start) in
          let all : end - start ≡ k + 0 = omega (arith, none, ahead) in
          ap (λ n. take n (drop there rows)) none
          ∙ sym (dropped ∙ ap (λ n. drop k (take n (drop start rows))) all ∙ drop-take k 0 (drop start rows))
      by (suc n) some =
          let k = min (end - start) (there - start) in
          let all : end - start ≡ k + (end - there) = omega (arith, some, ahead) in
          let place : start + k ≡ there = omega (arith, some, ahead) in
          sym (dropped
          ∙ ap (λ m. drop k (take m (drop start rows))) all
          ∙ drop-take k (end - there) (drop start rows)
          ∙ ap (take (end - there)) (drop-drop k start rows ∙ ap (λ m. drop m rows) place))

  -- The first row of the key is not after the start, so no row is dropped.
  pub stayed_between : there ≤ start → rows_between start end rows ≡ from_key key (rows_between start end rows)
  stayed_between here = let none : min (end - start) (there - start) ≡ 0 = omega (arith, here) in sym (dropped ∙ ap (λ n. drop n (rows_between start end rows)) none)

-- ---- the ends of a range

all_pass : (rows : List Row) → prefix_len (λ r. true) rows ≡ length rows
all_pass [] = refl
all_pass (r ∷ rows) = let rest = all_pass rows in omega (arith, rest)

none_passes : (rows : List Row) → prefix_len (λ r. false) rows ≡ 0
none_passes [] = refl
none_passes (r ∷ rows) = refl

module _ (ends : Ends (List ℕ)) (rows : List Row) where
  pub end_open : Unbounded ≡ ends.1 → length rows ≡ prefix_len (is_not_after_range (range_of ends)) rows
  end_open open_end = sym (prefix_same (is_not_after_range (range_of ends)) (λ r. true) (λ r. ap (λ b. is_before_end (model_bound b) r.key) (sym open_end)) rows ∙ all_pass rows)

  pub start_open : Unbounded ≡ ends.0 → prefix_len (is_before_range (range_of ends)) rows ≡ 0
  start_open open_end = prefix_same (is_before_range (range_of ends)) (λ r. false) (λ r. ap (λ b. not (is_after_start (model_bound b) r.key)) (sym open_end)) rows ∙ none_passes rows

  pub start_included : (key : List ℕ) → Included key ≡ ends.0 → prefix_len (is_before_spot key After) rows ≡ prefix_len (is_before_range (range_of ends)) rows
  start_included key is = prefix_same (is_before_spot key After) (is_before_range (range_of ends)) (λ r. after_is key r ∙ sym (before_included key r) ∙ ap (λ b. not (is_after_start (model_bound b) r.key)) is) rows

  pub start_excluded : (key : List ℕ) → Excluded key ≡ ends.0 → prefix_len (is_before_spot key Before) rows ≡ prefix_len (is_before_range (range_of ends)) rows
  start_excluded key is = prefix_same (is_before_spot key Before) (is_before_range (range_of ends)) (λ r. before_is key r ∙ sym (before_excluded key r) ∙ ap (λ b. not (is_after_start (model_bound b) r.key)) is) rows

pub skipped_span : (key : List ℕ) (rows span : List Row) (start end there : ℕ) → IsStrictlyOrdered rows → rows_between start end rows ≡ span → there ≡ prefix_len (is_before_spot key After) rows → start < there → rows_between there end rows ≡ from_key key span
skipped_span key rows span start end there ordered is at ahead =
    skipped_between key rows ordered start end there (at ∙ prefix_same (is_before_spot key After) (is_below key) (after_is key) rows) ahead ∙ ap (from_key key) is

pub stayed_span : (key : List ℕ) (rows span : List Row) (start end there : ℕ) → IsStrictlyOrdered rows → rows_between start end rows ≡ span → there ≡ prefix_len (is_before_spot key After) rows → there ≤ start → span ≡ from_key key span
stayed_span key rows span start end there ordered is at after =
    sym is ∙ stayed_between key rows ordered start end there (at ∙ prefix_same (is_before_spot key After) (is_below key) (after_is key) rows) after ∙ ap (from_key key) is

pub all_between : (rows : List Row) (start end : ℕ) → start ≡ 0 → end ≡ length rows → rows_between start end rows ≡ rows
all_between rows start end begin is =
    let many : length rows ≤ end - start = omega (arith, begin, is) in
    ap (λ n. take (end - start) (drop n rows)) begin ∙ take_all (end - start) rows many
