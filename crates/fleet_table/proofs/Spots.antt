-- How many ordered rows are before a spot.
use Rattle.std.proofs.Common.{◌≡◌, refl, sym, ◌∙◌, ap, subst, ℕ, zero, suc, ◌<◌, ◌≤◌, ◌+◌, ◌-◌, List, [], ◌∷◌, length, take, drop, Bool, true, false, cond, IsTrue, Some, None, arith, rules}
use Rattle.std.specs.Prelude.{filter, nat_lt, not, slice_get}
use Rattle.std.specs.List.{AllByRecursion, prefix_len}
use Rattle.std.specs.List.Sorted.{IsStrictlySortedBy}
use Rattle.std.specs.declared.cmp.Ordering.{Ordering}
use Rattle.std.specs.declared.cmp.Ordering.TheVariants.{Less, Equal, Greater}
use Rattle.std.specs.Ordering.{is_gt, is_lt, nat_cmp, ordering_then}
use Rattle.std.proofs.lemmas.List.{drop_at, take_at}
use Rattle.row_model.specs.Rows.{Row, Tombstone, key_cmp, row_cmp, IsStrictlyOrdered}
use Rattle.row_laws.specs.Keys.{is_below}
use Rattle.row_laws.proofs.ApartRows.{below_too, filter_none, lt_is}
use Rattle.row_laws.proofs.KeyRows.{none_from, split_by, up_to, up_to_too}
use Rattle.row_laws.proofs.Order.{row_total}
use Rattle.fleet_table.specs.Cursors.{before_by, is_before_spot}
use Rattle.fleet_table.specs.Order.{is_before}
use Rattle.fleet_table.specs.declared.cursor.Ties.{Ties}
use Rattle.fleet_table.specs.declared.cursor.Ties.TheVariants.{After, Before, Newer}

-- ---- a test that earlier rows pass wherever a later row does

got_from : (P : Row → Type 0) (rows : List Row) (i : ℕ) (r : Row) → AllByRecursion P rows → slice_get rows i ≡ Some r → P r
got_from P [] i r h got = absurd (cc got)
got_from P (q ∷ rows) zero r h got = let same : q ≡ r = cc got in subst P same h.0
got_from P (q ∷ rows) (suc i) r h got = got_from P rows i r h.1 got

module _ (p : Row → Bool) (closed : (r q : Row) → row_cmp r q ≡ Less → p q ≡ true → p r ≡ true) where
  pub passing : (rows : List Row) → IsStrictlyOrdered rows → (i : ℕ) (r : Row) → slice_get rows i ≡ Some r → p r ≡ true → i < prefix_len p rows
  unfolding IsStrictlySortedBy
  passing [] ordered i r got holds = absurd (cc got)
  passing (q ∷ rows) ordered zero r got holds =
      let same : q ≡ r = cc got in
      let here : p q ≡ true = ap p same ∙ holds in
      let all = ap (λ b. cond b (1 + prefix_len p rows) 0) here in
      omega (arith, all)
  passing (q ∷ rows) ordered (suc i) r got holds =
      let here : p q ≡ true = closed q r (got_from (λ x. row_cmp q x ≡ Less) rows i r ordered.0 got) holds in
      let all = ap (λ b. cond b (1 + prefix_len p rows) 0) here in
      let rest = passing rows ordered.1 i r got holds in
      omega (arith, all, rest)

  -- No more rows pass a test at the front than there are before a row that fails it.
  pub failing : (rows : List Row) (i : ℕ) (r : Row) → slice_get rows i ≡ Some r → p r ≡ false → prefix_len p rows ≤ i
  failing [] i r got fails = absurd (cc got)
  failing (q ∷ rows) zero r got fails =
      let same : q ≡ r = cc got in
      let here : p q ≡ false = ap p same ∙ fails in
      let all = ap (λ b. cond b (1 + prefix_len p rows) 0) here in
      omega (arith, all)
  failing (q ∷ rows) (suc i) r got fails = by (p q) (failing rows i r got fails)
    where
      by : (b : Bool) → prefix_len p rows ≤ i → cond b (1 + prefix_len p rows) 0 ≤ suc i
      by true h = omega arith
      by false h = omega arith

  none_passes : (rows : List Row) → AllByRecursion (λ r. p r ≡ false) rows → prefix_len p rows ≡ 0
  none_passes [] h = refl
  none_passes (r ∷ rows) h = ap (λ b. cond b (1 + prefix_len p rows) 0) h.0

  prefix_filter : (rows : List Row) → IsStrictlyOrdered rows → prefix_len p rows ≡ length (filter p rows)
  unfolding IsStrictlySortedBy
  prefix_filter [] ordered = refl
  prefix_filter (r ∷ rows) ordered = by (p r) refl (prefix_filter rows ordered.1)
    where
      by : (b : Bool) → p r ≡ b → prefix_len p rows ≡ length (filter p rows) → cond b (1 + prefix_len p rows) 0 ≡ length (cond b (r ∷ filter p rows) (filter p rows))
      by true e rest = grind (arith, rest)
      by false e rest = sym (ap length (filter_none p rows (none_from p closed r rows e ordered.0)))

  pub passing_rows : (rows : List Row) → IsStrictlyOrdered rows → filter p rows ≡ take (prefix_len p rows) rows
  passing_rows rows ordered =
      sym (take_at (filter p rows) (filter (λ r. not (p r)) rows) (prefix_len p rows) (sym (prefix_filter rows ordered)))
      ∙ ap (take (prefix_len p rows)) (split_by p closed rows ordered)

  pub failing_rows : (rows : List Row) → IsStrictlyOrdered rows → filter (λ r. not (p r)) rows ≡ drop (prefix_len p rows) rows
  failing_rows rows ordered =
      sym (drop_at (filter p rows) (filter (λ r. not (p r)) rows) (prefix_len p rows) (sym (prefix_filter rows ordered)))
      ∙ ap (drop (prefix_len p rows)) (split_by p closed rows ordered)

  pub prefix_after : (rows : List Row) → IsStrictlyOrdered rows → (s : ℕ) → prefix_len p (drop s rows) ≡ prefix_len p rows - s
  unfolding IsStrictlySortedBy
  prefix_after rows ordered zero = omega arith
  prefix_after [] ordered (suc s) = omega arith
  prefix_after (r ∷ rows) ordered (suc s) = by (p r) refl (prefix_after rows ordered.1 s)
    where
      by : (b : Bool) → p r ≡ b → prefix_len p (drop s rows) ≡ prefix_len p rows - s → prefix_len p (drop s rows) ≡ cond b (1 + prefix_len p rows) 0 - suc s
      by true e rest = omega (arith, rest)
      by false e rest = let none = none_passes rows (none_from p closed r rows e ordered.0) in omega (arith, rest, none)

pub prefix_same : (p q : Row → Bool) → ((r : Row) → p r ≡ q r) → (rows : List Row) → prefix_len p rows ≡ prefix_len q rows
prefix_same p q same [] = refl
prefix_same p q same (r ∷ rows) = ap (λ b. cond b (1 + prefix_len p rows) 0) (same r) ∙ ap (λ n. cond (q r) (1 + n) 0) (prefix_same p q same rows)

-- ---- spots

newer : (most seq : ℕ) → nat_lt most seq ≡ is_lt (nat_cmp most seq)
newer most seq = grind arith

pub after_is : (key : List ℕ) (r : Row) → is_before_spot key After r ≡ is_below key r
after_is key r = by (key_cmp r.key key)
  where
    by : (o : Ordering) → before_by o After r.seq ≡ is_lt o
    by Less = refl
    by Equal = refl
    by Greater = refl

pub before_is : (key : List ℕ) (r : Row) → is_before_spot key Before r ≡ up_to key r
before_is key r = by (key_cmp r.key key)
  where
    by : (o : Ordering) → before_by o Before r.seq ≡ not (is_gt o)
    by Less = refl
    by Equal = refl
    by Greater = refl

pub newer_is : (key : List ℕ) (most : ℕ) (r : Row) → is_before_spot key (Newer most) r ≡ is_before key most r
newer_is key most r = by (key_cmp r.key key)
  where
    by : (o : Ordering) → before_by o (Newer most) r.seq ≡ is_lt (ordering_then o (nat_cmp most r.seq))
    by Less = refl
    by Equal = newer most r.seq
    by Greater = refl

abbrev place_row : List ℕ → ℕ → Row
place_row key seq = record { key = key; content = Tombstone; seq = seq; created = None; expires = None }

before_too : (key : List ℕ) (seq : ℕ) (r q : Row) → row_cmp r q ≡ Less → is_before key seq q ≡ true → is_before key seq r ≡ true
before_too key seq r q before h = ap is_lt (row_total.trans r q (place_row key seq) before (lt_is (row_cmp q (place_row key seq)) h))

-- If a later row is before a spot, so is each earlier row.
pub spot_too : (key : List ℕ) (ties : Ties) (r q : Row) → row_cmp r q ≡ Less → is_before_spot key ties q ≡ true → is_before_spot key ties r ≡ true
spot_too key After r q before h = after_is key r ∙ below_too key r q before (sym (after_is key q) ∙ h)
spot_too key Before r q before h = before_is key r ∙ up_to_too key r q before (sym (before_is key q) ∙ h)
spot_too key (Newer most) r q before h = newer_is key most r ∙ before_too key most r q before (sym (newer_is key most q) ∙ h)

pub is_true : (b : Bool) → IsTrue b → b ≡ true
is_true true h = refl
is_true false h = absurd (search rules)

pub is_ahead : (key : List ℕ) (ties : Ties) (rows : List Row) → IsStrictlyOrdered rows → (i : ℕ) (r : Row) (b : Bool) → slice_get rows i ≡ Some r → b ≡ is_before_spot key ties r → IsTrue b → i < prefix_len (is_before_spot key ties) rows
is_ahead key ties rows ordered i r b got is holds = passing (is_before_spot key ties) (spot_too key ties) rows ordered i r got (sym is ∙ is_true b holds)

pub is_after : (key : List ℕ) (ties : Ties) (rows : List Row) (i : ℕ) (r : Row) (b : Bool) → slice_get rows i ≡ Some r → b ≡ is_before_spot key ties r → b ≡ false → prefix_len (is_before_spot key ties) rows ≤ i
is_after key ties rows i r b got is fails = failing (is_before_spot key ties) (spot_too key ties) rows i r got (sym is ∙ fails)
