-- Rising rows, by each row and the next.
use Rattle.std.proofs.Common.{◌≡◌, refl, sym, ◌∙◌, ap, subst, ◌<◌, ℕ, List, [], ◌∷◌, length, ◌&&◌, not, Bool, true, false, cond, IsTrue, arith, rules}
use Rattle.row_laws.specs.Keys.{is_below}
use Rattle.std.specs.List.Sorted.{IsStrictlySortedBy}
use Rattle.std.specs.declared.cmp.Ordering.{Ordering}
use Rattle.std.specs.declared.cmp.Ordering.TheVariants.{Less, Equal, Greater}
use Rattle.std.specs.Ordering.{is_gt, ordering_then, nat_cmp}
use Rattle.std.proofs.lemmas.Cmp.{nat_list_cmp_total}
use Rattle.row_laws.proofs.KeyRows.{exact}
use Rattle.row_model.specs.Rows.{Row, key_cmp, row_cmp}
use Rattle.row_laws.proofs.Elements.{all_weaken}
use Rattle.fleet_rows.specs.declared.row.RowEntry.{RowEntry}
use Rattle.fleet_rows.specs.Row.{rows_of}
use Rattle.fleet_iter.specs.Iteration.{IteratorState, AreRising, OrderedRowsRise, are_rising, from_key, without_first, Moves, is_exact}

pub not_after : (o p : Ordering) → ordering_then o p ≡ Less → is_gt o ≡ false
not_after Less p h = refl
not_after Equal p h = refl
not_after Greater p h = absurd (cc h)

pub ordered_rows_rise : OrderedRowsRise
unfolding IsStrictlySortedBy
ordered_rows_rise [] h = tt
ordered_rows_rise (r ∷ rows) h = (all_weaken (λ q. row_cmp r q ≡ Less) (λ q. is_gt (key_cmp r.key q.key) ≡ false) (λ q less. not_after (key_cmp r.key q.key) (nat_cmp q.seq r.seq) less) rows h.0, ordered_rows_rise rows h.1)

both : (a b : Bool) → not a && b ≡ true → (a ≡ false) × (b ≡ true)
both false b h = (refl, h)
both true b h = absurd (cc h)

and_true : (a b : Bool) → a ≡ false → b ≡ true → not a && b ≡ true
and_true a b h g = ap (λ x. not x && b) h ∙ g

pub not_after_too : (a b c : Row) → is_gt (key_cmp a.key b.key) ≡ false → is_gt (key_cmp b.key c.key) ≡ false → is_gt (key_cmp a.key c.key) ≡ false
not_after_too a b c h g = by (key_cmp a.key b.key) refl h (key_cmp b.key c.key) refl g
  where
    by : (o : Ordering) → key_cmp a.key b.key ≡ o → is_gt o ≡ false → (p : Ordering) → key_cmp b.key c.key ≡ p → is_gt p ≡ false → is_gt (key_cmp a.key c.key) ≡ false
    by Equal e h p f g = ap is_gt (nat_list_cmp_total.congr a.key b.key c.key e ∙ f) ∙ g
    by Greater e h p f g = absurd (cc h)
    by Less e h Less f g = ap is_gt (nat_list_cmp_total.trans a.key b.key c.key e f)
    by Less e h Greater f g = absurd (cc g)
    by Less e h Equal f g = ap is_gt (sym (ap (λ k. key_cmp a.key k) (exact b.key c.key f)) ∙ e)

pub rising_of_test : (rows : List Row) → are_rising rows ≡ true → AreRising rows
rising_of_test [] h = tt
rising_of_test (r ∷ []) h = (tt, tt)
rising_of_test (r ∷ q ∷ rows) h =
    let parts = both (is_gt (key_cmp r.key q.key)) (are_rising (q ∷ rows)) h in
    let rest : AreRising (q ∷ rows) = rising_of_test (q ∷ rows) parts.1 in
    ((parts.0, all_weaken (λ x. is_gt (key_cmp q.key x.key) ≡ false) (λ x. is_gt (key_cmp r.key x.key) ≡ false) (λ x after. not_after_too r q x parts.0 after) rows rest.0), rest)

pub test_of_rising : (rows : List Row) → AreRising rows → are_rising rows ≡ true
test_of_rising [] h = refl
test_of_rising (r ∷ []) h = refl
test_of_rising (r ∷ q ∷ rows) h = and_true (is_gt (key_cmp r.key q.key)) (are_rising (q ∷ rows)) h.0.0 (test_of_rising (q ∷ rows) h.1)

pub decided : (rows : List Row) (b : Bool) → b ≡ are_rising rows → (IsTrue b → AreRising rows) × (AreRising rows → IsTrue b)
decided rows true e = ((λ _. rising_of_test rows (sym e)), λ _. search rules)
decided rows false e = ((λ h. absurd (search rules)), λ rising. let clash : false ≡ true = e ∙ test_of_rising rows rising in absurd (cc clash))

pub rising_short : (rows : List RowEntry) → length rows < 2 → are_rising (rows_of rows) ≡ true
rising_short [] h = refl
rising_short (r ∷ []) h = refl
rising_short (r ∷ q ∷ rows) h = absurd (omega arith)

-- Of rising rows, those from a key on rise.
pub rising_from : (key : List ℕ) (rows : List Row) → AreRising rows → AreRising (from_key key rows)
rising_from key [] h = tt
rising_from key (r ∷ rows) h = by (is_below key r) (rising_from key rows h.1)
  where
    by : (b : Bool) → AreRising (from_key key rows) → AreRising (cond b (from_key key rows) (r ∷ rows))
    by true rest = rest
    by false rest = h

-- A seek that drops exactly the rows below the key satisfies `Moves` for every iterator.
pub moves_on : (key : List ℕ) (s t : IteratorState) → AreRising s.rows → t ≡ record s { rows = from_key key s.rows } → Moves (is_exact s) key s t
moves_on key s t rising e = by (is_exact s)
  where
    by : (b : Bool) → Moves b key s t
    by true = e
    by false = record { initialised = ap (λ (z : IteratorState). z.initialised) e; failure = ap (λ (z : IteratorState). z.failure) e; rising = subst AreRising (sym (ap (λ (z : IteratorState). z.rows) e)) (rising_from key s.rows rising) }

-- Rising rows without the first ones that pass a test rise.
pub rising_without : (test : Row → Bool) (rows : List Row) → AreRising rows → AreRising (without_first test rows)
rising_without test [] h = tt
rising_without test (r ∷ rows) h = by (test r) (rising_without test rows h.1)
  where
    by : (b : Bool) → AreRising (without_first test rows) → AreRising (cond b (without_first test rows) (r ∷ rows))
    by true rest = rest
    by false rest = h

-- A successful seek leaves the failure as it was.
pub moves_alive : (key : List ℕ) (s t : IteratorState) (whole : Bool) → Moves whole key s t → t.failure ≡ s.failure
moves_alive key s t true m = ap (λ (z : IteratorState). z.failure) m
moves_alive key s t false m = m.failure

pub moves_rising : (key : List ℕ) (s t : IteratorState) (whole : Bool) → Moves whole key s t → AreRising s.rows → AreRising t.rows
moves_rising key s t true m h = subst AreRising (sym (ap (λ (z : IteratorState). z.rows) m)) (rising_from key s.rows h)
moves_rising key s t false m h = m.rising
