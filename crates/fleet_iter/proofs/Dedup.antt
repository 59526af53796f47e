-- Rows that dedup hides, and rows that a seek drops.
use Rattle.std.proofs.Common.{◌≡◌, ◌∙◌, sym, refl, ap, subst, ℕ, List, [], ◌∷◌, ◌&&◌, not, Option, Some, None, Ok, Bool, true, false, cond}
use Rattle.std.specs.Ordering.{is_lt}
use Rattle.std.specs.Prelude.{bytes_eq}
use Rattle.std.proofs.lemmas.Slice.Eq.{bytes_eq-Decides}
use Rattle.row_model.specs.Rows.{Row, key_cmp, same_key, is_operand}
use Rattle.row_laws.specs.Keys.{is_below}
use Rattle.fleet_rows.specs.Row.{row_of}
use Rattle.fleet_rows.specs.declared.row.RowEntry.{RowEntry}
use Rattle.fleet_rows.specs.declared.errors.SlateDBError.{SlateDBError}
use Rattle.fleet_iter.specs.Iteration.{IteratorState, AreRising, from_key, Moves, Seeks, without_first}
use Rattle.fleet_iter.specs.declared.iterator.IterationOrder.{IterationOrder}
use Rattle.fleet_iter.specs.declared.iterator.IterationOrder.TheVariants.{Ascending, Descending}
use Rattle.fleet_iter.proofs.RisingRows.{moves_on}
use Rattle.fleet_iter.proofs.RisingMerges.{rising_given_too}
use Rattle.fleet_iter.specs.Merge.{has_key, SkipsKey, hides, given_after, deduplicated_rows, given_rows, merged_left, are_whole, are_steady, are_exact, all_whole, all_steady, is_known, Takes, Skips, SkipsTo, merging}

-- After a given row, dedup skips the rows that this row hides and treats the rest as rows from their
-- beginning.
pub given_after_skipped : (r : Row) (rows : List Row) → given_after r rows ≡ deduplicated_rows (without_first (hides r) rows)
given_after_skipped r [] = refl
given_after_skipped r (q ∷ rows) = by (hides r q) (given_after_skipped r rows)
  where
    by : (b : Bool) → given_after r rows ≡ deduplicated_rows (without_first (hides r) rows)
        → cond b (given_after r rows) (q ∷ given_after q rows) ≡ deduplicated_rows (cond b (without_first (hides r) rows) (q ∷ rows))
    by true rest = rest
    by false rest = refl

-- A step with dedup takes a row, and then the rows that it hides.
pub takes_given : (order : IterationOrder) (hs hs1 hs' : List (Option RowEntry)) (ss ss1 ss' : List IteratorState) (x : RowEntry)
    → Takes order false hs ss hs1 ss1 (Some x) → Skips order (hides (row_of x)) hs1 ss1 hs' ss' → Takes order true hs ss hs' ss' (Some x)
takes_given order hs hs1 hs' ss ss1 ss' x t s =
    record {
      rows = ap deduplicated_rows t.rows ∙ ap (λ (w : List Row). row_of x ∷ w) (given_after_skipped (row_of x) (merged_left order hs1 ss1) ∙ sym (ap deduplicated_rows s.rows));
      taken = s.taken;
      same_manner = s.same_manner ∙ t.same_manner;
      ends = λ n. absurd (cc n);
    }

-- A step that takes no row without dedup takes none with dedup.
pub takes_none_given : (order : IterationOrder) (hs hs' : List (Option RowEntry)) (ss ss' : List IteratorState) → Takes order false hs ss hs' ss' None → Takes order true hs ss hs' ss' None
takes_none_given order hs hs' ss ss' t = record { rows = ap deduplicated_rows t.rows; taken = t.taken; same_manner = t.same_manner; ends = t.ends }

pub from_key_skipped : (key : List ℕ) (rows : List Row) → from_key key rows ≡ without_first (is_below key) rows
from_key_skipped key [] = refl
from_key_skipped key (r ∷ rows) = ap (λ (w : List Row). cond (is_below key r) w (r ∷ rows)) (from_key_skipped key rows)

second : (a b : Bool) → a && b ≡ true → b ≡ true
second true b h = h
second false b h = absurd (cc h)

pub hides_key : (r q : Row) → hides r q ≡ true → r.key ≡ q.key
hides_key r q h = (bytes_eq-Decides r.key q.key).0 (second (not (is_operand r)) (same_key r q) h)

below_key : (key : List ℕ) (r q : Row) → r.key ≡ q.key → is_below key r ≡ is_below key q
below_key key r q e = ap (λ (k : List ℕ). is_lt (key_cmp k key)) e

-- A test of rows that sees only their keys.
abbrev IsOfKeys : (Row → Bool) → Type 0
IsOfKeys test = (r q : Row) → r.key ≡ q.key → test r ≡ test q

-- After a row that passes such a test, dedup gives of the rows without the first ones that pass it what it gives of
-- all of them without the first ones that pass it.
skip_after : (test : Row → Bool) → IsOfKeys test → (r : Row) (rows : List Row) → test r ≡ true → without_first test (given_after r rows) ≡ deduplicated_rows (without_first test rows)
skip_after test alike r [] low = refl
skip_after test alike r (q ∷ rows) low = by (hides r q) refl (test q) refl (skip_after test alike r rows low) (skip_after test alike q rows)
  where
    by : (b : Bool) → hides r q ≡ b → (d : Bool) → test q ≡ d → without_first test (given_after r rows) ≡ deduplicated_rows (without_first test rows)
        → (test q ≡ true → without_first test (given_after q rows) ≡ deduplicated_rows (without_first test rows))
        → without_first test (cond b (given_after r rows) (q ∷ given_after q rows)) ≡ deduplicated_rows (cond (test q) (without_first test rows) (q ∷ rows))
    by true h d e rest later =
        let low_too : test q ≡ true = sym (alike r q (hides_key r q h)) ∙ low in
        rest ∙ sym (ap (λ c. deduplicated_rows (cond c (without_first test rows) (q ∷ rows))) low_too)
    by false h true e rest later =
        ap (λ c. cond c (without_first test (given_after q rows)) (q ∷ given_after q rows)) e
        ∙ (later e ∙ sym (ap (λ c. deduplicated_rows (cond c (without_first test rows) (q ∷ rows))) e))
    by false h false e rest later =
        ap (λ c. cond c (without_first test (given_after q rows)) (q ∷ given_after q rows)) e
        ∙ sym (ap (λ c. deduplicated_rows (cond c (without_first test rows) (q ∷ rows))) e)

-- Dedup and dropping the first rows that pass such a test may change places.
skip_deduplicated : (test : Row → Bool) → IsOfKeys test → (rows : List Row) → deduplicated_rows (without_first test rows) ≡ without_first test (deduplicated_rows rows)
skip_deduplicated test alike [] = refl
skip_deduplicated test alike (r ∷ rows) = sym (by (test r) refl)
  where
    by : (d : Bool) → test r ≡ d → cond (test r) (without_first test (given_after r rows)) (r ∷ given_after r rows) ≡ deduplicated_rows (cond (test r) (without_first test rows) (r ∷ rows))
    by true e =
        ap (λ c. cond c (without_first test (given_after r rows)) (r ∷ given_after r rows)) e
        ∙ (skip_after test alike r rows e ∙ sym (ap (λ c. deduplicated_rows (cond c (without_first test rows) (r ∷ rows))) e))
    by false e =
        ap (λ c. cond c (without_first test (given_after r rows)) (r ∷ given_after r rows)) e
        ∙ sym (ap (λ c. deduplicated_rows (cond c (without_first test rows) (r ∷ rows))) e)

skip_given : (test : Row → Bool) → IsOfKeys test → (dedup : Bool) (rows : List Row) → given_rows dedup (without_first test rows) ≡ without_first test (given_rows dedup rows)
skip_given test alike true rows = skip_deduplicated test alike rows
skip_given test alike false rows = refl

-- The rows below a key may be dropped before dedup or after it.
seek_given : (dedup : Bool) (key : List ℕ) (rows : List Row) → given_rows dedup (without_first (is_below key) rows) ≡ from_key key (given_rows dedup rows)
seek_given dedup key rows = skip_given (is_below key) (below_key key) dedup rows ∙ sym (from_key_skipped key (given_rows dedup rows))

has_too : (key : List ℕ) (r q : Row) → r.key ≡ q.key → has_key key r ≡ has_key key q
has_too key r q e = ap (bytes_eq key) e

-- What a seek of a merge leaves.
module _ (key : List ℕ) (dedup initialised : Bool) (failure : Option SlateDBError) (hs hs' : List (Option RowEntry)) (ss ss' : List IteratorState) where
  abbrev state : IterationOrder → List (Option RowEntry) → List IteratorState → IteratorState
  state order heads sources = merging order dedup initialised failure heads sources

  stated : (order : IterationOrder) → Skips order (is_below key) hs ss hs' ss' → state order hs' ss' ≡ record (state order hs ss) { rows = from_key key (state order hs ss).rows }
  stated order s =
      let rows : given_rows dedup (merged_left order hs' ss') ≡ from_key key (given_rows dedup (merged_left order hs ss)) = ap (given_rows dedup) s.rows ∙ seek_given dedup key (merged_left order hs ss) in
      let whole : are_whole ss' ≡ are_whole ss = ap all_whole s.same_manner in
      let steady : are_steady ss' ≡ are_steady ss = ap all_steady s.same_manner in
      cc (rows, whole, steady)

  moves : (order : IterationOrder) (exact : Bool) → are_exact ss ≡ exact → AreRising (state order hs ss).rows → SkipsTo (is_known order exact) order key hs ss hs' ss' → Moves (are_exact ss) key (state order hs ss) (state order hs' ss')
  moves Ascending true e rising s = moves_on key (state Ascending hs ss) (state Ascending hs' ss') rising (stated Ascending s)
  moves Ascending false e rising s = subst (λ b. Moves b key (state Ascending hs ss) (state Ascending hs' ss')) (sym e) (record { initialised = refl; failure = refl; rising = rising_given_too dedup (merged_left Ascending hs' ss') s.1 })
  moves Descending exact e rising s = moves_on key (state Descending hs ss) (state Descending hs' ss') rising (stated Descending s)

  pub seeks : (order : IterationOrder) → initialised ≡ true → failure ≡ None → AreRising (state order hs ss).rows → SkipsTo (is_known order (are_exact ss)) order key hs ss hs' ss' → Seeks key (state order hs ss) (state order hs' ss') (Ok tt)
  seeks order begun alive rising s = record {
    failed = λ h. absurd (h alive);
    uninitialised = λ _ h. let clash : true ≡ false = sym begun ∙ h in absurd (cc clash);
    answers = λ _ _. moves order (are_exact ss) refl rising s;
  }

  -- If all sources are exact, a seek leaves exactly the merged rows from the key on.
  pub seeks_all : (order : IterationOrder) → are_exact ss ≡ true → SkipsTo (is_known order (are_exact ss)) order key hs ss hs' ss' → merged_left order hs' ss' ≡ from_key key (merged_left order hs ss)
  seeks_all Ascending e s = (subst (λ b. SkipsTo b Ascending key hs ss hs' ss') e s).rows ∙ sym (from_key_skipped key (merged_left Ascending hs ss))
  seeks_all Descending e s = s.rows ∙ sym (from_key_skipped key (merged_left Descending hs ss))

  -- What it leaves to drop the first rows of a key.
  pub skips_key : (order : IterationOrder) → initialised ≡ true → failure ≡ None → Skips order (has_key key) hs ss hs' ss' → SkipsKey key (state order hs ss) (state order hs' ss') (Ok tt)
  skips_key order begun alive s = record {
    failed = λ h. absurd (h alive);
    uninitialised = λ _ h. let clash : true ≡ false = sym begun ∙ h in absurd (cc clash);
    answers = λ _ _.
        let rows : given_rows dedup (merged_left order hs' ss') ≡ without_first (has_key key) (given_rows dedup (merged_left order hs ss)) = ap (given_rows dedup) s.rows ∙ skip_given (has_key key) (has_too key) dedup (merged_left order hs ss) in
        let whole : are_whole ss' ≡ are_whole ss = ap all_whole s.same_manner in
        let steady : are_steady ss' ≡ are_steady ss = ap all_steady s.same_manner in
        cc (rows, whole, steady);
  }
