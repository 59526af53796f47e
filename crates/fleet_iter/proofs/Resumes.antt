-- Strictly ordered rows after a cursor.
use Rattle.std.proofs.Common.{◌≡◌, ◌∙◌, sym, refl, ap, subst, Some, ℕ, ◌<◌, ◌≤◌, List, [], ◌∷◌, not, Bool, true, false, cond, Option, arith}
use Rattle.std.specs.Prelude.{filter, bytes_eq, nat_le}
use Rattle.std.specs.List.{AllByRecursion}
use Rattle.std.specs.List.Sorted.{IsStrictlySortedBy}
use Rattle.std.specs.declared.cmp.Ordering.{Ordering}
use Rattle.std.specs.declared.cmp.Ordering.TheVariants.{Less, Equal, Greater}
use Rattle.std.specs.Ordering.{is_lt, ordering_then, nat_cmp}
use Rattle.std.proofs.lemmas.Slice.Eq.{bytes_eq-Decides}
use Rattle.std.proofs.lemmas.Bool.{le-leb, leb-true, and_from, and_parts}
use Rattle.std.specs.Cmp.{ranked}
use Rattle.row_model.specs.Lists.{Pairs}
use Rattle.row_model.specs.Rows.{Row, key_cmp, row_cmp, IsStrictlyOrdered}
use Rattle.row_laws.specs.Keys.{is_below, is_from}
use Rattle.row_laws.specs.Resume.{Cursor}
use Rattle.row_laws.proofs.ApartRows.{below_too, false_or, filter_all, passes, ordered_filter}
use Rattle.row_laws.proofs.Elements.{all_weaken}
use Rattle.row_laws.proofs.KeyRows.{exact}
use Rattle.fleet_iter.specs.Iteration.{IteratorState, AreRising, Moves, from_key, without_first}
use Rattle.fleet_iter.specs.Resume.{is_written, Resumes, ResumesBy, ResumesAfter}
use Rattle.fleet_iter.proofs.RisingRows.{rising_without}
use Rattle.fleet_iter.proofs.Dedup.{from_key_skipped}

-- Before each row that passes the test, all rows pass it.
abbrev StandsFirst : (Row → Bool) → List Row → Type 0
StandsFirst test rows = Pairs (λ r q. test q ≡ true → test r ≡ true) rows

-- If the rows that pass a test come first, the rows left without them are those that do not pass it.
first_are_filtered : (test : Row → Bool) (rows : List Row) → StandsFirst test rows → without_first test rows ≡ filter (λ r. not (test r)) rows
first_are_filtered test [] h = refl
first_are_filtered test (r ∷ rows) h = by (test r) refl (first_are_filtered test rows h.1)
  where
    by : (b : Bool) → test r ≡ b → without_first test rows ≡ filter (λ q. not (test q)) rows → cond (test r) (without_first test rows) (r ∷ rows) ≡ cond (not (test r)) (r ∷ filter (λ q. not (test q)) rows) (filter (λ q. not (test q)) rows)
    by true e rest =
        ap (λ b. cond b (without_first test rows) (r ∷ rows)) e
        ∙ (rest ∙ sym (ap (λ b. cond (not b) (r ∷ filter (λ q. not (test q)) rows) (filter (λ q. not (test q)) rows)) e))
    by false e rest =
        let none = all_weaken (λ q. test q ≡ true → test r ≡ true) (λ q. not (test q) ≡ true) (λ q back. ap not (false_or (test q) (λ t. let clash : true ≡ false = sym (back t) ∙ e in cc clash))) rows h.0 in
        ap (λ b. cond b (without_first test rows) (r ∷ rows)) e
        ∙ (ap (λ (w : List Row). r ∷ w) (sym (filter_all (λ q. not (test q)) rows none)) ∙ sym (ap (λ b. cond (not b) (r ∷ filter (λ q. not (test q)) rows) (filter (λ q. not (test q)) rows)) e))

below_first : (key : List ℕ) (rows : List Row) → IsStrictlyOrdered rows → StandsFirst (is_below key) rows
unfolding IsStrictlySortedBy
below_first key [] h = tt
below_first key (r ∷ rows) h = (all_weaken (λ q. row_cmp r q ≡ Less) (λ q. is_below key q ≡ true → is_below key r ≡ true) (λ q less low. below_too key r q less low) rows h.0, below_first key rows h.1)

-- If a row is written up to a cursor, each row before it from the cursor's key on is written too.
written_back : (c : Cursor) (r q : Row) → row_cmp r q ≡ Less → is_from c.0 r ≡ true → is_written c q ≡ true → is_written c r ≡ true
written_back c r q before high written = by (key_cmp r.key q.key) refl before
  where
    same : q.key ≡ c.0
    same = (bytes_eq-Decides q.key c.0).0 (and_parts (bytes_eq q.key c.0) (nat_le c.1 q.seq) written).0

    by : (o : Ordering) → key_cmp r.key q.key ≡ o → ordering_then o (nat_cmp q.seq r.seq) ≡ Less → is_written c r ≡ true
    by Less e h =
        let low : is_below c.0 r ≡ true = ap is_lt (sym (ap (key_cmp r.key) same) ∙ e) in
        let clash : false ≡ true = sym (ap not low) ∙ high in
        absurd (cc clash)
    by Equal e h =
        let here : r.key ≡ c.0 = exact r.key q.key e ∙ same in
        let falls : q.seq < r.seq = ranked q.seq r.seq Less (sym h) in
        let least : c.1 ≤ q.seq = leb-true c.1 q.seq (and_parts (bytes_eq q.key c.0) (nat_le c.1 q.seq) written).1 in
        and_from (bytes_eq r.key c.0) (nat_le c.1 r.seq) ((bytes_eq-Decides r.key c.0).1 here) (le-leb c.1 r.seq (omega arith))
    by Greater e h = absurd (cc h)

written_first : (c : Cursor) (rows : List Row) → IsStrictlyOrdered rows → AllByRecursion (λ r. is_from c.0 r ≡ true) rows → StandsFirst (is_written c) rows
unfolding IsStrictlySortedBy
written_first c [] h high = tt
written_first c (r ∷ rows) h high = (all_weaken (λ q. row_cmp r q ≡ Less) (λ q. is_written c q ≡ true → is_written c r ≡ true) (λ q less written. written_back c r q less high.0 written) rows h.0, written_first c rows h.1 high.1)

pub resumes_after : ResumesAfter
resumes_after c rows ordered =
    let from : from_key c.0 rows ≡ filter (is_from c.0) rows = from_key_skipped c.0 rows ∙ first_are_filtered (is_below c.0) rows (below_first c.0 rows ordered) in
    ap (without_first (is_written c)) from
    ∙ first_are_filtered (is_written c) (filter (is_from c.0) rows) (written_first c (filter (is_from c.0) rows) (ordered_filter (is_from c.0) rows ordered) (passes (is_from c.0) rows))

-- A seek to the cursor's key, and dropping the first rows that are written already, leaves what `Resumes`
-- states.
pub resumes : (whole : Bool) (c : Cursor) (old sought new : IteratorState) → Moves whole c.0 old sought → new ≡ record sought { rows = without_first (is_written c) sought.rows } → Resumes whole (Some c) old new
resumes true c old sought new m e = e ∙ ap (λ (s : IteratorState). record s { rows = without_first (is_written c) s.rows }) m
resumes false c old sought new m e = record {
  initialised = ap (λ (s : IteratorState). s.initialised) e ∙ m.initialised;
  failure = ap (λ (s : IteratorState). s.failure) e ∙ m.failure;
  rising = subst AreRising (sym (ap (λ (s : IteratorState). s.rows) e)) (rising_without (is_written c) sought.rows m.rising);
}

pub resumes_at : (whole : Bool) (cursor : Option Cursor) (c : Cursor) (key : List ℕ) (old sought new : IteratorState) → cursor ≡ Some c → key ≡ c.0 → Moves whole key old sought → new ≡ record sought { rows = without_first (is_written c) sought.rows } → Resumes whole cursor old new
resumes_at whole cursor c key old sought new is same m e = subst (λ w. Resumes whole w old new) (sym is) (resumes whole c old sought new (subst (λ (w : List ℕ). Moves whole w old sought) same m) e)

-- What is left after a cursor is what a seek to its key left, without the first rows that are written
-- already.
pub resumes_by : (stated : List ℕ → IteratorState → Type 0) (cursor : Option Cursor) (c : Cursor) (key : List ℕ) (old left new : IteratorState) → cursor ≡ Some c → key ≡ c.0 → stated key left → new ≡ record left { rows = without_first (is_written c) left.rows } → ResumesBy stated cursor old new
resumes_by stated cursor c key old left new is same h e = subst (λ w. ResumesBy stated w old new) (sym is) (record { left = left; stated = subst (λ (w : List ℕ). stated w left) same h; rows = e })
