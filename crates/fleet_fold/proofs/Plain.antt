-- What a seek leaves of rows without operands.
use Rattle.std.proofs.Common.{◌≡◌, ◌∙◌, sym, refl, ap, subst, ℕ, List, [], ◌∷◌, ◌&&◌, not, Bool, true, false, cond, if◌then◌else◌, Option, Some, None, Ok, Err}
use Rattle.std.proofs.lemmas.Bool.{and_parts, and_right, true_from_ne_false}
use Rattle.std.specs.List.{AllByRecursion}
use Rattle.row_model.specs.Rows.{Row, is_operand}
use Rattle.fleet_rows.specs.declared.errors.SlateDBError.{SlateDBError}
use Rattle.fleet_rows.specs.declared.errors.SlateDBError.TheVariants.{MergeOperatorMissing}
use Rattle.fleet_iter.specs.Iteration.{IteratorState, AreRising, CanFail, IsKnown, KeepsRefusal, Moves, Nexts, Seeks, from_key, is_exact}
use Rattle.row_laws.specs.Keys.{is_below}
use Rattle.fleet_iter.proofs.Failures.{next_refused, seek_refused}
use Rattle.fleet_iter.proofs.RisingMerges.{IsUpTo}
use Rattle.fleet_iter.proofs.RisingRows.{moves_alive, moves_rising}
use Rattle.fleet_fold.specs.Required.{before_operand, has_operand, without_operands, ReadsPlain}

all_before : (P : Row → Type 0) (rows : List Row) → AllByRecursion P rows → AllByRecursion P (before_operand rows)
all_before P [] all = tt
all_before P (r ∷ rows) all = by (is_operand r) (all_before P rows all.1)
  where
    by : (b : Bool) → AllByRecursion P (before_operand rows) → AllByRecursion P (cond b [] (r ∷ before_operand rows))
    by true rest = tt
    by false rest = (all.0, rest)

pub rising_before : (rows : List Row) → AreRising rows → AreRising (before_operand rows)
rising_before [] h = tt
rising_before (r ∷ rows) h = by (is_operand r) (rising_before rows h.1) (all_before (IsUpTo r) rows h.0)
  where
    by : (b : Bool) → AreRising (before_operand rows) → AllByRecursion (IsUpTo r) (before_operand rows) → AreRising (cond b [] (r ∷ before_operand rows))
    by true rest all = tt
    by false rest all = (all, rest)

-- If there is no operand, all rows are given.
all_given : (rows : List Row) → has_operand rows ≡ false → before_operand rows ≡ rows
all_given [] h = refl
all_given (r ∷ rows) h = by (is_operand r) h (all_given rows)
  where
    by : (b : Bool) → cond b true (has_operand rows) ≡ false → (has_operand rows ≡ false → before_operand rows ≡ rows) → cond b [] (r ∷ before_operand rows) ≡ r ∷ rows
    by true h rest = absurd (cc h)
    by false h rest = ap (λ (w : List Row). r ∷ w) (rest h)

none_from : (key : List ℕ) (rows : List Row) → has_operand rows ≡ false → has_operand (from_key key rows) ≡ false
none_from key [] none = refl
none_from key (r ∷ rows) none = by (is_operand r) none (is_below key r) (none_from key rows)
  where
    by : (b : Bool) → cond b true (has_operand rows) ≡ false → (d : Bool) → (has_operand rows ≡ false → has_operand (from_key key rows) ≡ false) → has_operand (cond d (from_key key rows) (r ∷ rows)) ≡ false
    by true h d rest = absurd (cc h)
    by false h true rest = rest h
    by false h false rest = none

-- If an inner iterator is not exact, an outer one that needs more to be exact is not exact either.
pub inexact : (a b c : Bool) → a && b ≡ false → a && (b && c) ≡ false
inexact true true c h = absurd (cc h)
inexact true false c h = refl
inexact false b c h = refl

module _ (key : List ℕ) (inner after : IteratorState) (rising : AreRising inner.rows) where
  abbrev A : IteratorState
  A = without_operands None inner

  abbrev B : IteratorState
  B = without_operands None after

  abbrev W : Bool
  W = inner.whole && not (has_operand inner.rows)

  -- If the inner iterator has moved to a key, the rows before the first operand have moved to it too.
  -- They are exactly those from the key on if the inner iterator is steady and whole and has no operand.
  moved : (exact : Bool) → is_exact inner ≡ exact → (o : Bool) → has_operand inner.rows ≡ o → Moves exact key inner after → Moves (inner.steady && W) key A B
  moved true exact false eo m =
      let ew : inner.whole ≡ true = (and_parts inner.steady inner.whole exact).1 in
      let w_true : W ≡ true = ap (λ b. b && not (has_operand inner.rows)) ew ∙ ap not eo in
      let was : inner.steady && W ≡ true = ap (λ (b : Bool). b && W) (and_parts inner.steady inner.whole exact).0 ∙ w_true in
      let left : after.rows ≡ from_key key inner.rows = ap (λ (s : IteratorState). s.rows) m in
      let none : has_operand after.rows ≡ false = ap has_operand left ∙ none_from key inner.rows eo in
      let rows : before_operand after.rows ≡ from_key key (before_operand inner.rows) = all_given after.rows none ∙ (left ∙ ap (from_key key) (sym (all_given inner.rows eo))) in
      let begun : after.initialised ≡ inner.initialised = ap (λ (s : IteratorState). s.initialised) m in
      let steady : after.steady ≡ inner.steady = ap (λ (s : IteratorState). s.steady) m in
      let now : after.whole && not (has_operand after.rows) ≡ true = ap (λ b. b && not (has_operand after.rows)) (ap (λ (s : IteratorState). s.whole) m ∙ ew) ∙ ap not none in
      let whole : after.whole && not (has_operand after.rows) ≡ inner.whole && not (has_operand inner.rows) = now ∙ sym w_true in
      let afterwards : (if after.whole && has_operand after.rows then Some MergeOperatorMissing else None) ≡ (if inner.whole && has_operand inner.rows then Some MergeOperatorMissing else None) =
      ap (λ b. if b then Some MergeOperatorMissing else None) (ap (λ (s : IteratorState). s.whole && has_operand after.rows) m ∙ (ap (λ b. inner.whole && b) (none ∙ sym eo))) in
      subst (λ b. Moves b key A B) (sym was) (cc (rows, begun, steady, whole, afterwards))
  moved true exact true eo m =
      subst (λ b. Moves b key A B) (sym (and_right inner.steady W (and_right inner.whole (not (has_operand inner.rows)) (ap not eo))))
      (record { initialised = ap (λ (s : IteratorState). s.initialised) m; failure = refl; rising = rising_before after.rows (moves_rising key inner after true m rising) })
  moved false exact o eo m =
      subst (λ b. Moves b key A B) (sym (inexact inner.steady inner.whole (not (has_operand inner.rows)) exact))
      (record { initialised = m.initialised; failure = refl; rising = rising_before after.rows m.rising })

pub seeks_plain : (key : List ℕ) (failure : Option SlateDBError) (inner after : IteratorState) → failure ≡ None → ReadsPlain failure inner → Seeks key inner after (Ok tt) → Seeks key (without_operands failure inner) (without_operands failure after) (Ok tt)
seeks_plain key (Some e) inner after alive k seeks = absurd (cc alive)
seeks_plain key None inner after alive k seeks = record {
  failed = λ q. absurd (q refl);
  uninitialised = λ q i. let e = (seeks.uninitialised k.0 i).answer in absurd (cc e);
  answers = λ q i. moved key inner after k.1 (is_exact inner) refl (has_operand inner.rows) refl (seeks.answers k.0 i);
}

pub reads_plain : (key : List ℕ) (failure : Option SlateDBError) (inner after : IteratorState) → ReadsPlain failure inner → Seeks key inner after (Ok tt) → ReadsPlain failure after
reads_plain key (Some e) inner after k seeks = tt
reads_plain key None inner after k seeks =
    let begun : inner.initialised ≡ true = true_from_ne_false inner.initialised (λ i. let e = (seeks.uninitialised k.0 i).answer in cc e) in
    let moves : Moves (is_exact inner) key inner after = seeks.answers k.0 begun in
    (moves_alive key inner after (is_exact inner) moves ∙ k.0, moves_rising key inner after (is_exact inner) moves k.1)

-- ---- a refusal of the inner iterator

module _ (failure kept : Option SlateDBError) (inner after : IteratorState) (e answer : SlateDBError) (alive : failure ≡ None) (reads : ReadsPlain failure inner) (keeps : KeepsRefusal e failure kept answer) where
  pub reading : ReadsPlain None inner
  reading = subst (λ (f : Option SlateDBError). ReadsPlain f inner) alive reads

  stays : inner.initialised ≡ false → after ≡ inner → kept ≡ failure → without_operands kept after ≡ without_operands failure inner
  stays begun same none = ap (without_operands kept) same ∙ ap (λ (f : Option SlateDBError). without_operands f inner) none

  first : (a b : Bool) → a && b ≡ true → a ≡ true
  first true b h = refl
  first false b h = absurd (cc h)

  exact_inner : (a b c : Bool) → a && (b && c) ≡ true → a && b ≡ true
  exact_inner true b c h = first b c h
  exact_inner false b c h = absurd (cc h)

  known : IsKnown inner e → CanFail inner.whole e → IsKnown (without_operands failure inner) e
  known stated cause afterwards is other = absurd (other (cause.memory (by (inner.whole && has_operand inner.rows) refl is)))
    where
      by : (b : Bool) → inner.whole && has_operand inner.rows ≡ b → (if b then Some MergeOperatorMissing else None) ≡ Some afterwards → inner.whole ≡ true
      by true w h = first inner.whole (has_operand inner.rows) w
      by false w h = absurd (cc h)

  pub next_refused_plain : Nexts inner after (Err e) → Nexts (without_operands failure inner) (without_operands kept after) (Err answer)
  next_refused_plain nexts =
      next_refused (without_operands failure inner) (without_operands kept after) inner after e answer alive reading.0 keeps refl stays (first inner.whole (not (has_operand inner.rows))) known nexts

  pub seek_refused_plain : (key : List ℕ) → Seeks key inner after (Err e) → Seeks key (without_operands failure inner) (without_operands kept after) (Err answer)
  seek_refused_plain key seeks =
      seek_refused (without_operands failure inner) (without_operands kept after) inner after e answer alive reading.0 keeps refl stays key (exact_inner inner.steady inner.whole (not (has_operand inner.rows))) seeks
