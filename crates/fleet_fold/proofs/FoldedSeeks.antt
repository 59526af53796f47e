-- The folded rows from a key on are what the rows from the key on fold to. Folded rows rise if the rows do.
use Rattle.std.proofs.Common.{◌≡◌, ◌∙◌, sym, refl, ap, subst, ℕ, zero, suc, List, [], ◌∷◌, ◌++◌, cond, ◌&&◌, Bool, true, false, length, Option, Some, None, Ok, Err}
use Rattle.std.proofs.lemmas.Bool.{and_parts, and_right, true_from_ne_false}
use Rattle.std.specs.Prelude.{Result, if◌then◌else◌, bytes_eq}
use Rattle.std.specs.List.{AllByRecursion}
use Rattle.std.specs.Option.{is_none, option_to_list}
use Rattle.std.specs.Ordering.{is_lt, is_gt}
use Rattle.std.proofs.lemmas.Slice.Eq.{bytes_eq-Decides}
use Rattle.row_laws.specs.Keys.{is_below}
use Rattle.row_model.specs.Chunks.{Chunk}
use Rattle.row_model.specs.Fold.{Operator}
use Rattle.row_model.specs.Rows.{Row, key_cmp, is_operand}
use Rattle.fleet_iter.specs.Iteration.{IteratorState, AreRising, Moves, Seeks, from_key, is_exact}
use Rattle.fleet_iter.proofs.RisingRows.{moves_alive, moves_rising}
use Rattle.fleet_rows.specs.Row.{rows_of}
use Rattle.fleet_rows.specs.declared.row.RowEntry.{RowEntry}
use Rattle.fleet_rows.specs.declared.errors.SlateDBError.{SlateDBError}
use Rattle.fleet_fold.specs.Folded.{Folded, opens, joining, same_group, merged_group, merged_row, row_of_answer, group_answer, folded_after, before_refusal, up_to_refusal, folded_groups}
use Rattle.fleet_fold.specs.Merging.{merging, ReadsGroups}
use Rattle.fleet_fold.specs.Retention.{from_ahead}
use Rattle.fleet_fold.specs.declared.group.GroupRule.{GroupRule}
use Rattle.fleet_fold.proofs.Keys.{seek-through, rising_back}
use Rattle.fleet_fold.proofs.Plain.{inexact}

module _ (merge : Operator) (rule : GroupRule) where
  abbrev pub U : ℕ → List Row → Folded
  U taken rows = up_to_refusal (folded_after merge rule taken rows)

  -- What a row and the rows after it become.
  abbrev pub made_of : Bool → Row → List Row → Folded
  made_of opened r rows =
      up_to_refusal (if opened then merged_group merge (r, joining rule r rows) ∷ folded_after merge rule (length (joining rule r rows)) rows else Ok r ∷ folded_after merge rule 0 rows)

  pub merged_key : (g : Chunk Row) (q : Row) → merged_group merge g ≡ Ok q → q.key ≡ g.0.key
  merged_key g q h = by (group_answer merge g) h
    where
      by : (answer : Result (List ℕ) SlateDBError) → row_of_answer g answer ≡ Ok q → q.key ≡ g.0.key
      by (Ok bytes) h = let e : merged_row g bytes ≡ q = cc in sym (ap (λ (r : Row). r.key) e)
      by (Err e) h = absurd (cc h)

  -- Each folded row has the key of one of the rows.
  all_made : (P : List ℕ → Type 0) (taken : ℕ) (rows : List Row) → AllByRecursion (λ r. P r.key) rows → AllByRecursion (λ r. P r.key) (U taken rows).rows
  all_made P taken [] all = tt
  all_made P (suc taken) (r ∷ rows) all = all_made P taken rows all.1
  all_made P zero (r ∷ rows) all = by (opens rule r) (all_made P (length (joining rule r rows)) rows all.1) (all_made P 0 rows all.1)
    where
      first : (answer : Result Row SlateDBError) (later : Folded) → merged_group merge (r, joining rule r rows) ≡ answer → AllByRecursion (λ q. P q.key) later.rows → AllByRecursion (λ q. P q.key) (before_refusal answer later).rows
      first (Err e) later is rest = tt
      first (Ok q) later is rest = (subst P (sym (merged_key (r, joining rule r rows) q is)) all.0, rest)

      by : (b : Bool) → AllByRecursion (λ q. P q.key) (U (length (joining rule r rows)) rows).rows → AllByRecursion (λ q. P q.key) (U 0 rows).rows → AllByRecursion (λ q. P q.key) (made_of b r rows).rows
      by true afterwards rest = first (merged_group merge (r, joining rule r rows)) (U (length (joining rule r rows)) rows) refl afterwards
      by false afterwards rest = (all.0, rest)

  -- The rows that rising rows fold to rise.
  pub folded_rise : (taken : ℕ) (rows : List Row) → AreRising rows → AreRising (U taken rows).rows
  folded_rise taken [] h = tt
  folded_rise (suc taken) (r ∷ rows) h = folded_rise taken rows h.1
  folded_rise zero (r ∷ rows) h = by (opens rule r) (folded_rise (length (joining rule r rows)) rows h.1) (folded_rise 0 rows h.1)
    where
      first : (answer : Result Row SlateDBError) → merged_group merge (r, joining rule r rows) ≡ answer → AreRising (U (length (joining rule r rows)) rows).rows → AreRising (before_refusal answer (U (length (joining rule r rows)) rows)).rows
      first (Err e) is rest = tt
      first (Ok q) is rest =
          (subst (λ (k : List ℕ). AllByRecursion (λ x. is_gt (key_cmp k x.key) ≡ false) (U (length (joining rule r rows)) rows).rows) (sym (merged_key (r, joining rule r rows) q is)) (all_made (λ k. is_gt (key_cmp r.key k) ≡ false) (length (joining rule r rows)) rows h.0), rest)

      by : (b : Bool) → AreRising (U (length (joining rule r rows)) rows).rows → AreRising (U 0 rows).rows → AreRising (made_of b r rows).rows
      by true afterwards rest = first (merged_group merge (r, joining rule r rows)) refl afterwards
      by false afterwards rest = (all_made (λ k. is_gt (key_cmp r.key k) ≡ false) 0 rows h.0, rest)

  -- ---- from a key on

  module _ (key : List ℕ) where
    -- The first rows, up to the given number, are below the key.
    abbrev AreBelow : ℕ → List Row → Type 0
    AreBelow zero rows = Unit {0}
    AreBelow (suc n) [] = Unit {0}
    AreBelow (suc n) (r ∷ rows) = (is_below key r ≡ true) × AreBelow n rows

    below_as : (r q : Row) → q.key ≡ r.key → is_below key q ≡ is_below key r
    below_as r q h = ap (λ (k : List ℕ). is_lt (key_cmp k key)) h

    and_left : (a b : Bool) → a && b ≡ true → a ≡ true
    and_left true b h = refl
    and_left false b h = h

    -- If a row is below the key, the rows that join its group are too.
    joining_below : (r : Row) (rows : List Row) → is_below key r ≡ true → AreBelow (length (joining rule r rows)) rows
    joining_below r [] h = tt
    joining_below r (q ∷ rows) h = by (same_group rule r.key r.expires q) refl (is_operand q) (joining_below r rows h)
      where
        by : (same : Bool) → same_group rule r.key r.expires q ≡ same → (operand : Bool) → AreBelow (length (joining rule r rows)) rows
            → AreBelow (length (if same then q ∷ (if operand then joining rule r rows else []) else [])) (q ∷ rows)
        by true e true rest = (below_as r q (sym ((bytes_eq-Decides r.key q.key).0 (and_left (bytes_eq r.key q.key) _ e))) ∙ h, rest)
        by true e false rest = (below_as r q (sym ((bytes_eq-Decides r.key q.key).0 (and_left (bytes_eq r.key q.key) _ e))) ∙ h, tt)
        by false e operand rest = tt

    abbrev F : List Row → Option SlateDBError → Folded
    F rows refusal = record { rows = rows; refusal = refusal }

    abbrev From : Folded → Folded
    From f = F (from_key key f.rows) None

    pass_first : (q : Row) (rows : List Row) → is_below key q ≡ true → from_key key (q ∷ rows) ≡ from_key key rows
    pass_first q rows h = ap (λ (b : Bool). cond b (from_key key rows) (q ∷ rows)) h

    keep_first : (q : Row) (rows : List Row) → is_below key q ≡ false → from_key key (q ∷ rows) ≡ q ∷ rows
    keep_first q rows h = ap (λ (b : Bool). cond b (from_key key rows) (q ∷ rows)) h

    -- If the first row is not below the key, all rows stay.
    stays : (answer : Result Row SlateDBError) (later : Folded) → ((q : Row) → answer ≡ Ok q → is_below key q ≡ false) → (before_refusal answer later).refusal ≡ None → before_refusal answer later ≡ From (before_refusal answer later)
    stays (Err e) later at none = absurd (cc none)
    stays (Ok q) later at none = ap (F (q ∷ later.rows)) none ∙ ap (λ (w : List Row). F w None) (sym (keep_first q later.rows (at q refl)))

    -- If the first row is below the key, it is dropped.
    goes : (answer : Result Row SlateDBError) (later : Folded) → ((q : Row) → answer ≡ Ok q → is_below key q ≡ true) → (before_refusal answer later).refusal ≡ None → From (before_refusal answer later) ≡ From later
    goes (Err e) later below none = absurd (cc none)
    goes (Ok q) later below none = ap (λ (w : List Row). F w None) (pass_first q later.rows (below q refl))

    later_none : (answer : Result Row SlateDBError) (later : Folded) → (before_refusal answer later).refusal ≡ None → later.refusal ≡ None
    later_none (Err e) later none = absurd (cc none)
    later_none (Ok q) later none = none

    pub folded_from : (taken : ℕ) (rows : List Row) → AreBelow taken rows → (U taken rows).refusal ≡ None → U 0 (from_key key rows) ≡ From (U taken rows)
    folded_from taken [] below none = refl
    folded_from (suc taken) (r ∷ rows) below none = ap (U 0) (pass_first r rows below.0) ∙ folded_from taken rows below.1 none
    folded_from zero (r ∷ rows) below none =
        by (is_below key r) refl (opens rule r) refl (λ under. folded_from (length (joining rule r rows)) rows (joining_below r rows under)) (folded_from 0 rows tt) none
      where
        own : (b : Bool) → is_below key r ≡ b → (q : Row) → merged_group merge (r, joining rule r rows) ≡ Ok q → is_below key q ≡ b
        own b e q is = below_as r q (merged_key (r, joining rule r rows) q is) ∙ e

        itself : (b : Bool) → is_below key r ≡ b → (q : Row) → ◌≡◌ {A = Result Row SlateDBError} (Ok r) (Ok q) → is_below key q ≡ b
        itself b e q is = let same : r ≡ q = cc is in below_as r q (ap (λ (x : Row). x.key) (sym same)) ∙ e

        by : (b : Bool) → is_below key r ≡ b → (opened : Bool) → opens rule r ≡ opened
            → (is_below key r ≡ true → (U (length (joining rule r rows)) rows).refusal ≡ None → U 0 (from_key key rows) ≡ From (U (length (joining rule r rows)) rows))
            → ((U 0 rows).refusal ≡ None → U 0 (from_key key rows) ≡ From (U 0 rows))
            → (made_of opened r rows).refusal ≡ None → U 0 (cond b (from_key key rows) (r ∷ rows)) ≡ From (made_of opened r rows)
        by true e true o afterwards rest none =
            let answer = merged_group merge (r, joining rule r rows) in
            let later = U (length (joining rule r rows)) rows in
            afterwards e (later_none answer later none) ∙ sym (goes answer later (own true e) none)
        by true e false o afterwards rest none = rest none ∙ sym (goes (Ok r) (U 0 rows) (itself true e) none)
        by false e opened o afterwards rest none = ap (λ (b : Bool). made_of b r rows) o ∙ kept opened none
          where
            kept : (opened : Bool) → (made_of opened r rows).refusal ≡ None → made_of opened r rows ≡ From (made_of opened r rows)
            kept true none = stays (merged_group merge (r, joining rule r rows)) (U (length (joining rule r rows)) rows) (own false e) none
            kept false none = stays (Ok r) (U 0 rows) (itself false e) none

-- ---- a seek

module _ (key : List ℕ) (merge : Operator) (rule : GroupRule) (ahead later : Option RowEntry) (inner after : IteratorState)
    (at : rows_of (option_to_list later) ≡ from_key key (rows_of (option_to_list ahead))) (gone : later ≡ None) where
  abbrev R : List Row
  R = from_ahead ahead inner

  abbrev A : IteratorState
  A = merging None merge rule ahead inner

  abbrev B : IteratorState
  B = merging None merge rule later after

  abbrev S : List Row → Bool → Bool → Bool → Option SlateDBError → IteratorState
  S rows initialised steady whole refusal = record { rows = rows; initialised = initialised; failure = None; whole = whole; steady = steady; refusal = refusal }

  left_over : from_ahead later after ≡ after.rows
  left_over = ap (λ (o : Option RowEntry). rows_of (option_to_list o) ++ after.rows) gone

  through : from_key key R ≡ from_key key inner.rows
  through = seek-through key (rows_of (option_to_list ahead)) inner.rows (sym at ∙ ap (λ (o : Option RowEntry). rows_of (option_to_list o)) gone)

  abbrev W : Bool
  W = inner.whole && is_none (folded_groups merge rule R).refusal

  passes : inner.steady && W ≡ false → after.initialised ≡ inner.initialised → AreRising after.rows → Moves (inner.steady && W) key A B
  passes was begun rising =
      subst (λ (b : Bool). Moves b key A B) (sym was)
      (record { initialised = begun; failure = refl; rising = subst (λ (w : List Row). AreRising (folded_groups merge rule w).rows) (sym left_over) (folded_rise merge rule 0 after.rows rising) })

  -- If the inner iterator has moved to a key, the folded rows have moved to it too. They have exactly the
  -- rows from the key on if the inner iterator is steady and whole and no fold is refused.
  moved : AreRising inner.rows → (exact : Bool) → is_exact inner ≡ exact → (o : Option SlateDBError) → (folded_groups merge rule R).refusal ≡ o → Moves exact key inner after → Moves (inner.steady && W) key A B
  moved rising true exact None eo m =
      let ew : inner.whole ≡ true = (and_parts inner.steady inner.whole exact).1 in
      let w_true : W ≡ true = ap (λ (b : Bool). b && is_none (folded_groups merge rule R).refusal) ew ∙ ap is_none eo in
      let was : inner.steady && W ≡ true = ap (λ (b : Bool). b && W) (and_parts inner.steady inner.whole exact).0 ∙ w_true in
      let rows : from_ahead later after ≡ from_key key R = left_over ∙ (ap (λ (s : IteratorState). s.rows) m ∙ sym through) in
      let made : folded_groups merge rule (from_ahead later after) ≡ record { rows = from_key key (folded_groups merge rule R).rows; refusal = None } = ap (folded_groups merge rule) rows ∙ folded_from merge rule key 0 R tt eo in
      let left : B.rows ≡ from_key key A.rows = ap (λ (f : Folded). f.rows) made in
      let begun : after.initialised ≡ inner.initialised = ap (λ (s : IteratorState). s.initialised) m in
      let steady : after.steady ≡ inner.steady = ap (λ (s : IteratorState). s.steady) m in
      let now : after.whole && is_none (folded_groups merge rule (from_ahead later after)).refusal ≡ true =
      ap (λ (b : Bool). b && is_none (folded_groups merge rule (from_ahead later after)).refusal) (ap (λ (s : IteratorState). s.whole) m ∙ ew) ∙ ap (λ (f : Folded). is_none f.refusal) made in
      let whole : B.whole ≡ A.whole = now ∙ sym w_true in
      let none_left : B.refusal ≡ None =
      ap (λ (b : Bool). if b then (folded_groups merge rule (from_ahead later after)).refusal else None) (ap (λ (s : IteratorState). s.whole) m ∙ ew) ∙ ap (λ (f : Folded). f.refusal) made in
      let none_there : A.refusal ≡ None = ap (λ (b : Bool). if b then (folded_groups merge rule R).refusal else None) ew ∙ eo in
      subst (λ (b : Bool). Moves b key A B) (sym was)
      (ap (λ (w : List Row). S w after.initialised after.steady B.whole B.refusal) left
      ∙ (ap (λ (b : Bool). S (from_key key A.rows) b after.steady B.whole B.refusal) begun
      ∙ (ap (λ (b : Bool). S (from_key key A.rows) inner.initialised b B.whole B.refusal) steady
      ∙ (ap (λ (b : Bool). S (from_key key A.rows) inner.initialised inner.steady b B.refusal) whole ∙ ap (S (from_key key A.rows) inner.initialised inner.steady A.whole) (none_left ∙ sym none_there)))))
  moved rising true exact (Some e) eo m =
      passes (and_right inner.steady W (and_right inner.whole (is_none (folded_groups merge rule R).refusal) (ap is_none eo))) (ap (λ (s : IteratorState). s.initialised) m) (moves_rising key inner after true m rising)
  moved rising false exact o eo m = passes (inexact inner.steady inner.whole (is_none (folded_groups merge rule R).refusal) exact) m.initialised m.rising

-- If no row is read ahead any more and a seek of the inner iterator succeeds, it is a seek of the
-- iterator of folded rows.
pub seeks_folded : (key : List ℕ) (merge : Operator) (rule : GroupRule) (failure : Option SlateDBError) (ahead later : Option RowEntry) (inner after : IteratorState) → failure ≡ None → ReadsGroups merge rule failure ahead inner → AreRising (from_ahead ahead inner)
    → rows_of (option_to_list later) ≡ from_key key (rows_of (option_to_list ahead)) → later ≡ None → Seeks key inner after (Ok tt) → Seeks key (merging failure merge rule ahead inner) (merging failure merge rule later after) (Ok tt)
seeks_folded key merge rule (Some e) ahead later inner after alive k rises at gone seeks = absurd (cc alive)
seeks_folded key merge rule None ahead later inner after alive k rises at gone seeks =
    let begun : inner.initialised ≡ true = true_from_ne_false inner.initialised (λ i. let e = (seeks.uninitialised k.0 i).answer in cc e) in
    let moves : Moves (is_exact inner) key inner after = seeks.answers k.0 begun in
    record {
      failed = λ q. absurd (q refl);
      uninitialised = λ _ i. let e = sym begun ∙ i in absurd (cc e);
      answers = λ _ _. moved key merge rule ahead later inner after at gone (rising_back (rows_of (option_to_list ahead)) inner.rows rises) (is_exact inner) refl (folded_groups merge rule (from_ahead ahead inner)).refusal refl moves;
    }

pub reads_groups : (key : List ℕ) (merge : Operator) (rule : GroupRule) (failure : Option SlateDBError) (ahead later : Option RowEntry) (inner after : IteratorState) → ReadsGroups merge rule failure ahead inner → AreRising (from_ahead ahead inner) → later ≡ None → Seeks key inner after (Ok tt) → ReadsGroups merge rule failure later after
reads_groups key merge rule (Some e) ahead later inner after k rises gone seeks = tt
reads_groups key merge rule None ahead later inner after k rises gone seeks =
    let begun : inner.initialised ≡ true = true_from_ne_false inner.initialised (λ i. let e = (seeks.uninitialised k.0 i).answer in cc e) in
    let moves : Moves (is_exact inner) key inner after = seeks.answers k.0 begun in (
      moves_alive key inner after (is_exact inner) moves ∙ k.0,
      (λ other. absurd (other gone)),
      (λ _. subst (λ (o : Option RowEntry). AreRising (rows_of (option_to_list o) ++ after.rows)) (sym gone) (moves_rising key inner after (is_exact inner) moves (rising_back (rows_of (option_to_list ahead)) inner.rows rises))),
    )

pub reads_alive : (merge : Operator) (rule : GroupRule) (failure : Option SlateDBError) (ahead : Option RowEntry) (inner : IteratorState) → failure ≡ None → ReadsGroups merge rule failure ahead inner → inner.failure ≡ None
reads_alive merge rule (Some e) ahead inner alive k = absurd (cc alive)
reads_alive merge rule None ahead inner alive k = k.0

-- Nothing has to hold of the inner iterator once the outer one has failed.
pub reads_failed : (merge : Operator) (rule : GroupRule) (failure : Option SlateDBError) (ahead : Option RowEntry) (inner : IteratorState) (e : SlateDBError) → failure ≡ Some e → ReadsGroups merge rule failure ahead inner
reads_failed merge rule (Some x) ahead inner e is = tt
reads_failed merge rule None ahead inner e is = absurd (cc is)
