-- If no fold refuses and the folded rows rise, the rows that were folded rise.
use Rattle.std.proofs.Common.{◌≡◌, ◌≢◌, ◌∙◌, sym, refl, ap, subst, ℕ, zero, suc, List, [], ◌∷◌, ◌++◌, ◌&&◌, Bool, true, false, length, Option, Some, None, Result, Ok, Err}
use Rattle.std.specs.Prelude.{if◌then◌else◌, bytes_eq}
use Rattle.std.specs.List.{AllByRecursion}
use Rattle.std.specs.Option.{option_to_list}
use Rattle.std.specs.Ordering.{is_gt}
use Rattle.std.proofs.lemmas.Bool.{and_parts}
use Rattle.std.proofs.lemmas.Slice.Eq.{bytes_eq-Decides}
use Rattle.row_laws.proofs.KeyRows.{key_alike}
use Rattle.row_model.specs.Fold.{Operator}
use Rattle.row_model.specs.Rows.{Row, key_cmp, is_operand}
use Rattle.fleet_iter.specs.Iteration.{IteratorState, AreRising}
use Rattle.fleet_rows.specs.Row.{rows_of}
use Rattle.fleet_rows.specs.declared.row.RowEntry.{RowEntry}
use Rattle.fleet_rows.specs.declared.errors.SlateDBError.{SlateDBError}
use Rattle.fleet_fold.specs.Folded.{Folded, opens, joining, same_group, merged_group, folded_after, before_refusal, up_to_refusal, folded_groups}
use Rattle.fleet_fold.specs.Merging.{merging, ReadsGroups, RisesIfRefused}
use Rattle.fleet_fold.specs.Retention.{from_ahead}
use Rattle.fleet_fold.specs.declared.group.GroupRule.{GroupRule}
use Rattle.fleet_fold.proofs.FoldedSeeks.{U, made_of, merged_key}
use Rattle.fleet_fold.proofs.Keys.{rising_back}

-- The first rows, up to the given number, have keys with this property.
abbrev FirstHave : (List ℕ → Type 0) → ℕ → List Row → Type 0
FirstHave P zero rows = Unit {0}
FirstHave P (suc n) [] = Unit {0}
FirstHave P (suc n) (r ∷ rows) = P r.key × FirstHave P n rows

first_weaken : (P Q : List ℕ → Type 0) → ((key : List ℕ) → P key → Q key) → (n : ℕ) (rows : List Row) → FirstHave P n rows → FirstHave Q n rows
first_weaken P Q f zero rows h = tt
first_weaken P Q f (suc n) [] h = tt
first_weaken P Q f (suc n) (r ∷ rows) h = (f r.key h.0, first_weaken P Q f n rows h.1)

module _ (merge : Operator) (rule : GroupRule) where
  -- The rows that join a group have its key.
  joining_same : (r : Row) (rows : List Row) → FirstHave (λ key. key ≡ r.key) (length (joining rule r rows)) rows
  joining_same r [] = tt
  joining_same r (q ∷ rows) = by (same_group rule r.key r.expires q) refl (is_operand q) (joining_same r rows)
    where
      key_is : same_group rule r.key r.expires q ≡ true → q.key ≡ r.key
      key_is e = sym ((bytes_eq-Decides r.key q.key).0 (and_parts (bytes_eq r.key q.key) _ e).0)

      by : (same : Bool) → same_group rule r.key r.expires q ≡ same → (operand : Bool) → FirstHave (λ key. key ≡ r.key) (length (joining rule r rows)) rows
          → FirstHave (λ key. key ≡ r.key) (length (if same then q ∷ (if operand then joining rule r rows else []) else [])) (q ∷ rows)
      by true e true rest = (key_is e, rest)
      by true e false rest = (key_is e, tt)
      by false e operand rest = tt

  -- A first answer that is no error, before later ones.
  record Begins (answer : Result Row SlateDBError) (later : Folded) : Type 0 where
    q : Row
    is : answer ≡ Ok q
    none : later.refusal ≡ None

  begins : (answer : Result Row SlateDBError) (later : Folded) → (before_refusal answer later).refusal ≡ None → Begins answer later
  begins (Err e) later none = absurd (cc none)
  begins (Ok q) later none = record { q = q; is = refl; none = none }

  begun_rows : (answer : Result Row SlateDBError) (later : Folded) (q : Row) → answer ≡ Ok q → (before_refusal answer later).rows ≡ q ∷ later.rows
  begun_rows answer later q is = ap (λ (a : Result Row SlateDBError). (before_refusal a later).rows) is

  -- If all folded rows have keys with a property, and so do the first rows that were skipped, all rows do.
  all_from : (P : List ℕ → Type 0) (taken : ℕ) (rows : List Row) → FirstHave P taken rows → (U merge rule taken rows).refusal ≡ None → AllByRecursion (λ q. P q.key) (U merge rule taken rows).rows → AllByRecursion (λ q. P q.key) rows
  all_from P taken [] first none all = tt
  all_from P (suc taken) (r ∷ rows) first none all = (first.0, all_from P taken rows first.1 none all)
  all_from P zero (r ∷ rows) first none all = by (opens rule r) none all (all_from P (length (joining rule r rows)) rows) (all_from P 0 rows)
    where
      later : Folded
      later = U merge rule (length (joining rule r rows)) rows

      by : (b : Bool) → (made_of merge rule b r rows).refusal ≡ None → AllByRecursion (λ q. P q.key) (made_of merge rule b r rows).rows
          → (FirstHave P (length (joining rule r rows)) rows → later.refusal ≡ None → AllByRecursion (λ q. P q.key) later.rows → AllByRecursion (λ q. P q.key) rows)
          → (FirstHave P 0 rows → (U merge rule 0 rows).refusal ≡ None → AllByRecursion (λ q. P q.key) (U merge rule 0 rows).rows → AllByRecursion (λ q. P q.key) rows)
          → AllByRecursion (λ q. P q.key) (r ∷ rows)
      by true none all after rest =
          let answer = merged_group merge (r, joining rule r rows) in
          let b = begins answer later none in
          let both : AllByRecursion (λ q. P q.key) (b.q ∷ later.rows) = subst (AllByRecursion (λ q. P q.key)) (begun_rows answer later b.q b.is) all in
          let own : P r.key = subst P (merged_key merge rule (r, joining rule r rows) b.q b.is) both.0 in
          (own, after (first_weaken (λ key. key ≡ r.key) P (λ key same. subst P (sym same) own) (length (joining rule r rows)) rows (joining_same r rows)) b.none both.1)
      by false none all after rest = (all.0, rest tt none all.1)

  -- The rows that were skipped have this key, and no folded row has a lesser one.
  abbrev Joined : List ℕ → ℕ → List Row → Type 0
  Joined key zero rows = Unit {0}
  Joined key (suc n) rows = FirstHave (λ k. k ≡ key) (suc n) rows × AllByRecursion (λ q. is_gt (key_cmp key q.key) ≡ false) (U merge rule (suc n) rows).rows

  joined : (key : List ℕ) (n : ℕ) (rows : List Row) → FirstHave (λ k. k ≡ key) n rows → AllByRecursion (λ q. is_gt (key_cmp key q.key) ≡ false) (U merge rule n rows).rows → Joined key n rows
  joined key zero rows first all = tt
  joined key (suc n) rows first all = (first, all)

  -- If no fold of the rows is refused and the folded rows rise, the rows rise, even if some at the front
  -- were skipped.
  unfolded : (key : List ℕ) (taken : ℕ) (rows : List Row) → Joined key taken rows → (U merge rule taken rows).refusal ≡ None → AreRising (U merge rule taken rows).rows → AreRising rows
  unfolded key taken [] skipped none rising = tt
  unfolded key (suc taken) (r ∷ rows) skipped none rising =
      let first : FirstHave (λ k. k ≡ key) taken rows = skipped.0.1 in
      let low : FirstHave (λ k. is_gt (key_cmp key k) ≡ false) taken rows = first_weaken (λ k. k ≡ key) (λ k. is_gt (key_cmp key k) ≡ false) (λ k same. subst (λ (x : List ℕ). is_gt (key_cmp key x) ≡ false) (sym same) (ap is_gt (key_alike key))) taken rows first in
      let all = all_from (λ k. is_gt (key_cmp key k) ≡ false) taken rows low none skipped.1 in
      (subst (λ (k : List ℕ). AllByRecursion (λ q. is_gt (key_cmp k q.key) ≡ false) rows) (sym skipped.0.0) all, unfolded key taken rows (joined key taken rows first skipped.1) none rising)
  unfolded key zero (r ∷ rows) skipped none rising = by (opens rule r) none rising (unfolded r.key (length (joining rule r rows)) rows) (unfolded r.key 0 rows tt)
    where
      later : Folded
      later = U merge rule (length (joining rule r rows)) rows

      by : (b : Bool) → (made_of merge rule b r rows).refusal ≡ None → AreRising (made_of merge rule b r rows).rows
          → (Joined r.key (length (joining rule r rows)) rows → later.refusal ≡ None → AreRising later.rows → AreRising rows)
          → ((U merge rule 0 rows).refusal ≡ None → AreRising (U merge rule 0 rows).rows → AreRising rows)
          → AreRising (r ∷ rows)
      by true none rising after rest =
          let answer = merged_group merge (r, joining rule r rows) in
          let b = begins answer later none in
          let both : AreRising (b.q ∷ later.rows) = subst AreRising (begun_rows answer later b.q b.is) rising in
          let up : AllByRecursion (λ q. is_gt (key_cmp r.key q.key) ≡ false) later.rows = subst (λ (k : List ℕ). AllByRecursion (λ q. is_gt (key_cmp k q.key) ≡ false) later.rows) (merged_key merge rule (r, joining rule r rows) b.q b.is) both.0 in
          let low = first_weaken (λ k. k ≡ r.key) (λ k. is_gt (key_cmp r.key k) ≡ false) (λ k same. subst (λ (x : List ℕ). is_gt (key_cmp r.key x) ≡ false) (sym same) (ap is_gt (key_alike r.key))) (length (joining rule r rows)) rows (joining_same r rows) in
          (all_from (λ k. is_gt (key_cmp r.key k) ≡ false) (length (joining rule r rows)) rows low b.none up, after (joined r.key (length (joining rule r rows)) rows (joining_same r rows) up) b.none both.1)
      by false none rising after rest = (all_from (λ k. is_gt (key_cmp r.key k) ≡ false) 0 rows tt none rising.0, rest none rising.1)

  -- So rows that fall only where no fold refuses rise if the folded ones do.
  pub rises_by_folded : (rows : List Row) → RisesIfRefused merge rule rows → AreRising (folded_groups merge rule rows).rows → AreRising rows
  rises_by_folded rows h rising = by (folded_groups merge rule rows).refusal refl
    where
      by : (o : Option SlateDBError) → (folded_groups merge rule rows).refusal ≡ o → AreRising rows
      by None none = unfolded [] 0 rows tt none rising
      by (Some e) is = h (λ none. let clash : ◌≡◌ {A = Option SlateDBError} (Some e) None = sym is ∙ none in cc clash)

-- The rows of an iterator that has not failed and may be sought rise, with the row read ahead.
pub reads_rise : (merge : Operator) (rule : GroupRule) (failure : Option SlateDBError) (ahead : Option RowEntry) (inner : IteratorState) → failure ≡ None → ReadsGroups merge rule failure ahead inner → AreRising (merging failure merge rule ahead inner).rows → AreRising (from_ahead ahead inner)
reads_rise merge rule (Some e) ahead inner alive k rising = absurd (cc alive)
reads_rise merge rule None ahead inner alive k rising = rises_by_folded merge rule (from_ahead ahead inner) k.2 rising

-- And so do those that the inner iterator has left.
pub inner_rises : (ahead : Option RowEntry) (inner : IteratorState) → AreRising (from_ahead ahead inner) → AreRising inner.rows
inner_rises ahead inner rising = rising_back (rows_of (option_to_list ahead)) inner.rows rising
