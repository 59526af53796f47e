-- Keys of which the first row is kept as it is, and no other row.
use Rattle.std.proofs.Common.{◌≡◌, ◌≢◌, ◌∙◌, sym, refl, ap, subst, List, [], ◌∷◌, ◌++◌, ◌&&◌, Bool, true, false, Option, Some, None, Ok, Err}
use Rattle.std.proofs.lemmas.Bool.{and_parts}
use Rattle.std.proofs.lemmas.List.{append_assoc, append-nil, map-append}
use Rattle.std.specs.Prelude.{not, nat_le, if◌then◌else◌}
use Rattle.std.specs.List.{AllByRecursion}
use Rattle.std.specs.Option.{option_to_list}
use Rattle.row_model.specs.Rows.{Row, Tombstone, same_key, is_operand, is_tombstone, is_expired}
use Rattle.row_model.specs.Settings.{Settings}
use Rattle.row_model.specs.KeptRows.{kept_rows, retention_walk, as_tombstone_if_expired, without_old_tombstones}
use Rattle.fleet_iter.specs.Iteration.{IteratorState, AreRising, CanFail, NextFails, Nexts, KeepsRefusal}
use Rattle.fleet_rows.specs.Row.{row_of, rows_of}
use Rattle.fleet_rows.specs.declared.row.RowEntry.{RowEntry}
use Rattle.fleet_rows.specs.declared.errors.SlateDBError.{SlateDBError}
use Rattle.fleet_fold.specs.Retention.{kept_given, HaveOneKey, AreEndedBy, from_ahead, IsReadable, RefusesKey, Fills, ReadsOn, Begins, Knows, retained_state, ends_walk}
use Rattle.fleet_fold.proofs.LoneRows.{is_kept_alone, stands_alone, ends_key, PassesSoFar, PassesKey}
use Rattle.fleet_fold.proofs.Keys.{first_given, fill_refused, rising_back}
use Rattle.fleet_fold.proofs.KeptNexts.{next_given, next_unfilled}

-- ---- rows that are passed

all-snoc : (P : Row → Type 0) (xs : List Row) (q : Row) → AllByRecursion P xs → P q → AllByRecursion P (xs ++ q ∷ [])
all-snoc P [] q h own = (own, tt)
all-snoc P (x ∷ xs) q h own = (h.0, all-snoc P xs q h.1 own)

not_false : (b : Bool) → not b ≡ false → b ≡ true
not_false true e = refl
not_false false e = absurd (cc e)

not_true : (b : Bool) → not b ≡ true → b ≡ false
not_true true e = absurd (cc e)
not_true false e = refl

-- No row is passed yet.
pub passes_nothing : (ahead : Option RowEntry) (s : IteratorState) → ahead ≢ None → IsReadable s → PassesSoFar ahead s s
passes_nothing None s some readable = absurd (some refl)
passes_nothing (Some first) s some readable =
    record { passed = []; parts = refl; alike = tt; readable = readable; whole = refl; steady = refl; refusal = refl }

-- One more row of the key is passed.
pub passes_row : (ahead : Option RowEntry) (old s new : IteratorState) (row : Option RowEntry) → ahead ≢ None → Nexts s new (Ok row) → ends_key ahead row ≡ false → PassesSoFar ahead old s → PassesSoFar ahead old new
passes_row None old s new row some nexts more h = absurd (some refl)
passes_row (Some first) old s new None some nexts more h = absurd (cc more)
passes_row (Some first) old s new (Some row) some nexts more h =
    let next : s ≡ record new { rows = row_of row ∷ new.rows } = nexts.answers h.readable.0 h.readable.1 in
    let joined : rows_of (h.passed ++ row ∷ []) ≡ rows_of h.passed ++ row_of row ∷ [] = map-append row_of h.passed (row ∷ []) in
    record {
      passed = h.passed ++ row ∷ [];
      parts = h.parts ∙ (ap (λ (t : IteratorState). (row_of first ∷ rows_of h.passed) ++ t.rows) next ∙ (sym (append_assoc (row_of first ∷ rows_of h.passed) (row_of row ∷ []) new.rows) ∙ ap (λ (w : List Row). (row_of first ∷ w) ++ new.rows) (sym joined)));
      alike = subst (λ (w : List Row). HaveOneKey (row_of first ∷ w)) (sym joined) (all-snoc (λ q. same_key (row_of first) q ≡ true) (rows_of h.passed) (row_of row) h.alike (not_false (same_key (row_of first) (row_of row)) more));
      readable = (sym (ap (λ (t : IteratorState). t.failure) next) ∙ h.readable.0, sym (ap (λ (t : IteratorState). t.initialised) next) ∙ h.readable.1);
      whole = sym (ap (λ (t : IteratorState). t.whole) next) ∙ h.whole;
      steady = sym (ap (λ (t : IteratorState). t.steady) next) ∙ h.steady;
      refusal = sym (ap (λ (t : IteratorState). t.refusal) next) ∙ h.refusal;
    }

-- The key has ended, and the row after it is read ahead.
pub passes_key : (ahead : Option RowEntry) (old s new : IteratorState) (row : Option RowEntry) → ahead ≢ None → Nexts s new (Ok row) → ends_key ahead row ≡ true → PassesSoFar ahead old s → PassesKey ahead old row new
passes_key None old s new row some nexts ends h = absurd (some refl)
passes_key (Some first) old s new None some nexts ends h =
    let end = nexts.answers h.readable.0 h.readable.1 in
    let none : new.rows ≡ [] = ap (λ (t : IteratorState). t.rows) end.same ∙ end.rows in (
      h.passed,
      record {
        parts = h.parts ∙ ap (λ (t : IteratorState). (row_of first ∷ rows_of h.passed) ++ t.rows) (sym end.same);
        alike = h.alike;
        ended = subst (λ (w : List Row). AreEndedBy (row_of first ∷ rows_of h.passed) w) (sym none) tt;
        readable = (ap (λ (t : IteratorState). t.failure) end.same ∙ h.readable.0, ap (λ (t : IteratorState). t.initialised) end.same ∙ h.readable.1);
        whole = ap (λ (t : IteratorState). t.whole) end.same ∙ h.whole;
        steady = ap (λ (t : IteratorState). t.steady) end.same ∙ h.steady;
        refusal = ap (λ (t : IteratorState). t.refusal) end.same ∙ h.refusal;
        all = λ _. ap (λ (t : IteratorState). t.whole) end.same ∙ end.whole;
      },
    )
passes_key (Some first) old s new (Some row) some nexts ends h =
    let next : s ≡ record new { rows = row_of row ∷ new.rows } = nexts.answers h.readable.0 h.readable.1 in (
      h.passed,
      record {
        parts = h.parts ∙ ap (λ (t : IteratorState). (row_of first ∷ rows_of h.passed) ++ t.rows) next;
        alike = h.alike;
        ended = not_true (same_key (row_of first) (row_of row)) ends;
        readable = (sym (ap (λ (t : IteratorState). t.failure) next) ∙ h.readable.0, sym (ap (λ (t : IteratorState). t.initialised) next) ∙ h.readable.1);
        whole = sym (ap (λ (t : IteratorState). t.whole) next) ∙ h.whole;
        steady = sym (ap (λ (t : IteratorState). t.steady) next) ∙ h.steady;
        refusal = sym (ap (λ (t : IteratorState). t.refusal) next) ∙ h.refusal;
        all = λ none. absurd (cc none);
      },
    )

-- Reading is refused before the key has ended.
pub passes_no_further : (ahead : Option RowEntry) (old s new : IteratorState) (e : SlateDBError) → ahead ≢ None → Nexts s new (Err e) → PassesSoFar ahead old s → RefusesKey ahead old new e
passes_no_further ahead old s new e some nexts h =
    let fails : NextFails s new e = nexts.answers h.readable.0 h.readable.1 in
    record {
      cause = subst (λ (w : Bool). CanFail w e) h.whole fails.cause;
      handed = λ _. fails.failed;
      known = λ after is other.
          let (none, same) = fails.known after (h.refusal ∙ is) other in
          let front : List Row = rows_of (option_to_list ahead ++ h.passed) in
          let all : from_ahead ahead old ≡ front = h.parts ∙ (ap (λ (w : List Row). front ++ w) none ∙ append-nil front) in
          (subst HaveOneKey (sym all) h.alike, same);
    }

-- ---- what is kept of such a key

kept_alone : (settings : Settings) (r : Row) (rows : List Row) → is_kept_alone settings r ≡ true → kept_rows settings (r ∷ rows) ≡ r ∷ []
kept_alone settings r rows is =
    let outer = and_parts (ends_walk settings.cut r && not (is_expired r settings.tick)) (not (settings.last_run && is_tombstone r.content)) is in
    let inner = and_parts (ends_walk settings.cut r) (not (is_expired r settings.tick)) outer.0 in
    let walks = and_parts (not (is_operand r)) (nat_le r.seq settings.cut) inner.0 in
    let operand = not_true (is_operand r) walks.0 in
    let expired = not_true (is_expired r settings.tick) inner.1 in
    let walk : retention_walk settings.cut settings.tick (r ∷ rows) ≡ r ∷ [] =
    ap (λ (b : Bool). if b then (if is_expired r settings.tick then retention_walk settings.cut settings.tick rows else r ∷ retention_walk settings.cut settings.tick rows)
    else (if nat_le r.seq settings.cut then as_tombstone_if_expired settings.tick r ∷ [] else as_tombstone_if_expired settings.tick r ∷ retention_walk settings.cut settings.tick rows)) operand
    ∙ (ap (λ (b : Bool). if b then as_tombstone_if_expired settings.tick r ∷ [] else as_tombstone_if_expired settings.tick r ∷ retention_walk settings.cut settings.tick rows) walks.1
    ∙ ap (λ (b : Bool). (if b then record r { content = Tombstone; expires = None } else r) ∷ []) expired) in
    by settings.last_run (not_true (settings.last_run && is_tombstone r.content) outer.1) walk
  where
    by : (last : Bool) → last && is_tombstone r.content ≡ false → retention_walk settings.cut settings.tick (r ∷ rows) ≡ r ∷ []
        → (if last then without_old_tombstones (retention_walk settings.cut settings.tick (r ∷ rows)) else retention_walk settings.cut settings.tick (r ∷ rows)) ≡ r ∷ []
    by true none walk = ap without_old_tombstones walk ∙ ap (λ (b : Bool). if b then [] else r ∷ []) none
    by false none walk = walk

module _ (settings : Settings) where
  -- The row that was read ahead is the only one that is given of its key.
  pub fills_alone : (ahead later : Option RowEntry) (old new : IteratorState) → stands_alone settings ahead ≡ true → PassesKey ahead old later new → Fills settings [] ahead old (option_to_list ahead) later new
  fills_alone None later old new alone h = absurd (cc alone)
  fills_alone (Some first) later old new alone h =
      let rows : List Row = row_of first ∷ rows_of h.0 in
      record {
        rows = ap (kept_given settings old.whole) h.1.parts
            ∙ (first_given settings old.whole rows (from_ahead later new) h.1.alike h.1.ended (λ none. sym h.1.whole ∙ h.1.all none)
            ∙ ap (λ (w : List Row). w ++ kept_given settings old.whole (from_ahead later new)) (kept_alone settings (row_of first) (rows_of h.0) alone));
        readable = h.1.readable;
        whole = h.1.whole;
        steady = h.1.steady;
        refusal = h.1.refusal;
        ends = λ none. absurd (cc none);
        all = λ none. absurd (cc none);
        rising = λ rises. rising_back rows (from_ahead later new) (subst AreRising h.1.parts rises);
      }

  pub some_alone : (ahead : Option RowEntry) → stands_alone settings ahead ≡ true → ahead ≢ None
  some_alone None alone = λ _. cc alone
  some_alone (Some first) alone = λ none. cc none

  -- A row was read ahead already.
  begins_ahead : (buffer : List RowEntry) (ahead : Option RowEntry) (inner : IteratorState) → ahead ≢ None → ReadsOn buffer ahead inner → Begins ahead inner ahead inner
  begins_ahead buffer ahead inner some reads =
      record { begun = reads.ahead_begun some; readable = (reads.alive, reads.ahead_begun some); rows = refl; whole = refl; steady = refl; refusal = refl }

  -- The row that was read ahead is given.
  pub gives_alone : (failure : Option SlateDBError) (buffer : List RowEntry) (ahead later : Option RowEntry) (inner after : IteratorState) → failure ≡ None → buffer ≡ [] → ReadsOn buffer ahead inner → stands_alone settings ahead ≡ true → PassesKey ahead inner later after
      → Nexts (retained_state failure settings buffer ahead inner) (retained_state failure settings buffer later after) (Ok ahead)
  gives_alone failure buffer ahead later inner after alive empty reads alone h =
      subst (λ (w : List RowEntry). Nexts (retained_state failure settings w ahead inner) (retained_state failure settings w later after) (Ok ahead)) (sym empty)
      (next_given settings failure alive [] ahead ahead inner inner (begins_ahead buffer ahead inner (some_alone ahead alone) reads) (option_to_list ahead) [] later after ahead (fills_alone ahead later inner after alone h) (sym (append-nil (option_to_list ahead))) (none_listed ahead))
    where
      none_listed : (row : Option RowEntry) → row ≡ None → option_to_list row ≡ []
      none_listed row none = ap option_to_list none

  -- What holds of the inner iterator after the row is given.
  reads_alone : (buffer : List RowEntry) (ahead later : Option RowEntry) (inner after : IteratorState) → buffer ≡ [] → ReadsOn buffer ahead inner → stands_alone settings ahead ≡ true → PassesKey ahead inner later after → ReadsOn buffer later after
  reads_alone buffer ahead later inner after empty reads alone h = record {
    alive = h.1.readable.0;
    begun = λ _. h.1.readable.1;
    ahead_begun = λ _. h.1.readable.1;
    rising = (fills_alone ahead later inner after alone h).rising reads.rising;
  }

  pub knows_alone : (failure : Option SlateDBError) (buffer : List RowEntry) (ahead later : Option RowEntry) (inner after : IteratorState) → failure ≡ None → buffer ≡ [] → Knows failure buffer ahead inner → stands_alone settings ahead ≡ true → PassesKey ahead inner later after → Knows failure buffer later after
  knows_alone (Some e) buffer ahead later inner after alive empty knows alone h = tt
  knows_alone None buffer ahead later inner after alive empty knows alone h = reads_alone buffer ahead later inner after empty knows alone h

  -- An error that comes before the key has ended is answered.
  pub refuses_alone : (failure kept : Option SlateDBError) (buffer : List RowEntry) (ahead later : Option RowEntry) (inner after : IteratorState) (e answer : SlateDBError) → failure ≡ None → buffer ≡ [] → ReadsOn buffer ahead inner → stands_alone settings ahead ≡ true
      → KeepsRefusal e failure kept answer → RefusesKey ahead inner after e → Nexts (retained_state failure settings buffer ahead inner) (retained_state kept settings buffer later after) (Err answer)
  refuses_alone failure kept buffer ahead later inner after e answer alive empty reads alone keeps refuses =
      next_unfilled settings failure alive buffer ahead ahead inner inner (begins_ahead buffer ahead inner (some_alone ahead alone) reads) buffer later after kept e answer keeps
      (fill_refused settings buffer buffer ahead ahead inner inner after e refuses refl refl refl empty)
