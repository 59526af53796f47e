-- What `next` of a retention iterator answers.
use Rattle.std.proofs.Common.{◌≡◌, ◌∙◌, sym, refl, ap, subst, List, [], ◌++◌, Bool, true, false, Option, Some, None, Ok, Err}
use Rattle.std.proofs.lemmas.Bool.{true_from_ne_false}
use Rattle.std.specs.Option.{option_to_list}
use Rattle.std.specs.Prelude.{Result, reverse}
use Rattle.std.proofs.lemmas.List.{reverse-append}
use Rattle.row_model.specs.Rows.{Row}
use Rattle.row_model.specs.Settings.{Settings}
use Rattle.fleet_iter.specs.Iteration.{IteratorState, KeepsRefusal, NextAnswers, Nexts}
use Rattle.fleet_iter.proofs.Failures.{kept_cause, kept_known}
use Rattle.fleet_rows.specs.Row.{rows_of}
use Rattle.fleet_rows.specs.declared.row.RowEntry.{RowEntry}
use Rattle.fleet_rows.specs.declared.errors.SlateDBError.{SlateDBError}
use Rattle.fleet_rows.specs.declared.errors.SlateDBError.TheVariants.{IteratorNotInitialized}
use Rattle.fleet_fold.specs.Retention.{kept_given, from_ahead, retained_state, Begins, Fills, RefusesFill}

-- The last element of the buffer is the next row.
pub popped : (rows left : List RowEntry) (row : Option RowEntry) → rows ≡ left ++ option_to_list row → reverse rows ≡ option_to_list row ++ reverse left
popped rows left row is = ap reverse is ∙ (reverse-append left (option_to_list row) ∙ ap (λ (w : List RowEntry). w ++ reverse left) (one row))
  where
    one : (row : Option RowEntry) → reverse (option_to_list row) ≡ option_to_list row
    one None = refl
    one (Some x) = refl

-- A row is read ahead if none was.
pub begins_next : (inner mid : IteratorState) (ahead row : Option RowEntry) → ahead ≡ None → inner.failure ≡ None → Nexts inner mid (Ok row) → Begins ahead inner row mid
begins_next inner mid ahead row none alive nexts = subst (λ (o : Option RowEntry). Begins o inner row mid) (sym none) (by row (nexts.answers alive begun))
  where
    begun : inner.initialised ≡ true
    begun = true_from_ne_false inner.initialised (λ i. let clash : ◌≡◌ {A = Result (Option RowEntry) SlateDBError} (Ok row) (Err IteratorNotInitialized) = (nexts.uninitialised alive i).answer in cc clash)

    by : (row : Option RowEntry) → NextAnswers inner mid (Ok row) → Begins None inner row mid
    by None h = record {
      begun = begun;
      readable = (ap (λ (s : IteratorState). s.failure) h.same ∙ alive, ap (λ (s : IteratorState). s.initialised) h.same ∙ begun);
      rows = ap (λ (s : IteratorState). s.rows) h.same;
      whole = ap (λ (s : IteratorState). s.whole) h.same;
      steady = ap (λ (s : IteratorState). s.steady) h.same;
      refusal = ap (λ (s : IteratorState). s.refusal) h.same;
    }
    by (Some x) h = record {
      begun = begun;
      readable = (sym (ap (λ (s : IteratorState). s.failure) h) ∙ alive, sym (ap (λ (s : IteratorState). s.initialised) h) ∙ begun);
      rows = sym (ap (λ (s : IteratorState). s.rows) h);
      whole = sym (ap (λ (s : IteratorState). s.whole) h);
      steady = sym (ap (λ (s : IteratorState). s.steady) h);
      refusal = sym (ap (λ (s : IteratorState). s.refusal) h);
    }

none_kept : (settings : Settings) (whole : Bool) (rows : List Row) → rows ≡ [] → kept_given settings whole rows ≡ []
none_kept settings true rows none = ap (kept_given settings true) none
none_kept settings false rows none = ap (kept_given settings false) none

module _ (settings : Settings) (failure : Option SlateDBError) (alive : failure ≡ None) (buffer : List RowEntry) (ahead read : Option RowEntry) (inner mid : IteratorState) (begins : Begins ahead inner read mid) where
  -- Reading a row ahead does not change the rows left.
  same_rows : rows_of buffer ++ kept_given settings inner.whole (from_ahead ahead inner) ≡ rows_of buffer ++ kept_given settings mid.whole (from_ahead read mid)
  same_rows =
      ap (λ (w : Bool). rows_of buffer ++ kept_given settings w (from_ahead ahead inner)) (sym begins.whole)
      ∙ ap (λ (rows : List Row). rows_of buffer ++ kept_given settings mid.whole rows) (sym begins.rows)

  pub next_given : (filled rest : List RowEntry) (later : Option RowEntry) (after : IteratorState) (row : Option RowEntry) → Fills settings buffer read mid filled later after → filled ≡ option_to_list row ++ rest → (row ≡ None → filled ≡ [])
      → Nexts (retained_state failure settings buffer ahead inner) (retained_state failure settings rest later after) (Ok row)
  next_given filled rest later after row fills is ends = record {
    failed = λ failed. absurd (failed alive);
    uninitialised = λ _ i. let clash : true ≡ false = sym begins.begun ∙ i in absurd (cc clash);
    answers = λ _ _. by row is ends;
  }
    where
      whole : after.whole ≡ inner.whole
      whole = fills.whole ∙ begins.whole

      all : rows_of buffer ++ kept_given settings inner.whole (from_ahead ahead inner) ≡ rows_of filled ++ kept_given settings after.whole (from_ahead later after)
      all = same_rows ∙ (fills.rows ∙ ap (λ (w : Bool). rows_of filled ++ kept_given settings w (from_ahead later after)) (sym fills.whole))

      same_state : (rows left : List Row) → rows ≡ left
          → ◌≡◌ {A = IteratorState} (record { rows = rows; initialised = inner.initialised; failure = failure; whole = inner.whole; steady = inner.steady; refusal = inner.refusal })
          (record { rows = left; initialised = after.initialised; failure = failure; whole = after.whole; steady = after.steady; refusal = after.refusal })
      same_state rows left e =
          let begun : inner.initialised ≡ after.initialised = begins.begun ∙ sym fills.readable.1 in
          let w : inner.whole ≡ after.whole = sym whole in
          let s : inner.steady ≡ after.steady = sym (fills.steady ∙ begins.steady) in
          let r : inner.refusal ≡ after.refusal = sym (fills.refusal ∙ begins.refusal) in
          cc (e, begun, w, s, r)

      by : (row : Option RowEntry) → filled ≡ option_to_list row ++ rest → (row ≡ None → filled ≡ []) → NextAnswers (retained_state failure settings buffer ahead inner) (retained_state failure settings rest later after) (Ok row)
      by None is ends =
          let none : filled ≡ [] = ends refl in
          let gone : from_ahead later after ≡ [] = fills.ends none in
          let old_rows : rows_of buffer ++ kept_given settings inner.whole (from_ahead ahead inner) ≡ [] =
          all ∙ (ap (λ (w : List RowEntry). rows_of w ++ kept_given settings after.whole (from_ahead later after)) none ∙ none_kept settings after.whole (from_ahead later after) gone) in
          let new_rows : rows_of rest ++ kept_given settings after.whole (from_ahead later after) ≡ [] =
          ap (λ (w : List RowEntry). rows_of w ++ kept_given settings after.whole (from_ahead later after)) (sym is ∙ none) ∙ none_kept settings after.whole (from_ahead later after) gone in
          record { rows = old_rows; whole = sym whole ∙ fills.all none; same = sym (same_state _ _ (old_rows ∙ sym new_rows)) }
      by (Some x) is ends = same_state _ _ (all ∙ ap (λ (w : List RowEntry). rows_of w ++ kept_given settings after.whole (from_ahead later after)) is)

  -- If the buffer cannot be filled, `next` of a retention iterator answers the error.
  pub next_unfilled : (rest : List RowEntry) (later : Option RowEntry) (after : IteratorState) (kept : Option SlateDBError) (e answer : SlateDBError) → KeepsRefusal e failure kept answer → RefusesFill settings buffer read mid after e
      → Nexts (retained_state failure settings buffer ahead inner) (retained_state kept settings rest later after) (Err answer)
  next_unfilled rest later after kept e answer keeps refuses = record {
    failed = λ failed. absurd (failed alive);
    uninitialised = λ _ i. let clash : true ≡ false = sym begins.begun ∙ i in absurd (cc clash);
    answers = λ _ _. record {
      failed = keeps.kept refuses.cause.initialised;
      cause = kept_cause mid.whole inner.whole e answer (λ all. begins.whole ∙ all) keeps.same keeps.memory refuses.cause;
      known = kept_known (retained_state failure settings buffer ahead inner) e answer keeps.same keeps.memory (λ afterwards is other.
          let (none, same) = refuses.known afterwards (begins.refusal ∙ is) other in
          (same_rows ∙ none, same));
    };
  }
