-- What refuses the next of the folded rows.
use Rattle.std.proofs.Common.{◌≡◌, ◌≢◌, ◌∙◌, sym, refl, ap, subst, ℕ, List, [], ◌∷◌, map, ◌&&◌, Bool, true, false, length, Option, Some, None, Ok, Err}
use Rattle.std.specs.Prelude.{Result, if◌then◌else◌, reverse}
use Rattle.std.specs.Option.{is_none}
use Rattle.row_model.specs.Chunks.{Chunk}
use Rattle.row_model.specs.Fold.{Operator, Outcome, Merged, Refused, fold_bytes}
use Rattle.row_model.specs.FoldedRows.{group_operands, group_base, base_bytes}
use Rattle.row_model.specs.Rows.{Row}
use Rattle.row_laws.specs.Batches.{batches}
use Rattle.fleet_iter.specs.Iteration.{IteratorState, Nexts, CanFail}
use Rattle.fleet_iter.proofs.Failures.{kept_cause}
use Rattle.fleet_rows.specs.declared.row.RowEntry.{RowEntry}
use Rattle.fleet_rows.specs.declared.errors.MergeOperatorError.TheVariants.{EmptyBatch, Callback}
use Rattle.fleet_rows.specs.declared.errors.SlateDBError.{SlateDBError}
use Rattle.fleet_rows.specs.declared.errors.SlateDBError.TheVariants.{IteratorNotInitialized, IteratorFailed, MergeOperatorMissing, InvalidSequenceOrder, MergeOperator, CompactionFilter, InvalidCompaction, InvalidDBState, Fenced, StoreFault, NotOwner, Conflict, Generate, Memory}
use Rattle.fleet_fold.specs.Folded.{Folded, opens, joining, last_above, in_order, answer_of, batch_answer, batch_len, one_more, all_answers, over_base, base_among, operands_in, group_answer, merged_group, row_of_answer, folded_after, up_to_refusal, folded_groups}
use Rattle.fleet_fold.specs.Groups.{RefusesNext}
use Rattle.fleet_fold.specs.Merging.{merging}
use Rattle.fleet_fold.specs.Retention.{from_ahead}
use Rattle.fleet_fold.specs.declared.group.GroupRule.{GroupRule}

-- An error that cannot differ from `Memory` is `Memory`.
memory_or : (e : SlateDBError) → (e ≢ Memory → ⊥) → e ≡ Memory
memory_or IteratorNotInitialized h = absurd (h (λ is. cc is))
memory_or IteratorFailed h = absurd (h (λ is. cc is))
memory_or MergeOperatorMissing h = absurd (h (λ is. cc is))
memory_or (InvalidSequenceOrder current_seq next_seq) h = absurd (h (λ is. cc is))
memory_or (MergeOperator e) h = absurd (h (λ is. cc is))
memory_or (CompactionFilter e) h = absurd (h (λ is. cc is))
memory_or InvalidCompaction h = absurd (h (λ is. cc is))
memory_or InvalidDBState h = absurd (h (λ is. cc is))
memory_or (Fenced stored) h = absurd (h (λ is. cc is))
memory_or StoreFault h = absurd (h (λ is. cc is))
memory_or NotOwner h = absurd (h (λ is. cc is))
memory_or (Conflict seen) h = absurd (h (λ is. cc is))
memory_or (Generate message) h = absurd (h (λ is. cc is))
memory_or Memory h = refl

-- ---- the error of a fold is no error of an iterator

abbrev OfFold : SlateDBError → Type 0
OfFold e = (e ≢ IteratorNotInitialized) × (e ≢ IteratorFailed)

of_order : (seq next : ℕ) (e : SlateDBError) → InvalidSequenceOrder seq next ≡ e → OfFold e
of_order seq next e is = ((λ h. let k = is ∙ h in cc k), (λ h. let k = is ∙ h in cc k))

of_answer : (o : Option Outcome) (e : SlateDBError) → answer_of o ≡ Err e → OfFold e
of_answer (Some (Merged bytes)) e h = absurd (cc h)
of_answer (Some (Refused message)) e h = let is : MergeOperator (Callback message) ≡ e = cc in ((λ h. let k = is ∙ h in cc k), (λ h. let k = is ∙ h in cc k))
of_answer None e h = let is : MergeOperator EmptyBatch ≡ e = cc in ((λ h. let k = is ∙ h in cc k), (λ h. let k = is ∙ h in cc k))

of_ordered : (seq : ℕ) (late : Option ℕ) (o : Option Outcome) (e : SlateDBError) → in_order seq late (answer_of o) ≡ Err e → OfFold e
of_ordered seq None o e h = of_answer o e h
of_ordered seq (Some next) o e h = of_order seq next e (cc h)

module _ (merge : Operator) where
  of_batches : (first : Row) (bs : List (List Row)) (e : SlateDBError) → all_answers (map (batch_answer merge first) bs) ≡ Err e → OfFold e
  of_batches first [] e h = absurd (cc h)
  of_batches first (b ∷ bs) e h = by (batch_answer merge first b) refl (all_answers (map (batch_answer merge first) bs)) (of_batches first bs e) h
    where
      by : (answer : Result (List ℕ) SlateDBError) → batch_answer merge first b ≡ answer → (others : Result (List (List ℕ)) SlateDBError) → (others ≡ Err e → OfFold e) → one_more answer others ≡ Err e → OfFold e
      by (Err x) is others rest h =
          let same : x ≡ e = cc in
          of_ordered first.seq (last_above first.seq b) (fold_bytes merge first.key None (group_operands b)) e (is ∙ ap Err same)
      by (Ok bytes) is (Err x) rest h = rest h
      by (Ok bytes) is (Ok results) rest h = absurd (cc h)

  of_base : (first : Row) (base : List Row) (results : Result (List (List ℕ)) SlateDBError) (e : SlateDBError) → (results ≡ Err e → OfFold e) → over_base merge first base results ≡ Err e → OfFold e
  of_base first base (Err x) e rest h = let same : x ≡ e = cc in rest (ap Err same)
  of_base first base (Ok results) e rest h = of_ordered first.seq (last_above first.seq base) (fold_bytes merge first.key (base_bytes (group_base base)) (reverse results)) e h

  of_group : (g : Chunk Row) (e : SlateDBError) → merged_group merge g ≡ Err e → OfFold e
  of_group g e h =
      let bs : List (List Row) = batches batch_len (g.0 ∷ operands_in g.1) in
      of_base g.0 (base_among g.1) (all_answers (map (batch_answer merge g.0) bs)) e (of_batches g.0 bs e) (by (group_answer merge g) h)
    where
      by : (answer : Result (List ℕ) SlateDBError) → row_of_answer g answer ≡ Err e → answer ≡ Err e
      by (Ok bytes) h = absurd (cc h)
      by (Err x) h = let same : x ≡ e = cc in ap Err same

  module _ (rule : GroupRule) where
    of_first : (r : Row) (rows : List Row) (e : SlateDBError) (others : List (Result Row SlateDBError)) → folded_after merge rule 0 (r ∷ rows) ≡ Err e ∷ others → OfFold e
    of_first r rows e others h = by (opens rule r) h
      where
        head : (a b : Result Row SlateDBError) (xs ys : List (Result Row SlateDBError)) → ◌≡◌ {A = List (Result Row SlateDBError)} (a ∷ xs) (b ∷ ys) → a ≡ b
        head a b xs ys h = cc h

        by : (b : Bool) → (if b then merged_group merge (r, joining rule r rows) ∷ folded_after merge rule (length (joining rule r rows)) rows else Ok r ∷ folded_after merge rule 0 rows) ≡ Err e ∷ others → OfFold e
        by true h = of_group (r, joining rule r rows) e (head _ (Err e) _ others h)
        by false h = let clash : ◌≡◌ {A = Result Row SlateDBError} (Ok r) (Err e) = head (Ok r) (Err e) _ others h in absurd (cc clash)

    -- If the first answer is an error, no row comes before it.
    refused : (rows : List Row) (e : SlateDBError) (others : List (Result Row SlateDBError)) → folded_after merge rule 0 rows ≡ Err e ∷ others → folded_groups merge rule rows ≡ record { rows = []; refusal = Some e }
    refused rows e others h = ap up_to_refusal h

    both : (a b : Bool) → a && b ≡ true → (a ≡ true) × (b ≡ true)
    both true true h = (refl, refl)
    both true false h = absurd (cc h)
    both false b h = absurd (cc h)

    -- What refuses the next row is the same whether or not the first row was read ahead.
    pub next_handed : (ahead : Option RowEntry) (inner read after : IteratorState) (first : Row) (e : SlateDBError) → from_ahead ahead inner ≡ first ∷ read.rows → inner.whole ≡ read.whole
        → RefusesNext merge rule (first ∷ read.rows) read after e → RefusesNext merge rule (from_ahead ahead inner) inner after e
    next_handed ahead inner read after first e rows whole refuses = record {
      read = λ failed. subst (λ (w : Bool). CanFail w e) (sym whole) (refuses.read failed);
      handed = refuses.handed;
      merged = λ ok other. let (others, is) = refuses.merged ok other in (others, ap (folded_after merge rule 0) rows ∙ is);
    }

    -- What refuses the next row still does once the iterator has kept the error.
    pub next_kept : (rows : List Row) (old after : IteratorState) (e answer : SlateDBError) → (answer ≢ Memory → answer ≡ e) → (e ≡ Memory → answer ≡ Memory) → RefusesNext merge rule rows old after e → RefusesNext merge rule rows old after answer
    next_kept rows old after e answer same memory refuses = record {
      read = λ failed. kept_cause old.whole old.whole e answer (λ all. all) same memory (refuses.read failed);
      handed = λ failed other. refuses.handed failed (λ m. other (memory m)) ∙ ap Some (sym (same other));
      merged = λ ok other.
          let (others, is) = refuses.merged ok (λ m. other (memory m)) in
          (others, is ∙ ap (λ (x : SlateDBError). Err x ∷ others) (sym (same other)));
    }

    pub next_refused : (merge' : Operator) (rule' : GroupRule) (failure kept : Option SlateDBError) (ahead later : Option RowEntry) (inner after : IteratorState) (first : Row) (rest : List Row) (e : SlateDBError) → failure ≡ None → kept ≡ Some e → from_ahead ahead inner ≡ first ∷ rest → inner.initialised ≡ true
        → RefusesNext merge rule (from_ahead ahead inner) inner after e → Nexts (merging failure merge rule ahead inner) (merging kept merge' rule' later after) (Err e)
    next_refused merge' rule' failure kept ahead later inner after first rest e alive marked rows begun refuses = record {
      failed = λ q. absurd (q alive);
      uninitialised = λ _ i. let clash = sym begun ∙ i in absurd (cc clash);
      answers = λ _ _. record { failed = marked; cause = by after.failure refl; known = λ afterwards is other. tell afterwards other (if_whole afterwards inner.whole refl is) after.failure refl };
    }
      where
        some_fails : (x : SlateDBError) → after.failure ≡ Some x → after.failure ≢ None
        some_fails x was none = let clash : ◌≡◌ {A = Option SlateDBError} (Some x) None = sym was ∙ none in cc clash

        if_whole : (afterwards : SlateDBError) (w : Bool) → inner.whole ≡ w → (if w then (folded_groups merge rule (from_ahead ahead inner)).refusal else None) ≡ Some afterwards
            → (inner.whole ≡ true) × ((folded_groups merge rule (from_ahead ahead inner)).refusal ≡ Some afterwards)
        if_whole afterwards true e h = (e, h)
        if_whole afterwards false e h = absurd (cc h)

        tell : (afterwards : SlateDBError) → e ≢ Memory → (inner.whole ≡ true) × ((folded_groups merge rule (from_ahead ahead inner)).refusal ≡ Some afterwards) → (o : Option SlateDBError) → after.failure ≡ o → ((folded_groups merge rule (from_ahead ahead inner)).rows ≡ []) × (e ≡ afterwards)
        tell afterwards other (all, is) (Some x) was = absurd (other ((refuses.read (some_fails x was)).memory all))
        tell afterwards other (all, is) None was =
            let (others, first_is) = refuses.merged was other in
            let made = refused (from_ahead ahead inner) e others first_is in
            let same : Some e ≡ Some afterwards = sym (ap (λ (f : Folded). f.refusal) made) ∙ is in
            (ap (λ (f : Folded). f.rows) made, cc same)

        by : (o : Option SlateDBError) → after.failure ≡ o → CanFail (inner.whole && is_none (folded_groups merge rule (from_ahead ahead inner)).refusal) e
        by (Some x) was =
            let h = refuses.read (some_fails x was) in
            record { initialised = h.initialised; alive = h.alive; memory = λ w. h.memory (both inner.whole _ w).0 }
        by None was =
            let other : (e ≢ Memory) → OfFold e = λ not_memory. let (others, is) = refuses.merged was not_memory in of_first first rest e others (ap (folded_after merge rule 0) (sym rows) ∙ is) in
            record {
              initialised = λ is. (other (λ m. let k = sym is ∙ m in cc k)).0 is;
              alive = λ is. (other (λ m. let k = sym is ∙ m in cc k)).1 is;
              memory = λ w. memory_or e (λ not_memory. let (others, is) = refuses.merged was not_memory in
                  let some : (folded_groups merge rule (from_ahead ahead inner)).refusal ≡ Some e = ap (λ (f : Folded). f.refusal) (refused (from_ahead ahead inner) e others is) in
                  let clash : false ≡ true = sym (ap is_none some) ∙ (both inner.whole _ w).1 in cc clash);
            }

    -- The error that refuses the next row is not `IteratorNotInitialized`.
    pub not_early : (rows : List Row) (old after : IteratorState) (r : Row) (rest : List Row) (e : SlateDBError) → rows ≡ r ∷ rest → RefusesNext merge rule rows old after e → e ≢ IteratorNotInitialized
    not_early rows old after r rest e is refuses early = by after.failure refl
      where
        other : e ≢ Memory
        other m = let k = sym early ∙ m in cc k

        by : (o : Option SlateDBError) → after.failure ≡ o → ⊥
        by (Some x) was = (refuses.read (λ none. let clash : ◌≡◌ {A = Option SlateDBError} (Some x) None = sym was ∙ none in cc clash)).initialised early
        by None was =
            let (others, first) = refuses.merged was other in
            (of_first r rest e others (ap (folded_after merge rule 0) (sym is) ∙ first)).0 early
