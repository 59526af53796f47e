-- A group that has its first row alone, or its first row and its base, and is merged in one call.
use Rattle.std.proofs.Common.{◌≡◌, ◌∙◌, sym, ap, refl, ℕ, ◌≤◌, List, [], ◌∷◌, map, Bool, true, false, Option, Some, None, Ok, arith}
use Rattle.std.specs.Prelude.{Result, if◌then◌else◌}
use Rattle.std.proofs.lemmas.Bool.{le-leb}
use Rattle.row_model.specs.Rows.{Row, Content, Value, Merge, is_merge, is_operand}
use Rattle.row_model.specs.Fold.{Operator, Outcome, Merged, Refused, IsLawful, fold_bytes}
use Rattle.row_model.specs.FoldedRows.{merged_content, group_base, group_operands, with_group_operand, base_bytes, greatest_created, greater_stamp}
use Rattle.row_laws.specs.Batches.{batches}
use Rattle.fleet_rows.specs.declared.errors.SlateDBError.{SlateDBError}
use Rattle.fleet_fold.specs.Folded.{last_above, in_order, answer_of, batch_answer, batch_len, operands_in, base_among, lesser_stamp, least_expiry, group_answer, merged_group, row_of_answer}
use Rattle.fleet_fold.specs.Operator.{AnswersBatch}
use Rattle.fleet_fold.proofs.GroupRows.{greater_none, lesser_none, no_operand, own_base}
use Rattle.fleet_fold.proofs.GroupBatches.{one_batch}
use Rattle.fleet_fold.proofs.GroupCloses.{answer_over, same_row, over_a_base}
use Rattle.fleet_fold.proofs.GroupAtOnce.{one_first}

-- No row stands above itself.
ordered : (first : Row) → last_above first.seq (first ∷ []) ≡ None
ordered first = ap (λ (b : Bool). if b then None else Some first.seq) (le-leb first.seq first.seq (omega arith))

module _ (merge : Operator) (lawful : IsLawful merge) where
  lone_answer : (first : Row) (x bytes : List ℕ) (base : List Row) → first.content ≡ Merge x → operands_in base ≡ [] → base_among base ≡ base → answer_of (fold_bytes merge first.key (base_bytes (group_base base)) (x ∷ [])) ≡ Ok bytes
      → group_answer merge (first, base) ≡ in_order first.seq (last_above first.seq base) (Ok bytes)
  lone_answer first x bytes base is none own merged =
      let operand : is_operand first ≡ true = ap is_merge is in
      let (b, first_is, over) = one_first merge lawful first.key (base_bytes (group_base base)) x [] bytes merged in
      let answers : map (batch_answer merge first) (batches batch_len (first ∷ [])) ≡ map Ok (b ∷ []) =
      ap (map (batch_answer merge first)) (one_batch batch_len 0 first [] (omega arith))
      ∙ (ap (λ (o : Option ℕ). in_order first.seq o (answer_of (fold_bytes merge first.key None (group_operands (first ∷ [])))) ∷ []) (ordered first)
      ∙ (ap (λ (c : Content). answer_of (fold_bytes merge first.key None (with_group_operand c [])) ∷ []) is
      ∙ ap (λ (a : Result (List ℕ) SlateDBError). a ∷ []) first_is)) in
      answer_over merge first [] base (b ∷ []) (operand, tt) answers none own
      ∙ ap (λ (a : Result (List ℕ) SlateDBError). in_order first.seq (last_above first.seq base) a) over

  -- A group of one operand keeps the row, with the bytes that the operand merges to.
  pub lone_row : (first : Row) (x bytes : List ℕ) → first.content ≡ Merge x → answer_of (fold_bytes merge first.key None (x ∷ [])) ≡ Ok bytes
      → merged_group merge (first, []) ≡ Ok (record first { content = Merge bytes })
  lone_row first x bytes is merged =
      ap (row_of_answer (first, [])) (lone_answer first x bytes [] is refl refl merged)
      ∙ ap Ok (same_row (merged_content (group_base []) bytes) (Merge bytes) first.key first.key first.seq first.seq (greatest_created (first ∷ [])) first.created (least_expiry (first ∷ [])) first.expires refl refl refl (greater_none first.created) (lesser_none first.expires))

  -- A group of one operand and a base is a value with the stamps of both.
  pub lone_over : (first base : Row) (x bytes : List ℕ) → first.content ≡ Merge x → is_operand base ≡ false → base.seq ≤ first.seq → answer_of (fold_bytes merge first.key (base_bytes (group_base (base ∷ []))) (x ∷ [])) ≡ Ok bytes
      → merged_group merge (first, base ∷ []) ≡ Ok (record first { content = Value bytes; created = greater_stamp first.created base.created; expires = lesser_stamp first.expires base.expires })
  lone_over first base x bytes is plain below merged =
      let late : last_above first.seq (base ∷ []) ≡ None = ap (λ (b : Bool). if b then None else Some base.seq) (le-leb base.seq first.seq below) in
      ap (row_of_answer (first, base ∷ [])) (lone_answer first x bytes (base ∷ []) is (no_operand base plain) (own_base base plain) merged ∙ ap (λ (o : Option ℕ). in_order {A = List ℕ} first.seq o (Ok bytes)) late)
      ∙ ap Ok (same_row (merged_content (group_base (base ∷ [])) bytes) (Value bytes) first.key first.key first.seq first.seq (greatest_created (first ∷ (base ∷ []))) (greater_stamp first.created base.created) (least_expiry (first ∷ (base ∷ []))) (lesser_stamp first.expires base.expires)
      (over_a_base base.content bytes plain) refl refl (ap (greater_stamp first.created) (greater_none base.created)) (ap (lesser_stamp first.expires) (lesser_none base.expires)))

-- What a call of the operator answers is the answer of its fold.
pub answers_ok : (o : Option Outcome) (bytes : List ℕ) → AnswersBatch o (Ok bytes) → answer_of o ≡ Ok bytes
answers_ok None bytes h = absurd h
answers_ok (Some (Refused message)) bytes h = absurd h
answers_ok (Some (Merged merged)) bytes h = ap Ok (sym h)
