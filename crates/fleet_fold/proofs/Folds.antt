-- A fold that is refused before its end.
use Rattle.std.proofs.Common.{◌≡◌, ◌∙◌, ap, sym, refl, subst, ℕ, ◌+◌, ◌<◌, List, [], ◌∷◌, map, drop, Option, Some, None, Err, length, add-one, get_or, drop-cons}
use Rattle.std.specs.Prelude.{option_map}
use Rattle.row_model.specs.Fold.{Operator, Outcome, Merged, Refused, merge_one, fold, fold_bytes}
use Rattle.fleet_rows.specs.declared.errors.MergeOperatorError.{MergeOperatorError}
use Rattle.fleet_rows.specs.declared.errors.MergeOperatorError.TheVariants.{EmptyBatch, Callback, Memory}
use Rattle.fleet_fold.specs.Operator.{Answers, AnswersBatch}

module _ (merge : Operator) (key : List ℕ) where
  -- Merging one operand onto an existing value, or without one, has the operator's answer.
  pub onto_existing : (e : Option (List ℕ)) (x : List ℕ) → merge_one merge key (option_map Merged e) (Merged x) ≡ merge key e x
  onto_existing None x = refl
  onto_existing (Some bytes) x = refl

  -- Once a fold is refused, it stays refused with the same message.
  stays : (message : List ℕ) (xs : List Outcome) → fold merge key (Some (Refused message)) xs ≡ Some (Refused message)
  stays message [] = refl
  stays message (x ∷ xs) = stays message xs

  memory_answers : (o : Option Outcome) → AnswersBatch o (Err Memory)
  memory_answers None = tt
  memory_answers (Some (Merged bytes)) = tt
  memory_answers (Some (Refused message)) = tt

  -- An error of the operator before the end of a fold is the answer of the whole fold.
  refused : (o : Outcome) (xs : List Outcome) (e : MergeOperatorError) → Answers o (Err e) → AnswersBatch (fold merge key (Some o) xs) (Err e)
  refused o xs Memory h = memory_answers (fold merge key (Some o) xs)
  refused (Merged bytes) xs EmptyBatch h = absurd h
  refused (Refused message) xs EmptyBatch h = absurd h
  refused (Merged bytes) xs (Callback said) h = absurd h
  refused (Refused message) xs (Callback said) h = rw stays h

  -- If the operator's call for one operand fails, its error is the answer of the whole fold.
  pub refused_at : (e : Option (List ℕ)) (operands : List (List ℕ)) (i : ℕ) (x y : List ℕ) (whole : Option Outcome) (err : MergeOperatorError)
      → i < length operands → x ≡ get_or operands i x → y ≡ x → fold_bytes merge key e (drop i operands) ≡ whole → Answers (merge key e y) (Err err) → AnswersBatch whole (Err err)
  refused_at e operands i x y whole err lt is same so_far h =
      let front : drop i operands ≡ x ∷ drop (i + 1) operands = rw (add-one, drop-cons operands i x, ← is) in
      let rest : List Outcome = map Merged (drop (i + 1) operands) in
      let a : fold merge key (Some (merge key e y)) rest ≡ whole =
      ap (λ z. fold merge key (Some (merge key e z)) rest) same
      ∙ (ap (λ z. fold merge key (Some z) rest) (sym (onto_existing e x)) ∙ (sym (ap (fold_bytes merge key e) front) ∙ so_far)) in
      subst (λ z. AnswersBatch z (Err err)) a (refused (merge key e y) rest err h)
