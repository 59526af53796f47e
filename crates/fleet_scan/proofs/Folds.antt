-- What an operator answers of the operands of a key.
use Rattle.std.proofs.Common.{◌≡◌, ◌≢◌, refl, sym, ◌∙◌, ap, ℕ, List, [], ◌∷◌, Option, Some, None, Ok, Err}
use Rattle.std.specs.Prelude.{map, option_map, reverse}
use Rattle.std.proofs.lemmas.List.{reverse-reverse}
use Rattle.row_model.specs.Fold.{Operator, Outcome, Merged, Refused, fold, fold_bytes, merge_one}
use Rattle.fleet_fold.specs.Operator.{AnswersBatch}
use Rattle.fleet_rows.specs.declared.errors.MergeOperatorError.TheVariants.{EmptyBatch, Callback}

pub merged_is : (folded : Option Outcome) (value : List ℕ) → AnswersBatch folded (Ok value) → folded ≡ Some (Merged value)
merged_is None value h = absurd h
merged_is (Some (Merged bytes)) value h = ap (λ b. Some (Merged b)) (sym h)
merged_is (Some (Refused message)) value h = absurd h

pub refused_is : (folded : Option Outcome) (message : List ℕ) → AnswersBatch folded (Err (Callback message)) → folded ≡ Some (Refused message)
refused_is None message h = absurd h
refused_is (Some (Merged bytes)) message h = absurd h
refused_is (Some (Refused reason)) message h = ap (λ m. Some (Refused m)) (sym h)

empty_is : (folded : Option Outcome) → AnswersBatch folded (Err EmptyBatch) → folded ≡ None
empty_is None h = refl
empty_is (Some (Merged bytes)) h = absurd h
empty_is (Some (Refused message)) h = absurd h

stays_some : (merge : Operator) (key : List ℕ) (o : Outcome) (xs : List Outcome) → fold merge key (Some o) xs ≢ None
stays_some merge key o [] h = cc h
stays_some merge key o (x ∷ xs) h = stays_some merge key (merge_one merge key (Some o) x) xs h

none_folded : (merge : Operator) (key : List ℕ) (base : Option (List ℕ)) (xs : List (List ℕ)) → fold_bytes merge key base xs ≡ None → xs ≡ []
none_folded merge key base [] h = refl
none_folded merge key base (x ∷ xs) h = absurd (stays_some merge key (merge_one merge key (option_map Merged base) (Merged x)) (map Merged xs) h)

-- A fold of at least one operand is not empty.
pub not_empty : (merge : Operator) (key : List ℕ) (base : Option (List ℕ)) (xs : List (List ℕ)) → xs ≢ [] → AnswersBatch (fold_bytes merge key base (reverse xs)) (Err EmptyBatch) → ⊥
not_empty merge key base xs some h =
    some (sym (reverse-reverse xs) ∙ ap (λ (w : List (List ℕ)). reverse w) (none_folded merge key base (reverse xs) (empty_is (fold_bytes merge key base (reverse xs)) h)))

abbrev pub keyed : List ℕ → Option Outcome → Option (List ℕ × Outcome)
keyed key folded = option_map (λ outcome. (key, outcome)) folded

-- Without operands, the fold is the base.
pub alone : (merge : Operator) (key : List ℕ) (base other : Option (List ℕ)) (xs : List (List ℕ)) → xs ≡ [] → base ≡ other → keyed key (option_map Merged other) ≡ keyed key (fold_bytes merge key base (reverse xs))
alone merge key base other xs none is =
    ap (λ (b : Option (List ℕ)). keyed key (option_map Merged b)) (sym is) ∙ sym (ap (λ (w : List (List ℕ)). keyed key (fold_bytes merge key base (reverse w))) none)
