-- What the operator refuses is a refusal of a fold, as lines know it.
use Rattle.std.proofs.Common.{◌≡◌, refl, sym, ◌∙◌, ap, subst, ℕ, zero, suc, List, [], ◌∷◌, ◌++◌, map, cond, Bool, true, false, inl, inr, Option, Some, None, ◌⊎◌, arith, le_of_suc-le-suc}
use Rattle.std.specs.Prelude.{bytes_eq, option_map, reverse, Contains}
use Rattle.std.specs.List.{AllByRecursion}
use Rattle.std.proofs.lemmas.List.{map-append, reverse-append}
use Rattle.std.proofs.lemmas.Slice.Eq.{bytes_eq-Decides}
use Rattle.row_model.specs.Fold.{Operator, Outcome, Merged, Refused, IsLawful, fold, fold_bytes, merge_one}
use Rattle.row_model.specs.FoldedRows.{base_bytes, group_base, group_operands}
use Rattle.row_model.specs.Rows.{Row, Merge, rows_of_key}
use Rattle.row_laws.specs.Batches.{batches}
use Rattle.row_laws.proofs.Elements.{all_back, all_front}
use Rattle.script_model.specs.Refusals.{IsRefusal}
use Rattle.line_laws.proofs.FoundRefusals.{IsOf, base_there, by_index, contents, operands_there}
use Rattle.fleet_rows.specs.declared.errors.MergeOperatorError.TheVariants.{Callback}
use Rattle.fleet_rows.specs.declared.errors.SlateDBError.TheVariants.{MergeOperator}
use Rattle.fleet_fold.specs.Folded.{batch_len}
use Rattle.fleet_fold.specs.Jobs.{IsOfOperator, RefusesResults, batch_outcomes}
use Rattle.fleet_fold.proofs.JobsBatches.{AllIn, batches_all}

-- A row's content is among those of its key.
abbrev pub IsThere : List Row → Row → Type 0
IsThere all r = Contains (contents r.key all) r.content

-- ---- folds

fold_append : (merge : Operator) (key : List ℕ) (e : Option Outcome) (xs ys : List Outcome) → fold merge key e (xs ++ ys) ≡ fold merge key (fold merge key e xs) ys
fold_append merge key e [] ys = refl
fold_append merge key e (x ∷ xs) ys = fold_append merge key (Some (merge_one merge key e x)) xs ys

-- The operands of batches, oldest first. The batches are given newest first.
abbrev all_operands : List (List Row) → List (List ℕ)
all_operands [] = []
all_operands (batch ∷ bs) = all_operands bs ++ group_operands batch

-- The results of batches fold as all their operands.
results_fold : (merge : Operator) → IsLawful merge → (key : List ℕ) (e : Option (List ℕ)) (bs : List (List Row)) (results : List (List ℕ)) → map (λ (batch : List Row). fold_bytes merge key None (group_operands batch)) bs ≡ map (λ (bytes : List ℕ). Some (Merged bytes)) results
    → fold_bytes merge key e (all_operands bs) ≡ fold_bytes merge key e (reverse results)
results_fold merge lawful key e [] [] same = refl
results_fold merge lawful key e [] (r ∷ results) same = absurd (cc same)
results_fold merge lawful key e (batch ∷ bs) [] same = absurd (cc same)
results_fold merge lawful key e (batch ∷ bs) (r ∷ results) same =
    let one : fold_bytes merge key None (group_operands batch) ≡ Some (Merged r) = cc same in
    let rest : map (λ (batch : List Row). fold_bytes merge key None (group_operands batch)) bs ≡ map (λ (bytes : List ℕ). Some (Merged bytes)) results = cc same in
    lawful.joins key e (all_operands bs) (group_operands batch) (Merged r) one
    ∙ fold_append merge key (option_map Merged e) (map Merged (all_operands bs)) (Merged r ∷ [])
    ∙ ap (λ (o : Option Outcome). fold merge key o (Merged r ∷ [])) (results_fold merge lawful key e bs results rest)
    ∙ sym (fold_append merge key (option_map Merged e) (map Merged (reverse results)) (Merged r ∷ []))
    ∙ sym (ap (fold merge key (option_map Merged e)) (map-append Merged (reverse results) (r ∷ [])))
    ∙ sym (ap (fold_bytes merge key e) (reverse-append (r ∷ []) results))

-- ---- what is refused

module _ (merge : Operator) (lawful : IsLawful merge) (all : List Row) where
  -- The rows of a key have contents that are among those of the key.
  of_key : (key : List ℕ) (rows : List Row) → AllByRecursion (IsThere all) rows → AllByRecursion (IsOf all key) (rows_of_key key rows)
  of_key key [] there = tt
  of_key key (r ∷ rows) there = by (bytes_eq key r.key) refl (of_key key rows there.1)
    where
      by : (b : Bool) → bytes_eq key r.key ≡ b → AllByRecursion (IsOf all key) (rows_of_key key rows) → AllByRecursion (IsOf all key) (cond b (r ∷ rows_of_key key rows) (rows_of_key key rows))
      by true e rest =
          let is = (bytes_eq-Decides key r.key).0 e in
          (record { here = sym is; there = subst (λ (k : List ℕ). Contains (contents k all) r.content) (sym is) there.0 }, rest)
      by false e rest = rest

  -- One of the batches has this outcome.
  found : (key : List ℕ) (outcome : Option Outcome) (bs : List (List Row)) → AllIn (IsOf all key) bs → Contains (map (λ (batch : List Row). fold_bytes merge key None (group_operands batch)) bs) outcome
      → (batch : List Row) × (AllByRecursion (IsOf all key) batch × (fold_bytes merge key None (group_operands batch) ≡ outcome))
  found key outcome [] of (k, small, at) = absurd (omega (arith, small))
  found key outcome (batch ∷ bs) of (zero, small, at) = (batch, (of.0, at))
  found key outcome (batch ∷ bs) of (suc k, small, at) = found key outcome bs of.1 (k, le_of_suc-le-suc small, at)

  abbrev IsAmong : List ℕ → List ℕ → Type 0
  IsAmong key x = Contains (contents key all) (Merge x)

  all_both : (P : List ℕ → Type 0) (xs ys : List (List ℕ)) → AllByRecursion P xs → AllByRecursion P ys → AllByRecursion P (xs ++ ys)
  all_both P [] ys h k = k
  all_both P (x ∷ xs) ys h k = (h.0, all_both P xs ys h.1 k)

  operands_among : (key : List ℕ) (bs : List (List Row)) → AllIn (IsOf all key) bs → AllByRecursion (IsAmong key) (all_operands bs)
  operands_among key [] of = tt
  operands_among key (batch ∷ bs) of = all_both (IsAmong key) (all_operands bs) (group_operands batch) (operands_among key bs of.1) (operands_there all key batch of.0)

  the_message : {a b : List ℕ} → MergeOperator (Callback a) ≡ MergeOperator (Callback b) → b ≡ a
  the_message e = cc e

  -- The error of the operator over some of these rows is a refusal of a fold of them.
  pub is_refusal : (rows : List Row) (message : List ℕ) → AllByRecursion (IsThere all) rows → IsOfOperator merge rows (MergeOperator (Callback message)) → IsRefusal merge all message
  is_refusal rows message there operator = subst (IsRefusal merge all) (the_message operator.same) (by operator.refused)
    where
      key : List ℕ
      key = operator.key

      parts : AllByRecursion (IsOf all key) (operator.group.newer ++ (operator.operands ++ (operator.base ++ operator.group.older)))
      parts = subst (AllByRecursion (IsOf all key)) operator.group.run (of_key key rows there)

      rest : AllByRecursion (IsOf all key) (operator.operands ++ (operator.base ++ operator.group.older))
      rest = all_back (IsOf all key) operator.group.newer (operator.operands ++ (operator.base ++ operator.group.older)) parts

      of_batches : AllIn (IsOf all key) (batches batch_len operator.operands)
      of_batches = batches_all (IsOf all key) batch_len operator.operands (all_front (IsOf all key) operator.operands (operator.base ++ operator.group.older) rest)

      of_base : AllByRecursion (IsOf all key) operator.base
      of_base = all_front (IsOf all key) operator.base operator.group.older (all_back (IsOf all key) operator.operands (operator.base ++ operator.group.older) rest)

      by : Contains (batch_outcomes merge key operator.operands) (Some (Refused operator.message)) ⊎ RefusesResults merge key operator.message operator.operands operator.base → IsRefusal merge all operator.message
      by (inl refused) =
          let one = found key (Some (Refused operator.message)) (batches batch_len operator.operands) of_batches refused in
          record {
            key = key;
            existing = None;
            operands = group_operands one.0;
            base = inl refl;
            among = by_index (IsAmong key) (group_operands one.0) (operands_there all key one.0 one.1.0);
            refused = one.1.1;
          }
      by (inr refused) = record {
        key = key;
        existing = base_bytes (group_base operator.base);
        operands = all_operands (batches batch_len operator.operands);
        base = base_there all key operator.base of_base;
        among = by_index (IsAmong key) (all_operands (batches batch_len operator.operands)) (operands_among key (batches batch_len operator.operands) of_batches);
        refused = results_fold merge lawful key (base_bytes (group_base operator.base)) (batches batch_len operator.operands) refused.results refused.merged ∙ refused.refused;
      }
