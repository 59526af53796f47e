-- A scan of a range answers by the rows in the range alone.
use Rattle.std.proofs.Common.{◌≡◌, refl, sym, ◌∙◌, ap, ℕ, ℤ, List, [], ◌∷◌, cond, Bool, true, false, Option}
use Rattle.std.specs.Prelude.{bytes_eq, option_map}
use Rattle.std.specs.List.{AllByRecursion, cons_option, filter_map}
use Rattle.std.proofs.lemmas.Slice.Eq.{bytes_eq-Decides}
use Rattle.row_model.specs.Fold.{Operator, Outcome}
use Rattle.row_model.specs.Ranges.{Range, is_in_range, rows_in}
use Rattle.row_model.specs.Read.{read}
use Rattle.row_model.specs.Rows.{Row, rows_of_key, sorted_rows}
use Rattle.row_model.specs.Scans.{key_answer, keys_of, scanned_pairs}
use Rattle.row_laws.proofs.ApartRows.{false_or, passes}
use Rattle.row_laws.proofs.Elements.{all_weaken}
use Rattle.fleet_scan.proofs.Keys.{all_keys}

-- The rows of a key of the range are among the rows in the range.
of_key_in : (range : Range) (key : List ℕ) (rows : List Row) → is_in_range range key ≡ true → rows_of_key key (rows_in range rows) ≡ rows_of_key key rows
of_key_in range key [] inside = refl
of_key_in range key (r ∷ rows) inside = by (is_in_range range r.key) refl (of_key_in range key rows inside)
  where
    by : (b : Bool) → is_in_range range r.key ≡ b → rows_of_key key (rows_in range rows) ≡ rows_of_key key rows → rows_of_key key (cond b (r ∷ rows_in range rows) (rows_in range rows)) ≡ rows_of_key key (r ∷ rows)
    by true is rest = ap (λ (rs : List Row). cond (bytes_eq key r.key) (r ∷ rs) rs) rest
    by false is rest =
        rest ∙ sym (ap (λ b. cond b (r ∷ rows_of_key key rows) (rows_of_key key rows)) (false_or (bytes_eq key r.key) (λ same.
        let here = ap (is_in_range range) ((bytes_eq-Decides key r.key).0 same) in cc (here, inside, is))))

same_answers : {A B : Type 0} (f g : A → Option B) (xs : List A) → AllByRecursion (λ x. f x ≡ g x) xs → filter_map f xs ≡ filter_map g xs
same_answers f g [] all = refl
same_answers f g (x ∷ xs) all = ap (λ o. cons_option o (filter_map f xs)) all.0 ∙ ap (cons_option (g x)) (same_answers f g xs all.1)

module _ (merge : Operator) (range : Range) (seq : ℕ) (now : ℤ) (some all : List Row) (same : rows_in range some ≡ rows_in range all) where
  same_key : (key : List ℕ) → is_in_range range key ≡ true → key_answer merge seq now some key ≡ key_answer merge seq now all key
  same_key key inside =
      ap (λ (rows : List Row). option_map (λ (answer : Outcome). (key, answer)) (read merge key seq now (sorted_rows rows)))
      (sym (of_key_in range key some inside) ∙ ap (rows_of_key key) same ∙ of_key_in range key all inside)

  pub same_scan : scanned_pairs merge range seq now some ≡ scanned_pairs merge range seq now all
  same_scan =
      ap (λ (rows : List Row). filter_map (key_answer merge seq now some) (keys_of rows)) same
      ∙ same_answers (key_answer merge seq now some) (key_answer merge seq now all) (keys_of (rows_in range all))
      (all_weaken (λ key. is_in_range range key ≡ true) (λ key. key_answer merge seq now some key ≡ key_answer merge seq now all key) same_key
      (keys_of (rows_in range all)) (all_keys (λ key. is_in_range range key ≡ true) (rows_in range all) (passes (λ r. is_in_range range r.key) all)))
