-- The answers of ordered rows are those of their keys, one after another.
use Rattle.std.proofs.Common.{◌≡◌, refl, sym, ◌∙◌, ap, ℕ, ℤ, List, [], ◌∷◌, ◌++◌, cond, Bool, true, false, Option}
use Rattle.std.specs.Prelude.{option_map, bytes_eq, filter}
use Rattle.std.specs.List.{AllByRecursion, filter_map, cons_option}
use Rattle.std.specs.List.Sorted.{IsStrictlySortedBy}
use Rattle.std.specs.declared.cmp.Ordering.TheVariants.{Less}
use Rattle.std.proofs.lemmas.List.{append-nil}
use Rattle.std.proofs.lemmas.Slice.Eq.{bytes_eq-Decides}
use Rattle.row_model.specs.Rows.{Row, key_cmp, row_cmp, rows_of_key, sorted_rows, IsStrictlyOrdered}
use Rattle.row_model.specs.Fold.{Operator}
use Rattle.row_model.specs.Read.{read}
use Rattle.row_model.specs.Ranges.{Range, is_in_range, rows_in}
use Rattle.row_model.specs.Scans.{key_answer, keys_of, scanned_pairs}
use Rattle.row_laws.specs.Merges.{AreApart}
use Rattle.row_laws.proofs.ApartRows.{false_or, passes}
use Rattle.row_laws.proofs.Elements.{all_weaken, all_front}
use Rattle.row_laws.proofs.KeyRows.{key_alike, Keys, IsOther, of_key-append, of_key-others, of_key-all}
use Rattle.row_laws.proofs.Merges.{apart_are_ordered, ordered_stay}
use Rattle.row_laws.proofs.Sources.{filter-sorted_rows}
use Rattle.fleet_exec.proofs.Opened.{pairs_filter}
use Rattle.fleet_scan.specs.Answers.{answers_of, BeginsApart, HaveKey}
use Rattle.fleet_scan.proofs.Keys.{Above, all_keys, keys-first, keys-sorted_rows, rest_is_above}

filter_map-same : {A B : Type 0} (f g : A → Option B) (xs : List A) → AllByRecursion (λ x. f x ≡ g x) xs → filter_map f xs ≡ filter_map g xs
filter_map-same f g [] h = refl
filter_map-same f g (x ∷ xs) h = ap (λ o. cons_option o (filter_map f xs)) h.0 ∙ ap (cons_option (g x)) (filter_map-same f g xs h.1)

is_other : (key k : List ℕ) → key_cmp key k ≡ Less → bytes_eq k key ≡ false
is_other key k low = false_or (bytes_eq k key) (λ same.
    let here = ap (key_cmp key) ((bytes_eq-Decides k key).0 same) in let equal = key_alike key in cc (here, equal, low))

others : (k key : List ℕ) (rows : List Row) → bytes_eq k key ≡ false → HaveKey key rows → Keys (IsOther k) rows
others k key [] other h = tt
others k key (q ∷ rows) other h = (ap (bytes_eq k) (sym ((bytes_eq-Decides key q.key).0 h.0)) ∙ other, others k key rows other h.1)

above_is_other : (key : List ℕ) (rows : List Row) → Above key rows → Keys (IsOther key) rows
above_is_other key [] h = tt
above_is_other key (q ∷ rows) h = (
  false_or (bytes_eq key q.key) (λ same.
      let here = ap (key_cmp key) ((bytes_eq-Decides key q.key).0 same) in let equal = key_alike key in let low = h.0 in cc (here, equal, low)),
  above_is_other key rows h.1,
)

ordered_front : (xs ys : List Row) → IsStrictlyOrdered (xs ++ ys) → IsStrictlyOrdered xs
unfolding IsStrictlySortedBy
ordered_front [] ys h = tt
ordered_front (x ∷ xs) ys h = (all_front (λ q. row_cmp x q ≡ Less) xs ys h.0, ordered_front xs ys h.1)

module _ (merge : Operator) (seq : ℕ) (now : ℤ) (r : Row) (here rest : List Row) (ordered : IsStrictlyOrdered (r ∷ (here ++ rest))) (alike : HaveKey r.key here) (ended : BeginsApart r.key rest) where
  abbrev all : List Row
  all = r ∷ (here ++ rest)

  here_alike : HaveKey r.key (r ∷ here)
  here_alike = ((bytes_eq-Decides r.key r.key).1 refl, alike)

  above : Above r.key rest
  above = rest_is_above r here rest ordered ended

  own : sorted_rows (rows_of_key r.key all) ≡ r ∷ here
  own =
      ap sorted_rows (of_key-append r.key (r ∷ here) rest
      ∙ ap (λ rows. rows_of_key r.key (r ∷ here) ++ rows) (of_key-others r.key rest (above_is_other r.key rest above))
      ∙ append-nil (rows_of_key r.key (r ∷ here))
      ∙ of_key-all r.key (r ∷ here) here_alike)
      ∙ ordered_stay (r ∷ here) (ordered_front (r ∷ here) rest ordered)

  without : (k : List ℕ) → key_cmp r.key k ≡ Less → rows_of_key k all ≡ rows_of_key k rest
  without k low =
      of_key-append k (r ∷ here) rest
      ∙ ap (λ rows. rows ++ rows_of_key k rest) (of_key-others k (r ∷ here) (others k r.key (r ∷ here) (is_other r.key k low) here_alike))

  later : AllByRecursion (λ k. key_answer merge seq now all k ≡ key_answer merge seq now rest k) (keys_of rest)
  later = all_weaken (λ k. key_cmp r.key k ≡ Less) (λ k. key_answer merge seq now all k ≡ key_answer merge seq now rest k)
      (λ k low. ap (λ rows. option_map (λ answer. (k, answer)) (read merge k seq now (sorted_rows rows))) (without k low))
      (keys_of rest) (all_keys (λ k. key_cmp r.key k ≡ Less) rest above)

  -- The answers of ordered rows are the answer of a read of their first key, if it has one, and the answers
  -- of the rows after it.
  pub answers-first : answers_of merge seq now (r ∷ (here ++ rest)) ≡ cons_option (option_map (λ answer. (r.key, answer)) (read merge r.key seq now (r ∷ here))) (answers_of merge seq now rest)
  answers-first =
      ap (filter_map (key_answer merge seq now all)) (keys-first r.key here rest alike above)
      ∙ ap (λ rows. cons_option (option_map (λ answer. (r.key, answer)) (read merge r.key seq now rows)) (filter_map (key_answer merge seq now all) (keys_of rest))) own
      ∙ ap (cons_option (option_map (λ answer. (r.key, answer)) (read merge r.key seq now (r ∷ here)))) (filter_map-same (key_answer merge seq now all) (key_answer merge seq now rest) (keys_of rest) later)

-- ---- the answers of sorted rows

of_key-filter : (key : List ℕ) (rows : List Row) → rows_of_key key rows ≡ filter (λ r. bytes_eq key r.key) rows
of_key-filter key [] = refl
of_key-filter key (r ∷ rows) = ap (λ rs. cond (bytes_eq key r.key) (r ∷ rs) rs) (of_key-filter key rows)

-- The rows of a key of the range are among the rows in the range.
of_key-in : (range : Range) (key : List ℕ) (rows : List Row) → is_in_range range key ≡ true → rows_of_key key (rows_in range rows) ≡ rows_of_key key rows
of_key-in range key [] inside = refl
of_key-in range key (r ∷ rows) inside = by (is_in_range range r.key) refl (of_key-in range key rows inside)
  where
    by : (b : Bool) → is_in_range range r.key ≡ b → rows_of_key key (rows_in range rows) ≡ rows_of_key key rows
        → rows_of_key key (cond b (r ∷ rows_in range rows) (rows_in range rows)) ≡ rows_of_key key (r ∷ rows)
    by true is rest = ap (λ rs. cond (bytes_eq key r.key) (r ∷ rs) rs) rest
    by false is rest =
        rest ∙ sym (ap (λ b. cond b (r ∷ rows_of_key key rows) (rows_of_key key rows)) (false_or (bytes_eq key r.key) (λ same.
        let here = ap (is_in_range range) ((bytes_eq-Decides key r.key).0 same) in cc (here, inside, is))))

module _ (merge : Operator) (range : Range) (seq : ℕ) (now : ℤ) (rows : List Row) (apart : AreApart (rows_in range rows)) where
  abbrev inside : List Row
  inside = rows_in range rows

  abbrev sorted : List Row
  sorted = sorted_rows inside

  again : (key : List ℕ) → sorted_rows (sorted_rows (filter (λ r. bytes_eq key r.key) inside)) ≡ sorted_rows (filter (λ r. bytes_eq key r.key) inside)
  again key = ordered_stay (sorted_rows (filter (λ r. bytes_eq key r.key) inside))
      (apart_are_ordered (filter (λ r. bytes_eq key r.key) inside) (pairs_filter _ (λ r. bytes_eq key r.key) inside apart))

  same : (key : List ℕ) → is_in_range range key ≡ true → sorted_rows (rows_of_key key sorted) ≡ sorted_rows (rows_of_key key rows)
  same key within =
      ap sorted_rows (of_key-filter key sorted ∙ sym (filter-sorted_rows (λ r. bytes_eq key r.key) inside))
      ∙ again key
      ∙ ap sorted_rows (sym (of_key-filter key inside) ∙ of_key-in range key rows within)

  -- The sorted rows in a range answer as a scan of the range does.
  pub scan-sorted : answers_of merge seq now (sorted_rows (rows_in range rows)) ≡ scanned_pairs merge range seq now rows
  scan-sorted =
      ap (filter_map (key_answer merge seq now sorted)) (keys-sorted_rows inside)
      ∙ filter_map-same (key_answer merge seq now sorted) (key_answer merge seq now rows) (keys_of inside)
      (all_weaken (λ key. is_in_range range key ≡ true) (λ key. key_answer merge seq now sorted key ≡ key_answer merge seq now rows key)
      (λ key within. ap (λ rs. option_map (λ answer. (key, answer)) (read merge key seq now rs)) (same key within))
      (keys_of inside) (all_keys (λ key. is_in_range range key ≡ true) inside (passes (λ r. is_in_range range r.key) rows)))
