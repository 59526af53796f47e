-- A scan of a range of keys answers, for each key, what a read of that key answers.
use Rattle.std.specs.Prelude.{ℕ, ℤ, List, [], ◌∷◌, filter_map, Option, option_map}
use Rattle.std.specs.declared.cmp.Ordering.{Ordering}
use Rattle.std.specs.declared.cmp.Ordering.TheVariants.{Less, Equal, Greater}
use Rattle.row_model.specs.Rows.{Row, key_cmp, rows_of_key, sorted_rows}
use Rattle.row_model.specs.Fold.{Operator, Outcome}
use Rattle.row_model.specs.Read.{read}
use Rattle.row_model.specs.Ranges.{Range, rows_in}

-- Puts a key among the rising keys `first ∷ keys`, by how it compares to `first`. A lesser key comes before
-- them, and an equal key is there already. For a greater key, `later` is `keys` with the key put among
-- them.
abbrev pub with_key : (order : Ordering) (key first : List ℕ) (keys later : List (List ℕ)) → List (List ℕ)
with_key Less key first keys later = key ∷ first ∷ keys
with_key Equal key first keys later = first ∷ keys
with_key Greater key first keys later = first ∷ later

-- Puts a key among rising keys, unless it is there already.
abbrev pub put_key : List ℕ → List (List ℕ) → List (List ℕ)
put_key key [] = key ∷ []
put_key key (first ∷ keys) = with_key (key_cmp key first) key first keys (put_key key keys)

-- The keys of some rows, rising and each once.
abbrev pub keys_of : List Row → List (List ℕ)
keys_of [] = []
keys_of (r ∷ rows) = put_key r.key (keys_of rows)

-- A key with the answer of a read of it. It is None if that read finds nothing.
abbrev pub key_answer : (merge : Operator) (seq : ℕ) (now : ℤ) (rows : List Row) (key : List ℕ)
    → Option (List ℕ × Outcome)
key_answer merge seq now rows key =
    option_map (λ answer. (key, answer)) (read merge key seq now (sorted_rows (rows_of_key key rows)))

-- The answers of a scan: each key of the range that has an answer, with its answer. The keys rise.
abbrev pub scanned_pairs : (merge : Operator) (range : Range) (seq : ℕ) (now : ℤ) (rows : List Row)
    → List (List ℕ × Outcome)
scanned_pairs merge range seq now rows = filter_map (key_answer merge seq now rows) (keys_of (rows_in range rows))
