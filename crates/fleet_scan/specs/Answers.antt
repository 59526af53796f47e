-- What rows answer, key after key.
use Rattle.std.specs.Prelude.{◌≡◌, ℕ, ℤ, true, false, List, [], ◌∷◌, filter_map, bytes_eq, ⊤}
use Rattle.std.specs.List.{AllByRecursion}
use Rattle.row_model.specs.Rows.{Row}
use Rattle.row_model.specs.Fold.{Operator, Outcome}
use Rattle.row_model.specs.Scans.{key_answer, keys_of}

-- Each key of some rows that has an answer, with its answer. The keys rise.
abbrev pub answers_of : (merge : Operator) (seq : ℕ) (now : ℤ) (rows : List Row) → List (List ℕ × Outcome)
answers_of merge seq now rows = filter_map (key_answer merge seq now rows) (keys_of rows)

-- The rows begin with another key than this one, or there are none.
abbrev pub BeginsApart : List ℕ → List Row → Type 0
BeginsApart key [] = ⊤
BeginsApart key (r ∷ rows) = bytes_eq key r.key ≡ false

-- All rows have this key.
abbrev pub HaveKey : List ℕ → List Row → Type 0
HaveKey key rows = AllByRecursion (λ r. bytes_eq key r.key ≡ true) rows
