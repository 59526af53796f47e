-- Rows are cut into tables by their size.
use Rattle.std.specs.Prelude.{ℕ, ◌+◌, Bool, true, false, nat_lt, if◌then◌else◌, List, [], ◌∷◌}
use Rattle.row_model.specs.Rows.{Row}
use Rattle.row_model.specs.Written.Sizes.{estimated_size}

-- Puts a row in front of a list of tables. A row that ends a table becomes a table of its own. Any other
-- row is put in front of the first table's rows.
abbrev pub with_row : Bool → Row → List (List Row) → List (List Row)
with_row true r tables = (r ∷ []) ∷ tables
with_row false r [] = (r ∷ []) ∷ []
with_row false r (table ∷ tables) = (r ∷ table) ∷ tables

-- Cuts rows into tables. A table ends with the row with which it first exceeds `size` bytes. The first
-- table already has `filled` bytes.
abbrev pub cut_from : (size filled : ℕ) (rows : List Row) → List (List Row)
cut_from size filled [] = []
cut_from size filled (r ∷ rows) =
    let full = nat_lt size (filled + estimated_size r) in
    with_row full r (cut_from size (if full then 0 else filled + estimated_size r) rows)

abbrev pub cut_tables : ℕ → List Row → List (List Row)
cut_tables size rows = cut_from size 0 rows
