-- A fact about each row, found by a test of each row.
use Rattle.std.proofs.Common.{ℕ, zero, suc, ◌<◌, List, [], ◌∷◌, length, Bool, true, false, IsTrue, arith, rules}
use Rattle.std.specs.Prelude.{slice_index_or, MatchBool}
use Rattle.std.specs.List.{AllByRecursion, AllWithin, HoldsAt}
use Rattle.row_model.specs.Rows.{Row}
use Rattle.std.proofs.lemmas.List.Elements.{All-from_all_within, recursion_from_All}
use Rattle.fleet_rows.specs.declared.row.RowEntry.{RowEntry}
use Rattle.fleet_rows.specs.Row.{row_of, rows_of}

holds_at : (P : Row → Type 0) (rows : List RowEntry) (j : ℕ) (d : RowEntry) → j < length rows → AllByRecursion P (rows_of rows) → P (row_of (slice_index_or rows j d))
holds_at P [] j d lt h = absurd (omega arith)
holds_at P (q ∷ rows) zero d lt h = h.0
holds_at P (q ∷ rows) (suc j) d lt h = holds_at P rows j d (omega arith) h.1

all_rows : (P : Row → Type 0) (rows : List RowEntry) → AllByRecursion (λ r. P (row_of r)) rows → AllByRecursion P (rows_of rows)
all_rows P [] h = tt
all_rows P (r ∷ rows) h = (h.0, all_rows P rows h.1)

some_fails : (P : Row → Type 0) (rows : List RowEntry) → (k : ℕ) × (k < length rows) × HoldsAt (λ r. P (row_of r) → ⊥) rows k → AllByRecursion P (rows_of rows) → ⊥
some_fails P [] fails h = let lt = fails.1 in absurd (omega arith)
some_fails P (r ∷ rows) fails h = fails.2 r (holds_at P (r ∷ rows) fails.0 r fails.1 h)

pub all_decided : (P : Row → Type 0) (rows : List RowEntry) (b : Bool)
    → MatchBool b (AllWithin (λ r. P (row_of r)) rows 0 (length rows)) ((k : ℕ) × (k < length rows) × HoldsAt (λ r. P (row_of r) → ⊥) rows k)
    → (IsTrue b → AllByRecursion P (rows_of rows)) × (AllByRecursion P (rows_of rows) → IsTrue b)
all_decided P rows true within =
    let Q : RowEntry → Type 0 = λ r. P (row_of r) in
    ((λ _. all_rows P rows (recursion_from_All Q rows (All-from_all_within Q rows within))), λ _. search rules)
all_decided P rows false fails = ((λ h. absurd (search rules)), λ h. absurd (some_fails P rows fails h))
