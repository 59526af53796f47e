-- The order of rows tested by neighbours.
use Rattle.std.proofs.Common.{◌≡◌, refl, sym, ◌∙◌, ap, ◌<◌, List, [], ◌∷◌, length, ◌&&◌, Bool, true, false, IsTrue, arith, rules}
use Rattle.std.specs.List.Sorted.{IsStrictlySortedBy}
use Rattle.std.specs.declared.cmp.Ordering.TheVariants.{Less}
use Rattle.std.specs.Ordering.{is_lt}
use Rattle.row_model.specs.Rows.{Row, row_cmp, are_ordered, IsStrictlyOrdered}
use Rattle.row_laws.proofs.Order.{row_total}
use Rattle.row_laws.proofs.ApartRows.{lt_is}
use Rattle.row_laws.proofs.Elements.{all_weaken}
use Rattle.fleet_rows.specs.declared.row.RowEntry.{RowEntry}
use Rattle.fleet_rows.specs.Row.{rows_of}

both : (a b : Bool) → (a && b) ≡ true → (a ≡ true) × (b ≡ true)
both true b h = (refl, h)
both false b h = absurd (cc h)

and_true : (a b : Bool) → a ≡ true → b ≡ true → (a && b) ≡ true
and_true a b h g = ap (λ x. x && b) h ∙ g

-- If each row is before the next one, the rows are strictly ordered.
pub ordered_of_test : (rows : List Row) → are_ordered rows ≡ true → IsStrictlyOrdered rows
unfolding IsStrictlySortedBy
ordered_of_test [] h = tt
ordered_of_test (r ∷ []) h = (tt, tt)
ordered_of_test (r ∷ q ∷ rows) h =
    let parts = both (is_lt (row_cmp r q)) (are_ordered (q ∷ rows)) h in
    let first : row_cmp r q ≡ Less = lt_is (row_cmp r q) parts.0 in
    let rest : IsStrictlyOrdered (q ∷ rows) = ordered_of_test (q ∷ rows) parts.1 in
    ((first, all_weaken (λ x. row_cmp q x ≡ Less) (λ x. row_cmp r x ≡ Less) (λ x after. row_total.trans r q x first after) rows rest.0), rest)

pub test_of_ordered : (rows : List Row) → IsStrictlyOrdered rows → are_ordered rows ≡ true
unfolding IsStrictlySortedBy
test_of_ordered [] h = refl
test_of_ordered (r ∷ []) h = refl
test_of_ordered (r ∷ q ∷ rows) h = and_true (is_lt (row_cmp r q)) (are_ordered (q ∷ rows)) (ap is_lt h.0.0) (test_of_ordered (q ∷ rows) h.1)

-- The test `are_ordered` answers true exactly where the rows are strictly ordered.
pub decided : (rows : List Row) (b : Bool) → b ≡ are_ordered rows → (IsTrue b → IsStrictlyOrdered rows) × (IsStrictlyOrdered rows → IsTrue b)
decided rows true e = ((λ _. ordered_of_test rows (sym e)), λ _. search rules)
decided rows false e = ((λ h. absurd (search rules)), λ ordered. let clash : false ≡ true = e ∙ test_of_ordered rows ordered in absurd (cc clash))

-- A list of at most one row is ordered.
pub ordered_short : (rows : List RowEntry) → length rows < 2 → are_ordered (rows_of rows) ≡ true
ordered_short [] h = refl
ordered_short (r ∷ []) h = refl
ordered_short (r ∷ q ∷ rows) h = absurd (omega arith)
