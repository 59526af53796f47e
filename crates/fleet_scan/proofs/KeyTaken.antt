-- What a read of one key finds, as rows of the key are taken.
use Rattle.std.proofs.Common.{◌≡◌, refl, sym, ◌∙◌, ap, ℕ, List, [], ◌∷◌, ◌++◌, Bool, true, false, Option, Some, None}
use Rattle.std.specs.Prelude.{reverse}
use Rattle.std.proofs.lemmas.List.{append_assoc}
use Rattle.row_model.specs.Rows.{Row}
use Rattle.fleet_iter.specs.Iteration.{IteratorState}
use Rattle.fleet_scan.specs.KeyReads.{TakesRows, found_with}
use Rattle.fleet_scan.specs.KeyRows.{Adds, base_of, base_over, is_hiding, operands_under, parts_with, read_parts, reading_of}
use Rattle.fleet_scan.specs.declared.key_rows.Ground.{Ground}
use Rattle.fleet_scan.specs.declared.key_rows.Ground.TheVariants as ground
use Rattle.fleet_scan.specs.declared.key_rows.KeyRows.{KeyRows}
use Rattle.fleet_scan.specs.declared.key_rows.ReadPoint.{ReadPoint}

abbrev Found : Type 0
Found = Option (List ℕ) × List (List ℕ)

-- What the read finds is what the rows that it took leave with the older ones.
same_found : (point : ReadPoint) (taken : KeyRows) (older : List Row) → ◌≡◌ {A = Found} (found_with (reading_of point taken) older) (parts_with point taken older)
same_found point taken older = by taken.ground
  where
    rest : Found
    rest = read_parts point older

    by : (g : Ground) → ◌≡◌ {A = Found} (found_with (record { key = taken.key; seq = point.seq; moment = point.moment; hides = is_hiding g; base = base_of g; operands = reverse taken.operands.items }) older) (base_over g rest.0, operands_under g rest.1 ++ reverse taken.operands.items)
    by ground.Older = refl
    by (ground.Value bytes) = refl
    by ground.Nothing = refl

-- Rows under one that hides them change nothing.
pub hidden : (point : ReadPoint) (taken : KeyRows) (rows others : List Row) → is_hiding taken.ground ≡ true → ◌≡◌ {A = Found} (parts_with point taken rows) (parts_with point taken others)
hidden point taken rows others hides = by taken.ground hides
  where
    by : (g : Ground) → is_hiding g ≡ true → ◌≡◌ {A = Found} (base_over g (read_parts point rows).0, operands_under g (read_parts point rows).1 ++ reverse taken.operands.items) (base_over g (read_parts point others).0, operands_under g (read_parts point others).1 ++ reverse taken.operands.items)
    by ground.Older hides = absurd (cc hides)
    by (ground.Value bytes) hides = refl
    by ground.Nothing hides = refl

-- Of the rows of a source, these were taken so far.
pub record RowsTaken (point : ReadPoint) (first : KeyRows) (old : IteratorState) (taken : KeyRows) (left : IteratorState) : Type 0 where
  pub here : List Row
  pub rows : old.rows ≡ here ++ left.rows
  pub key : taken.key ≡ first.key
  pub parts : (older : List Row) → ◌≡◌ {A = Found} (parts_with point taken older) (parts_with point first (here ++ older))

pub taken_none : (point : ReadPoint) (first : KeyRows) (old : IteratorState) → RowsTaken point first old first old
taken_none point first old = record { here = []; rows = refl; key = refl; parts = λ older. refl }

pub taken_more : (point : ReadPoint) (first taken new : KeyRows) (old left after : IteratorState) (r : Row) → RowsTaken point first old taken left → left.rows ≡ r ∷ after.rows → Adds point taken r new → RowsTaken point first old new after
taken_more point first taken new old left after r so_far next adds = record {
  here = so_far.here ++ r ∷ [];
  rows = so_far.rows ∙ (ap (λ (w : List Row). so_far.here ++ w) next ∙ sym (append_assoc so_far.here (r ∷ []) after.rows));
  key = adds.key ∙ so_far.key;
  parts = λ older. adds.parts older ∙ (so_far.parts (r ∷ older) ∙ ap (parts_with point first) (sym (append_assoc so_far.here (r ∷ []) older)));
}

takes_all : (point : ReadPoint) (first taken : KeyRows) (old left : IteratorState) → RowsTaken point first old taken left → ((older : List Row) → ◌≡◌ {A = Found} (parts_with point taken older) (parts_with point taken (left.rows ++ older)))
    → TakesRows (reading_of point first) old.rows (reading_of point taken)
takes_all point first taken old left so_far rest = record {
  key = so_far.key;
  seq = refl;
  moment = refl;
  found = λ older.
      same_found point taken older ∙ (rest older ∙ (so_far.parts (left.rows ++ older)
      ∙ (ap (parts_with point first) (sym (append_assoc so_far.here left.rows older) ∙ ap (λ (w : List Row). w ++ older) (sym so_far.rows)) ∙ sym (same_found point first (old.rows ++ older)))));
}

-- The rows that hide the others were taken.
pub takes_hiding : (point : ReadPoint) (first taken : KeyRows) (old left : IteratorState) → RowsTaken point first old taken left → is_hiding taken.ground ≡ true → TakesRows (reading_of point first) old.rows (reading_of point taken)
takes_hiding point first taken old left so_far hides = takes_all point first taken old left so_far (λ older. hidden point taken older (left.rows ++ older) hides)

-- All rows were taken.
pub takes_to_end : (point : ReadPoint) (first taken : KeyRows) (old left : IteratorState) → RowsTaken point first old taken left → left.rows ≡ [] → TakesRows (reading_of point first) old.rows (reading_of point taken)
takes_to_end point first taken old left so_far none = takes_all point first taken old left so_far (λ older. ap (λ (w : List Row). parts_with point taken (w ++ older)) (sym none))

-- What the read finds once no older row is left.
pub found_alone : (point : ReadPoint) (taken : KeyRows) → ◌≡◌ {A = Found} (found_with (reading_of point taken) []) (base_of taken.ground, reverse taken.operands.items)
found_alone point taken = by taken.ground
  where
    by : (g : Ground) → ◌≡◌ {A = Found} (found_with (record { key = taken.key; seq = point.seq; moment = point.moment; hides = is_hiding g; base = base_of g; operands = reverse taken.operands.items }) []) (base_of g, reverse taken.operands.items)
    by ground.Older = refl
    by (ground.Value bytes) = refl
    by ground.Nothing = refl
