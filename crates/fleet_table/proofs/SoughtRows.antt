-- Seeks through rows that are split into parts.
use Rattle.std.proofs.Common.{◌≡◌, ◌≢◌, refl, sym, ◌∙◌, ap, List, [], ◌∷◌, ◌++◌, Bool, true, false, cond, ℕ, ◌≤◌, ◌-◌, take, drop, length, arith}
use Rattle.std.specs.Prelude.{slice_index_or}
use Rattle.std.proofs.lemmas.List.{take_all}
use Rattle.row_model.specs.Ranges.{Range, rows_in}
use Rattle.row_model.specs.Rows.{Row}
use Rattle.row_laws.specs.Keys.{is_below}
use Rattle.fleet_iter.specs.Iteration.{from_key}
use Rattle.fleet_table.specs.Run.{rows_of_tables}

module _ (key : List ℕ) where
  again : (r : Row) (rows : List Row) → from_key key (from_key key rows) ≡ from_key key rows → (b : Bool) → is_below key r ≡ b
      → from_key key (cond b (from_key key rows) (r ∷ rows)) ≡ cond b (from_key key rows) (r ∷ rows)
  again r rows rest true e = rest
  again r rows rest false e = ap (λ b. cond b (from_key key rows) (r ∷ rows)) e

  -- A second seek to the same key drops nothing more.
  pub sought_again : (rows : List Row) → from_key key (from_key key rows) ≡ from_key key rows
  sought_again [] = refl
  sought_again (r ∷ rows) = again r rows (sought_again rows) (is_below key r) refl

  front : (r : Row) (xs ys : List Row) → from_key key (from_key key xs ++ ys) ≡ from_key key (xs ++ ys) → (b : Bool) → is_below key r ≡ b
      → from_key key (cond b (from_key key xs) (r ∷ xs) ++ ys) ≡ from_key key (r ∷ (xs ++ ys))
  front r xs ys rest true e = rest ∙ sym (ap (λ b. cond b (from_key key (xs ++ ys)) (r ∷ (xs ++ ys))) e)
  front r xs ys rest false e = refl

  -- A seek in the front part may come before the seek in all rows.
  pub sought_front : (xs ys : List Row) → from_key key (from_key key xs ++ ys) ≡ from_key key (xs ++ ys)
  sought_front [] ys = refl
  sought_front (r ∷ xs) ys = front r xs ys (sought_front xs ys) (is_below key r) refl

  shorter : (rows : List Row) → length (from_key key rows) ≤ length rows
  shorter [] = omega arith
  shorter (r ∷ rows) = by (shorter rows) (is_below key r)
    where
      by : length (from_key key rows) ≤ length rows → (b : Bool) → length (cond b (from_key key rows) (r ∷ rows)) ≤ length (r ∷ rows)
      by h true = omega (arith, h)
      by h false = omega arith

  -- If the front part has rows and a seek leaves it as it is, a seek leaves all rows as they are.
  pub sought_all : (xs ys : List Row) → xs ≢ [] → from_key key xs ≡ xs → from_key key (xs ++ ys) ≡ xs ++ ys
  sought_all [] ys some sought = absurd (some refl)
  sought_all (r ∷ xs) ys some sought = by (is_below key r) refl sought
    where
      by : (b : Bool) → is_below key r ≡ b → cond b (from_key key xs) (r ∷ xs) ≡ r ∷ xs → cond b (from_key key (xs ++ ys)) (r ∷ (xs ++ ys)) ≡ r ∷ (xs ++ ys)
      by true e h =
          let longer : length (from_key key xs) ≡ length (r ∷ xs) = ap length h in
          let less = shorter xs in
          absurd (omega (arith, longer, less))
      by false e h = refl

-- ---- a seek that goes from table to table

module _ (key : List ℕ) (range : Range) where
  -- The current table's rows need no further seek. A seek through them and the later tables leaves what a
  -- seek through all rows leaves.
  abbrev pub IsSought : List Row → List (List Row) → List Row → Type 0
  IsSought left later all = (from_key key left ≡ left) × (from_key key (left ++ rows_of_tables range later) ≡ from_key key all)

  pub sought_first : (left current : List Row) (later : List (List Row)) → left ≡ from_key key current → IsSought left later (current ++ rows_of_tables range later)
  sought_first left current later is =
      (ap (from_key key) is ∙ sought_again key current ∙ sym is, ap (λ rows. from_key key (rows ++ rows_of_tables range later)) is ∙ sought_front key current (rows_of_tables range later))

  rest_is : (later : List (List Row)) (table d : List Row) → 1 ≤ length later → table ≡ slice_index_or later 0 d → later ≡ table ∷ take (length later - 1) (drop 1 later)
  rest_is [] table d some is = absurd (omega arith)
  rest_is (t ∷ later) table d some is =
      let n : length later ≤ length (t ∷ later) - 1 = omega arith in
      ap (λ x. x ∷ later) (sym is) ∙ ap (λ rest. table ∷ rest) (sym (take_all (length (t ∷ later) - 1) later n))

  -- If no row of a table is left, a seek goes on through the next table.
  pub sought_next : (left new : List Row) (later : List (List Row)) (table d all : List Row) → IsSought left later all → left ≡ [] → 1 ≤ length later → table ≡ slice_index_or later 0 d
      → new ≡ from_key key (rows_in range table) → IsSought new (take (length later - 1) (drop 1 later)) all
  sought_next left new later table d all sought none some is taken =
      let rest = take (length later - 1) (drop 1 later) in
      let first = sought_first new (rows_in range table) rest taken in (
        first.0,
        first.1
            ∙ ap (λ tables. from_key key (rows_of_tables range tables)) (sym (rest_is later table d some is))
            ∙ ap (λ rows. from_key key (rows ++ rows_of_tables range later)) (sym none)
            ∙ sought.1,
      )

  pub sought_last : (left : List Row) (later : List (List Row)) (all : List Row) → IsSought left later all → left ≢ [] → left ++ rows_of_tables range later ≡ from_key key all
  sought_last left later all sought some = sym (sought_all key left (rows_of_tables range later) some sought.0) ∙ sought.1
