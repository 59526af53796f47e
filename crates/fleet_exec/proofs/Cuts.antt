-- A table is filled row by row.
use Rattle.std.proofs.Common.{◌≡◌, ◌≢◌, ◌∙◌, sym, refl, ap, subst, ℕ, ◌+◌, ◌<◌, List, [], ◌∷◌, ◌++◌, length, Bool, true, false, Option, Some, append-nil, arith}
use Rattle.std.specs.Prelude.{flat_map, nat_lt, if◌then◌else◌}
use Rattle.std.specs.List.{AllByRecursion}
use Rattle.std.specs.Option.{option_to_list}
use Rattle.std.proofs.lemmas.List.{append_assoc, map-append}
use Rattle.row_model.specs.Bounds.{IsInBounds}
use Rattle.row_laws.specs.Resume.{Cursor}
use Rattle.row_laws.proofs.Tables.{cut_flat}
use Rattle.fleet_iter.specs.Iteration.{IteratorState}
use Rattle.row_model.specs.Rows.{Row}
use Rattle.row_model.specs.Written.Sizes.{estimated_size}
use Rattle.row_model.specs.Written.Tables.{with_row, cut_from, cut_tables}
use Rattle.fleet_rows.specs.Row.{row_of, rows_of}
use Rattle.fleet_rows.specs.declared.row.RowEntry.{RowEntry}
use Rattle.fleet_exec.specs.Cut.{open_with, before_tables, TakesTable}
use Rattle.fleet_exec.specs.Taking.{left_after, ReadsOn, Takes}

-- If one row is taken, it is the first of the rows left.
first_left : (cursor : Option Cursor) (old new : IteratorState) (o : Option RowEntry) (row : RowEntry) → Takes 1 cursor old (option_to_list o) new → o ≡ Some row
    → left_after cursor old.rows ≡ row_of row ∷ left_after cursor new.rows
first_left cursor old new o row takes is = takes.rows ∙ ap (λ (o : Option RowEntry). rows_of (option_to_list o) ++ left_after cursor new.rows) is

-- The first of the rows left, if it is packed.
pub packed_left : (cursor : Option Cursor) (old new : IteratorState) (o : Option RowEntry) (row packed : RowEntry) → Takes 1 cursor old (option_to_list o) new → o ≡ Some row → row_of packed ≡ row_of row
    → left_after cursor old.rows ≡ row_of packed ∷ left_after cursor new.rows
packed_left cursor old new o row packed takes is same = first_left cursor old new o row takes is ∙ ap (λ (r : Row). r ∷ left_after cursor new.rows) (sym same)

-- Reading rows and then further rows is reading rows.
pub reads_further : {a b c : IteratorState} → ReadsOn a b → ReadsOn b c → ReadsOn a c
reads_further first second = record { readable = second.readable; whole = second.whole ∙ first.whole; refusal = second.refusal ∙ first.refusal }

open_snoc : (rows : List Row) (r : Row) (tables : List (List Row)) → open_with (rows ++ r ∷ []) tables ≡ open_with rows (with_row false r tables)
open_snoc [] r tables = refl
open_snoc (q ∷ rows) r tables = ap (with_row false q) (open_snoc rows r tables)

open_full : (rows : List Row) (table : List Row) (tables : List (List Row)) → open_with rows (table ∷ tables) ≡ (rows ++ table) ∷ tables
open_full [] table tables = refl
open_full (q ∷ rows) table tables = ap (with_row false q) (open_full rows table tables)

open_last : (rows : List Row) → open_with rows [] ≡ before_tables rows []
open_last [] = refl
open_last (q ∷ rows) = ap (with_row false q) (open_last rows) ∙ by rows
  where
    by : (rows : List Row) → with_row false q (before_tables rows []) ≡ (q ∷ rows) ∷ []
    by [] = refl
    by (r ∷ rows) = refl

before_some : (rows : List Row) (r : Row) (tables : List (List Row)) → (rows ++ r ∷ []) ∷ tables ≡ before_tables (rows ++ r ∷ []) tables
before_some [] r tables = refl
before_some (q ∷ rows) r tables = refl

module _ (size : ℕ) where
  cut_one : (filled : ℕ) (r : Row) (rest : List Row) (full : Bool) → full ≡ nat_lt size (filled + estimated_size r)
      → cut_from size filled (r ∷ rest) ≡ with_row full r (cut_from size (if full then 0 else filled + estimated_size r) rest)
  cut_one filled r rest full is = ap (λ b. with_row b r (cut_from size (if b then 0 else filled + estimated_size r) rest)) (sym is)

  rows-snoc : (table : List RowEntry) (row : RowEntry) → rows_of (table ++ row ∷ []) ≡ rows_of table ++ row_of row ∷ []
  rows-snoc table row = map-append row_of table (row ∷ [])

  -- A row that leaves room in the table keeps what was known of the tables.
  pub goes_on : (filled : ℕ) (table all : List RowEntry) (row : RowEntry) (left rest : List Row) (tables : List (List Row)) → left ≡ row_of row ∷ rest → all ≡ table ++ row ∷ []
      → false ≡ nat_lt size (filled + estimated_size (row_of row)) → tables ≡ open_with (rows_of table) (cut_from size filled left)
      → tables ≡ open_with (rows_of all) (cut_from size (filled + estimated_size (row_of row)) rest)
  goes_on filled table all row left rest tables next more room so_far =
      so_far
      ∙ (ap (λ (w : List Row). open_with (rows_of table) (cut_from size filled w)) next
      ∙ (ap (open_with (rows_of table)) (cut_one filled (row_of row) rest false room)
      ∙ (sym (open_snoc (rows_of table) (row_of row) (cut_from size (filled + estimated_size (row_of row)) rest))
      ∙ ap (λ (w : List Row). open_with w (cut_from size (filled + estimated_size (row_of row)) rest)) (sym (ap (λ (w : List RowEntry). rows_of w) more ∙ rows-snoc table row)))))

  -- A row that fills the table ends it.
  pub ends_full : (filled : ℕ) (table all : List RowEntry) (row : RowEntry) (left rest : List Row) (tables : List (List Row)) → left ≡ row_of row ∷ rest → all ≡ table ++ row ∷ []
      → true ≡ nat_lt size (filled + estimated_size (row_of row)) → tables ≡ open_with (rows_of table) (cut_from size filled left)
      → tables ≡ before_tables (rows_of all) (cut_tables size rest)
  ends_full filled table all row left rest tables next more full so_far =
      so_far
      ∙ (ap (λ (w : List Row). open_with (rows_of table) (cut_from size filled w)) next
      ∙ (ap (open_with (rows_of table)) (cut_one filled (row_of row) rest true full)
      ∙ (open_full (rows_of table) (row_of row ∷ []) (cut_from size 0 rest)
      ∙ (before_some (rows_of table) (row_of row) (cut_from size 0 rest)
      ∙ ap (λ (w : List Row). before_tables w (cut_from size 0 rest)) (sym (ap (λ (w : List RowEntry). rows_of w) more ∙ rows-snoc table row))))))

  -- If no row is left, the table ends.
  pub ends_last : (filled : ℕ) (table : List RowEntry) (left rest : List Row) (tables : List (List Row)) → left ≡ [] → rest ≡ [] → tables ≡ open_with (rows_of table) (cut_from size filled left) → tables ≡ before_tables (rows_of table) (cut_tables size rest)
  ends_last filled table left rest tables none same so_far =
      so_far
      ∙ (ap (λ (w : List Row). open_with (rows_of table) (cut_from size filled w)) none
      ∙ (open_last (rows_of table) ∙ ap (λ (w : List Row). before_tables (rows_of table) (cut_tables size w)) (sym same)))

pub some_rows : (rows : List RowEntry) (row : RowEntry) → rows ++ row ∷ [] ≡ [] → ⊥
some_rows [] row h = cc h
some_rows (r ∷ rows) row h = cc h

-- ---- table after table

before_filled : (rows : List Row) (tables : List (List Row)) → rows ≢ [] → before_tables rows tables ≡ rows ∷ tables
before_filled [] tables some = absurd (some refl)
before_filled (r ∷ rows) tables some = refl

rows_filled : (table : List RowEntry) → table ≢ [] → rows_of table ≢ []
rows_filled [] some = absurd (some refl)
rows_filled (row ∷ table) some = λ none. cc none

module _ (size : ℕ) (cursor : Option Cursor) (s new : IteratorState) (table : List RowEntry) (takes : TakesTable size cursor s table new) (some : table ≢ []) where
  abbrev C : IteratorState → List (List Row)
  C t = cut_tables size (left_after cursor t.rows)

  pub one_more_table : C s ≡ rows_of table ∷ C new
  one_more_table = takes.tables ∙ before_filled (rows_of table) (C new) (rows_filled table some)

  pub goes_on_after : (done more all : List (List Row)) → all ≡ done ++ C s → more ≡ done ++ rows_of table ∷ [] → all ≡ more ++ C new
  goes_on_after done more all so_far is =
      so_far ∙ (ap (λ (w : List (List Row)). done ++ w) one_more_table ∙ (sym (append_assoc done (rows_of table ∷ []) (C new)) ∙ ap (λ (w : List (List Row)). w ++ C new) (sym is)))

  pub stays_bounded : AllByRecursion IsInBounds (left_after cursor s.rows) → AllByRecursion IsInBounds (left_after cursor new.rows)
  stays_bounded h =
      let flat : left_after cursor s.rows ≡ rows_of table ++ left_after cursor new.rows =
      sym (cut_flat size 0 (left_after cursor s.rows)) ∙ (ap (flat_map (λ t. t)) one_more_table ∙ ap (λ (w : List Row). rows_of table ++ w) (cut_flat size 0 (left_after cursor new.rows))) in
      back (rows_of table) (left_after cursor new.rows) (subst (AllByRecursion IsInBounds) flat h)
    where
      back : (xs ys : List Row) → AllByRecursion IsInBounds (xs ++ ys) → AllByRecursion IsInBounds ys
      back [] ys h = h
      back (x ∷ xs) ys h = back xs ys h.1

  pub fewer_tables : length (C new) < length (C s)
  fewer_tables = let same : length (C s) ≡ length (rows_of table ∷ C new) = ap length one_more_table in omega (arith, same)

pub no_more_tables : (size : ℕ) (cursor : Option Cursor) (s new : IteratorState) (table : List RowEntry) (done all : List (List Row)) → TakesTable size cursor s table new → table ≡ []
    → all ≡ done ++ cut_tables size (left_after cursor s.rows) → done ≡ all
no_more_tables size cursor s new table done all takes none so_far =
    sym (so_far ∙ (ap (λ (w : List (List Row)). done ++ w) (takes.tables ∙ ap (λ (w : List RowEntry). before_tables (rows_of w) (cut_tables size (left_after cursor new.rows))) none) ∙ append-nil done))
