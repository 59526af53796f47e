-- Rows of tables that are strictly ordered when they are merged are sources.
use Rattle.std.proofs.Common.{◌≡◌, ◌≢◌, refl, sym, ◌∙◌, ap, subst, ℕ, cond, Bool, true, false, List, [], ◌∷◌, ◌++◌}
use Rattle.std.specs.Prelude.{filter, flat_map}
use Rattle.std.specs.List.{AllByRecursion}
use Rattle.std.specs.List.Sorted.{IsStrictlySortedBy}
use Rattle.std.specs.Ordering.{is_lt, ordering_reverse}
use Rattle.std.specs.declared.cmp.Ordering.TheVariants.{Less, Equal, Greater}
use Rattle.std.proofs.lemmas.List.{append-nil}
use Rattle.row_model.specs.Rows.{IsStrictlyOrdered, Row, insert_row, row_cmp, sorted_rows}
use Rattle.row_laws.specs.Merges.{AreApart}
use Rattle.row_laws.proofs.Elements.{all_weaken}
use Rattle.row_laws.proofs.Order.{row_total}
use Rattle.fleet_model.specs.Invariants.TreesFit.{IsTable}
use Rattle.fleet_model.specs.Nodes.{Tables, table_rows}
use Rattle.step_laws.proofs.Elements.{all_append, all_back, all_front}
use Rattle.fleet_exec.specs.Ranges.{AreSources, source_rows}
use Rattle.fleet_output.specs.Gets.{sources_at}

-- ---- sorted rows

before_differs : (r q : Row) → row_cmp r q ≡ Less → row_cmp r q ≢ Equal
before_differs r q less equal =
    let clash : Less ≡ Equal = sym less ∙ equal in
    absurd (cc clash)

after_differs : (r q : Row) → row_cmp r q ≡ Less → row_cmp q r ≢ Equal
after_differs r q less equal =
    let clash : Greater ≡ Equal = sym (row_total.antisymm q r ∙ ap ordering_reverse less) ∙ equal in
    absurd (cc clash)

-- What all rows have after one was inserted, that one and the others have.
all_of_inserted : (P : Row → Type 0) (r : Row) (rows : List Row) → AllByRecursion P (insert_row r rows) → P r × AllByRecursion P rows
all_of_inserted P r [] all = (all.0, tt)
all_of_inserted P r (q ∷ rows) all = by (is_lt (row_cmp r q)) (all_of_inserted P r rows) all
  where
    by : (b : Bool) → (AllByRecursion P (insert_row r rows) → P r × AllByRecursion P rows) → AllByRecursion P (cond b (r ∷ q ∷ rows) (q ∷ insert_row r rows)) → P r × AllByRecursion P (q ∷ rows)
    by true later all = (all.0, all.1)
    by false later all = let rest = later all.1 in (rest.0, (all.0, rest.1))

all_of_sorted : (P : Row → Type 0) (rows : List Row) → AllByRecursion P (sorted_rows rows) → AllByRecursion P rows
all_of_sorted P [] all = tt
all_of_sorted P (r ∷ rows) all = let rest = all_of_inserted P r (sorted_rows rows) all in (rest.0, all_of_sorted P rows rest.1)

-- A row that was inserted into rows which are then strictly ordered is none of them.
inserted_apart : (r : Row) (rows : List Row) → IsStrictlyOrdered (insert_row r rows) → IsStrictlyOrdered rows × AllByRecursion (λ q. row_cmp r q ≢ Equal) rows
unfolding IsStrictlySortedBy
inserted_apart r [] h = (tt, tt)
inserted_apart r (q ∷ rows) h = by (is_lt (row_cmp r q)) (inserted_apart r rows) h
  where
    by : (b : Bool) → (IsStrictlyOrdered (insert_row r rows) → IsStrictlyOrdered rows × AllByRecursion (λ q. row_cmp r q ≢ Equal) rows) → IsStrictlyOrdered (cond b (r ∷ q ∷ rows) (q ∷ insert_row r rows)) → IsStrictlyOrdered (q ∷ rows) × AllByRecursion (λ p. row_cmp r p ≢ Equal) (q ∷ rows)
    by true later h = (h.1, all_weaken (λ p. row_cmp r p ≡ Less) (λ p. row_cmp r p ≢ Equal) (before_differs r) (q ∷ rows) h.0)
    by false later h =
        let all = all_of_inserted (λ p. row_cmp q p ≡ Less) r rows h.0 in
        let rest = later h.1 in
        ((all.1, rest.0), (after_differs q r all.0, rest.1))

sorted_apart : (rows : List Row) → IsStrictlyOrdered (sorted_rows rows) → AreApart rows
sorted_apart [] h = tt
sorted_apart (r ∷ rows) h =
    let parts = inserted_apart r (sorted_rows rows) h in
    (all_of_sorted (λ q. row_cmp r q ≢ Equal) rows parts.1, sorted_apart rows parts.0)

-- ---- some of the tables

module _ (rows_at : ℕ → List Row) (keep : ℕ → Bool) where
  all_fewer : (P : Row → Type 0) (ids : List ℕ) → AllByRecursion P (flat_map rows_at ids) → AllByRecursion P (flat_map rows_at (filter keep ids))
  all_fewer P [] all = tt
  all_fewer P (id ∷ ids) all = by (keep id) (all_front P (rows_at id) (flat_map rows_at ids) all) (all_fewer P ids (all_back P (rows_at id) (flat_map rows_at ids) all))
    where
      by : (b : Bool) → AllByRecursion P (rows_at id) → AllByRecursion P (flat_map rows_at (filter keep ids)) → AllByRecursion P (flat_map rows_at (cond b (id ∷ filter keep ids) (filter keep ids)))
      by true here rest = all_append P (rows_at id) (flat_map rows_at (filter keep ids)) here rest
      by false here rest = rest

  apart_back : (xs ys : List Row) → AreApart (xs ++ ys) → AreApart ys
  apart_back [] ys h = h
  apart_back (x ∷ xs) ys h = apart_back xs ys h.1

  apart_front : (ids : List ℕ) (xs : List Row) → AreApart (xs ++ flat_map rows_at ids) → AreApart (flat_map rows_at (filter keep ids)) → AreApart (xs ++ flat_map rows_at (filter keep ids))
  apart_front ids [] h fewer = fewer
  apart_front ids (x ∷ xs) h fewer =
      let P = λ (q : Row). row_cmp x q ≢ Equal in (
        all_append P xs (flat_map rows_at (filter keep ids)) (all_front P xs (flat_map rows_at ids) h.0) (all_fewer P ids (all_back P xs (flat_map rows_at ids) h.0)),
        apart_front ids xs h.1 fewer,
      )

  -- The rows of some of the tables are apart if those of all tables are.
  apart_fewer : (ids : List ℕ) → AreApart (flat_map rows_at ids) → AreApart (flat_map rows_at (filter keep ids))
  apart_fewer [] h = tt
  apart_fewer (id ∷ ids) h = by (keep id) (apart_fewer ids (apart_back (rows_at id) (flat_map rows_at ids) h))
    where
      by : (b : Bool) → AreApart (flat_map rows_at (filter keep ids)) → AreApart (flat_map rows_at (cond b (id ∷ filter keep ids) (filter keep ids)))
      by true fewer = apart_front ids (rows_at id) h fewer
      by false fewer = fewer

-- ---- sources

flat_sources : (tables : Tables) (ids : List ℕ) → flat_map source_rows (sources_at tables ids) ≡ flat_map (table_rows tables) ids
flat_sources tables [] = refl
flat_sources tables (id ∷ ids) = ap (λ rows. rows ++ flat_map source_rows (sources_at tables ids)) (append-nil (table_rows tables id)) ∙ ap (λ rows. table_rows tables id ++ rows) (flat_sources tables ids)

each_ordered : (tables : Tables) (ids : List ℕ) → AllByRecursion (λ id. IsTable (table_rows tables id)) ids → AllByRecursion (λ source. IsStrictlyOrdered (source_rows source)) (sources_at tables ids)
each_ordered tables [] all = tt
each_ordered tables (id ∷ ids) all = (subst IsStrictlyOrdered (sym (append-nil (table_rows tables id))) all.0.ordered, each_ordered tables ids all.1)

-- Some tables are sources, if the rows of all tables are strictly ordered when they are merged.
pub are_sources : (tables : Tables) (keep : ℕ → Bool) (ids : List ℕ) → AllByRecursion (λ id. IsTable (table_rows tables id)) (filter keep ids) → IsStrictlyOrdered (sorted_rows (flat_map (table_rows tables) ids)) → AreSources (sources_at tables (filter keep ids))
are_sources tables keep ids all ordered = record {
  ordered = each_ordered tables (filter keep ids) all;
  apart = subst AreApart (sym (flat_sources tables (filter keep ids))) (apart_fewer (table_rows tables) keep ids (sorted_apart (flat_map (table_rows tables) ids) ordered));
}

-- So are all tables.
pub all_sources : (tables : Tables) (ids : List ℕ) → AllByRecursion (λ id. IsTable (table_rows tables id)) ids → IsStrictlyOrdered (sorted_rows (flat_map (table_rows tables) ids)) → AreSources (sources_at tables ids)
all_sources tables ids all ordered =
    record { ordered = each_ordered tables ids all; apart = subst AreApart (sym (flat_sources tables ids)) (sorted_apart (flat_map (table_rows tables) ids) ordered) }
