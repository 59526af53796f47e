-- The rows that a merge of a range's sources has left.
use Rattle.std.proofs.Common.{◌≡◌, ◌∙◌, sym, refl, ap, subst, ℕ, List, [], ◌∷◌, ◌++◌, cond, Bool, true, false, not, Option, Some, None, Ok, Err}
use Rattle.std.specs.Prelude.{filter, flat_map}
use Rattle.std.specs.List.{AllByRecursion}
use Rattle.std.specs.List.Sorted.{IsStrictlySortedBy}
use Rattle.std.proofs.lemmas.List.Elements.{filter-append}
use Rattle.row_model.specs.Lists.{Pairs}
use Rattle.row_model.specs.Ranges.{Range, rows_in, is_in_range}
use Rattle.row_model.specs.Rows.{Row, IsStrictlyOrdered}
use Rattle.row_laws.specs.Keys.{is_below, is_from}
use Rattle.row_laws.specs.Merges.{AreApart}
use Rattle.row_laws.specs.Resume.{Cursor}
use Rattle.row_laws.specs.Sources.{merged_rows}
use Rattle.row_laws.proofs.ApartRows.{none_below, filter_all, ordered_filter, all_filter}
use Rattle.row_laws.proofs.Merges.{apart_are_ordered}
use Rattle.fleet_iter.specs.Iteration.{IteratorState, Inits, Seeks, Moves, AreRising, OrderedRowsRise, from_key, is_exact}
use Rattle.fleet_rows.specs.declared.errors.SlateDBError.{SlateDBError}
use Rattle.fleet_rows.specs.declared.errors.SlateDBError.TheVariants.{Memory}
use Rattle.fleet_iter.specs.Merge.{merged_lists, rows_left, are_whole, are_steady, starting, NoneFailed, MergesSort}
use Rattle.fleet_iter.specs.declared.iterator.IterationOrder.TheVariants.{Ascending}
use Rattle.fleet_table.specs.Run.{rows_of_tables}
use Rattle.fleet_exec.specs.Ranges.{source_rows, AreSources, opened_states, ranged_sources, rows_from, reading}

-- ---- each source

pub in_range : (range : Range) (tables : List (List Row)) → rows_of_tables range tables ≡ rows_in range (source_rows tables)
in_range range [] = refl
in_range range (rows ∷ tables) = ap (λ (w : List Row). rows_in range rows ++ w) (in_range range tables) ∙ sym (filter-append (λ r. is_in_range range r.key) rows (source_rows tables))

left_in : (range : Range) (sources : List (List (List Row))) → rows_left (opened_states range sources) ≡ ranged_sources range sources
left_in range [] = refl
left_in range (tables ∷ sources) =
    ap (λ (w : List Row). w ∷ rows_left (opened_states range sources)) (in_range range tables) ∙ ap (λ (ws : List (List Row)). rows_in range (source_rows tables) ∷ ws) (left_in range sources)

pub all_whole : (range : Range) (sources : List (List (List Row))) → are_whole (opened_states range sources) ≡ true
all_whole range [] = refl
all_whole range (tables ∷ sources) = all_whole range sources

pub all_steady : (range : Range) (sources : List (List (List Row))) → are_steady (opened_states range sources) ≡ true
all_steady range [] = refl
all_steady range (tables ∷ sources) = all_steady range sources

-- ---- the order of the sources' rows

ordered_in : (range : Range) (sources : List (List (List Row))) → AllByRecursion (λ tables. IsStrictlyOrdered (source_rows tables)) sources → AllByRecursion IsStrictlyOrdered (ranged_sources range sources)
ordered_in range [] h = tt
ordered_in range (tables ∷ sources) h = (ordered_filter (λ r. is_in_range range r.key) (source_rows tables) h.0, ordered_in range sources h.1)

pub pairs_filter : (R : Row → Row → Type 0) (p : Row → Bool) (rows : List Row) → Pairs R rows → Pairs R (filter p rows)
pairs_filter R p [] h = tt
pairs_filter R p (r ∷ rows) h = by (p r) (pairs_filter R p rows h.1) (all_filter (R r) p rows h.0)
  where
    by : (b : Bool) → Pairs R (filter p rows) → AllByRecursion (R r) (filter p rows) → Pairs R (cond b (r ∷ filter p rows) (filter p rows))
    by true rest all = (all, rest)
    by false rest all = rest

pub flat_in : (range : Range) (sources : List (List (List Row))) → flat_map (λ rows. rows) (ranged_sources range sources) ≡ rows_in range (flat_map source_rows sources)
flat_in range [] = refl
flat_in range (tables ∷ sources) =
    ap (λ (w : List Row). rows_in range (source_rows tables) ++ w) (flat_in range sources) ∙ sym (filter-append (λ r. is_in_range range r.key) (source_rows tables) (flat_map source_rows sources))

apart_in : (range : Range) (sources : List (List (List Row))) → AreApart (flat_map source_rows sources) → AreApart (flat_map (λ rows. rows) (ranged_sources range sources))
apart_in range sources h = subst AreApart (sym (flat_in range sources)) (pairs_filter _ (λ r. is_in_range range r.key) (flat_map source_rows sources) h)

module _ (range : Range) (sources : List (List (List Row))) (h : AreSources sources) where
  -- The merge gives the sources' rows in order.
  pub merged_in : MergesSort → merged_lists Ascending (ranged_sources range sources) ≡ merged_rows (ranged_sources range sources)
  merged_in sort = sort (ranged_sources range sources) (ordered_in range sources h.ordered) (apart_in range sources h.apart)

  pub ordered : IsStrictlyOrdered (merged_rows (ranged_sources range sources))
  ordered = apart_are_ordered (flat_map (λ rows. rows) (ranged_sources range sources)) (apart_in range sources h.apart)

-- ---- from a cursor's key on

all_from : (key : List ℕ) (rows : List Row) → AllByRecursion (λ q. is_below key q ≡ false) rows → AllByRecursion (λ q. is_from key q ≡ true) rows
all_from key [] all = tt
all_from key (q ∷ rows) all = (ap not all.0, all_from key rows all.1)

pub from_is_filter : (key : List ℕ) (rows : List Row) → IsStrictlyOrdered rows → from_key key rows ≡ filter (is_from key) rows
unfolding IsStrictlySortedBy
from_is_filter key [] h = refl
from_is_filter key (r ∷ rows) h = by (is_below key r) refl (from_is_filter key rows h.1)
  where
    by : (b : Bool) → is_below key r ≡ b → from_key key rows ≡ filter (is_from key) rows → cond b (from_key key rows) (r ∷ rows) ≡ cond (not b) (r ∷ filter (is_from key) rows) (filter (is_from key) rows)
    by true e rest = rest
    by false e rest = ap (λ (w : List Row). r ∷ w) (sym (filter_all (is_from key) rows (all_from key rows (none_below key r rows e h.0))))

pub from_ordered : (range : Range) (cursor : Option Cursor) (sources : List (List (List Row))) → AreSources sources → IsStrictlyOrdered (rows_from range cursor sources)
from_ordered range None sources h = ordered range sources h
from_ordered range (Some cursor) sources h =
    subst IsStrictlyOrdered (sym (from_is_filter cursor.0 (merged_rows (ranged_sources range sources)) (ordered range sources h))) (ordered_filter (is_from cursor.0) (merged_rows (ranged_sources range sources)) (ordered range sources h))

-- ---- the sources and their merge as iterators

pub none_failed : (range : Range) (sources : List (List (List Row))) → NoneFailed (opened_states range sources)
none_failed range [] = tt
none_failed range (tables ∷ sources) = (refl, none_failed range sources)

-- The merge, without dedup, before it is initialised.
abbrev unready : List Row → IteratorState
unready rows = record { rows = rows; initialised = false; failure = None; whole = true; steady = true; refusal = None }

pub starts : (range : Range) (sources : List (List (List Row))) (ss : List IteratorState) (m made : IteratorState) (rows : List Row) → ss ≡ opened_states range sources
    → m ≡ starting Ascending ss → rows ≡ merged_lists Ascending (rows_left ss) → made ≡ record m { rows = rows } → made ≡ unready (merged_lists Ascending (ranged_sources range sources))
starts range sources ss m made rows is begun all same =
    same
    ∙ (ap (λ (s : IteratorState). record s { rows = rows }) begun
    ∙ (ap (λ (w : List Row). record (starting Ascending ss) { rows = w }) (all ∙ ap (λ (w : List IteratorState). merged_lists Ascending (rows_left w)) is ∙ ap (merged_lists Ascending) (left_in range sources))
    ∙ (ap (λ (b : Bool). record (unready (merged_lists Ascending (ranged_sources range sources))) { whole = b; steady = are_steady ss }) (ap are_whole is ∙ all_whole range sources)
    ∙ ap (λ (b : Bool). record (unready (merged_lists Ascending (ranged_sources range sources))) { steady = b }) (ap are_steady is ∙ all_steady range sources))))

-- If the merge fails to initialise, the error is out of memory.
pub init_memory : (s t : IteratorState) (e : SlateDBError) (rows : List Row) → s ≡ unready rows → Inits s t (Err e) → e ≡ Memory
init_memory s t e rows is inits = (inits.answers (ap (λ (s : IteratorState). s.failure) is)).cause.memory (ap (λ (s : IteratorState). s.whole) is)

pub init_ready : (s t : IteratorState) (rows : List Row) → s ≡ unready rows → Inits s t (Ok tt) → t ≡ reading rows
init_ready s t rows is inits = inits.answers (ap (λ (s : IteratorState). s.failure) is) ∙ ap (λ (s : IteratorState). record s { initialised = true }) is

pub seek_memory : (key : List ℕ) (s t : IteratorState) (e : SlateDBError) (rows : List Row) → s ≡ reading rows → Seeks key s t (Err e) → e ≡ Memory
seek_memory key s t e rows is seeks =
    (seeks.answers (ap (λ (s : IteratorState). s.failure) is) (ap (λ (s : IteratorState). s.initialised) is)).cause.memory (ap is_exact is)

pub seek_ready : (key : List ℕ) (s t : IteratorState) (rows : List Row) → s ≡ reading rows → Seeks key s t (Ok tt) → t ≡ reading (from_key key rows)
seek_ready key s t rows is seeks = moved (is_exact s) (ap is_exact is) (seeks.answers (ap (λ (s : IteratorState). s.failure) is) (ap (λ (s : IteratorState). s.initialised) is))
  where
    moved : (b : Bool) → b ≡ true → Moves b key s t → t ≡ reading (from_key key rows)
    moved true e m = m ∙ ap (λ (s : IteratorState). record s { rows = from_key key s.rows }) is
    moved false e m = absurd (cc e)

pub reading_rises : OrderedRowsRise → (s : IteratorState) (rows : List Row) → s ≡ reading rows → IsStrictlyOrdered rows → AreRising s.rows
reading_rises rise s rows is ordered = rise s.rows (subst IsStrictlyOrdered (sym (ap (λ (s : IteratorState). s.rows) is)) ordered)
