-- A store in memory after a call.
use Rattle.std.proofs.Common.{◌≡◌, ◌≢◌, refl, ap, sym, subst, ◌∙◌, ℕ, ◌==◌, Bool, true, false, if◌then◌else◌, List, [], ◌∷◌, ◌++◌, filter, Option, Some, None, option_map, not, eq-eqb, IsTrue, ◌||◌}
use Rattle.std.specs.Prelude.{find, IfOk, OnErr, Result, Ok, Err}
use Rattle.std.specs.declared.alloc.AllocError.{AllocError}
use Rattle.step_model.specs.Rivals.{Strike}
use Rattle.std.specs.List.{AllByRecursion}
use Rattle.std.specs.Option.{is_some}
use Rattle.std.specs.BTreeMap.{insert_entry, is_at}
use Rattle.std.specs.Map.{keys_of, lookup, remove_entry}
use Rattle.std.specs.Ordering.{nat_cmp}
use Rattle.std.proofs.lemmas.Bool.{eqb-true, ne_eqb}
use Rattle.std.proofs.lemmas.List.Elements.{filter-append}
use Rattle.row_model.specs.Lists.{Pairs}
use Rattle.row_model.specs.Rows.{Row}
use Rattle.fleet_model.specs.Jobs.{contains}
use Rattle.fleet_model.specs.Nodes.{Tables, is_among, table_rows, rows_or_none}
use Rattle.fleet_model.specs.Store.{Store, held_tables, is_held}
use Rattle.fleet_tree.specs.Views.{View}
use Rattle.fleet_tree.specs.declared.handle.SsTableHandle.{SsTableHandle}
use Rattle.fleet_tree.specs.declared.manifest.VersionedManifest.{VersionedManifest}
use Rattle.fleet_book.specs.VersionedRecords.{VersionedRecords}
use Rattle.fleet_store.specs.Handles.{IsDescribed, NamesTable}
use Rattle.fleet_store.specs.Memory.{IsMemory, is_done}
use Rattle.fleet_store.specs.Strikes.{is_performed}
use Rattle.fleet_store.specs.Tables.{held_ids, held_rows, rows_among}
use Rattle.fleet_store.proofs.ByIds.{found, removed_inserted}
use Rattle.fleet_store.proofs.Listed.{as_many, keys_by_id}
use Rattle.std.proofs.Common.{length, map}
use Rattle.std.proofs.lemmas.List.{length-map}

-- ---- lists

pub all_map : {A : Type 0} (P Q : A → Type 0) (xs : List A) → ((x : A) → P x → Q x) → AllByRecursion P xs → AllByRecursion Q xs
all_map P Q [] f h = tt
all_map P Q (x ∷ xs) f h = (f x h.0, all_map P Q xs f h.1)

all_filter : {A : Type 0} (P : A → Type 0) (p : A → Bool) (xs : List A) → AllByRecursion P xs → AllByRecursion P (filter p xs)
all_filter P p [] h = tt
all_filter P p (x ∷ xs) h = by (p x) h.0 (all_filter P p xs h.1)
  where
    by : (b : Bool) → P x → AllByRecursion P (filter p xs) → AllByRecursion P (if b then x ∷ filter p xs else filter p xs)
    by true here rest = (here, rest)
    by false here rest = rest

pub pairs_filter : {A : Type 0} (R : A → A → Type 0) (p : A → Bool) (xs : List A) → Pairs R xs → Pairs R (filter p xs)
pairs_filter R p [] h = tt
pairs_filter R p (x ∷ xs) h = by (p x) (all_filter (R x) p xs h.0) (pairs_filter R p xs h.1)
  where
    by : (b : Bool) → AllByRecursion (R x) (filter p xs) → Pairs R (filter p xs) → Pairs R (if b then x ∷ filter p xs else filter p xs)
    by true here rest = (here, rest)
    by false here rest = rest

pub all_last : {A : Type 0} (P : A → Type 0) (xs : List A) (y : A) → AllByRecursion P xs → P y → AllByRecursion P (xs ++ y ∷ [])
all_last P [] y h last = (last, tt)
all_last P (x ∷ xs) y h last = (h.0, all_last P xs y h.1 last)

pub pairs_last : {A : Type 0} (R : A → A → Type 0) (xs : List A) (y : A) → Pairs R xs → AllByRecursion (λ x. R x y) xs → Pairs R (xs ++ y ∷ [])
pairs_last R [] y h last = (tt, tt)
pairs_last R (x ∷ xs) y h last = (all_last (R x) xs y h.0 last.0, pairs_last R xs y h.1 last.1)

-- ---- tables that grow

pub among_front : (tables : Tables) (t : ℕ × List Row) (id : ℕ) → IsTrue (is_among tables id) → IsTrue (is_among (tables ++ t ∷ []) id)
among_front [] t id h = absurd (cc h)
among_front (x ∷ tables) t id h = by (x.0 == id) (among_front tables t id) h
  where
    by : (b : Bool) → (IsTrue (is_among tables id) → IsTrue (is_among (tables ++ t ∷ []) id)) → IsTrue (b || is_among tables id) → IsTrue (b || is_among (tables ++ t ∷ []) id)
    by true rest h = refl
    by false rest h = rest h

rows_stay : (tables : Tables) (t : ℕ × List Row) (id : ℕ) → IsTrue (is_among tables id) → table_rows (tables ++ t ∷ []) id ≡ table_rows tables id
rows_stay [] t id h = absurd (cc h)
rows_stay (x ∷ tables) t id h = by (x.0 == id) (rows_stay tables t id) h
  where
    by : (b : Bool) → (IsTrue (is_among tables id) → table_rows (tables ++ t ∷ []) id ≡ table_rows tables id) → IsTrue (b || is_among tables id)
        → rows_or_none (if b then Some x else find (λ held. held.0 == id) (tables ++ t ∷ [])) ≡ rows_or_none (if b then Some x else find (λ held. held.0 == id) tables)
    by true rest h = refl
    by false rest h = rest h

pub described_stays : (tables : Tables) (t : ℕ × List Row) (handle : SsTableHandle) → IsDescribed tables handle → IsDescribed (tables ++ t ∷ []) handle
described_stays tables t handle h = record { put = among_front tables t handle.id h.put; describes = rw (rows_stay tables t handle.id h.put) h.describes }

pub named_stays : (tables : Tables) (t : ℕ × List Row) (view : View) → NamesTable tables view → NamesTable (tables ++ t ∷ []) view
named_stays tables t view h = record { identity = h.identity; described = described_stays tables t view.sst h.described }

pub apart_from : (tables : Tables) (id : ℕ) → is_among tables id ≡ false → AllByRecursion (λ other. other.0 ≢ id) tables
apart_from [] id none = tt
apart_from (x ∷ tables) id none = by (x.0 == id) refl (apart_from tables id) none
  where
    by : (b : Bool) → (x.0 == id) ≡ b → (is_among tables id ≡ false → AllByRecursion (λ other. other.0 ≢ id) tables) → (b || is_among tables id) ≡ false → (x.0 ≢ id) × AllByRecursion (λ other. other.0 ≢ id) tables
    by true is rest none = absurd (cc none)
    by false is rest none = ((λ same. absurd (cc (sym (eq-eqb x.0 id same) ∙ is))), rest none)

-- An id that was never put was not deleted.
pub not_gone : (tables : Tables) (deleted : List ℕ) (id : ℕ) → AllByRecursion (λ gone. IsTrue (is_among tables gone)) deleted → is_among tables id ≡ false → contains deleted id ≡ false
not_gone tables [] id gone none = refl
not_gone tables (x ∷ deleted) id gone none = by (x == id) refl (not_gone tables deleted id gone.1 none)
  where
    by : (b : Bool) → (x == id) ≡ b → contains deleted id ≡ false → (if b then true else contains deleted id) ≡ false
    by true is rest = absurd (cc (sym (subst (λ n. IsTrue (is_among tables n)) (eqb-true x id is) gone.0) ∙ none))
    by false is rest = rest

-- The held tables, with a table more.
pub held_more : (store : Store) (id : ℕ) (rows : List Row) → contains store.deleted id ≡ false
    → filter (λ table. not (contains store.deleted table.0)) (store.tables ++ (id, rows) ∷ []) ≡ held_tables store ++ (id, rows) ∷ []
held_more store id rows kept =
    filter-append (λ table. not (contains store.deleted table.0)) store.tables ((id, rows) ∷ []) ∙ ap (λ b. held_tables store ++ (if not b then (id, rows) ∷ [] else [])) kept

-- A table that was never put is not held.
absent : (deleted : List ℕ) (id : ℕ) (all : Tables) → is_among all id ≡ false → rows_among id (filter (λ table. not (contains deleted table.0)) all) ≡ None
absent deleted id [] none = refl
absent deleted id (x ∷ all) none = by (x.0 == id) refl none (absent deleted id all)
  where
    at : (b : Bool) → id ≢ x.0 → rows_among id (filter (λ table. not (contains deleted table.0)) all) ≡ None → rows_among id (if b then x ∷ filter (λ table. not (contains deleted table.0)) all else filter (λ table. not (contains deleted table.0)) all) ≡ None
    at true other rest = ap (λ b. option_map (λ table. table.1) (if b then Some x else find (λ table. id == table.0) (filter (λ table. not (contains deleted table.0)) all))) (ne_eqb id x.0 other) ∙ rest
    at false other rest = rest

    by : (b : Bool) → (x.0 == id) ≡ b → (b || is_among all id) ≡ false → (is_among all id ≡ false → rows_among id (filter (λ table. not (contains deleted table.0)) all) ≡ None)
        → rows_among id (if not (contains deleted x.0) then x ∷ filter (λ table. not (contains deleted table.0)) all else filter (λ table. not (contains deleted table.0)) all) ≡ None
    by true is none rest = absurd (cc none)
    by false is none rest = at (not (contains deleted x.0)) (λ same. absurd (cc (sym (eq-eqb x.0 id (sym same)) ∙ is))) (rest none)

-- A table under a new id is not among the held ones.
pub none_held : (store : Store) (many : ℕ) (manifest : VersionedManifest) (records : Option VersionedRecords) (held : Tables) (jobs tables id : ℕ)
    → IsMemory store many manifest records held jobs tables → is_among store.tables id ≡ false → lookup (is_at (nat_cmp id)) held ≡ None
none_held store many manifest records held jobs tables id is none =
    ap (lookup (is_at (nat_cmp id))) is.held_are ∙ (found id (held_tables store) (pairs_filter _ _ store.tables is.once) ∙ absent store.deleted id store.tables none)

-- What is kept under an id is what is held under it.
pub held_is : (store : Store) (many : ℕ) (manifest : VersionedManifest) (records : Option VersionedRecords) (held : Tables) (jobs tables id : ℕ)
    → IsMemory store many manifest records held jobs tables → lookup (is_at (nat_cmp id)) held ≡ held_rows id store
held_is store many manifest records held jobs tables id is =
    ap (lookup (is_at (nat_cmp id))) is.held_are ∙ found id (held_tables store) (pairs_filter _ _ store.tables is.once)

-- Rows are among these tables if a table is.
some_among : (id : ℕ) (tables : Tables) → is_some (rows_among id tables) ≡ is_among tables id
some_among id [] = refl
some_among id (x ∷ tables) = by (x.0 == id) refl (some_among id tables)
  where
    by : (b : Bool) → (x.0 == id) ≡ b → is_some (rows_among id tables) ≡ is_among tables id → is_some (rows_among id (x ∷ tables)) ≡ (b || is_among tables id)
    by true is rest = ap (λ b. is_some (option_map (λ table. table.1) (if b then Some x else find (λ table. id == table.0) tables))) (eq-eqb id x.0 (sym (eqb-true x.0 id is)))
    by false is rest = ap (λ b. is_some (option_map (λ table. table.1) (if b then Some x else find (λ table. id == table.0) tables))) (ne_eqb id x.0 (λ same. absurd (cc (sym (eq-eqb x.0 id (sym same)) ∙ is)))) ∙ rest

-- A table is held if there are rows under its id.
pub held_some : (store : Store) (id : ℕ) → is_some (held_rows id store) ≡ is_held store id
held_some store id = some_among id (held_tables store)

-- ---- a table that is put and taken away again

pub taken_away : (added : Result Strike AllocError) (before between after : Tables) (id : ℕ) (rows : List Row) → false ≡ is_done added → lookup (is_at (nat_cmp id)) before ≡ None
    → between ≡ insert_entry nat_cmp before id rows → after ≡ remove_entry (is_at (nat_cmp id)) between
    → IfOk added (λ strike. after ≡ (if is_performed strike then insert_entry nat_cmp before id rows else before))
taken_away (Err refusal) before between after id rows not_done none put gone = tt
taken_away (Ok strike) before between after id rows not_done none put gone =
    rw (sym not_done) (gone ∙ (ap (remove_entry (is_at (nat_cmp id))) put ∙ removed_inserted id rows before none))

pub taken_away_at_last : (added : Result Strike AllocError) (before between after : Tables) (id : ℕ) (rows : List Row) → lookup (is_at (nat_cmp id)) before ≡ None
    → between ≡ insert_entry nat_cmp before id rows → after ≡ remove_entry (is_at (nat_cmp id)) between → OnErr added (after ≡ before)
taken_away_at_last (Err refusal) before between after id rows none put gone = gone ∙ (ap (remove_entry (is_at (nat_cmp id))) put ∙ removed_inserted id rows before none)
taken_away_at_last (Ok strike) before between after id rows none put gone = tt

-- ---- a list of the held tables

-- The ids that are kept are those that are held.
pub ids_are : (store : Store) (many : ℕ) (manifest : VersionedManifest) (records : Option VersionedRecords) (held : Tables) (jobs tables : ℕ)
    → IsMemory store many manifest records held jobs tables → keys_of held ≡ held_ids store
ids_are store many manifest records held jobs tables is = ap keys_of is.held_are ∙ keys_by_id (held_tables store) (pairs_filter _ _ store.tables is.once)

-- There are as many ids as tables.
pub ids_many : (store : Store) → length (held_ids store) ≡ length (held_tables store)
ids_many store = as_many (map (λ table. table.0) (held_tables store)) ∙ length-map (held_tables store) (λ table. table.0)

-- A held table was put.
pub was_put : (deleted : List ℕ) (id : ℕ) (tables : Tables) → IsTrue (is_among (filter (λ table. not (contains deleted table.0)) tables) id) → IsTrue (is_among tables id)
was_put deleted id [] there = absurd (cc there)
was_put deleted id (t ∷ tables) there = by (contains deleted t.0) (t.0 == id) (was_put deleted id tables) (subst IsTrue (split (contains deleted t.0)) there)
  where
    left : Tables
    left = filter (λ table. not (contains deleted table.0)) tables

    split : (b : Bool) → is_among (if not b then t ∷ left else left) id ≡ (if not b then (t.0 == id) || is_among left id else is_among left id)
    split true = refl
    split false = refl

    by : (b c : Bool) → (IsTrue (is_among left id) → IsTrue (is_among tables id)) → IsTrue (if not b then c || is_among left id else is_among left id) → IsTrue (c || is_among tables id)
    by b true rest there = refl
    by true false rest there = rest there
    by false false rest there = rest there
