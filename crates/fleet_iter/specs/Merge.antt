-- The merge of lists of rows. Its next row is always the least first row of a list, and of equal ones that of
-- the earliest list.
use Rattle.std.specs.Prelude.{◌≡◌, ◌≢◌, ◌⊎◌, ℕ, ◌+◌, List, [], ◌∷◌, ◌++◌, Option, Some, None, Bool, true, false, not, ◌&&◌, ⊤, map, flat_map, bytes_eq, Result, Ok, Err, if◌then◌else◌}
use Rattle.std.specs.Option.{option_to_list}
use Rattle.std.specs.Borrow.{Bor}
use Rattle.std.specs.declared.cmp.Ordering.{Ordering}
use Rattle.std.specs.Ordering.{is_gt, nat_cmp, ordering_then}
use Rattle.row_model.specs.Rows.{Row, key_cmp, same_key, is_operand, IsStrictlyOrdered}
use Rattle.row_laws.specs.Keys.{is_below}
use Rattle.row_laws.specs.Merges.{AreApart}
use Rattle.row_laws.specs.Sources.{merged_rows}
use Rattle.std.specs.List.{AllByRecursion, slice_get}
use Rattle.fleet_rows.specs.Row.{row_of, rows_of}
use Rattle.fleet_rows.specs.declared.row.RowEntry.{RowEntry}
use Rattle.fleet_rows.specs.declared.errors.SlateDBError.{SlateDBError}
use Rattle.fleet_rows.specs.declared.errors.SlateDBError.TheVariants.{Memory}
use Rattle.fleet_iter.specs.Iteration.{IteratorState, AreRising, after_first, from_key, without_first, Fails, StaysFailed, StaysUninitialised}
use Rattle.fleet_iter.specs.declared.iterator.IterationOrder.{IterationOrder}
use Rattle.fleet_iter.specs.declared.iterator.IterationOrder.TheVariants.{Ascending, Descending}

-- Keys are compared in an iteration order.
abbrev pub keys_in : (order : IterationOrder) (a b : List ℕ) → Ordering
keys_in Ascending a b = key_cmp a b
keys_in Descending a b = key_cmp b a

-- Rows are compared by key in an iteration order, and rows of one key by falling sequence.
abbrev pub cmp_in : (order : IterationOrder) (a b : Row) → Ordering
cmp_in order a b = ordering_then (keys_in order a.key b.key) (nat_cmp b.seq a.seq)

-- Whether a row is before another one in an iteration order, or has the same key and sequence.
abbrev pub goes_first : (order : IterationOrder) (a b : Row) → Bool
goes_first order a b = not (is_gt (cmp_in order a b))

-- The merge of a list with a row and the rows after it. The function merges the rows after it with a list.
abbrev pub merge_into : (order : IterationOrder) (r : Row) (rest : List Row → List Row) (rows : List Row) → List Row
merge_into order r rest [] = r ∷ rest []
merge_into order r rest (q ∷ rows) =
    if goes_first order r q then r ∷ rest (q ∷ rows) else q ∷ merge_into order r rest rows

abbrev pub merge_two : (order : IterationOrder) (rows others : List Row) → List Row
merge_two order [] others = others
merge_two order (r ∷ rows) others = merge_into order r (merge_two order rows) others

abbrev pub merged_lists : IterationOrder → List (List Row) → List Row
merged_lists order [] = []
merged_lists order (rows ∷ lists) = merge_two order rows (merged_lists order lists)

-- Whether a row hides a later one: both have the same key, and the first one is no operand.
abbrev pub hides : (r q : Row) → Bool
hides r q = not (is_operand r) && same_key r q

-- Whether a row has this key.
abbrev pub has_key : (key : List ℕ) (r : Row) → Bool
has_key key r = bytes_eq key r.key

-- The rows that dedup gives after a row that it has given. It leaves out each row that the row given last
-- hides.
abbrev pub given_after : Row → List Row → List Row
given_after r [] = []
given_after r (q ∷ rows) = if hides r q then given_after r rows else q ∷ given_after q rows

abbrev pub deduplicated_rows : List Row → List Row
deduplicated_rows [] = []
deduplicated_rows (r ∷ rows) = r ∷ given_after r rows

-- The rows that a merge gives of its merged rows, with dedup if the flag is true.
abbrev pub given_rows : Bool → List Row → List Row
given_rows true rows = deduplicated_rows rows
given_rows false rows = rows

-- The lists of rows left, each with the head that was taken from it put back in front.
abbrev pub lists : List (Option RowEntry) → List (List Row) → List (List Row)
lists [] ls = ls
lists (h ∷ hs) [] = []
lists (h ∷ hs) (l ∷ ls) = (rows_of (option_to_list h) ++ l) ∷ lists hs ls

abbrev pub rows_left : List IteratorState → List (List Row)
rows_left ss = map (λ s. s.rows) ss

-- The merge of all rows that heads and sources have left.
abbrev pub merged_left : IterationOrder → List (Option RowEntry) → List IteratorState → List Row
merged_left order hs ss = merged_lists order (lists hs (rows_left ss))

-- The lesser of a head and of the least head after it, with its place. Of equal ones the head comes first.
abbrev pub choose : IterationOrder → Option RowEntry → Option (ℕ × RowEntry) → Option (ℕ × RowEntry)
choose order None None = None
choose order None (Some p) = Some (p.0 + 1, p.1)
choose order (Some x) None = Some (0, x)
choose order (Some x) (Some p) = if goes_first order (row_of x) (row_of p.1) then Some (0, x) else Some (p.0 + 1, p.1)

-- The least head with its place. None if there is no head.
abbrev pub best : IterationOrder → List (Option RowEntry) → Option (ℕ × RowEntry)
best order [] = None
best order (h ∷ hs) = choose order h (best order hs)

-- The place and the row that a search found, with the row by value.
abbrev pub found_row : Option (ℕ × Bor RowEntry) → Option (ℕ × RowEntry)
found_row None = None
found_row (Some p) = Some (p.0, p.1.now)

-- Whether a row was found and passes a test.
abbrev pub passes : (Row → Bool) → Option (ℕ × RowEntry) → Bool
passes test None = false
passes test (Some p) = test (row_of p.1)

-- Whether a head is there and passes a test.
abbrev pub head_passes : (Row → Bool) → Option RowEntry → Bool
head_passes test None = false
head_passes test (Some x) = test (row_of x)

-- A source whose first row was taken as its head. It is initialised and has not failed. Without a head, it is
-- whole and has no row left.
abbrev pub IsTaken : Option RowEntry → IteratorState → Type 0
IsTaken (Some x) s = (s.failure ≡ None) × (s.initialised ≡ true)
IsTaken None s = (s.failure ≡ None) × (s.initialised ≡ true) × (s.rows ≡ []) × (s.whole ≡ true)

abbrev pub AllTaken : List (Option RowEntry) → List IteratorState → Type 0
AllTaken [] [] = ⊤
AllTaken (h ∷ hs) (s ∷ ss) = IsTaken h s × AllTaken hs ss
AllTaken [] (s ∷ ss) = ⊥
AllTaken (h ∷ hs) [] = ⊥

-- What no step of a source changes: whether the source is whole, and whether it is steady.
abbrev pub manner : IteratorState → Bool × Bool
manner s = (s.whole, s.steady)

abbrev pub manners : List IteratorState → List (Bool × Bool)
manners ss = map manner ss

-- Whether all sources are whole.
abbrev pub all_whole : List (Bool × Bool) → Bool
all_whole [] = true
all_whole (m ∷ ms) = if m.0 then all_whole ms else false

abbrev pub all_steady : List (Bool × Bool) → Bool
all_steady [] = true
all_steady (m ∷ ms) = if m.1 then all_steady ms else false

abbrev pub are_whole : List IteratorState → Bool
are_whole ss = all_whole (manners ss)

abbrev pub are_steady : List IteratorState → Bool
are_steady ss = all_steady (manners ss)

abbrev pub are_exact : List IteratorState → Bool
are_exact ss = are_steady ss && are_whole ss

-- A step of a source: its first row becomes its next head. There is no head if no row is left.
abbrev pub NextGives : (s t : IteratorState) (h : Option RowEntry) → Type 0
NextGives s t h = (s.rows ≡ rows_of (option_to_list h) ++ t.rows) × IsTaken h t × (manner t ≡ manner s)

-- Whether it is known which rows a seek of a source leaves. In descending order it always is, since a merge
-- then reads the source row by row instead of seeking it.
abbrev pub is_known : IterationOrder → Bool → Bool
is_known Ascending exact = exact
is_known Descending exact = true

-- A step of a source to its first row at or after a key. If the flag is false, it is only known that the
-- source's rows rise.
abbrev pub NextGivesFrom : (known : Bool) (key : List ℕ) (s t : IteratorState) (h : Option RowEntry) → Type 0
NextGivesFrom true key s t h = NextGives (record s { rows = from_key key s.rows }) t h
NextGivesFrom false key s t h = IsTaken h t × AreRising (rows_of (option_to_list h) ++ t.rows)

-- A step of a merge takes the first row that is given, and with dedup the rows that this one hides. If it
-- takes no row, none is left and all sources are whole.
pub record Takes (order : IterationOrder) (dedup : Bool) (hs : List (Option RowEntry)) (ss : List IteratorState)
    (hs' : List (Option RowEntry)) (ss' : List IteratorState) (o : Option RowEntry) : Type 0 where
  pub rows : given_rows dedup (merged_left order hs ss)
      ≡ rows_of (option_to_list o) ++ given_rows dedup (merged_left order hs' ss')
  pub taken : AllTaken hs' ss'
  pub same_manner : manners ss' ≡ manners ss
  pub ends : o ≡ None → (merged_left order hs ss ≡ []) × (are_whole ss ≡ true)

-- A merge drops its first row, if it has one.
pub record Drops (order : IterationOrder) (hs : List (Option RowEntry)) (ss : List IteratorState)
    (hs' : List (Option RowEntry)) (ss' : List IteratorState) : Type 0 where
  pub rows : merged_left order hs' ss' ≡ after_first (merged_left order hs ss)
  pub taken : AllTaken hs' ss'
  pub same_manner : manners ss' ≡ manners ss

-- Each source whose head is not below the key stays as it is, and so does its head.
abbrev pub LeavesFrom : {T : Type 0} → (key : List ℕ) (hs : List (Option RowEntry)) (xs : List T)
    (hs' : List (Option RowEntry)) (xs' : List T) → Type 0
LeavesFrom key hs xs hs' xs' = (place : ℕ) (x : RowEntry)
    → slice_get hs place ≡ Some (Some x) → is_below key (row_of x) ≡ false
    → (slice_get hs' place ≡ Some (Some x)) × (slice_get xs' place ≡ slice_get xs place)

abbrev pub NoneFailed : List IteratorState → Type 0
NoneFailed [] = ⊤
NoneFailed (s ∷ ss) = (s.failure ≡ None) × NoneFailed ss

-- At least one source has failed with this error.
abbrev pub OneFailedBy : List IteratorState → SlateDBError → Type 0
OneFailedBy [] e = ⊥
OneFailedBy (s ∷ ss) e = (s.failure ≡ Some e) ⊎ OneFailedBy ss e

-- An error other than `Memory` is the one with which a source failed.
abbrev pub IsHandedOn : List IteratorState → SlateDBError → Type 0
IsHandedOn ss e = e ≢ Memory → OneFailedBy ss e

-- Of each head's source the first row was taken. None of the other sources has failed.
abbrev pub AllBegun : List (Option RowEntry) → List IteratorState → Type 0
AllBegun [] ss = NoneFailed ss
AllBegun (h ∷ hs) [] = ⊥
AllBegun (h ∷ hs) (s ∷ ss) = IsTaken h s × AllBegun hs ss

-- The first row of each source is taken as its head.
pub record Begins (ss : List IteratorState) (hs' : List (Option RowEntry)) (ss' : List IteratorState) : Type 0 where
  pub rows : lists hs' (rows_left ss') ≡ rows_left ss
  pub taken : AllTaken hs' ss'
  pub same_manner : manners ss' ≡ manners ss

-- A merge drops its first rows that pass a test, up to the first row that does not.
pub record Skips (order : IterationOrder) (test : Row → Bool) (hs : List (Option RowEntry))
    (ss : List IteratorState) (hs' : List (Option RowEntry)) (ss' : List IteratorState) : Type 0 where
  pub rows : merged_left order hs' ss' ≡ without_first test (merged_left order hs ss)
  pub taken : AllTaken hs' ss'
  pub same_manner : manners ss' ≡ manners ss

-- Whether the first row has this key.
abbrev pub begins_with : (key : List ℕ) (rows : List Row) → Bool
begins_with key [] = false
begins_with key (r ∷ rows) = has_key key r

abbrev pub SkipKeyAnswers : (key : List ℕ) (old new : IteratorState) (result : Result (Unit {0}) SlateDBError) → Type 0
SkipKeyAnswers key old new (Ok done) = new ≡ record old { rows = without_first (has_key key) old.rows }
SkipKeyAnswers key old new (Err e) = Fails old.whole new e

-- A call drops the rows at the front that have this key.
pub record SkipsKey (key : List ℕ) (old new : IteratorState) (result : Result (Unit {0}) SlateDBError) : Type 0 where
  pub failed : old.failure ≢ None → StaysFailed (Unit {0}) old new result
  pub uninitialised : old.failure ≡ None → old.initialised ≡ false → StaysUninitialised (Unit {0}) old new result
  pub answers : old.failure ≡ None → old.initialised ≡ true → SkipKeyAnswers key old new result

-- A merge drops its rows below a key. If the flag is false, it is only known that the rows left rise.
abbrev pub SkipsTo : (known : Bool) (order : IterationOrder) (key : List ℕ) (hs : List (Option RowEntry))
    (ss : List IteratorState) (hs' : List (Option RowEntry)) (ss' : List IteratorState) → Type 0
SkipsTo true order key hs ss hs' ss' = Skips order (is_below key) hs ss hs' ss'
SkipsTo false order key hs ss hs' ss' = AllTaken hs' ss' × AreRising (merged_left order hs' ss')

-- How a merge's failure, its `initialised` flag, its heads and its sources fit together. After a failure
-- nothing is known.
abbrev pub Fits : (failure : Option SlateDBError) (initialised : Bool) (hs : List (Option RowEntry))
    (ss : List IteratorState) → Type 0
Fits (Some e) initialised hs ss = ⊤
Fits None true hs ss = AllTaken hs ss
Fits None false hs ss = (hs ≡ []) × NoneFailed ss

-- The state of a merge with these flags, heads and sources.
abbrev pub merging : (order : IterationOrder) (dedup initialised : Bool) (failure : Option SlateDBError)
    (hs : List (Option RowEntry)) (ss : List IteratorState) → IteratorState
merging order dedup initialised failure hs ss =
    record {
      rows = given_rows dedup (merged_left order hs ss);
      initialised = initialised;
      failure = failure;
      whole = are_whole ss;
      steady = are_steady ss;
      refusal = None;
    }

-- The state of a merge with dedup that is not initialised.
abbrev pub starting : IterationOrder → List IteratorState → IteratorState
starting order ss = record {
  rows = deduplicated_rows (merged_lists order (rows_left ss));
  initialised = false;
  failure = None;
  whole = are_whole ss;
  steady = are_steady ss;
  refusal = None;
}

-- If each list is strictly ordered and no two rows share key and sequence, the ascending merge has all rows
-- in order.
abbrev pub MergesSort : Type 0
MergesSort = (ls : List (List Row)) → AllByRecursion IsStrictlyOrdered ls
    → AreApart (flat_map (λ rows. rows) ls) → merged_lists Ascending ls ≡ merged_rows ls

-- The ascending merge of rising lists rises, with or without dedup. So it may be sought.
abbrev pub MergesRise : Type 0
MergesRise = (dedup : Bool) (ls : List (List Row)) → AllByRecursion AreRising ls
    → AreRising (given_rows dedup (merged_lists Ascending ls))
