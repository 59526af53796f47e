-- The rows that a job makes of rows in bounds are in bounds, and in order, if merged bytes are few enough.
use Rattle.std.proofs.Common.{◌≡◌, refl, ℕ, zero, suc, ◌^◌, ◌<◌, ℤ, List, [], ◌∷◌, cond, Bool, true, false, Option, Some, None, take, drop, length, arith}
use Rattle.std.specs.Prelude.{IfSome, ◌==◌, map, find, flat_map, option_map, nat_le, ⊤}
use Rattle.std.specs.List.{AllByRecursion}
use Rattle.std.specs.List.Sorted.{IsStrictlySortedBy}
use Rattle.std.specs.Ordering.{is_lt}
use Rattle.std.specs.declared.cmp.Ordering.TheVariants.{Less}
use Rattle.row_model.specs.Chunks.{Chunk, elements, chunk_by, put_before}
use Rattle.row_model.specs.Rows.{Row, Content, Value, Merge, Tombstone, row_cmp, same_key, sorted_rows, insert_row, is_operand, is_tombstone, is_expired, IsStrictlyOrdered}
use Rattle.row_model.specs.Fold.{Operator, Outcome, Merged, Refused, merge_one, fold, fold_bytes}
use Rattle.row_model.specs.Settings.{Settings}
use Rattle.row_model.specs.Written.Sizes.{content_len}
use Rattle.row_model.specs.Bounds.{IsInBounds}
use Rattle.row_model.specs.Ranges.{Range, rows_in, is_in_range}
use Rattle.row_model.specs.FoldedRows.{GroupBase, NoBase, TombstoneBase, ValueBase, opens_group, takes_next, operand_groups, group_operands, group_base, base_in, base_bytes, content_of, group_content, group_row, greatest_created, folded_chunk, cons_both, all_or_none, folded_rows}
use Rattle.row_model.specs.KeptRows.{as_tombstone_if_expired, retention_walk, before_old_tombstones, without_old_tombstones, kept_rows}
use Rattle.row_model.specs.JobRows.{JobRows, key_rows, before_refusal, joined_keys, job_rows}
use Rattle.row_laws.proofs.Order.{jobs_keep_order}
use Rattle.row_laws.proofs.ApartRows.{ordered_filter}
use Rattle.fleet_model.specs.Nodes.{Tables, table_rows, rows_or_none}
use Rattle.fleet_model.specs.Invariants.TreesFit.{IsTable}
use Rattle.fleet_model.specs.Work.Attempts.{source_rows, range_rows, rows_left, noted_rows}
use Rattle.step_laws.proofs.Elements.{all_append}
use Rattle.step_laws.proofs.TableReplays.{all_filter}
use Rattle.course_laws.proofs.Calls.{all_take}

-- The merged bytes of the operator are fewer than 2^32.
abbrev pub IsShort : Operator → Type 0
IsShort merge = (key : List ℕ) (e : Option (List ℕ)) (x bytes : List ℕ) → merge key e x ≡ Merged bytes → length bytes < 2 ^ 32

abbrev AreInBounds : List Row → Type 0
AreInBounds rows = AllByRecursion IsInBounds rows

-- ---- folds

abbrev IsFew : Outcome → Type 0
IsFew (Merged bytes) = length bytes < 2 ^ 32
IsFew (Refused message) = ⊤

-- Each merge of one more operand is refused or gives fewer than 2^32 bytes, if the operator always gives so few.
few_one : (merge : Operator) → IsShort merge → (key : List ℕ) (e : Option Outcome) (x : Outcome) → IsFew (merge_one merge key e x)
few_one merge short key (Some (Refused message)) x = tt
few_one merge short key None (Refused message) = tt
few_one merge short key (Some (Merged bytes)) (Refused message) = tt
few_one merge short key None (Merged operand) = by (merge key None operand) refl
  where
    by : (o : Outcome) → merge key None operand ≡ o → IsFew o
    by (Merged bytes) e = short key None operand bytes e
    by (Refused message) e = tt
few_one merge short key (Some (Merged old)) (Merged operand) = by (merge key (Some old) operand) refl
  where
    by : (o : Outcome) → merge key (Some old) operand ≡ o → IsFew o
    by (Merged bytes) e = short key (Some old) operand bytes e
    by (Refused message) e = tt

few_fold : (merge : Operator) → IsShort merge → (key : List ℕ) (e : Option Outcome) (xs : List Outcome) → IfSome e IsFew → IfSome (fold merge key e xs) IsFew
few_fold merge short key e [] few = few
few_fold merge short key e (x ∷ xs) few = few_fold merge short key (Some (merge_one merge key e x)) xs (few_one merge short key e x)

-- ---- groups

abbrev FewBase : GroupBase → Type 0
FewBase NoBase = ⊤
FewBase TombstoneBase = ⊤
FewBase (ValueBase bytes) = length bytes < 2 ^ 32

base_few : (rows : List Row) → AreInBounds rows → FewBase (group_base rows)
base_few [] h = tt
base_few (r ∷ rows) h = by r.content (h.0.content) (base_few rows h.1)
  where
    by : (content : Content) → content_len content < 2 ^ 32 → FewBase (group_base rows) → FewBase (base_in content (group_base rows))
    by (Value bytes) few rest = few
    by (Merge bytes) few rest = rest
    by Tombstone few rest = tt

bytes_few : (base : GroupBase) → FewBase base → IfSome (option_map Merged (base_bytes base)) IsFew
bytes_few NoBase few = tt
bytes_few TombstoneBase few = tt
bytes_few (ValueBase bytes) few = few

content_few : (base : GroupBase) (o : Option Outcome) → IfSome o IsFew → IfSome (content_of base o) (λ content. content_len content < 2 ^ 32)
content_few (ValueBase base) (Some (Merged bytes)) few = few
content_few TombstoneBase (Some (Merged bytes)) few = few
content_few NoBase (Some (Merged bytes)) few = few
content_few base (Some (Refused message)) few = tt
content_few base None few = tt

-- The row that a group of rows in bounds is folded into is in bounds, if merged bytes are few enough.
chunk_in_bounds : (merge : Operator) → IsShort merge → (cut : ℕ) (g : Chunk Row) → AreInBounds (elements g) → IfSome (folded_chunk merge cut g) IsInBounds
chunk_in_bounds merge short cut g h = by (opens_group cut g.0)
  where
    with_content : (content : Option Content) → IfSome content (λ c. content_len c < 2 ^ 32) → IfSome (option_map (λ c. record g.0 { content = c; created = greatest_created (elements g) }) content) IsInBounds
    with_content None few = tt
    with_content (Some c) few = record { key = h.0.key; content = few }

    by : (b : Bool) → IfSome (cond b (group_row merge g) (Some g.0)) IsInBounds
    by true = with_content (group_content merge g.0.key (elements g))
        (content_few (group_base (elements g)) (fold_bytes merge g.0.key (base_bytes (group_base (elements g))) (group_operands (elements g)))
        (few_fold merge short g.0.key (option_map Merged (base_bytes (group_base (elements g)))) (map Merged (group_operands (elements g))) (bytes_few (group_base (elements g)) (base_few (elements g) h))))
    by false = h.0

-- If rows are in bounds, so are the rows of each group that they are divided into.
chunks_in_bounds : (joins : Row → Row → Bool) (rows : List Row) → AreInBounds rows → AllByRecursion (λ g. AreInBounds (elements g)) (chunk_by joins rows)
chunks_in_bounds joins [] h = tt
chunks_in_bounds joins (r ∷ rows) h = put (chunk_by joins rows) (chunks_in_bounds joins rows h.1)
  where
    put : (gs : List (Chunk Row)) → AllByRecursion (λ g. AreInBounds (elements g)) gs → AllByRecursion (λ g. AreInBounds (elements g)) (put_before joins r gs)
    put [] all = ((h.0, tt), tt)
    put (g ∷ gs) all = by (joins r g.0)
      where
        by : (b : Bool) → AllByRecursion (λ g. AreInBounds (elements g)) (cond b ((r, g.0 ∷ g.1) ∷ gs) ((r, []) ∷ g ∷ gs))
        by true = ((h.0, all.0), all.1)
        by false = ((h.0, tt), all)

-- The rows that rows in bounds are folded into are in bounds, if merged bytes are few enough.
folded_in_bounds : (merge : Operator) → IsShort merge → (cut : ℕ) (rows : List Row) → AreInBounds rows → IfSome (folded_rows merge cut rows) AreInBounds
folded_in_bounds merge short cut rows h = each (operand_groups cut rows) (chunks_in_bounds (takes_next cut) rows h)
  where
    both : (x : Option Row) (xs : Option (List Row)) → IfSome x IsInBounds → IfSome xs AreInBounds → IfSome (cons_both x xs) AreInBounds
    both None xs one all = tt
    both (Some x) None one all = tt
    both (Some x) (Some xs) one all = (one, all)

    each : (gs : List (Chunk Row)) → AllByRecursion (λ g. AreInBounds (elements g)) gs → IfSome (all_or_none (map (folded_chunk merge cut) gs)) AreInBounds
    each [] all = tt
    each (g ∷ gs) all = both (folded_chunk merge cut g) (all_or_none (map (folded_chunk merge cut) gs)) (chunk_in_bounds merge short cut g all.0) (each gs all.1)

-- ---- retention

tombstone_in_bounds : (tick : ℤ) (r : Row) → IsInBounds r → IsInBounds (as_tombstone_if_expired tick r)
tombstone_in_bounds tick r h = by (is_expired r tick)
  where
    by : (b : Bool) → IsInBounds (cond b (record r { content = Tombstone; expires = None }) r)
    by true = record { key = h.key; content = omega arith }
    by false = h

walk_in_bounds : (cut : ℕ) (tick : ℤ) (rows : List Row) → AreInBounds rows → AreInBounds (retention_walk cut tick rows)
walk_in_bounds cut tick [] h = tt
walk_in_bounds cut tick (r ∷ rows) h = by (is_operand r) (is_expired r tick) (nat_le r.seq cut) (walk_in_bounds cut tick rows h.1)
  where
    by : (operand expired low : Bool) → AreInBounds (retention_walk cut tick rows)
        → AreInBounds (cond operand (cond expired (retention_walk cut tick rows) (r ∷ retention_walk cut tick rows)) (cond low (as_tombstone_if_expired tick r ∷ []) (as_tombstone_if_expired tick r ∷ retention_walk cut tick rows)))
    by true true low rest = rest
    by true false low rest = (h.0, rest)
    by false expired true rest = (tombstone_in_bounds tick r h.0, tt)
    by false expired false rest = (tombstone_in_bounds tick r h.0, rest)

-- If rows are in bounds, so are those that are left without old tombstones.
without_in_bounds : (rows : List Row) → AreInBounds rows → AreInBounds (without_old_tombstones rows)
without_in_bounds [] h = tt
without_in_bounds (r ∷ rows) h = before (without_old_tombstones rows) (without_in_bounds rows h.1)
  where
    alone : (b : Bool) → AreInBounds (cond b [] (r ∷ []))
    alone true = tt
    alone false = (h.0, tt)

    before : (older : List Row) → AreInBounds older → AreInBounds (before_old_tombstones r older)
    before [] all = alone (is_tombstone r.content)
    before (q ∷ older) all = (h.0, all)

kept_in_bounds : (s : Settings) (rows : List Row) → AreInBounds rows → AreInBounds (kept_rows s rows)
kept_in_bounds s rows h = by s.last_run
  where
    by : (b : Bool) → AreInBounds (cond b (without_old_tombstones (retention_walk s.cut s.tick rows)) (retention_walk s.cut s.tick rows))
    by true = without_in_bounds (retention_walk s.cut s.tick rows) (walk_in_bounds s.cut s.tick rows h)
    by false = walk_in_bounds s.cut s.tick rows h

-- ---- a job

-- The rows that a job makes of rows in bounds are in bounds, if merged bytes are few enough.
job_in_bounds : (merge : Operator) → IsShort merge → (s : Settings) (rows : List Row) → AreInBounds rows → AreInBounds (job_rows merge s rows).rows
job_in_bounds merge short s rows h = each (chunk_by same_key rows) (chunks_in_bounds same_key rows h)
  where
    key : (folded : Option (List Row)) → IfSome folded AreInBounds → IfSome (option_map (kept_rows s) folded) AreInBounds
    key None all = tt
    key (Some rows) all = kept_in_bounds s rows all

    join : (rows : Option (List Row)) (later : JobRows) → IfSome rows AreInBounds → AreInBounds later.rows → AreInBounds (before_refusal rows later).rows
    join None later one all = tt
    join (Some rows) later one all = all_append IsInBounds rows later.rows one all

    each : (gs : List (Chunk Row)) → AllByRecursion (λ g. AreInBounds (elements g)) gs → AreInBounds (joined_keys (map (λ g. key_rows merge s (elements g)) gs)).rows
    each [] all = tt
    each (g ∷ gs) all = join (key_rows merge s (elements g)) (joined_keys (map (λ g. key_rows merge s (elements g)) gs)) (key (folded_rows merge s.cut (elements g)) (folded_in_bounds merge short s.cut (elements g) all.0)) (each gs all.1)

-- ---- the sources

insert_in_bounds : (r : Row) (rows : List Row) → IsInBounds r → AreInBounds rows → AreInBounds (insert_row r rows)
insert_in_bounds r [] one all = (one, tt)
insert_in_bounds r (q ∷ rows) one all = by (is_lt (row_cmp r q)) (insert_in_bounds r rows one all.1)
  where
    by : (b : Bool) → AreInBounds (insert_row r rows) → AreInBounds (cond b (r ∷ q ∷ rows) (q ∷ insert_row r rows))
    by true rest = (one, all)
    by false rest = (all.0, rest)

sorted_in_bounds : (rows : List Row) → AreInBounds rows → AreInBounds (sorted_rows rows)
sorted_in_bounds [] all = tt
sorted_in_bounds (r ∷ rows) all = insert_in_bounds r (sorted_rows rows) all.0 (sorted_in_bounds rows all.1)

table_in_bounds : (tables : Tables) (id : ℕ) → AllByRecursion (λ table. IsTable table.1) tables → AreInBounds (table_rows tables id)
table_in_bounds [] id all = tt
table_in_bounds (table ∷ tables) id all = by (table.0 == id) (table_in_bounds tables id all.1)
  where
    by : (b : Bool) → AreInBounds (table_rows tables id) → AreInBounds (rows_or_none (cond b (Some table) (find (λ held. held.0 == id) tables)))
    by true rest = all.0.bounds
    by false rest = rest

sources_in_bounds : (tables : Tables) (sources : List ℕ) → AllByRecursion (λ table. IsTable table.1) tables → AreInBounds (source_rows tables sources)
sources_in_bounds tables sources all = sorted_in_bounds (flat_map (table_rows tables) sources) (each sources)
  where
    each : (ids : List ℕ) → AreInBounds (flat_map (table_rows tables) ids)
    each [] = tt
    each (id ∷ ids) = all_append IsInBounds (table_rows tables id) (flat_map (table_rows tables) ids) (table_in_bounds tables id all) (each ids)

-- ---- parts of ordered rows

pub ordered_take : (n : ℕ) (rows : List Row) → IsStrictlyOrdered rows → IsStrictlyOrdered (take n rows)
unfolding IsStrictlySortedBy
ordered_take zero rows h = tt
ordered_take (suc n) [] h = tt
ordered_take (suc n) (r ∷ rows) h = (all_take (λ q. row_cmp r q ≡ Less) n rows h.0, ordered_take n rows h.1)

ordered_drop : (n : ℕ) (rows : List Row) → IsStrictlyOrdered rows → IsStrictlyOrdered (drop n rows)
unfolding IsStrictlySortedBy
ordered_drop zero rows h = h
ordered_drop (suc n) [] h = tt
ordered_drop (suc n) (r ∷ rows) h = ordered_drop n rows h.1

drop_in_bounds : (n : ℕ) (rows : List Row) → AreInBounds rows → AreInBounds (drop n rows)
drop_in_bounds zero rows h = h
drop_in_bounds (suc n) [] h = tt
drop_in_bounds (suc n) (r ∷ rows) h = drop_in_bounds n rows h.1

-- The rows that are left of a range are in order and in bounds.
pub record AreGood (rows : List Row) : Type 0 where
  pub ordered : IsStrictlyOrdered rows
  pub bounds : AllByRecursion IsInBounds rows

pub left_good : (merge : Operator) (tables : Tables) (settings : Settings) (sources : List ℕ) (range : Range × List ℕ) → IsShort merge → AllByRecursion (λ table. IsTable table.1) tables → IsStrictlyOrdered (source_rows tables sources)
    → AreGood (rows_left merge tables settings sources range).rows
left_good merge tables settings sources range short all ordered =
    let test = λ (r : Row). is_in_range range.0 r.key in
    let rows = source_rows tables sources in
    record {
      ordered = ordered_drop (length (noted_rows tables range.1)) (range_rows merge tables settings sources range.0).rows (jobs_keep_order merge settings (rows_in range.0 rows) (ordered_filter test rows ordered));
      bounds = drop_in_bounds (length (noted_rows tables range.1)) (range_rows merge tables settings sources range.0).rows
          (job_in_bounds merge short settings (rows_in range.0 rows) (all_filter IsInBounds test rows (sources_in_bounds tables sources all)));
    }

pub take_good : (n : ℕ) (rows : List Row) → AreGood rows → AreGood (take n rows)
take_good n rows h = record { ordered = ordered_take n rows h.ordered; bounds = all_take IsInBounds n rows h.bounds }
