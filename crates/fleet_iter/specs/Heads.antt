-- The heads of a merge, as contracts see them and as a heap holds them.
use Rattle.std.specs.Prelude.{◌≡◌, ℕ, ◌<◌, List, Option, Some, None, map, nat_eq}
use Rattle.std.specs.List.{AllByRecursion, IsDistinct, range_with_len, slice_set}
use Rattle.std.specs.Map.{keys_of, lookup}
use Rattle.std.specs.BinaryHeap.{IsHeap}
use Rattle.std.specs.declared.cmp.Reverse.{Reverse}
use Rattle.fleet_rows.specs.declared.row.RowEntry.{RowEntry}
use Rattle.fleet_iter.specs.declared.iterator.IterationOrder.{IterationOrder}
use Rattle.fleet_iter.specs.declared.entry.MergeIteratorHeapEntry.{MergeIteratorHeapEntry}
use Rattle.fleet_iter.specs.Entry.{entry_cmp}

-- The heads of a merge in an order: the next row of each source, or none if the source has no row left.
pub record HeadRows : Type 0 where
  pub order : IterationOrder
  pub rows : List (Option RowEntry)

-- The rows of entries, each with the place of its source.
abbrev pub placed_rows : List (Reverse MergeIteratorHeapEntry) → List (ℕ × RowEntry)
placed_rows es = map (λ e. (e.0.index, e.0.row)) es

-- The heads of the first sources, of which entries have the rows.
abbrev pub heads_of : ℕ → List (Reverse MergeIteratorHeapEntry) → List (Option RowEntry)
heads_of count es = map (λ place. lookup (nat_eq place) (placed_rows es)) (range_with_len 0 count)

-- Entries of a merge in an order, of so many sources. They are a heap with the least entry on top, and no two
-- of them are of one source.
pub record AreHeads (order : IterationOrder) (count : ℕ) (es : List (Reverse MergeIteratorHeapEntry)) : Type 0 where
  pub heap : IsHeap (λ a b. entry_cmp b.0 a.0) es
  pub within : AllByRecursion (λ e. (e.0.order ≡ order) × (e.0.index < count)) es
  pub apart : IsDistinct nat_eq (keys_of (placed_rows es))

-- The heads after the least one was taken and its source's next row has come in its place.
abbrev pub refilled_heads : Option (ℕ × RowEntry) → Option RowEntry → List (Option RowEntry) → List (Option RowEntry)
refilled_heads None head hs = hs
refilled_heads (Some p) head hs = slice_set hs p.0 head
