-- A plan cuts all keys into ranges, so that a compaction can make them side by side.
use Rattle.std.specs.Prelude.{ℕ, ◌+◌, ◌-◌, ◌/◌, ◌%◌, ◌&&◌, ◌||◌, nat_lt, nat_le, ◌==◌, max, if◌then◌else◌, List, [], ◌∷◌, filter, flat_map, length, sum_by}
use Rattle.std.specs.Ordering.{is_lt}
use Rattle.row_model.specs.Lists.{insert_after}
use Rattle.row_model.specs.Rows.{Row, key_cmp}
use Rattle.row_model.specs.Written.Sizes.{Block, blocks, table_size, saturated_sum}
use Rattle.row_model.specs.Ranges.{Range, Unbounded, ranges_from, is_in_range, all_keys}

-- An anchor represents some neighbouring blocks of a table. It has their first key and their size in bytes.
pub record Anchor : Type 0 where
  pub key : List ℕ
  pub bytes : ℕ

-- The greatest number of anchors that one table gives to a plan.
abbrev pub max_anchors : ℕ
max_anchors = 128

-- Takes the blocks whose number is a multiple of the stride. The blocks are numbered from `i` on.
abbrev pub every : (stride i : ℕ) (bs : List Block) → List Block
every stride i [] = []
every stride i (b ∷ bs) = if i % stride == 0 then b ∷ every stride (i + 1) bs else every stride (i + 1) bs

-- Gives an anchor for each block. Its bytes reach up to the next block, and for the last block up to `end`.
abbrev pub spans : ℕ → List Block → List Anchor
spans end [] = []
spans end (b ∷ []) = record { key = b.first_key; bytes = end - b.offset } ∷ []
spans end (b ∷ c ∷ bs) = record { key = b.first_key; bytes = c.offset - b.offset } ∷ spans end (c ∷ bs)

-- Puts the blocks of a table into at most `most` groups, where 0 counts as 1. Each group gives an anchor,
-- unless its first key is outside the range. The last block ends at `end` bytes.
abbrev pub sample_anchors : (bs : List Block) (end most : ℕ) (range : Range) → List Anchor
sample_anchors bs end most range =
    let groups = max most 1 in
    filter (λ a. is_in_range range a.key) (spans end (every ((length bs + groups - 1) / groups) 0 bs))

-- Puts an anchor into a list in order of key, before the anchors with an equal or a greater key.
abbrev pub put_anchor : Anchor → List Anchor → List Anchor
put_anchor a anchors = insert_after {A = Anchor} (λ a b. is_lt (key_cmp a.key b.key)) a anchors

-- Sorts anchors by key. Anchors with equal keys keep their order.
abbrev pub anchors_by_key : List Anchor → List Anchor
anchors_by_key [] = []
anchors_by_key (a ∷ anchors) = put_anchor a (anchors_by_key anchors)

-- The keys at which ranges are cut, for anchors in order of key. A cut comes at an anchor if three things
-- hold. The bytes of all anchors before it reach the threshold. Fewer than most - 1 cuts were made before
-- it. Its key is greater than `last`: the key of the last cut, or the smallest key if there was no cut.
-- Each cut raises the threshold by the target, while the bytes are still counted from the first anchor.
abbrev pub cuts : (most target standing before threshold : ℕ) (last : List ℕ) (anchors : List Anchor) → List (List ℕ)
cuts most target standing before threshold last [] = []
cuts most target standing before threshold last (a ∷ anchors) =
    if nat_le threshold before && nat_lt (standing + 1) most && is_lt (key_cmp last a.key)
    then a.key ∷ cuts most target (standing + 1) (saturated_sum (before + a.bytes))
    (saturated_sum (threshold + target)) a.key anchors
    else cuts most target standing (saturated_sum (before + a.bytes)) threshold last anchors

-- The key of the first anchor, which is the smallest key if the anchors are in order of key. It is empty if
-- there is no anchor.
abbrev pub smallest_key : List Anchor → List ℕ
smallest_key [] = []
smallest_key (a ∷ anchors) = a.key

abbrev pub cut_anchors : (most target : ℕ) (anchors : List Anchor) → List (List ℕ)
cut_anchors most target anchors = cuts most target 0 0 target (smallest_key anchors) anchors

-- The ranges that the anchors are cut into: at least one, and at most max_ranges if that is positive. The
-- target is the share of one range in all bytes, but at least min_range_bytes. A range may still have fewer
-- bytes: after an anchor of many bytes the next threshold may be reached at once.
abbrev pub select_boundaries : (anchors : List Anchor) (max_ranges min_range_bytes : ℕ) → List Range
select_boundaries anchors max_ranges min_range_bytes =
    let total = saturated_sum (sum_by (λ a. a.bytes) anchors) in
    let target = max (total / max_ranges) min_range_bytes in
    if nat_le max_ranges 1 || target == 0 || nat_le total target then all_keys ∷ []
    else ranges_from Unbounded (cut_anchors max_ranges target (anchors_by_key anchors))

-- The size in bytes of the largest table, or 0 if there is no table.
abbrev pub greatest_size : List (List Row) → ℕ
greatest_size [] = 0
greatest_size (rows ∷ tables) = max (table_size rows) (greatest_size tables)

-- The ranges planned for a job over these tables: at most `most`, or one if `most` is 0. The target is at
-- least the size of the largest table.
unfoldable pub planned_ranges : ℕ → List (List Row) → List Range
planned_ranges most tables =
    select_boundaries
    (flat_map (λ rows. sample_anchors (blocks rows) (table_size rows) max_anchors all_keys) tables) most
    (greatest_size tables)
