-- Small examples of the definitions: what a job makes of some rows and how they read, how rows are cut into
-- tables and blocks, and how keys are cut into ranges.
use Rattle.std.specs.Prelude.{◌≡◌, ℕ, ◌^◌, ℤ, pos, Bool, true, false, List, [], ◌∷◌, ◌++◌, map, length, Option, Some, None, codes}
use Rattle.row_model.specs.Rows.{Row, Content, Value, Merge, Tombstone}
use Rattle.row_model.specs.Fold.{Merged}
use Rattle.row_model.specs.Append.{append}
use Rattle.row_model.specs.Read.{read}
use Rattle.row_model.specs.Settings.{Settings}
use Rattle.row_model.specs.FoldedRows.{folded_rows}
use Rattle.row_model.specs.KeptRows.{kept_rows}
use Rattle.row_model.specs.JobRows.{job_rows}
use Rattle.row_model.specs.Ranges.{Range, Unbounded, Included, Excluded, all_keys}
use Rattle.row_model.specs.Written.Sizes.{Block, blocks, encoded_size, estimated_size, table_size}
use Rattle.row_model.specs.Written.Tables.{cut_tables}
use Rattle.row_model.specs.Written.TableBytes.{table_bytes}
use Rattle.row_model.specs.Written.Plan.{Anchor, select_boundaries, sample_anchors}

-- A row with the key "a" and no creation stamp.
abbrev pub a_row : Content → ℕ → Option ℤ → Row
a_row content seq expires = record { key = codes "a"; content = content; seq = seq; created = None; expires = expires }

-- Settings whose floor is equal to the cut.
abbrev pub settings : ℕ → ℤ → Bool → Settings
settings cut tick last_run = record { floor = cut; tick = tick; last_run = last_run; cut = cut }

-- Settings whose cut may be below the floor, so that more versions are kept. The job writes the last run.
abbrev pub settings_under : (floor cut : ℕ) → Settings
settings_under floor cut = record { floor = floor; tick = pos 0; last_run = true; cut = cut }

-- ---- a tombstone above two values

abbrev pub versions : List Row
versions = a_row Tombstone 4 None ∷ a_row (Value (codes "v1")) 2 None ∷ a_row (Value (codes "v0")) 1 None ∷ []

abbrev pub kept_versions : List Row
kept_versions = a_row Tombstone 4 None ∷ a_row (Value (codes "v1")) 2 None ∷ []

-- With the cut 3 the oldest version goes. The reads at 3 and at 4 answer as before.
pub record OldVersionsGo : Type 0 where
  pub made : job_rows append (settings 3 (pos 0) true) versions ≡ record { rows = kept_versions; whole = true }
  pub made_above_a_run : kept_rows (settings 3 (pos 0) false) versions ≡ kept_versions
  pub read_at_3 : read append (codes "a") 3 (pos 0) versions ≡ Some (Merged (codes "v1"))
  pub kept_at_3 : read append (codes "a") 3 (pos 0) kept_versions ≡ Some (Merged (codes "v1"))
  pub read_at_4 : read append (codes "a") 4 (pos 0) versions ≡ None
  pub kept_at_4 : read append (codes "a") 4 (pos 0) kept_versions ≡ None

-- With the cut 4 only the tombstone is left above another run. In the last run the tombstone goes too,
-- since nothing older than it is kept.
pub record OldTombstonesGo : Type 0 where
  pub above_a_run : kept_rows (settings 4 (pos 0) false) versions ≡ a_row Tombstone 4 None ∷ []
  pub in_the_last_run : kept_rows (settings 4 (pos 0) true) versions ≡ []

-- With the floor 4 and the cut 4 nothing is left. With the floor 4 and the cut 2, the read at 2 answers as
-- before.
pub record TheCutKeepsVersions : Type 0 where
  pub at_the_floor : job_rows append (settings_under 4 4) versions ≡ record { rows = []; whole = true }
  pub below_the_floor : job_rows append (settings_under 4 2) versions ≡ record { rows = kept_versions; whole = true }
  pub read_at_2 : read append (codes "a") 2 (pos 0) versions ≡ Some (Merged (codes "v1"))
  pub kept_at_2 : read append (codes "a") 2 (pos 0) kept_versions ≡ Some (Merged (codes "v1"))

-- ---- operands

abbrev pub two_stamps : List Row
two_stamps =
    a_row (Merge (codes "z")) 3 None ∷ a_row (Merge (codes "y")) 2 None ∷ a_row (Merge (codes "x")) 1 (Some (pos 10))
    ∷ []

-- Operands with the same stamp are folded, oldest first. An operand with another stamp stays apart and
-- expires by itself.
pub record StampsStayApart : Type 0 where
  pub made : job_rows append (settings 5 (pos 0) true) two_stamps
      ≡ record {
        rows = a_row (Merge (codes "yz")) 3 None ∷ a_row (Merge (codes "x")) 1 (Some (pos 10)) ∷ [];
        whole = true;
      }
  pub read_before : read append (codes "a") 5 (pos 5) two_stamps ≡ Some (Merged (codes "xyz"))
  pub read_after : read append (codes "a") 5 (pos 20) two_stamps ≡ Some (Merged (codes "yz"))

abbrev pub expiring : List Row
expiring = a_row (Merge (codes "m")) 2 (Some (pos 10)) ∷ a_row (Value (codes "v")) 1 (Some (pos 10)) ∷ []

-- An operand is folded onto a value with the same expiry before either is dropped, and the resulting value
-- is expired. In the last run nothing is left of it. Above another run a tombstone is left, which hides
-- older rows.
pub record FoldedAndThenExpired : Type 0 where
  pub folded : folded_rows append 5 expiring ≡ Some (a_row (Value (codes "vm")) 2 (Some (pos 10)) ∷ [])
  pub made : job_rows append (settings 5 (pos 10) true) expiring ≡ record { rows = []; whole = true }
  pub made_above_a_run : job_rows append (settings 5 (pos 10) false) expiring
      ≡ record { rows = a_row Tombstone 2 None ∷ []; whole = true }
  pub read_at_5 : read append (codes "a") 5 (pos 10) expiring ≡ None

abbrev pub three_operands : List Row
three_operands =
    a_row (Merge (codes "3")) 3 None ∷ a_row (Merge (codes "2")) 2 None ∷ a_row (Merge (codes "1")) 1 None ∷ []

-- Operands above the cut are not folded, even if they are at or below the floor.
pub record TheCutKeepsOperands : Type 0 where
  pub at_3 : folded_rows append 3 three_operands ≡ Some (a_row (Merge (codes "123")) 3 None ∷ [])
  pub at_2 : folded_rows append 2 three_operands
      ≡ Some (a_row (Merge (codes "3")) 3 None ∷ a_row (Merge (codes "12")) 2 None ∷ [])
  pub at_0 : folded_rows append 0 three_operands ≡ Some three_operands
  pub below_the_floor : job_rows append (settings_under 3 2) three_operands
      ≡ record { rows = a_row (Merge (codes "3")) 3 None ∷ a_row (Merge (codes "12")) 2 None ∷ []; whole = true }

-- ---- sizes, blocks and tables

abbrev pub greeting : Content → Option ℤ → Row
greeting content created = record { key = codes "hello"; content = content; seq = 0; created = created; expires = None }

-- The sizes of rows written with 0, 2 and 4 shared bytes of their key, and the estimated sizes of rows with
-- and without a creation stamp.
pub record RowsHaveSizes : Type 0 where
  pub tombstone : map (encoded_size (greeting Tombstone None)) (0 ∷ 2 ∷ 4 ∷ []) ≡ 18 ∷ 16 ∷ 14 ∷ []
  pub value : map (encoded_size (greeting (Value (codes "val")) None)) (0 ∷ 2 ∷ 4 ∷ []) ≡ 25 ∷ 23 ∷ 21 ∷ []
  pub estimated : estimated_size (greeting (Value (codes "val")) None) ≡ 16
  pub stamped : estimated_size (greeting (Value (codes "val")) (Some (pos 7))) ≡ 24

-- Five rows of ten bytes each.
abbrev pub five_versions : List Row
five_versions =
    a_row (Value (codes "5")) 5 None ∷ a_row (Value (codes "4")) 4 None ∷ a_row (Value (codes "3")) 3 None
    ∷ a_row (Value (codes "2")) 2 None ∷ a_row (Value (codes "1")) 1 None ∷ []

-- The five rows make one block. Cut at 15 bytes, they make tables of two, two and one rows: a table ends
-- with the row with which it exceeds the size.
pub record TablesAreCut : Type 0 where
  pub bytes : table_size five_versions ≡ 50
  pub one_block : blocks five_versions ≡ record { first_key = codes "a"; offset = 0 } ∷ []
  pub rows_of_tables : map length (cut_tables 15 five_versions) ≡ 2 ∷ 2 ∷ 1 ∷ []

-- ---- bytes

-- Two rows of one key make one block. The second row shares the whole key.
abbrev pub two_versions : List Row
two_versions = a_row (Value (codes "5")) 5 None ∷ a_row (Value (codes "4")) 4 None ∷ []

abbrev pub frame_of_two : List ℕ
frame_of_two = 0 ∷ 0 ∷ 0 ∷ 0 ∷ 0 ∷ 0 ∷ 0 ∷ 1 ∷ 0 ∷ 2 ∷ 0 ∷ 0 ∷ 0 ∷ 0 ∷ 0 ∷ 0 ∷ 0 ∷ 0x25 ∷ []

abbrev pub first_of_two : List ℕ
first_of_two = 0 ∷ 0 ∷ 0 ∷ 1 ∷ 0x61 ∷ 0 ∷ 0 ∷ 0 ∷ 0 ∷ 0 ∷ 0 ∷ 0 ∷ 5 ∷ 0 ∷ 0 ∷ 0 ∷ 0 ∷ 1 ∷ 0x35 ∷ []

abbrev pub second_of_two : List ℕ
second_of_two = 0 ∷ 1 ∷ 0 ∷ 0 ∷ 0 ∷ 0 ∷ 0 ∷ 0 ∷ 0 ∷ 0 ∷ 0 ∷ 4 ∷ 0 ∷ 0 ∷ 0 ∷ 0 ∷ 1 ∷ 0x34 ∷ []

-- The two rows as bytes: the number of blocks, the header of the block, and the rows.
pub record TablesHaveBytes : Type 0 where
  pub bytes : table_bytes two_versions ≡ frame_of_two ++ first_of_two ++ second_of_two
  pub count : length (table_bytes two_versions) ≡ 55

-- ---- plans

abbrev pub key : ℕ → List ℕ
key n = 0x6b ∷ n ∷ []

abbrev pub anchor : (n bytes : ℕ) → Anchor
anchor n bytes = record { key = key n; bytes = bytes }

abbrev pub below : ℕ → Range
below n = record { from = Unbounded; to = Excluded (key n) }

abbrev pub between : (m n : ℕ) → Range
between m n = record { from = Included (key m); to = Excluded (key n) }

abbrev pub from : ℕ → Range
from n = record { from = Included (key n); to = Unbounded }

-- A cut comes where the earlier bytes reach the next threshold, at most once at each key, so a range after
-- a large one may be small. There is one range if all bytes are at most the least share. Sums of bytes stop
-- at 2^64 - 1.
pub record KeysAreCut : Type 0 where
  pub even : select_boundaries (anchor 0 100 ∷ anchor 10 100 ∷ anchor 20 100 ∷ anchor 30 100 ∷ []) 4 1
      ≡ below 10 ∷ between 10 20 ∷ between 20 30 ∷ from 30 ∷ []
  pub one_key_thrice : select_boundaries
      (anchor 0 400 ∷ anchor 0 400 ∷ anchor 0 400 ∷ anchor 10 400 ∷ anchor 20 400 ∷ []) 4 1
      ≡ below 10 ∷ between 10 20 ∷ from 20 ∷ []
  pub heavy_first : select_boundaries
      (anchor 0 1000 ∷ anchor 10 10 ∷ anchor 20 10 ∷ anchor 30 10 ∷ anchor 40 10 ∷ []) 2 1
      ≡ below 10 ∷ from 10 ∷ []
  pub small_after_heavy : select_boundaries (anchor 0 1000 ∷ anchor 10 10 ∷ anchor 20 10 ∷ []) 3 100
      ≡ below 10 ∷ between 10 20 ∷ from 20 ∷ []
  pub too_small : select_boundaries (anchor 0 100 ∷ anchor 10 100 ∷ []) 4 1000 ≡ all_keys ∷ []
  pub huge : select_boundaries (anchor 0 (2 ^ 63) ∷ anchor 10 (2 ^ 63) ∷ anchor 20 (2 ^ 63) ∷ []) 2 1
      ≡ below 10 ∷ from 10 ∷ []

abbrev pub block : (n offset : ℕ) → Block
block n offset = record { first_key = key n; offset = offset }

abbrev pub four_blocks : List Block
four_blocks = block 0 0 ∷ block 10 100 ∷ block 20 200 ∷ block 30 300 ∷ []

-- An anchor has the first key and the bytes of its blocks. Anchors outside the range are left out. Blocks
-- are grouped if there may be fewer anchors than blocks.
pub record AnchorsAreSampled : Type 0 where
  pub in_a_range : sample_anchors four_blocks 400 4 (between 10 30) ≡ anchor 10 100 ∷ anchor 20 100 ∷ []
  pub in_groups : sample_anchors four_blocks 450 2 all_keys ≡ anchor 0 200 ∷ anchor 20 250 ∷ []
