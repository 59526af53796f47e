-- Tables hold rows in order of key and sequence. A row may have an expiry, and from that moment on it is
-- expired.
use Rattle.std.specs.Prelude.{ℕ, Bool, true, false, ◌&&◌, ℤ, int_le, List, [], ◌∷◌, Option, Some, None, bytes_eq, if◌then◌else◌}
use Rattle.std.specs.declared.cmp.Ordering.{Ordering}
use Rattle.std.specs.Ordering.{nat_cmp, ordering_then, is_lt}
use Rattle.std.specs.Cmp.Lexicographic.{slice_cmp}
use Rattle.std.specs.List.Sorted.{IsStrictlySortedBy}
use Rattle.row_model.specs.Lists.{insert_before}

-- The content of a row: a value, an operand that is merged onto older rows, or a tombstone that says that
-- the key is deleted.
pub data Content : Type 0 where
  Value : (bytes : List ℕ) → Content
  Merge : (bytes : List ℕ) → Content
  Tombstone : Content

-- A row gives its key a content at a sequence. It may have a creation stamp and an expiry, each a moment in
-- milliseconds.
pub record Row : Type 0 where
  pub key : List ℕ
  pub content : Content
  pub seq : ℕ  -- the newer of two rows of a key has the greater one
  pub created : Option ℤ  -- the moment of its creation, if it is known
  pub expires : Option ℤ  -- from this moment on the row is expired

-- Compares keys byte by byte. A key is less than each longer key that begins with it.
abbrev pub key_cmp : (a b : List ℕ) → Ordering
key_cmp = slice_cmp nat_cmp

-- The order of rows: keys rise, and within a key sequences fall.
abbrev pub row_cmp : (a b : Row) → Ordering
row_cmp a b = ordering_then (key_cmp a.key b.key) (nat_cmp b.seq a.seq)

-- Rows are strictly ordered if keys rise, within a key sequences fall, and no two rows have both key and
-- sequence in common.
abbrev pub IsStrictlyOrdered : List Row → Type 0
IsStrictlyOrdered rows = IsStrictlySortedBy row_cmp rows

-- Tests whether rows are strictly ordered: each row must be before the next one.
abbrev pub are_ordered : List Row → Bool
are_ordered [] = true
are_ordered (r ∷ []) = true
are_ordered (r ∷ q ∷ rows) = is_lt (row_cmp r q) && are_ordered (q ∷ rows)

abbrev pub same_key : (a b : Row) → Bool
same_key a b = bytes_eq a.key b.key

-- The rows of one key, in their order.
abbrev pub rows_of_key : List ℕ → List Row → List Row
rows_of_key key [] = []
rows_of_key key (r ∷ rows) = if bytes_eq key r.key then r ∷ rows_of_key key rows else rows_of_key key rows

-- Inserts a row into ordered rows, in front of the first row that is after it.
abbrev pub insert_row : Row → List Row → List Row
insert_row r rows = insert_before {A = Row} (λ a b. is_lt (row_cmp a b)) r rows

-- Sorts rows: each row is inserted into the sorted later rows.
abbrev pub sorted_rows : List Row → List Row
sorted_rows [] = []
sorted_rows (r ∷ rows) = insert_row r (sorted_rows rows)

abbrev pub is_merge : Content → Bool
is_merge (Value bytes) = false
is_merge (Merge bytes) = true
is_merge Tombstone = false

abbrev pub is_tombstone : Content → Bool
is_tombstone (Value bytes) = false
is_tombstone (Merge bytes) = false
is_tombstone Tombstone = true

abbrev pub is_operand : Row → Bool
is_operand r = is_merge r.content

-- True if the stamp is present and at most `now`.
abbrev pub is_reached : Option ℤ → ℤ → Bool
is_reached None now = false
is_reached (Some stamp) now = int_le stamp now

abbrev pub is_expired : Row → ℤ → Bool
is_expired r now = is_reached r.expires now
