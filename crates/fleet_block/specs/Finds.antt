-- What a reader finds at a place in some bytes.
use Rattle.std.specs.Prelude.{◌≡◌, ◌≢◌, ℕ, ◌+◌, ◌<◌, ◌≤◌, List, [], ◌∷◌, ◌++◌, length, drop, Option, Some, None, IfSome, option_map, ⊤}
use Rattle.std.specs.List.{AllByRecursion, flat_map}
use Rattle.row_model.specs.Rows.{Row}
use Rattle.row_model.specs.Written.Sizes.{block_bytes, estimated_size}
use Rattle.row_model.specs.Written.TableBytes.{bytes_of_blocks, header_bytes, row_bytes, rows_bytes, IsWritable}

-- The reader found this value, and after it are the other bytes.
abbrev pub IsFound : {A V : Type 0} → (view : V → A) (x : A) (others bytes : List ℕ) (found : Option (V × ℕ)) → Type 0
IsFound view x others bytes None = ⊥
IsFound view x others bytes (Some found) = (view found.0 ≡ x) × (drop found.1 bytes ≡ others)

-- If the bytes from the place on begin with the spelling of a value that fits, the reader finds that value.
abbrev pub Finds : {A V : Type 0} → (view : V → A) (spelt : A → List ℕ) (Fits : A → Type 0) (bytes : List ℕ) (place : ℕ)
    (found : Option (V × ℕ)) → Type 0
Finds {A} view spelt Fits bytes place found = (x : A) (others : List ℕ) → Fits x
    → drop place bytes ≡ spelt x ++ others → IsFound view x others bytes found

-- Each row begins in an open block, which already has `filled` bytes.
abbrev pub BeginOpen : ℕ → List Row → Type 0
BeginOpen filled [] = ⊤
BeginOpen filled (r ∷ rows) = (filled < block_bytes) × BeginOpen (filled + estimated_size r) rows

-- So many rows, which fit their places in bytes. Each begins in an open block, which already has `filled`
-- bytes.
pub record AreRows (filled count : ℕ) (rows : List Row) : Type 0 where
  pub writable : AllByRecursion IsWritable rows
  pub begun : BeginOpen filled rows
  pub counted : length rows ≡ count

-- The reader finds so many rows of a block with this first key, and puts them after other rows, which have
-- `filled` bytes.
abbrev pub FindsLater : {V : Type 0} → (view : V → List Row) (first : List ℕ) (filled count : ℕ) (before : List Row)
    (bytes : List ℕ) (place : ℕ) (found : Option (V × ℕ)) → Type 0
FindsLater view first filled count before bytes place found = (rows : List Row) (others : List ℕ)
    → AreRows filled count rows → drop place bytes ≡ flat_map (row_bytes first) rows ++ others
    → IsFound view (before ++ rows) others bytes found

-- A block whose rows fit their places. It ends with the row with which it reaches block_bytes. It has at most
-- 512 rows, since each has a size of at least 8 bytes.
pub record IsBlock (rows : List Row) : Type 0 where
  pub writable : AllByRecursion IsWritable rows
  pub begun : BeginOpen 0 rows
  pub short : length rows ≤ 512

pub record AreBlocks (count : ℕ) (cut : List (List Row)) : Type 0 where
  pub blocks : AllByRecursion IsBlock cut
  pub counted : length cut ≡ count

abbrev pub joined_rows : List (List Row) → List Row
joined_rows cut = flat_map (λ rows. rows) cut

-- The reader finds so many blocks, whose headers and rows begin at two places, and puts their rows after
-- other rows.
abbrev pub FindsBlocks : {V : Type 0} → (view : V → List Row) (count : ℕ) (before : List Row) (bytes : List ℕ)
    (header place : ℕ) (found : Option (V × ℕ)) → Type 0
FindsBlocks view count before bytes header place found = (cut : List (List Row)) (after others : List ℕ)
    → AreBlocks count cut
    → drop header bytes ≡ flat_map header_bytes cut ++ after → drop place bytes ≡ flat_map rows_bytes cut ++ others
    → IsFound view (before ++ joined_rows cut) others bytes found

-- The reader finds the rows of the blocks that are written in the bytes.
abbrev pub FindsAll : {V : Type 0} → (V → List Row) → List ℕ → Option V → Type 0
FindsAll view bytes None = (cut : List (List Row)) → AllByRecursion IsBlock cut → bytes ≢ bytes_of_blocks cut
FindsAll view bytes (Some rows) = (cut : List (List Row)) → AllByRecursion IsBlock cut
    → bytes ≡ bytes_of_blocks cut → view rows ≡ joined_rows cut

-- What was read of all bytes: the value that is spelt so, or nothing where no value is.
pub record Reads {A V : Type 0} (view : V → A) (spelt : A → List ℕ) (Fits : A → Type 0) (bytes : List ℕ)
    (found : Option V) : Type 0 where
  pub spelt_so : IfSome found (λ v. Fits (view v) × (bytes ≡ spelt (view v)))
  pub only : (x : A) → Fits x → bytes ≡ spelt x → option_map view found ≡ Some x
