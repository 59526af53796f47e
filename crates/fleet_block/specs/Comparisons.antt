-- What a reader tells of a row without reading it whole.
use Rattle.std.specs.Prelude.{◌≡◌, ℕ, ◌+◌, ◌%◌, ◌<◌, ◌^◌, List, ◌∷◌, ◌++◌, take, drop, slice_range, Option, Some, None}
use Rattle.row_model.specs.Rows.{Row, Content}
use Rattle.row_model.specs.Written.Sizes.{content_len}
use Rattle.row_model.specs.Written.TableBytes.{content_bytes, content_flag, row_bytes, row_flags, stamp_bytes, IsWritable}
use Rattle.fleet_block.specs.Finds.{IsFound}
use Rattle.fleet_block.specs.declared.field.KeyParts.{KeyParts}

-- The key that stands in these parts of some bytes, in a block with this first key.
abbrev pub key_of : (first bytes : List ℕ) (parts : KeyParts) → List ℕ
key_of first bytes parts = take parts.shared first ++ slice_range bytes parts.start (parts.start + parts.len)

-- If a row of a block with this first key stands at the place, the reader tells what `of` says of the row.
abbrev pub Tells : {A : Type 0} → (of : Row → A) (first bytes : List ℕ) (place : ℕ) (found : Option (A × ℕ)) → Type 0
Tells of first bytes place found = (r : Row) (others : List ℕ) → IsWritable r
    → drop place bytes ≡ row_bytes first r ++ others → IsFound (λ x. x) (of r) others bytes found

-- The reader passed over what stands at a place, and the other bytes follow.
abbrev pub IsPassed : (others bytes : List ℕ) (found : Option ℕ) → Type 0
IsPassed others bytes None = ⊥
IsPassed others bytes (Some place) = drop place bytes ≡ others

-- The reader passes over the content of a row, whose kind the flags tell.
abbrev pub PassesContent : (flags : ℕ) (bytes : List ℕ) (place : ℕ) (found : Option ℕ) → Type 0
PassesContent flags bytes place found = (x : Content) (others : List ℕ) → content_len x < 2 ^ 32
    → flags % 4 ≡ content_flag x → drop place bytes ≡ content_bytes x ++ others → IsPassed others bytes found

-- The reader passes over what follows the sequence of a row.
abbrev pub PassesFields : List ℕ → ℕ → Option ℕ → Type 0
PassesFields bytes place found = (r : Row) (others : List ℕ) → IsWritable r → drop place bytes
    ≡ row_flags r ∷ (stamp_bytes r.created ++ (stamp_bytes r.expires ++ (content_bytes r.content ++ others)))
    → IsPassed others bytes found
