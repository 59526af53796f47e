-- What the rows of a key that were taken so far leave for a read.
use Rattle.std.specs.Prelude.{◌≡◌, ℕ, ℤ, Bool, true, false, if◌then◌else◌, List, [], ◌∷◌, ◌++◌, Option, Some, None, reverse}
use Rattle.row_model.specs.Rows.{Content, Row}
use Rattle.row_model.specs.Read.{base, operands, seen_at}
use Rattle.fleet_scan.specs.KeyReads.{KeyReading}
use Rattle.fleet_scan.specs.declared.key_rows.Ground.{Ground}
use Rattle.fleet_scan.specs.declared.key_rows.Ground.TheVariants.{Older, Value, Nothing}
use Rattle.fleet_scan.specs.declared.key_rows.KeyRows.{KeyRows}
use Rattle.fleet_scan.specs.declared.key_rows.ReadPoint.{ReadPoint}

-- The base and the operands that a read finds in rows of a key. The operands are oldest first.
abbrev pub read_parts : ReadPoint → List Row → Option (List ℕ) × List (List ℕ)
read_parts point rows = (base point.moment (seen_at point.seq rows), operands point.moment (seen_at point.seq rows))

-- The value under the operands, where no older row is left.
abbrev pub base_of : Ground → Option (List ℕ)
base_of Older = None
base_of (Value bytes) = Some bytes
base_of Nothing = None

-- What a value leaves under the operands.
abbrev pub ground_of : List ℕ → Bool → Ground
ground_of bytes expired = if expired then Nothing else Value bytes

-- The base of the rows taken, if older rows have this base.
abbrev pub base_over : Ground → Option (List ℕ) → Option (List ℕ)
base_over Older older = older
base_over (Value bytes) older = Some bytes
base_over Nothing older = None

-- The operands under those taken, if older rows have these operands.
abbrev pub operands_under : Ground → List (List ℕ) → List (List ℕ)
operands_under Older older = older
operands_under (Value bytes) older = []
operands_under Nothing older = []

-- The base and the operands that a read finds in the rows taken and in later rows of the key.
abbrev pub parts_with : ReadPoint → KeyRows → List Row → Option (List ℕ) × List (List ℕ)
parts_with point taken later =
    let older = read_parts point later in
    (base_over taken.ground older.0, operands_under taken.ground older.1 ++ reverse taken.operands.items)

-- The newest row of a key is taken.
pub record IsBegun (point : ReadPoint) (r : Row) (taken : KeyRows) : Type 0 where
  pub key : taken.key ≡ r.key
  pub parts : (later : List Row) → parts_with point taken later ≡ read_parts point (r ∷ later)

-- One more row of the key is taken.
pub record Adds (point : ReadPoint) (old : KeyRows) (r : Row) (new : KeyRows) : Type 0 where
  pub key : new.key ≡ old.key
  pub parts : (later : List Row) → parts_with point new later ≡ parts_with point old (r ∷ later)

-- A row of the key with this content, sequence and expiry is taken.
pub record Takes (point : ReadPoint) (old : KeyRows) (content : Content) (seq : ℕ) (expires : Option ℤ) (new : KeyRows)
    : Type 0 where
  pub key : new.key ≡ old.key
  pub parts : (r : Row) → r.content ≡ content → r.seq ≡ seq → r.expires ≡ expires → (later : List Row)
      → parts_with point new later ≡ parts_with point old (r ∷ later)

-- A value or a tombstone hides all older rows.
abbrev pub is_hiding : Ground → Bool
is_hiding Older = false
is_hiding (Value bytes) = true
is_hiding Nothing = true

-- The read that has taken these rows.
abbrev pub reading_of : ReadPoint → KeyRows → KeyReading
reading_of point taken = record {
  key = taken.key;
  seq = point.seq;
  moment = point.moment;
  hides = is_hiding taken.ground;
  base = base_of taken.ground;
  operands = reverse taken.operands.items;
}
