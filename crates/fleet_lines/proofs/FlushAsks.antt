-- What a line that flushes rows asks.
use Rattle.std.proofs.Common.{◌≡◌, ◌≢◌, ℕ, ◌<◌, ◌^◌, ℤ, pos, negsuc, List, [], ◌∷◌, length, arith}
use Rattle.std.specs.Int.{w64, cast_signed, cast_unsigned}
use Rattle.std.specs.List.{AllByRecursion}
use Rattle.std.proofs.lemmas.Int.{to_z-of_z}
use Rattle.row_model.specs.Written.Sizes.{content_len}
use Rattle.row_model.specs.Rows.{Row, Content, Value, Merge, Tombstone}
use Rattle.row_model.specs.Bounds.{IsContent, AreRows}
use Rattle.row_model.specs.Bounds as bounds
use Rattle.course_laws.specs.Flushes.{MayAsk}
use Rattle.script_model.specs.Script.{FlushRows, IsInBounds}
use Rattle.row_model.specs.Bounds.{IsStamp}

content_bound : (content : Content) → IsContent content → content_len content < 2 ^ 32
content_bound (Value bytes) is = is.1
content_bound (Merge bytes) is = is.1
content_bound Tombstone is = omega arith

rows_bound : (rows : List Row) → AreRows rows → AllByRecursion bounds.IsInBounds rows
rows_bound [] are = tt
rows_bound (r ∷ rows) are = (record { key = are.0.key.2; content = content_bound r.content are.0.content }, rows_bound rows are.1)

some_rows : (rows : List Row) → 0 < length rows → rows ≢ []
some_rows [] some same = absurd (omega (arith, some))
some_rows (r ∷ rows) some same = absurd (cc same)

-- A line that is in bounds may ask for its flush, whatever its tick.
pub may_flush : (name : ℕ) (segment : List ℕ) (floor : ℕ) (tick other : ℤ) (rows : List Row) → IsInBounds (FlushRows name segment floor tick rows) → MayAsk (record { name = name; segment = segment; floor = floor; tick = other; rows = rows })
may_flush name segment floor tick other rows is = let low = is.0.1 in record { is_name = omega (arith, low); some = some_rows rows is.4; bounds = rows_bound rows is.5 }

-- A tick is the same after it was written in 64 bits.
pub tick_back : (tick : ℤ) → IsStamp tick → cast_signed w64 (cast_unsigned w64 tick) ≡ tick
tick_back (pos n) fits = to_z-of_z w64 (pos n) (record { sfits = omega arith })
tick_back (negsuc n) fits = to_z-of_z w64 (negsuc n) (record { sfits = omega arith })
