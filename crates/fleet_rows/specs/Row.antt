-- The program's rows as rows of the model.
use Rattle.std.specs.Prelude.{ℕ, List, map, Option, Some, None}
use Rattle.row_model.specs.Rows.{Row, Content}
use Rattle.row_model.specs.Rows as model
use Rattle.fleet_rows.specs.declared.row.RowEntry.{RowEntry}
use Rattle.fleet_rows.specs.declared.row.ValueDeletable.{ValueDeletable}
use Rattle.fleet_rows.specs.declared.row.ValueDeletable.TheVariants.{Value, Merge, Tombstone}

abbrev pub content_of : ValueDeletable → Content
content_of (Value bytes) = model.Value bytes
content_of (Merge bytes) = model.Merge bytes
content_of Tombstone = model.Tombstone

abbrev pub row_of : RowEntry → Row
row_of r =
    record { key = r.key; content = content_of r.value; seq = r.seq; created = r.create_ts; expires = r.expire_ts }

abbrev pub rows_of : List RowEntry → List Row
rows_of rows = map row_of rows

-- The bytes of a value or of an operand. A tombstone has none.
abbrev pub bytes_of : ValueDeletable → Option (List ℕ)
bytes_of (Value bytes) = Some bytes
bytes_of (Merge bytes) = Some bytes
bytes_of Tombstone = None
