-- The lengths of rows in bytes.
use Rattle.std.proofs.Common.{◌≡◌, refl, ℤ, length, arith}
use Rattle.std.specs.Prelude.{Option, Some, None}
use Rattle.std.proofs.lemmas.List.{length-append, length-drop}
use Rattle.row_model.specs.Rows.{Content, Value, Merge, Tombstone}
use Rattle.row_model.specs.Written.Sizes.{stamp_size, written_value_size}
use Rattle.row_model.specs.Written.TableBytes.{content_bytes, stamp_bytes}
use Rattle.fleet_block.specs.Laws.{RowsHaveEncodedSizes}

stamp_len : (stamp : Option ℤ) → length (stamp_bytes stamp) ≡ stamp_size stamp
stamp_len None = refl
stamp_len (Some stamp) = refl

content_len : (x : Content) → length (content_bytes x) ≡ written_value_size x
content_len (Value bytes) = omega arith
content_len (Merge bytes) = omega arith
content_len Tombstone = refl

pub rows_have_encoded_sizes : RowsHaveEncodedSizes
rows_have_encoded_sizes first r =
    let created = stamp_len r.created in
    let expires = stamp_len r.expires in
    let content = content_len r.content in
    simp (length-append, length-drop) (omega (arith, created, expires, content))
