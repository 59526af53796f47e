-- The key-value pair that a row gives a reader.
use Rattle.std.specs.Prelude.{List, ℕ, pos, Option, option_map}
use Rattle.std.specs.Option.{unwrap_or}
use Rattle.fleet_rows.specs.Row.{bytes_of}
use Rattle.fleet_rows.specs.declared.row.RowEntry.{RowEntry}
use Rattle.fleet_rows.specs.declared.key_value.KeyValue.{KeyValue}

-- The row's key with the given bytes, and with the row's sequence and stamps. A missing time of creation
-- becomes 0.
abbrev pub key_value : RowEntry → List ℕ → KeyValue
key_value r bytes = record {
  key = r.key;
  value = bytes;
  seq = r.seq;
  create_ts = unwrap_or r.create_ts (pos 0);
  expire_ts = r.expire_ts;
}

-- The key-value pair of a row, with the bytes of its value or operand. A tombstone has none.
abbrev pub key_value_of : RowEntry → Option KeyValue
key_value_of r = option_map (key_value r) (bytes_of r.value)
