-- A row that was found by its key and its other fields.
use Rattle.std.proofs.Common.{◌≡◌, sym, ◌∙◌, ℕ, List, ◌++◌, drop}
use Rattle.std.specs.Prelude.{Option, Result, Ok, Err, IfOk}
use Rattle.row_model.specs.Rows.{Row}
use Rattle.row_model.specs.Written.TableBytes.{fields_bytes, row_bytes, IsWritable}
use Rattle.fleet_block.specs.Finds.{Finds}
use Rattle.fleet_block.proofs.Fields.{after_key, fields_parts}
use Rattle.fleet_rows.specs.Row.{row_of}
use Rattle.fleet_rows.specs.declared.row.RowEntry.{RowEntry}

-- Where a row stands, its key is found first. The row with that key is then found after it.
pub row_found : {E : Type 0} (first bytes key : List ℕ) (place next : ℕ) (result : Result (Option (RowEntry × ℕ)) E)
    → ((r : Row) (others : List ℕ) → IsWritable r → drop place bytes ≡ row_bytes first r ++ others → (key ≡ r.key) × (drop next bytes ≡ after_key r others))
    → IfOk result (Finds row_of fields_bytes (λ r. IsWritable r × (key ≡ r.key)) bytes next) → IfOk result (Finds row_of (row_bytes first) IsWritable bytes place)
row_found first bytes key place next (Ok found) told finds = λ r others fits e.
    let there = told r others fits e in
    finds r others (fits, there.0) (there.1 ∙ sym (fields_parts r others))
row_found first bytes key place next (Err e) told finds = tt
