-- The header of a block.
use Rattle.std.proofs.Common.{◌≡◌, ◌∙◌, ap, ℕ, List, ◌++◌, length}
use Rattle.std.specs.Int.{w16, w64, to_be_bytes}
use Rattle.row_model.specs.Rows.{Row}
use Rattle.row_model.specs.Written.TableBytes.{header_bytes, rows_bytes}

pub header_is : (rows : List Row) (count len : ℕ) → count ≡ length rows → len ≡ length (rows_bytes rows) → to_be_bytes w16 count ++ to_be_bytes w64 len ≡ header_bytes rows
header_is rows count len counted measured = ap (λ n. to_be_bytes w16 n ++ to_be_bytes w64 len) counted ∙ ap (λ n. to_be_bytes w16 (length rows) ++ to_be_bytes w64 n) measured
