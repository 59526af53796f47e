-- A scan of a range answers, key by key, what reads answer. A scan of the stored tables answers as a scan of
-- all that was flushed.
use Rattle.std.specs.Prelude.{◌≡◌, ℕ, ◌≤◌, ℤ, int_le, true, false, IsTrue, List, map, Option, None, bytes_eq}
use Rattle.std.specs.List.Sorted.{IsStrictlySortedBy}
use Rattle.std.specs.Map.{lookup}
use Rattle.row_model.specs.Rows.{key_cmp}
use Rattle.row_model.specs.Fold.{Operator, Outcome}
use Rattle.row_model.specs.Ranges.{Range, is_in_range}
use Rattle.fleet_model.specs.Store.{Store}
use Rattle.fleet_model.specs.Reads.{flushed_read, stored_read}
use Rattle.fleet_model.specs.TreeScans.{flushed_scan, stored_scan}
use Rattle.fleet_model.specs.Invariants.Invariant.{StoreInvariant}

-- In the list of a scan, each key of the range has the answer of its read. It is not in the list if its read
-- finds nothing. No other key is in the list, and the keys of the list rise.
pub record AnswersAsReads (range : Range) (read_of : List ℕ → Option Outcome) (scanned : List (List ℕ × Outcome))
    : Type 0 where
  pub within : (key : List ℕ) → is_in_range range key ≡ true → lookup (bytes_eq key) scanned ≡ read_of key
  pub beyond : (key : List ℕ) → is_in_range range key ≡ false → lookup (bytes_eq key) scanned ≡ None
  pub rising : IsStrictlySortedBy key_cmp (map (λ pair. pair.0) scanned)

-- A scan answers as reads at the same sequence and moment do. This is so over all rows that were flushed, and
-- over the rows that the nodes hold.
pub record ScansAnswerAsReads (merge : Operator) (store : Store) (segment : List ℕ) (range : Range) (seq : ℕ) (now : ℤ)
    : Type 0 where
  pub flushed : AnswersAsReads range (λ key. flushed_read merge store segment key seq now)
      (flushed_scan merge store segment range seq now)
  pub stored : AnswersAsReads range (λ key. stored_read merge store segment key seq now)
      (stored_scan merge store segment range seq now)

-- In a store that meets the invariant, a scan over the rows that the nodes hold is the scan over all rows
-- that were flushed into them. This is so for scans from the horizon and the tick on.
abbrev pub StoresAnswerScans : Operator → Type 0
StoresAnswerScans merge = (store : Store) → StoreInvariant merge store
    → (segment : List ℕ) (range : Range) (seq : ℕ) (now : ℤ) → store.manifest.horizon ≤ seq
    → IsTrue (int_le store.manifest.tick now)
    → stored_scan merge store segment range seq now ≡ flushed_scan merge store segment range seq now
