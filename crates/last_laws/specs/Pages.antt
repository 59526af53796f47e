-- A scan that stopped at its limit may be gone on with: two pages are one.
use Rattle.std.specs.Prelude.{◌≡◌, ℕ, ◌+◌, ℤ, List, ◌++◌}
use Rattle.row_model.specs.Fold.{Operator}
use Rattle.fleet_model.specs.Store.{Store}
use Rattle.fleet_model.specs.TreeScans.{flushed_scan}
use Rattle.script_model.specs.Lines.Scans.{Page, first_page, StopsBefore, keys_between}

-- The page of a scan of a segment from the one key on and before the other, up to the limit.
abbrev pub scanned_page : (merge : Operator) (store : Store) → (segment from to : List ℕ) → (seq : ℕ) (now : ℤ)
    → (limit : ℕ) → Page
scanned_page merge store segment from to seq now limit =
    first_page limit (flushed_scan merge store segment (keys_between from to) seq now)

-- A page and the page that goes on after it, as one page.
abbrev pub joined_pages : (first second : Page) → Page
joined_pages first second = record { pairs = first.pairs ++ second.pairs; ends = second.ends }

-- If a page stops before a key, then this page and the page from that key on are together the page up to the
-- sum of their limits.
abbrev pub ScansResume : Type 0
ScansResume = (merge : Operator) (store : Store) (segment from to key : List ℕ) (seq : ℕ) (now : ℤ) (limit other : ℕ)
    → (scanned_page merge store segment from to seq now limit).ends ≡ StopsBefore key
    → joined_pages (scanned_page merge store segment from to seq now limit)
    (scanned_page merge store segment key to seq now other)
    ≡ scanned_page merge store segment from to seq now (limit + other)
