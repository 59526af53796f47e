-- Pages of scans, as the program gives them.
use Rattle.std.specs.Prelude.{◌≡◌, ℕ, suc, ℤ, false, if◌then◌else◌, List, ◌++◌, Option, Some, None}
use Rattle.row_model.specs.Fold.{Operator}
use Rattle.row_model.specs.Ranges.{Range}
use Rattle.fleet_model.specs.Store.{Store}
use Rattle.fleet_model.specs.TreeScans.{flushed_scan}
use Rattle.script_model.specs.Lines.Looks.{is_not_retained}
use Rattle.script_model.specs.Lines.Scans as lines
use Rattle.script_model.specs.Lines.Scans.{first_page}
use Rattle.fleet_scan.specs.Answered.{Scanning}
use Rattle.fleet_read.specs.declared.answer.PageEnd.{PageEnd}
use Rattle.fleet_read.specs.declared.answer.PageEnd.TheVariants.{NoneLeft, RefusedAt, StopsBefore}
use Rattle.fleet_read.specs.declared.answer.ScanAnswer.{ScanAnswer}
use Rattle.fleet_read.specs.declared.answer.ScanAnswer.TheVariants.{NotRetained, Page}
use Rattle.fleet_read.specs.declared.answer.ScanPage.{ScanPage}

-- How a page of the model ends, as the program's end.
abbrev pub end_shown : lines.ScanEnd → PageEnd
end_shown lines.NoneLeft = NoneLeft
end_shown (lines.RefusedAt key message) = RefusedAt key message
end_shown (lines.StopsBefore key) = StopsBefore key

-- A page of the model, as the program's page.
abbrev pub page_shown : lines.Page → ScanPage
page_shown page = record { pairs = page.pairs; ends = end_shown page.ends }

-- The answer of a scan of a range over all rows that were flushed into the segment and not drained. Below the
-- horizon or before the tick there is none.
abbrev pub scan_answer : (merge : Operator) (store : Store) (segment : List ℕ) (range : Range) (seq : ℕ) (now : ℤ)
    (limit : ℕ) → ScanAnswer
scan_answer merge store segment range seq now limit =
    if is_not_retained store.manifest seq now then NotRetained store.manifest.horizon store.manifest.tick
    else Page (page_shown (first_page limit (flushed_scan merge store segment range seq now)))

-- ---- one answer after the other

-- The page with these pairs before its own.
abbrev pub after_pairs : List (List ℕ × List ℕ) → ScanPage → ScanPage
after_pairs pairs page = record page { pairs = pairs ++ page.pairs }

-- The page of at most so many answers that a scan gives.
abbrev pub page_of : ℕ → Scanning → ScanPage
page_of limit scan = page_shown (first_page limit scan.left)

-- The first answer was a value, and it was added to the pairs. The scan goes on.
pub record GoesOn (old new : Scanning) (pairs more : List (List ℕ × List ℕ)) : Type 0 where
  pub alive : new.failed ≡ false
  pub page : (limit : ℕ) → after_pairs pairs (page_of (suc limit) old) ≡ after_pairs more (page_of limit new)

-- The page ends so after these pairs, if it is not full.
pub record EndsPage (old : Scanning) (pairs more : List (List ℕ × List ℕ)) (ends : PageEnd) : Type 0 where
  pub page : (limit : ℕ) → after_pairs pairs (page_of (suc limit) old) ≡ record { pairs = more; ends = ends }

-- An answer of a scan is taken into a page. None if the page goes on.
abbrev pub TakesPair : (old new : Scanning) → (pairs more : List (List ℕ × List ℕ)) → Option PageEnd → Type 0
TakesPair old new pairs more None = GoesOn old new pairs more
TakesPair old new pairs more (Some ends) = EndsPage old pairs more ends
