-- The law on scans: what a line that scans a range of keys replies.
use Rattle.std.specs.Prelude.{◌≡◌, ℕ, ℤ, true, false, List}
use Rattle.row_model.specs.Fold.{Operator}
use Rattle.fleet_model.specs.Reads.{flushed_read}
use Rattle.fleet_model.specs.TreeScans.{flushed_scan, stored_scan}
use Rattle.fleet_laws.specs.Scans.{AnswersAsReads}
use Rattle.script_model.specs.Script.{Scan}
use Rattle.script_model.specs.States.{Inputs, State}
use Rattle.script_model.specs.Replies.{not_retained}
use Rattle.script_model.specs.Lines.Looks.{is_not_retained}
use Rattle.script_model.specs.Lines.Scans.{keys_between, scan_reply}
use Rattle.line_laws.specs.Ran.{CourseRan}
use Rattle.last_laws.specs.Pages.{scanned_page}

-- A scan below the horizon or before the tick is refused. Each other scan prints the first page of the
-- answers over all rows that were flushed into its segment and not drained, and a scan of the stored tables
-- has the same answers. In them each key of the range has what a read of it answers. A scan changes nothing.
pub record ScanAnswers (merge : Operator) (old : State) (segment from to : List ℕ) (seq : ℕ) (now : ℤ) (limit : ℕ)
    (answer : List ℕ) (new : State) : Type 0 where
  pub refused : is_not_retained old.store.manifest seq now ≡ true
      → answer ≡ not_retained old.store.manifest.horizon old.store.manifest.tick
  pub printed : is_not_retained old.store.manifest seq now ≡ false
      → answer ≡ scan_reply (scanned_page merge old.store segment from to seq now limit)
  pub stored : is_not_retained old.store.manifest seq now ≡ false
      → stored_scan merge old.store segment (keys_between from to) seq now
      ≡ flushed_scan merge old.store segment (keys_between from to) seq now
  pub as_read : AnswersAsReads (keys_between from to) (λ key. flushed_read merge old.store segment key seq now)
      (flushed_scan merge old.store segment (keys_between from to) seq now)
  pub same : new ≡ old

-- Each course of a line that scans a range answers so.
abbrev pub ScansAnswer : Type 0
ScansAnswer = (inputs : Inputs) (old new : State) (segment from to : List ℕ) (seq : ℕ) (now : ℤ) (limit : ℕ)
    (answer : List ℕ)
    → CourseRan inputs old (Scan segment from to seq now limit) answer new
    → ScanAnswers inputs.merge old segment from to seq now limit answer new
