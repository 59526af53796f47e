-- The page of a scan over a store is the first page of all rows that were flushed.
use Rattle.std.proofs.Common.{◌≡◌, refl, sym, ap, ◌∙◌, ℕ, ℤ, ◌≤◌, List, cond, Bool, true, false}
use Rattle.std.specs.Prelude.{◌||◌, nat_lt, int_le, int_lt, IsTrue}
use Rattle.std.proofs.lemmas.Bool.{ltb-false}
use Rattle.row_model.specs.Fold.{Operator, Outcome}
use Rattle.row_model.specs.Ranges.{Range}
use Rattle.row_model.specs.Scans.{scanned_pairs}
use Rattle.fleet_model.specs.Invariants.Invariant.{StoreInvariant}
use Rattle.fleet_model.specs.Store.{Manifest, Store}
use Rattle.fleet_model.specs.TreeScans.{flushed_scan}
use Rattle.fleet_laws.proofs.Scans.{stores_answer_scans}
use Rattle.course_laws.proofs.Flushes.{tick_rises}
use Rattle.fleet_exec.specs.Ranges.{Sources}
use Rattle.fleet_scan.specs.Answered.{Scanning}
use Rattle.fleet_scan.specs.Sources.{all_rows}
use Rattle.script_model.specs.Lines.Looks.{is_not_retained}
use Rattle.script_model.specs.Lines.Scans.{first_page}
use Rattle.fleet_read.specs.Pages.{page_of, page_shown, scan_answer}
use Rattle.fleet_read.specs.Sources.{AreScanSources}
use Rattle.fleet_read.specs.declared.answer.ScanAnswer.{ScanAnswer}
use Rattle.fleet_read.specs.declared.answer.ScanAnswer.TheVariants.{NotRetained, Page}
use Rattle.fleet_read.specs.declared.answer.ScanPage.{ScanPage}

-- What a scan that is not refused asks of the horizon and the tick.
record IsRetained (m : Manifest) (seq : ℕ) (now : ℤ) : Type 0 where
  horizon : m.horizon ≤ seq
  tick : IsTrue (int_le m.tick now)

is_retained : (m : Manifest) (seq : ℕ) (now : ℤ) → is_not_retained m seq now ≡ false → IsRetained m seq now
is_retained m seq now e = by (nat_lt seq m.horizon) (int_lt now m.tick) refl refl e
  where
    by : (a b : Bool) → nat_lt seq m.horizon ≡ a → int_lt now m.tick ≡ b → (a || b) ≡ false → IsRetained m seq now
    by true b low early e = absurd (cc e)
    by false true low early e = absurd (cc e)
    by false false low early e = record { horizon = ltb-false seq m.horizon low; tick = tick_rises now m.tick early }

module _ (merge : Operator) (store : Store) (segment : List ℕ) (range : Range) (seq : ℕ) (now : ℤ) (limit : ℕ) where
  -- The page of a scan of such sources.
  pub page_answers : (sources : Sources) (scan : Scanning) (page : ScanPage) → StoreInvariant merge store → is_not_retained store.manifest seq now ≡ false → AreScanSources store segment range sources
      → scan.left ≡ scanned_pairs merge range seq now (all_rows sources) → page ≡ page_of limit scan → ◌≡◌ {A = ScanAnswer} (Page page) (scan_answer merge store segment range seq now limit)
  page_answers sources scan page keeps kept are left is =
      let r = is_retained store.manifest seq now kept in
      ap Page (is ∙ ap (λ (answers : List (List ℕ × Outcome)). page_shown (first_page limit answers)) (left ∙ are.scans merge seq now ∙ stores_answer_scans merge store keeps segment range seq now r.horizon r.tick))
      ∙ sym (ap (λ b. cond b (NotRetained store.manifest.horizon store.manifest.tick) (Page (page_shown (first_page limit (flushed_scan merge store segment range seq now))))) kept)
