-- The rows of a scan's sources in a range, merged in order.
use Rattle.std.proofs.Common.{◌≡◌, refl, sym, ◌∙◌, ap, subst, ℕ, ℤ}
use Rattle.row_model.specs.Fold.{Operator}
use Rattle.row_model.specs.Ranges.{Range, rows_in, is_in_range}
use Rattle.row_model.specs.Rows.{sorted_rows}
use Rattle.row_model.specs.Scans.{scanned_pairs}
use Rattle.row_laws.specs.Merges.{AreApart}
use Rattle.row_laws.proofs.Merges.{apart_are_ordered}
use Rattle.fleet_iter.specs.Iteration.{IteratorState}
use Rattle.fleet_iter.specs.Merge.{merged_lists, MergesSort}
use Rattle.fleet_iter.specs.declared.iterator.IterationOrder.TheVariants.{Ascending}
use Rattle.fleet_exec.specs.Ranges.{AreSources, Sources, ranged_sources, reading}
use Rattle.fleet_exec.proofs.Opened.{flat_in, merged_in}
use Rattle.fleet_scan.specs.Answers.{answers_of}
use Rattle.fleet_scan.specs.ScanState.{ReadsOn}
use Rattle.fleet_scan.specs.Sources.{all_rows, ranged_rows}
use Rattle.fleet_exec.proofs.Opened.{pairs_filter}
use Rattle.fleet_scan.proofs.KeyByKey.{scan-sorted}

module _ (range : Range) (sources : Sources) (h : AreSources sources) where
  apart : AreApart (rows_in range (all_rows sources))
  apart = pairs_filter _ (λ r. is_in_range range r.key) (all_rows sources) h.apart

  -- The merge of the sources gives the rows in order.
  pub merge_is : MergesSort → reading (merged_lists Ascending (ranged_sources range sources)) ≡ reading (ranged_rows range sources)
  merge_is sort = ap reading (merged_in range sources h sort ∙ ap sorted_rows (flat_in range sources))

  -- The answers of these rows are those of the scan.
  pub answers_are : (merge : Operator) (seq : ℕ) (now : ℤ) (rows : IteratorState) → rows ≡ reading (ranged_rows range sources)
      → answers_of merge seq now rows.rows ≡ scanned_pairs merge range seq now (all_rows sources)
  answers_are merge seq now rows is =
      ap (λ (s : IteratorState). answers_of merge seq now s.rows) is ∙ scan-sorted merge range seq now (all_rows sources) apart

  pub reads_on : (rows : IteratorState) → rows ≡ reading (ranged_rows range sources) → ReadsOn rows
  reads_on rows is = subst ReadsOn (sym is) (record {
    reading = record { readable = (refl, refl); whole = refl };
    ordered = apart_are_ordered (rows_in range (all_rows sources)) apart;
  })
