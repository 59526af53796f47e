-- One call finishes the ranges of a plan.
use Rattle.std.proofs.Common.{◌≡◌, ◌∙◌, sym, refl, ap, subst, ℕ, List, [], ◌∷◌, map, true, Option, None}
use Rattle.std.specs.List.{AllByRecursion}
use Rattle.row_model.specs.Fold.{Operator}
use Rattle.row_model.specs.JobRows.{JobRows}
use Rattle.row_model.specs.Ranges.{Range}
use Rattle.row_model.specs.Rows.{Row}
use Rattle.row_model.specs.Settings.{Settings}
use Rattle.row_model.specs.Written.Tables.{cut_tables}
use Rattle.row_laws.specs.Resume.{Cursor, cursor_after}
use Rattle.row_laws.specs.Turns.{AreCut}
use Rattle.fleet_range.specs.Keys.{range_of}
use Rattle.fleet_exec.specs.Ranges.{left_of, made_of}
use Rattle.fleet_exec.specs.Turns.{BegunRange, IsBegun, RangeTurns, AreMade, rows_of_all, finished_at, FinishMakesJob}
use Rattle.fleet_exec.proofs.Turns.{ranges_make_job}

module _ (merge : Operator) (settings : Settings) (sources : List (List (List Row))) (size : ℕ) where
  abbrev T : BegunRange → RangeTurns
  T b = finished_at merge sources size b

  abbrev L : BegunRange → JobRows
  L b = left_of merge settings (range_of b.job.range) (cursor_after None (rows_of_all b.taken)) sources

  -- What the call makes of a range is what is left after the tables that were taken of it.
  left_is : (b : BegunRange) → IsBegun merge settings sources b → made_of merge sources b.job ≡ L b
  left_is b h =
      ap (λ (s : Settings). left_of merge s (range_of b.job.range) b.job.cursor sources) h.same
      ∙ ap (λ (c : Option Cursor). left_of merge settings (range_of b.job.range) c sources) h.after

  one_made : (b : BegunRange) → IsBegun merge settings sources b → (made_of merge sources b.job).whole ≡ true → AreMade merge settings sources (T b)
  one_made b h whole = record {
    begin = h.tables;
    end = record {
      cut = ap (λ (made : JobRows). cut_tables size made.rows) (left_is b h);
      whole = sym (ap (λ (made : JobRows). made.whole) (left_is b h)) ∙ whole;
    };
  }

  all_made : (bs : List BegunRange) → AllByRecursion (IsBegun merge settings sources) bs → AllByRecursion (λ job. (made_of merge sources job).whole ≡ true) (map (λ b. b.job) bs) → AllByRecursion (AreMade merge settings sources) (map T bs)
  all_made [] h whole = tt
  all_made (b ∷ bs) h whole = (one_made b h.0 whole.0, all_made bs h.1 whole.1)

  same_ranges : (bs : List BegunRange) → map (λ b. range_of b.job.range) bs ≡ map (λ turns. turns.range) (map T bs)
  same_ranges [] = refl
  same_ranges (b ∷ bs) = ap (λ (rs : List Range). range_of b.job.range ∷ rs) (same_ranges bs)

  same_given : (bs : List BegunRange) → map (λ job. cut_tables size (made_of merge sources job).rows) (map (λ b. b.job) bs) ≡ map (λ turns. turns.finished) (map T bs)
  same_given [] = refl
  same_given (b ∷ bs) = ap (λ (ts : List (List (List Row))). cut_tables size (made_of merge sources b.job).rows ∷ ts) (same_given bs)

pub finish_makes_job : (merge : Operator) → FinishMakesJob merge
finish_makes_job merge settings sources size bs ranges h cut begun finished = record {
  given = finished.cut ∙ same_given merge settings sources size bs;
  all = ranges_make_job merge settings sources (map (finished_at merge sources size) bs) h (subst AreCut (same_ranges merge settings sources size bs) cut) (all_made merge settings sources size bs begun finished.whole);
}
