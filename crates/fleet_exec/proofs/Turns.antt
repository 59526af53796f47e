-- Ranges that are taken table by table and then finished make the job.
use Rattle.std.proofs.Common.{◌≡◌, refl, sym, ◌∙◌, ap, subst, ℕ, List, [], ◌∷◌, ◌++◌, map, Bool, true, take, drop, sum, Option, Some, None}
use Rattle.std.specs.Prelude.{flat_map}
use Rattle.std.specs.List.{AllByRecursion}
use Rattle.std.proofs.lemmas.List.{append_assoc, take-append-drop}
use Rattle.std.proofs.lemmas.List.Sums.{sum_by-cons}
use Rattle.std.proofs.Math.Seq.{take-add}
use Rattle.row_model.specs.Fold.{Operator}
use Rattle.row_model.specs.JobRows.{JobRows, job_rows}
use Rattle.row_model.specs.Ranges.{Range, rows_in}
use Rattle.row_model.specs.Rows.{Row, IsStrictlyOrdered}
use Rattle.row_model.specs.Settings.{Settings}
use Rattle.row_laws.specs.Merges.{AreApart}
use Rattle.row_laws.specs.Resume.{Cursor, place, cursor_after}
use Rattle.row_laws.proofs.Merges.{apart_are_ordered}
use Rattle.row_laws.proofs.Ranges.{ranges_make_all}
use Rattle.row_laws.proofs.Sources.{sources_resume_after}
use Rattle.row_laws.proofs.Tables.{tables_have_all}
use Rattle.fleet_rows.specs.Row.{rows_of}
use Rattle.fleet_rows.specs.declared.row.RowEntry.{RowEntry}
use Rattle.fleet_exec.specs.Ranges.{source_rows, AreSources, left_of}
use Rattle.fleet_exec.specs.Turns.{all_rows, AreTaken, rows_of_all, TakenAreFirst, RangeTurns, AreMade, made_rows, TakenAndFinishedMakeAll, RangesMakeJob}

cursor_after-append : (c : Option Cursor) (xs ys : List Row) → cursor_after c (xs ++ ys) ≡ cursor_after (cursor_after c xs) ys
cursor_after-append c [] ys = refl
cursor_after-append c (x ∷ xs) ys = cursor_after-append (Some (place x)) xs ys

-- ---- all rows are in order

flat_sources : (sources : List (List (List Row))) → flat_map (λ rows. rows) (map source_rows sources) ≡ flat_map source_rows sources
flat_sources [] = refl
flat_sources (tables ∷ sources) = ap (λ (w : List Row). source_rows tables ++ w) (flat_sources sources)

all_ordered : (sources : List (List (List Row))) → AreSources sources → IsStrictlyOrdered (all_rows sources)
all_ordered sources h = apart_are_ordered (flat_map (λ rows. rows) (map source_rows sources)) (subst AreApart (sym (flat_sources sources)) h.apart)

-- ---- one range

module _ (merge : Operator) (settings : Settings) (range : Range) (sources : List (List (List Row))) (h : AreSources sources) where
  abbrev J : JobRows
  J = job_rows merge settings (rows_in range (all_rows sources))

  -- After written rows that begin what a job makes, exactly the other rows are left.
  left_is : (written rest : List Row) → J.rows ≡ written ++ rest → left_of merge settings range (cursor_after None written) sources ≡ record { rows = rest; whole = J.whole }
  left_is written rest is = sources_resume_after merge settings range (map source_rows sources) written rest (all_ordered sources h) is

  -- Tables that are taken after written rows have the first of the rows left.
  first_after : (sizes : List ℕ) (tables : List (List RowEntry)) (written rest : List Row) → J.rows ≡ written ++ rest
      → AreTaken merge settings range sources (cursor_after None written) sizes tables → rows_of_all tables ≡ take (sum sizes) rest
  first_after [] [] written rest is taken = refl
  first_after [] (table ∷ tables) written rest is taken = absurd taken
  first_after (most ∷ sizes) [] written rest is taken = absurd taken
  first_after (most ∷ sizes) (table ∷ tables) written rest is taken =
      let here : rows_of table ≡ take most rest = taken.0.rows ∙ ap (λ (j : JobRows). take most j.rows) (left_is written rest is) in
      let parts : J.rows ≡ (written ++ rows_of table) ++ drop most rest =
      is ∙ (ap (λ (w : List Row). written ++ w) (sym (take-append-drop most rest) ∙ ap (λ (w : List Row). w ++ drop most rest) (sym here)) ∙ sym (append_assoc written (rows_of table) (drop most rest))) in
      let later : AreTaken merge settings range sources (cursor_after None (written ++ rows_of table)) sizes tables =
      subst (λ (c : Option Cursor). AreTaken merge settings range sources c sizes tables) (sym (cursor_after-append None written (rows_of table))) taken.1 in
      ap (λ (w : List Row). w ++ rows_of_all tables) here
      ∙ (ap (λ (w : List Row). take most rest ++ w) (first_after sizes tables (written ++ rows_of table) (drop most rest) parts later)
      ∙ sym (ap (λ (m : ℕ). take m rest) (sum_by-cons (λ size. size) most sizes) ∙ take-add most (sum sizes) rest))

  first_taken : (sizes : List ℕ) (tables : List (List RowEntry)) → AreTaken merge settings range sources None sizes tables → rows_of_all tables ≡ take (sum sizes) J.rows
  first_taken sizes tables taken = first_after sizes tables [] J.rows refl taken

  -- After tables taken from the start of the range, exactly the other rows are left.
  left_taken : (sizes : List ℕ) (tables : List (List RowEntry)) → AreTaken merge settings range sources None sizes tables
      → left_of merge settings range (cursor_after None (rows_of_all tables)) sources ≡ record { rows = drop (sum sizes) J.rows; whole = J.whole }
  left_taken sizes tables taken =
      left_is (rows_of_all tables) (drop (sum sizes) J.rows) (sym (take-append-drop (sum sizes) J.rows) ∙ ap (λ (w : List Row). w ++ drop (sum sizes) J.rows) (sym (first_taken sizes tables taken)))

pub taken_are_first : (merge : Operator) → TakenAreFirst merge
taken_are_first merge settings range sources sizes tables h taken = first_taken merge settings range sources h sizes tables taken

-- If a range is taken table by table and then finished, the rows of its tables are all that a job makes
-- of the range.
pub taken_and_finished_make_all : (merge : Operator) → TakenAndFinishedMakeAll merge
taken_and_finished_make_all merge settings sources turns h made =
    let j : JobRows = job_rows merge settings (rows_in turns.range (all_rows sources)) in
    let left : JobRows = left_of merge settings turns.range (cursor_after None (rows_of_all turns.taken)) sources in
    let n : ℕ = sum turns.sizes in
    let is : left ≡ record { rows = drop n j.rows; whole = j.whole } = left_taken merge settings turns.range sources h turns.sizes turns.taken made.begin in
    let whole : j.whole ≡ true = sym (ap (λ (m : JobRows). m.whole) is) ∙ made.end.whole in
    let rest : flat_map (λ rows. rows) turns.finished ≡ drop n j.rows =
    ap (flat_map (λ rows. rows)) made.end.cut ∙ ((tables_have_all turns.cut_size left.rows).all ∙ ap (λ (m : JobRows). m.rows) is) in
    let first : rows_of_all turns.taken ≡ take n j.rows = first_taken merge settings turns.range sources h turns.sizes turns.taken made.begin in
    let all : j.rows ≡ made_rows turns =
    sym (take-append-drop n j.rows) ∙ (ap (λ (w : List Row). w ++ drop n j.rows) (sym first) ∙ ap (λ (w : List Row). rows_of_all turns.taken ++ w) (sym rest)) in
    ap (λ (b : Bool). record { rows = j.rows; whole = b }) whole ∙ ap (λ (w : List Row). record { rows = w; whole = true }) all

-- ---- range after range

module _ (merge : Operator) (settings : Settings) (sources : List (List (List Row))) (h : AreSources sources) where
  abbrev of_range : Range → JobRows
  of_range range = job_rows merge settings (rows_in range (all_rows sources))

  one_range : (turns : RangeTurns) → AreMade merge settings sources turns → of_range turns.range ≡ record { rows = made_rows turns; whole = true }
  one_range turns made = taken_and_finished_make_all merge settings sources turns h made

  all_whole : (ranges : List RangeTurns) → AllByRecursion (AreMade merge settings sources) ranges → AllByRecursion (λ range. (of_range range).whole ≡ true) (map (λ turns. turns.range) ranges)
  all_whole [] made = tt
  all_whole (turns ∷ ranges) made = (ap (λ (j : JobRows). j.whole) (one_range turns made.0), all_whole ranges made.1)

  same_rows : (ranges : List RangeTurns) → AllByRecursion (AreMade merge settings sources) ranges
      → flat_map (λ range. (of_range range).rows) (map (λ turns. turns.range) ranges) ≡ flat_map made_rows ranges
  same_rows [] made = refl
  same_rows (turns ∷ ranges) made =
      ap (λ (j : JobRows). j.rows ++ flat_map (λ range. (of_range range).rows) (map (λ turns. turns.range) ranges)) (one_range turns made.0)
      ∙ ap (λ (w : List Row). made_rows turns ++ w) (same_rows ranges made.1)

pub ranges_make_job : (merge : Operator) → RangesMakeJob merge
ranges_make_job merge settings sources ranges h cut made =
    ranges_make_all merge settings cut.edges (all_rows sources) (all_ordered sources h) cut.rising
    (subst (AllByRecursion (λ range. (job_rows merge settings (rows_in range (all_rows sources))).whole ≡ true)) cut.are (all_whole merge settings sources h ranges made))
    ∙ (ap (λ (rs : List Range). record { rows = flat_map (λ range. (job_rows merge settings (rows_in range (all_rows sources))).rows) rs; whole = true }) (sym cut.are)
    ∙ ap (λ (w : List Row). record { rows = w; whole = true }) (same_rows merge settings sources h ranges made))
