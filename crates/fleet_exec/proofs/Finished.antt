-- All ranges are finished, or the first refusal among them is answered.
use Rattle.std.proofs.Common.{◌≡◌, ◌≢◌, ◌∙◌, refl, sym, ap, subst, ℕ, ◌+◌, ◌<◌, zero, suc, List, [], ◌∷◌, ◌++◌, map, length, get_or, Some, Result, Ok, Err, arith}
use Rattle.std.specs.Result.{IfOk, IfErr}
use Rattle.row_model.specs.Fold.{Operator}
use Rattle.row_model.specs.Rows.{Row}
use Rattle.row_model.specs.Written.Tables.{cut_tables}
use Rattle.fleet_rows.specs.Row.{rows_of}
use Rattle.fleet_rows.specs.declared.row.RowEntry.{RowEntry}
use Rattle.fleet_rows.specs.declared.errors.SlateDBError.{SlateDBError}
use Rattle.fleet_rows.specs.declared.errors.SlateDBError.TheVariants.{Memory}
use Rattle.fleet_exec.specs.Cut.{IsFinished, FinishesRange, AreFinished, RefusesRange, RefusesJobRange, RefusesFirst, first_refusal}
use Rattle.fleet_exec.specs.Ranges.{made_of, rows_read}
use Rattle.fleet_exec.specs.declared.range_job.RangeJob.{RangeJob}

module _ (merge : Operator) (sources : List (List (List Row))) (size : ℕ) where
  pub all_finished : (jobs : List RangeJob) (ranges : List (List (List RowEntry))) → length ranges ≡ length jobs
      → ((i : ℕ) (job : RangeJob) (d : Result (List (List RowEntry)) SlateDBError) → i < length jobs → FinishesRange merge sources size (get_or jobs i job) (get_or (map (λ range. Ok range) ranges) i d)) → AreFinished merge sources size jobs (map (map rows_of) ranges)
  all_finished [] [] same each = record { cut = refl; whole = tt }
  all_finished [] (r ∷ ranges) same each = absurd (omega (arith, same))
  all_finished (j ∷ jobs) [] same each = absurd (omega (arith, same))
  all_finished (j ∷ jobs) (r ∷ ranges) same each =
      let first : IsFinished size (made_of merge sources j) (map rows_of r) = each 0 j (Ok r) (omega arith) in
      let rest = all_finished jobs ranges (omega (arith, same)) (λ i job d lt. each (suc i) job d (omega (arith, lt))) in
      record { cut = ap (λ (t : List (List Row)). t ∷ map (map rows_of) ranges) first.cut ∙ ap (λ (w : List (List (List Row))). cut_tables size (made_of merge sources j).rows ∷ w) rest.cut; whole = (first.whole, rest.whole) }

  -- The first refusal among the answers of ranges, unless it is `Memory`, comes from a range in which a
  -- fold refuses, and no fold refuses in a range before it.
  pub first_refuses : (jobs : List RangeJob) (made : List (Result (List (List RowEntry)) SlateDBError)) → length made ≡ length jobs
      → ((i : ℕ) (job : RangeJob) (d : Result (List (List RowEntry)) SlateDBError) → i < length jobs → FinishesRange merge sources size (get_or jobs i job) (get_or made i d)) → (e : SlateDBError) → e ≢ Memory → first_refusal made ≡ Some e → RefusesFirst merge sources jobs e
  first_refuses jobs [] same each e other is = absurd (cc is)
  first_refuses [] (m ∷ made) same each e other is = absurd (omega (arith, same))
  first_refuses (j ∷ jobs) (Ok r ∷ made) same each e other is =
      let first : IsFinished size (made_of merge sources j) (map rows_of r) = each 0 j (Ok r) (omega arith) in
      let rest = first_refuses jobs made (omega (arith, same)) (λ i job d lt. each (suc i) job d (omega (arith, lt))) e other is in
      record { before = j ∷ rest.before; job = rest.job; later = rest.later; parts = ap (λ (w : List RangeJob). j ∷ w) rest.parts; whole = (first.whole, rest.whole); refuses = rest.refuses }
  first_refuses (j ∷ jobs) (Err m ∷ made) same each e other is =
      let same_error : m ≡ e = cc is in
      let refuses = each 0 j (Err m) (omega arith) in
      record { before = []; job = j; later = jobs; parts = refl; whole = tt; refuses = subst (λ w. RefusesRange merge (rows_read sources j) (made_of merge sources j) w) same_error (refuses (λ g. other (sym same_error ∙ g))) }

-- After tables, a refusal is the first one.
pub refuses_after : {A : Type 0} (ranges : List A) (x : Result A SlateDBError) (rest left all : List (Result A SlateDBError)) (e : SlateDBError) → all ≡ map (λ range. Ok range) ranges ++ left → left ≡ x ∷ rest → x ≡ Err e → first_refusal all ≡ Some e
refuses_after {A} ranges x rest left all e is next refuses = ap first_refusal is ∙ (after ranges ∙ (ap first_refusal next ∙ ap (λ (y : Result A SlateDBError). first_refusal (y ∷ rest)) refuses))
  where
    after : (ranges : List A) → first_refusal (map (λ range. Ok range) ranges ++ left) ≡ first_refusal left
    after [] = refl
    after (r ∷ ranges) = after ranges

-- A place within a list has the same element, whatever is taken beyond the list.
pub same_within : {A : Type 0} (xs : List A) (i : ℕ) (x d : A) → i < length xs → x ≡ get_or xs i x → x ≡ get_or xs i d
same_within [] i x d lt is = absurd (omega (arith, lt))
same_within (y ∷ xs) zero x d lt is = is
same_within (y ∷ xs) (suc i) x d lt is = same_within xs i x d (omega (arith, lt)) is

-- What is said of tables and of a refusal is said of the answer.
pub finishes_from : (merge : Operator) (sources : List (List (List Row))) (size : ℕ) (job : RangeJob) (answer : Result (List (List RowEntry)) SlateDBError) → IfOk answer (λ tables. IsFinished size (made_of merge sources job) (map rows_of tables)) → IfErr answer (RefusesJobRange merge sources job)
    → FinishesRange merge sources size job answer
finishes_from merge sources size job (Ok tables) finished refused = finished
finishes_from merge sources size job (Err e) finished refused = refused

-- If one more answer is put behind the others, the ranges up to it are finished.
pub finishes_next : (merge : Operator) (sources : List (List (List Row))) (size : ℕ) (jobs : List RangeJob) (made : List (Result (List (List RowEntry)) SlateDBError)) (here : RangeJob) (answer : Result (List (List RowEntry)) SlateDBError) → length made < length jobs → here ≡ get_or jobs (length made) here
    → FinishesRange merge sources size here answer → ((i : ℕ) (job : RangeJob) (d : Result (List (List RowEntry)) SlateDBError) → i < length made → FinishesRange merge sources size (get_or jobs i job) (get_or made i d))
    → (i : ℕ) (job : RangeJob) (d : Result (List (List RowEntry)) SlateDBError) → i < length made + 1 → FinishesRange merge sources size (get_or jobs i job) (get_or (made ++ answer ∷ []) i d)
finishes_next merge sources size [] made here answer lt is last each i job d within = absurd (omega (arith, lt))
finishes_next merge sources size (j ∷ jobs) [] here answer lt is last each zero job d within = subst (λ k. FinishesRange merge sources size k answer) is last
finishes_next merge sources size (j ∷ jobs) [] here answer lt is last each (suc i) job d within = absurd (omega (arith, within))
finishes_next merge sources size (j ∷ jobs) (m ∷ made) here answer lt is last each zero job d within = each 0 job d (omega arith)
finishes_next merge sources size (j ∷ jobs) (m ∷ made) here answer lt is last each (suc i) job d within = finishes_next merge sources size jobs made here answer (omega (arith, lt)) is last (λ k other e b. each (suc k) other e (omega (arith, b))) i job d (omega (arith, within))
