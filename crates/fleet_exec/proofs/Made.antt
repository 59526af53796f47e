-- The rows taken of a range are rows that a job makes of it.
use Rattle.std.proofs.Common.{◌≡◌, ◌≢◌, ◌∙◌, sym, refl, ap, subst, ℕ, zero, suc, ◌≤◌, ◌<◌, List, [], ◌∷◌, ◌++◌, map, take, length, Bool, true, false, Option, Some, None, arith, append-nil}
use Rattle.std.specs.Prelude.{filter}
use Rattle.std.specs.List.{AllByRecursion}
use Rattle.std.proofs.lemmas.List.{append_assoc}
use Rattle.std.proofs.lemmas.List.Elements.{filter-append}
use Rattle.row_model.specs.Bounds.{IsInBounds}
use Rattle.row_model.specs.Fold.{Operator, IsLawful}
use Rattle.row_model.specs.Written.Tables.{cut_tables}
use Rattle.row_model.specs.JobRows.{JobRows, job_rows}
use Rattle.row_model.specs.Lists.{IsPrefixOf}
use Rattle.row_model.specs.Ranges.{Range, rows_in}
use Rattle.row_model.specs.Rows.{Row}
use Rattle.row_model.specs.Settings.{Settings}
use Rattle.row_laws.specs.Keys.{is_below, is_from}
use Rattle.row_laws.specs.Resume.{Cursor}
use Rattle.row_laws.specs.Sources.{merged_rows}
use Rattle.row_laws.proofs.ApartRows.{all_filter}
use Rattle.row_laws.proofs.Sources.{sources_may_be_cut}
use Rattle.fleet_iter.specs.Iteration.{IteratorState}
use Rattle.fleet_rows.specs.Row.{rows_of}
use Rattle.fleet_rows.specs.declared.row.RowEntry.{RowEntry}
use Rattle.fleet_rows.specs.declared.errors.SlateDBError.{SlateDBError}
use Rattle.fleet_fold.specs.Jobs.{GivesJob, IsOfOperator}
use Rattle.fleet_exec.specs.Ranges.{source_rows, AreSources, left_of, ranged_sources, rows_from}
use Rattle.fleet_exec.specs.Cut.{RefusesAll, IsFinished, RefusesRange, RefusesRangeUnless}
use Rattle.fleet_exec.specs.Tables.{IsNextTable, RefusesTable, RefusesTableUnless}
use Rattle.fleet_exec.specs.Taking.{is_left, left_after, Takes, RefusesTaking}
use Rattle.fleet_exec.proofs.Bounded.{job_bounds}
use Rattle.fleet_exec.proofs.Opened.{ordered, from_is_filter}

-- ---- what a job makes of the rows from a cursor's key on

module _ (merge : Operator) (settings : Settings) (range : Range) (sources : List (List (List Row))) where
  abbrev left_from : Option Cursor → List Row → JobRows
  left_from cursor rows = record { rows = left_after cursor (job_rows merge settings rows).rows; whole = (job_rows merge settings rows).whole }

  all_left : (rows : List Row) → left_after None rows ≡ rows
  all_left [] = refl
  all_left (r ∷ rows) = ap (λ (w : List Row). r ∷ w) (all_left rows)

  twice : (sources : List (List (List Row))) → map (rows_in range) (map source_rows sources) ≡ ranged_sources range sources
  twice [] = refl
  twice (tables ∷ sources) = ap (λ (ws : List (List Row)). rows_in range (source_rows tables) ∷ ws) (twice sources)

  from_each : (key : List ℕ) (sources : List (List (List Row))) → map (λ rows. filter (is_from key) (rows_in range rows)) (map source_rows sources) ≡ map (filter (is_from key)) (ranged_sources range sources)
  from_each key [] = refl
  from_each key (tables ∷ sources) = ap (λ (ws : List (List Row)). filter (is_from key) (rows_in range (source_rows tables)) ∷ ws) (from_each key sources)

  pub made_is_left : (cursor : Option Cursor) → AreSources sources → left_of merge settings range cursor sources ≡ left_from cursor (rows_from range cursor sources)
  made_is_left None h =
      ap (λ (ls : List (List Row)). job_rows merge settings (merged_rows ls)) (twice sources)
      ∙ ap (λ (w : List Row). record (job_rows merge settings (rows_from range None sources)) { rows = w }) (sym (all_left (job_rows merge settings (rows_from range None sources)).rows))
  made_is_left (Some cursor) h =
      ap (λ (rows : List Row). left_from (Some cursor) rows)
      (ap merged_rows (from_each cursor.0 sources) ∙ (sources_may_be_cut (is_from cursor.0) (ranged_sources range sources) ∙ sym (from_is_filter cursor.0 (merged_rows (ranged_sources range sources)) (ordered range sources h))))

-- ---- first rows

taken_first : {A : Type 0} (n : ℕ) (xs ys : List A) → length xs ≤ n → (length xs < n → ys ≡ []) → take n (xs ++ ys) ≡ xs
taken_first zero [] ys few ends = refl
taken_first zero (x ∷ xs) ys few ends = absurd (omega arith)
taken_first (suc n) [] ys few ends = ap (take (suc n)) (ends (omega arith))
taken_first (suc n) (x ∷ xs) ys few ends = ap (λ ws. x ∷ ws) (taken_first n xs ys (omega arith) (λ fewer. ends (omega arith)))

length_rows : (rows : List RowEntry) → length (rows_of rows) ≡ length rows
length_rows [] = refl
length_rows (r ∷ rows) = ap suc (length_rows rows)

length_front : {A : Type 0} (xs ys : List A) → length xs ≤ length (xs ++ ys)
length_front [] ys = omega arith
length_front (x ∷ xs) ys = let rest = length_front xs ys in omega arith

none_left : (cursor : Option Cursor) (rows : List Row) → rows ≡ [] → left_after cursor rows ≡ []
none_left cursor rows h = ap (left_after cursor) h

module _ (merge : Operator) (settings : Settings) (cursor : Option Cursor) (rows : List Row) (most : ℕ) (s : IteratorState) (gives : GivesJob merge settings rows s) where
  abbrev J : JobRows
  J = job_rows merge settings rows

  abbrev L : List Row → List Row
  L w = left_after cursor w

  -- What is left of the job's rows begins with the rows taken. The rows left after them follow.
  after : (taken : List RowEntry) (new : IteratorState) → Takes most cursor s taken new → (rest : List Row) → s.rows ++ rest ≡ J.rows → L J.rows ≡ rows_of taken ++ (L new.rows ++ L rest)
  after taken new takes rest is =
      ap L (sym is) ∙ (filter-append (is_left cursor) s.rows rest ∙ (ap (λ (w : List Row). w ++ L rest) takes.rows ∙ append_assoc (rows_of taken) (L new.rows) (L rest)))

  -- The rows that are taken are the first ones that the job makes after the cursor.
  first : (taken : List RowEntry) (new : IteratorState) → Takes most cursor s taken new → (b : Bool) → s.whole ≡ b → rows_of taken ≡ take most (L J.rows)
  first taken new takes true is =
      let count = length_rows taken in
      sym (ap (take most) (after taken new takes [] (append-nil s.rows ∙ gives.all is))
      ∙ taken_first most (rows_of taken) (L new.rows ++ L []) (subst (λ n. n ≤ most) (sym count) takes.few)
      (λ fewer. ap (λ (w : List Row). w ++ []) (none_left cursor new.rows (takes.ends (subst (λ n. n < most) count fewer)).0)))
  first taken new takes false is =
      let (rest, begins) = gives.begins in
      let count = length_rows taken in
      sym (ap (take most) (after taken new takes rest begins)
      ∙ taken_first most (rows_of taken) (L new.rows ++ L rest) (subst (λ n. n ≤ most) (sym count) takes.few)
      (λ fewer. let clash : true ≡ false = sym (takes.ends (subst (λ n. n < most) count fewer)).1 ∙ is in absurd (cc clash)))

  pub next_is : (taken : List RowEntry) (new : IteratorState) → Takes most cursor s taken new → taken ≢ [] → IsNextTable (record { rows = L J.rows; whole = J.whole }) most taken
  next_is taken new takes some = record {
    rows = first taken new takes s.whole refl;
    filled = some;
    all = λ fewer. sym gives.whole ∙ (takes.ends fewer).1;
  }

  pub none_is : (taken : List RowEntry) (new : IteratorState) → Takes most cursor s taken new → 1 ≤ most → taken ≡ [] → (L J.rows ≡ []) × (J.whole ≡ true)
  none_is taken new takes some none =
      let ends = takes.ends (subst (λ (w : List RowEntry). length w < most) (sym none) (omega arith)) in
      (ap L (sym (gives.all ends.1)) ∙ (takes.rows ∙ (ap (λ (w : List RowEntry). rows_of w ++ L new.rows) none ∙ none_left cursor new.rows ends.0)), sym gives.whole ∙ ends.1)

  shorter : (xs : List Row) → IsPrefixOf xs s.rows → length (L s.rows) < most → length (L xs) < most
  shorter xs begins fewer =
      let (rest, is) = begins in
      let parts : L s.rows ≡ L xs ++ L rest = ap L (sym is) ∙ filter-append (is_left cursor) xs rest in
      let longer = length_front (L xs) (L rest) in
      let same : length (L s.rows) ≡ length (L xs ++ L rest) = ap length parts in
      omega (arith, longer, same, fewer)

  all_shorter : (P : Row → Type 0) (Q : Row → List Row) (qs : List Row) → AllByRecursion (λ r. P r → IsPrefixOf (Q r) s.rows) qs → length (L s.rows) < most → AllByRecursion (λ r. P r → length (L (Q r)) < most) qs
  all_shorter P Q [] all fewer = tt
  all_shorter P Q (q ∷ qs) all fewer = ((λ p. shorter (Q q) (all.0 p) fewer), all_shorter P Q qs all.1 fewer)

  -- If taking rows is refused, the job's next table is refused with the same error.
  pub refuses_next : (e : SlateDBError) → RefusesTaking most cursor s e → RefusesTableUnless merge settings cursor rows (record { rows = L J.rows; whole = J.whole }) most e
  refuses_next e refuses other = by s.whole refl
    where
      by : (b : Bool) → s.whole ≡ b → RefusesTable merge settings cursor rows (record { rows = L J.rows; whole = J.whole }) most e
      by true is = absurd (other (refuses.cause.memory is))
      by false is =
          let (after, (some, operator)) = gives.refusal is in
          let (fewer, same) = refuses.known after some other in
          record {
            refused = sym gives.whole ∙ is;
            operator = subst (IsOfOperator merge rows) (sym same) operator;
            early = λ key whole. all_shorter (λ r. is_below key r ≡ true) (λ r. (job_rows merge settings (filter (is_below r.key) rows)).rows) rows (gives.reaches is key whole) fewer;
          }

  -- ---- all that is left

  pub all_bounded : IsLawful merge → AllByRecursion IsInBounds rows → AllByRecursion IsInBounds (L s.rows)
  all_bounded lawful bounds =
      let (rest, is) = gives.begins in
      all_filter IsInBounds (is_left cursor) s.rows (front s.rows rest (subst (AllByRecursion IsInBounds) (sym is) (job_bounds merge lawful settings rows bounds)))
    where
      front : (xs ys : List Row) → AllByRecursion IsInBounds (xs ++ ys) → AllByRecursion IsInBounds xs
      front [] ys h = tt
      front (x ∷ xs) ys h = (h.0, front xs ys h.1)

  pub finishes : (size : ℕ) (tables : List (List Row)) → tables ≡ cut_tables size (L s.rows) → s.whole ≡ true → IsFinished size (record { rows = L J.rows; whole = J.whole }) tables
  finishes size tables cut whole = record { cut = cut ∙ ap (λ (w : List Row). cut_tables size (L w)) (gives.all whole); whole = sym gives.whole ∙ whole }

  pub refuses_finish : (e : SlateDBError) → RefusesAll s e → RefusesRangeUnless merge rows (record { rows = L J.rows; whole = J.whole }) e
  refuses_finish e refuses other = by s.whole refl
    where
      by : (b : Bool) → s.whole ≡ b → RefusesRange merge rows (record { rows = L J.rows; whole = J.whole }) e
      by true is = absurd (other (refuses.cause.memory is))
      by false is =
          let (after, (some, operator)) = gives.refusal is in
          record { refused = sym gives.whole ∙ is; operator = subst (IsOfOperator merge rows) (sym (refuses.known after some other)) operator }
