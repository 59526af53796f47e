-- Where a table of a range is refused, fewer rows than it was to have are left below the key before the refused one.
use Rattle.std.proofs.Common.{◌≡◌, refl, sym, ◌∙◌, ap, subst, ℕ, ◌<◌, ◌≤◌, List, [], ◌∷◌, ◌++◌, map, length, cond, Bool, true, false, not, inl, inr, Option, Some, None}
use Rattle.std.specs.Prelude.{filter, bytes_eq, option_map}
use Rattle.std.specs.List.{AllByRecursion}
use Rattle.std.specs.List.Sorted.{IsStrictlySortedBy}
use Rattle.std.specs.Ordering.{is_lt}
use Rattle.std.specs.declared.cmp.Ordering.TheVariants.{Less}
use Rattle.std.proofs.lemmas.Cmp.{nat_list_cmp_total}
use Rattle.std.proofs.lemmas.List.{append-nil}
use Rattle.std.proofs.lemmas.List.Elements.{filter-append}
use Rattle.std.proofs.lemmas.Slice.Eq.{bytes_eq-Decides}
use Rattle.row_model.specs.Chunks.{Chunk, elements, chunk_by}
use Rattle.row_model.specs.Fold.{Operator}
use Rattle.row_model.specs.FoldedRows.{folded_rows}
use Rattle.row_model.specs.JobRows.{JobRows, job_rows, key_rows}
use Rattle.row_model.specs.KeptRows.{kept_rows}
use Rattle.row_model.specs.Rows.{Row, key_cmp, row_cmp, rows_of_key, same_key, IsStrictlyOrdered}
use Rattle.row_model.specs.Settings.{Settings}
use Rattle.row_laws.specs.Keys.{is_below, is_from}
use Rattle.row_laws.specs.Refusals.{IsWholeOrStops, RefusesIn}
use Rattle.row_laws.specs.Resume.{Cursor, is_unwritten, made_after}
use Rattle.row_laws.proofs.ApartRows.{all_filter, false_or, filter_all, filter_none, lt_is, ordered_filter, passes}
use Rattle.row_laws.proofs.Elements.{all_back, all_weaken}
use Rattle.row_laws.proofs.KeptReads.{flat, flat-chunk_by}
use Rattle.row_laws.proofs.KeyRows.{IsOther, job_keys, of_key-all, of_key-append, of_key-others}
use Rattle.row_laws.proofs.Parts.{jobs_cut_between_keys}
use Rattle.row_laws.proofs.Refusals.{whole_unless_refused}
use Rattle.script_model.specs.Refusals.{below, key_before_refusal}
use Rattle.fleet_fold.proofs.JobsChunks.{AreWholeKeys, lesser, whole_keys}
use Rattle.fleet_exec.specs.Ranges.{from_cursor}
use Rattle.fleet_exec.specs.Taking.{is_left, left_after}
use Rattle.fleet_exec.proofs.Opened.{from_is_filter}

-- ---- lists

-- Two tests may change places.
filters_swap : (p q : Row → Bool) (rows : List Row) → filter p (filter q rows) ≡ filter q (filter p rows)
filters_swap p q [] = refl
filters_swap p q (r ∷ rows) = by (p r) refl (q r) refl (filters_swap p q rows)
  where
    by : (a : Bool) → p r ≡ a → (b : Bool) → q r ≡ b → filter p (filter q rows) ≡ filter q (filter p rows) → filter p (cond b (r ∷ filter q rows) (filter q rows)) ≡ filter q (cond a (r ∷ filter p rows) (filter p rows))
    by true e true f rest =
        ap (λ c. cond c (r ∷ filter p (filter q rows)) (filter p (filter q rows))) e ∙ ap (λ (xs : List Row). r ∷ xs) rest
        ∙ sym (ap (λ c. cond c (r ∷ filter q (filter p rows)) (filter q (filter p rows))) f)
    by true e false f rest = rest ∙ sym (ap (λ c. cond c (r ∷ filter q (filter p rows)) (filter q (filter p rows))) f)
    by false e true f rest = ap (λ c. cond c (r ∷ filter p (filter q rows)) (filter p (filter q rows))) e ∙ rest
    by false e false f rest = rest

-- What the rows that pass a test have, and the others too, all rows have.
all_either : (P : Row → Type 0) (p : Row → Bool) (rows : List Row) → AllByRecursion P (filter p rows) → ((r : Row) → p r ≡ false → P r) → AllByRecursion P rows
all_either P p [] all others = tt
all_either P p (r ∷ rows) all others = by (p r) refl all (λ rest. all_either P p rows rest others)
  where
    by : (b : Bool) → p r ≡ b → AllByRecursion P (cond b (r ∷ filter p rows) (filter p rows)) → (AllByRecursion P (filter p rows) → AllByRecursion P rows) → P r × AllByRecursion P rows
    by true e all further = (all.0, further all.1)
    by false e all further = (others r e, further all)

ordered_back : (xs ys : List Row) → IsStrictlyOrdered (xs ++ ys) → IsStrictlyOrdered ys
unfolding IsStrictlySortedBy
ordered_back [] ys ordered = ordered
ordered_back (x ∷ xs) ys ordered = ordered_back xs ys ordered.1

false_of : (b : Bool) → not b ≡ true → b ≡ false
false_of true h = sym h
false_of false h = refl

true_of : (b : Bool) → not b ≡ false → b ≡ true
true_of true h = refl
true_of false h = sym h

-- ---- jobs below a key and from it on

module _ (merge : Operator) (settings : Settings) where
  abbrev make : List Row → JobRows
  make rows = job_rows merge settings rows

  -- The rows of a job below a key are what it makes of the rows below the key.
  made_below : (key : List ℕ) (rows : List Row) → IsStrictlyOrdered rows → filter (is_below key) (make rows).rows ≡ (make (filter (is_below key) rows)).rows
  made_below key rows ordered = ap (λ (j : JobRows). filter (is_below key) j.rows) (jobs_cut_between_keys merge settings key rows ordered) ∙ by low.whole
    where
      low : JobRows
      low = make (filter (is_below key) rows)

      high : JobRows
      high = make (filter (is_from key) rows)

      all_low : filter (is_below key) low.rows ≡ low.rows
      all_low = filter_all (is_below key) low.rows (job_keys (λ (k : List ℕ). is_lt (key_cmp k key) ≡ true) merge settings (filter (is_below key) rows) (passes (is_below key) rows))

      none_high : filter (is_below key) high.rows ≡ []
      none_high =
          filter_none (is_below key) high.rows
          (job_keys (λ (k : List ℕ). is_lt (key_cmp k key) ≡ false) merge settings (filter (is_from key) rows)
          (all_weaken (λ (r : Row). is_from key r ≡ true) (λ (r : Row). is_below key r ≡ false) (λ r h. false_of (is_below key r) h) (filter (is_from key) rows) (passes (is_from key) rows)))

      by : (b : Bool) → filter (is_below key) (cond b (record { rows = low.rows ++ high.rows; whole = high.whole }) low).rows ≡ low.rows
      by true = filter-append (is_below key) low.rows high.rows ∙ ap (λ (xs : List Row). xs ++ filter (is_below key) high.rows) all_low ∙ ap (λ (xs : List Row). low.rows ++ xs) none_high ∙ append-nil low.rows
      by false = all_low

  -- If a job is whole, so is the job of the rows from a key on.
  whole_from : (key : List ℕ) (rows : List Row) → IsStrictlyOrdered rows → (make rows).whole ≡ true → (make (filter (is_from key) rows)).whole ≡ true
  whole_from key rows ordered whole = by low.whole refl (sym (ap (λ (j : JobRows). j.whole) (jobs_cut_between_keys merge settings key rows ordered)) ∙ whole)
    where
      low : JobRows
      low = make (filter (is_below key) rows)

      high : JobRows
      high = make (filter (is_from key) rows)

      by : (b : Bool) → low.whole ≡ b → (cond b (record { rows = low.rows ++ high.rows; whole = high.whole }) low).whole ≡ true → high.whole ≡ true
      by true e h = h
      by false e h = absurd (cc (e, h))

  -- ---- what is left of the rows of a range after a cursor

  module _ (all : List Row) (ordered : IsStrictlyOrdered all) (cursor : Option Cursor) (most : ℕ) (some : 1 ≤ most) (left : List Row) (are : left ≡ (made_after merge settings cursor all).rows) where
    abbrev read : List Row
    read = from_cursor cursor all

    -- If the row is below the key, fewer rows are left below the row's key.
    abbrev Few : List ℕ → Row → Type 0
    Few key r = is_below key r ≡ true → length (filter (is_below r.key) left) < most

    all_left : (rows : List Row) → left_after None rows ≡ rows
    all_left [] = refl
    all_left (r ∷ rows) = ap (λ (xs : List Row). r ∷ xs) (all_left rows)

    -- What is left below a key is made of the rows below it.
    left_below : (key : List ℕ) → filter (is_below key) left ≡ left_after cursor (make (filter (is_below key) read)).rows
    left_below key = ap (filter (is_below key)) are ∙ by cursor
      where
        by : (c : Option Cursor) → filter (is_below key) (made_after merge settings c all).rows ≡ left_after c (make (filter (is_below key) (from_cursor c all))).rows
        by None = made_below key all ordered ∙ sym (all_left (make (filter (is_below key) all)).rows)
        by (Some c) =
            filters_swap (is_below key) (is_left (Some c)) (make (filter (is_from c.0) all)).rows
            ∙ ap (left_after (Some c)) (made_below key (filter (is_from c.0) all) (ordered_filter (is_from c.0) all ordered))
            ∙ ap (λ (rows : List Row). left_after (Some c) (make (filter (is_below key) rows)).rows) (sym (from_is_filter c.0 all ordered))

    -- Nothing is left below the key of a row that is below the cursor.
    none_left : (c : Cursor) → cursor ≡ Some c → (r : Row) → is_below c.0 r ≡ true → filter (is_below r.key) left ≡ []
    none_left c is r low =
        filter_none (is_below r.key) left
        (subst (AllByRecursion (λ (q : Row). is_below r.key q ≡ false)) (sym (are ∙ ap (λ (o : Option Cursor). (made_after merge settings o all).rows) is))
        (all_filter (λ (q : Row). is_below r.key q ≡ false) (is_unwritten c) (make (filter (is_from c.0) all)).rows
        (job_keys (λ (k : List ℕ). is_lt (key_cmp k r.key) ≡ false) merge settings (filter (is_from c.0) all)
        (all_weaken (λ (q : Row). is_from c.0 q ≡ true) (λ (q : Row). is_below r.key q ≡ false) apart (filter (is_from c.0) all) (passes (is_from c.0) all)))))
      where
        apart : (q : Row) → is_from c.0 q ≡ true → is_below r.key q ≡ false
        apart q from = false_or (is_below r.key q) (λ under.
            let less = nat_list_cmp_total.trans q.key r.key c.0 (lt_is (key_cmp q.key r.key) under) (lt_is (key_cmp r.key c.0) low) in
            let clash : true ≡ false = sym (ap is_lt less) ∙ false_of (is_below c.0 q) from in
            cc clash)

    -- Below each row that is below the key, fewer rows are left, if it is so for the rows that are read.
    few_all : (key : List ℕ) → AllByRecursion (Few key) read → AllByRecursion (Few key) all
    few_all key few = by cursor refl few
      where
        by : (c : Option Cursor) → cursor ≡ c → AllByRecursion (Few key) (from_cursor c all) → AllByRecursion (Few key) all
        by None is few = few
        by (Some c) is few =
            all_either (Few key) (is_from c.0) all (subst (AllByRecursion (Few key)) (from_is_filter c.0 all ordered) few)
            (λ r under low. subst (λ (xs : List Row). length xs < most) (sym (none_left c is r (true_of (is_below c.0 r) under))) some)

    -- No fold refuses in the rows that are read below the key, if none refuses in all rows below it.
    whole_read : (key : List ℕ) → (make (filter (is_below key) all)).whole ≡ true → (make (filter (is_below key) read)).whole ≡ true
    whole_read key whole = by cursor
      where
        by : (c : Option Cursor) → (make (filter (is_below key) (from_cursor c all))).whole ≡ true
        by None = whole
        by (Some c) =
            ap (λ (rows : List Row). (make rows).whole) (ap (filter (is_below key)) (from_is_filter c.0 all ordered) ∙ filters_swap (is_below key) (is_from c.0) all)
            ∙ whole_from c.0 (filter (is_below key) all) (ordered_filter (is_below key) all ordered) whole

    -- ---- the key before a refused fold

    abbrev key_parts : Chunk Row → Option (List Row) × List ℕ
    key_parts g = (key_rows merge settings (elements g), g.0.key)

    -- The refused key is another one than that of a chunk in which no fold refuses.
    other_key : (key : List ℕ) (g : Chunk Row) (gs : List (Chunk Row)) (rows : List Row) → AreWholeKeys (g ∷ gs) → RefusesIn merge settings key (flat (g ∷ gs)) → key_rows merge settings (elements g) ≡ Some rows → bytes_eq key g.0.key ≡ false
    other_key key g gs rows whole refuses made = false_or (bytes_eq key g.0.key) (λ same.
        let is : key ≡ g.0.key = (bytes_eq-Decides key g.0.key).0 same in
        let here : rows_of_key g.0.key (elements g) ≡ elements g = of_key-all g.0.key (elements g) (all_weaken (λ (r : Row). r.key ≡ g.0.key) (λ (r : Row). bytes_eq g.0.key r.key ≡ true) (λ r h. (bytes_eq-Decides g.0.key r.key).1 (sym h)) (elements g) whole.0.keys) in
        let all_here : rows_of_key g.0.key (flat (g ∷ gs)) ≡ elements g =
        of_key-append g.0.key (elements g) (flat gs) ∙ ap (λ (xs : List Row). rows_of_key g.0.key (elements g) ++ xs) (of_key-others g.0.key (flat gs) whole.1) ∙ append-nil (rows_of_key g.0.key (elements g)) ∙ here in
        let none : folded_rows merge settings.cut (elements g) ≡ None = ap (folded_rows merge settings.cut) (sym (ap (λ (k : List ℕ). rows_of_key k (flat (g ∷ gs))) is ∙ all_here)) ∙ refuses in
        let clash : None ≡ Some rows = sym (ap (option_map (kept_rows settings)) none) ∙ made in
        cc clash)

    -- The rows of another key come after the chunk.
    later_rows : (key : List ℕ) (g : Chunk Row) (gs : List (Chunk Row)) → AreWholeKeys (g ∷ gs) → bytes_eq key g.0.key ≡ false → rows_of_key key (flat (g ∷ gs)) ≡ rows_of_key key (flat gs)
    later_rows key g gs whole other =
        of_key-append key (elements g) (flat gs)
        ∙ ap (λ (xs : List Row). xs ++ rows_of_key key (flat gs)) (of_key-others key (elements g) (all_weaken (λ (r : Row). r.key ≡ g.0.key) (λ (r : Row). IsOther key r.key) (λ r h. ap (bytes_eq key) h ∙ other) (elements g) whole.0.keys))

    -- A row before a row of another key is below that key.
    under : (key : List ℕ) (first : Row) (rows : List Row) → bytes_eq key first.key ≡ false → (rows_of_key key rows ≡ [] → ⊥) → AllByRecursion (λ (q : Row). row_cmp first q ≡ Less) rows → is_below key first ≡ true
    under key first [] other there before = absurd (there refl)
    under key first (q ∷ rows) other there before = by (bytes_eq key q.key) refl there (λ there. under key first rows other there before.1)
      where
        apart : key ≡ q.key → same_key first q ≡ false
        apart is = false_or (same_key first q) (λ same.
            let clash : true ≡ false = sym ((bytes_eq-Decides key first.key).1 (is ∙ sym ((bytes_eq-Decides first.key q.key).0 same))) ∙ other in
            cc clash)

        by : (b : Bool) → bytes_eq key q.key ≡ b → (cond b (q ∷ rows_of_key key rows) (rows_of_key key rows) ≡ [] → ⊥) → ((rows_of_key key rows ≡ [] → ⊥) → is_below key first ≡ true) → is_below key first ≡ true
        by true e there further = let is = (bytes_eq-Decides key q.key).0 e in subst (λ (k : List ℕ). is_below k first ≡ true) (sym is) (lesser first q before.0 (apart is))
        by false e there further = further there

    -- So fewer rows are left below the key before the refused one.
    few_before : (key : List ℕ) (gs : List (Chunk Row)) (last : Option (List ℕ)) → AreWholeKeys gs → IsStrictlyOrdered (flat gs) → RefusesIn merge settings key (flat gs) → AllByRecursion (Few key) (flat gs) → length (below last left) < most
        → length (below (key_before_refusal last (map key_parts gs)) left) < most
    unfolding IsStrictlySortedBy
    few_before key [] last whole ordered refuses few here = here
    few_before key (g ∷ gs) last whole ordered refuses few here = by (key_rows merge settings (elements g)) refl (λ rest few_here. few_before key gs (Some g.0.key) whole.2 (ordered_back (elements g) (flat gs) ordered) rest (all_back (Few key) (elements g) (flat gs) few) few_here)
      where
        by : (o : Option (List Row)) → key_rows merge settings (elements g) ≡ o
            → (RefusesIn merge settings key (flat gs) → length (below (Some g.0.key) left) < most → length (below (key_before_refusal (Some g.0.key) (map key_parts gs)) left) < most)
            → length (below (key_before_refusal last ((o, g.0.key) ∷ map key_parts gs)) left) < most
        by None e further = here
        by (Some rows) e further =
            let other = other_key key g gs rows whole refuses e in
            let rest : RefusesIn merge settings key (flat gs) = ap (folded_rows merge settings.cut) (sym (later_rows key g gs whole other)) ∙ refuses in
            further rest (few.0 (under key g.0 (flat gs) other (there rest) (all_back (λ (q : Row). row_cmp g.0 q ≡ Less) g.1 (flat gs) ordered.0)))
          where
            there : RefusesIn merge settings key (flat gs) → rows_of_key key (flat gs) ≡ [] → ⊥
            there rest none = let clash : Some [] ≡ None = sym (ap (folded_rows merge settings.cut) none) ∙ rest in cc clash

    -- The table is refused, and fewer rows are left below each key that is read before the refused one.
    pub few_left : (make all).whole ≡ false
        → ((key : List ℕ) → (make (filter (is_below key) read)).whole ≡ true → AllByRecursion (λ (r : Row). is_below key r ≡ true → length (left_after cursor (make (filter (is_below r.key) read)).rows) < most) read)
        → length (below (key_before_refusal None (map key_parts (chunk_by same_key all))) left) < most
    few_left refused early = by (whole_unless_refused merge settings all ordered)
      where
        by : IsWholeOrStops merge settings all → length (below (key_before_refusal None (map key_parts (chunk_by same_key all))) left) < most
        by (inl whole) = let clash : true ≡ false = sym whole.0 ∙ refused in absurd (cc clash)
        by (inr stops) =
            let key = stops.0 in
            let few = few_all key (all_weaken (λ (r : Row). is_below key r ≡ true → length (left_after cursor (make (filter (is_below r.key) read)).rows) < most) (Few key) (λ r h low. subst (λ (xs : List Row). length xs < most) (sym (left_below r.key)) (h low)) read (early key (whole_read key stops.1.below))) in
            let same = sym (flat-chunk_by same_key all) in
            few_before key (chunk_by same_key all) None (whole_keys all ordered) (subst IsStrictlyOrdered same ordered) (subst (RefusesIn merge settings key) same stops.1.refuses) (subst (AllByRecursion (Few key)) same few) some
