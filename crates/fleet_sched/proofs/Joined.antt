-- Series of runs, as they are built run by run.
use Rattle.std.proofs.Common.{map, ◌≡◌, refl, sym, ◌∙◌, ap, ℕ, ◌+◌, ◌-◌, ◌<◌, ◌≤◌, List, [], ◌∷◌, ◌++◌, get_or, take, drop, length, cond, Bool, true, false, not, ◌&&◌, suc, add-one, arith}
use Rattle.std.specs.Prelude.{Option, Some, None, nat_le, sum_by}
use Rattle.std.proofs.Math.Seq.{drop-cons, drop-length, take-length}
use Rattle.std.proofs.lemmas.Bool.{le-leb, leb-true, lt-leb}
use Rattle.std.proofs.lemmas.List.{length-drop, length-take-le, map-append}
use Rattle.std.proofs.lemmas.List.Folds.{list_all-append}
use Rattle.std.proofs.lemmas.List.Sums.{fold-append, sum_by-append}
use Rattle.row_model.specs.Written.Sizes.{saturated_sum}
use Rattle.fleet_model.specs.Nodes.{NodeName, Run, names_contain}
use Rattle.sched_model.specs.Picks.{last_of}
use Rattle.fleet_model.specs.Sources.{is_apart}
use Rattle.sched_model.specs.Sizes.{Sized, run_names, total_size}
use Rattle.sched_model.specs.Series.{TieredOptions, are_tiered, first_series, oldest, is_similar, is_taken_again, least_size, lesser, longest, may_join}
use Rattle.fleet_sched.proofs.Longest.{goes_on, ends, not_shorter, is_front, to_here}

-- The test of a series of similar sizes.
abbrev pub similar : TieredOptions → List Sized → Sized → List Sized → Bool
similar o series run older = is_similar o (least_size series) run

-- The least size of one run more.
pub least_of_more : (runs : List Sized) (i : ℕ) (run : Sized) (least : Option ℕ) → i < length runs → run ≡ get_or runs i run → least ≡ least_size (take i runs) → lesser least run ≡ least_size (take (i + 1) runs)
least_of_more runs i run least lt is so =
    ap (λ l. lesser l run) so ∙ sym (fold-append lesser None (take i runs) (run ∷ [])) ∙ ap least_size (to_here runs i run lt is)

-- The size of one run more.
pub size_of_more : (runs : List Sized) (i : ℕ) (run : Sized) (size : ℕ) → i < length runs → run ≡ get_or runs i run → size ≡ total_size (take i runs) → saturated_sum (size + run.size) ≡ total_size (take (i + 1) runs)
size_of_more runs i run size lt is so =
    let sum : sum_by (λ (r : Sized). r.size) (take i runs ++ run ∷ []) ≡ sum_by (λ (r : Sized). r.size) (take i runs) + (0 + run.size) = sum_by-append (λ (r : Sized). r.size) (take i runs) (run ∷ []) in
    let both : saturated_sum (size + run.size) ≡ total_size (take i runs ++ run ∷ []) = omega (arith, sum, so) in
    both ∙ ap total_size (to_here runs i run lt is)

-- What is known of a series in the midst: it goes on from the first runs.
pub record IsMidway (may_add : List Sized → Sized → List Sized → Bool) (runs : List Sized) (i : ℕ) : Type 0 where
  pub goes : longest may_add [] runs ≡ longest may_add (take i runs) (drop i runs)
  pub within : i ≤ length runs

pub midway_begins : (may_add : List Sized → Sized → List Sized → Bool) (runs : List Sized) → IsMidway may_add runs 0
midway_begins may_add runs = record { goes = refl; within = omega arith }

pub midway_goes_on : (may_add : List Sized → Sized → List Sized → Bool) (runs : List Sized) (i : ℕ) (run : Sized) → IsMidway may_add runs i → i < length runs → run ≡ get_or runs i run
    → may_add (take i runs) run (drop (i + 1) runs) ≡ true → IsMidway may_add runs (i + 1)
midway_goes_on may_add runs i run m lt is may = record { goes = m.goes ∙ goes_on may_add runs i run lt is may; within = omega arith }

pub midway_ends : (may_add : List Sized → Sized → List Sized → Bool) (runs : List Sized) (i : ℕ) (run : Sized) → IsMidway may_add runs i → i < length runs → run ≡ get_or runs i run
    → may_add (take i runs) run (drop (i + 1) runs) ≡ false → length (longest may_add [] runs) ≡ i
midway_ends may_add runs i run m lt is not_added =
    let all : longest may_add [] runs ≡ take i runs = m.goes ∙ ends may_add runs i run lt is not_added in
    ap length all ∙ length-take-le i runs (omega arith)

pub midway_is_whole : (may_add : List Sized → Sized → List Sized → Bool) (runs : List Sized) (i : ℕ) → IsMidway may_add runs i → length runs ≤ i → length (longest may_add [] runs) ≡ length runs
midway_is_whole may_add runs i m past =
    let all : i ≡ length runs = omega (arith, m.within) in
    let whole : longest may_add [] runs ≡ longest may_add (take (length runs) runs) (drop (length runs) runs) = m.goes ∙ ap (λ n. longest may_add (take n runs) (drop n runs)) all in
    ap length (whole ∙ ap (longest may_add (take (length runs) runs)) (drop-length runs) ∙ take-length runs)

pub midway_is_long : (may_add : List Sized → Sized → List Sized → Bool) (runs : List Sized) (i : ℕ) → IsMidway may_add runs i → i ≤ length (longest may_add [] runs)
midway_is_long may_add runs i m =
    let long = not_shorter may_add (take i runs) (drop i runs) in
    let front : length (take i runs) ≡ i = length-take-le i runs m.within in
    omega (arith, long, front, ap length m.goes)

-- A run may be added to unused runs if it is similar, unused, and not taken again at once.
pub may_join_is : (o : TieredOptions) (used : List NodeName) (series : List Sized) (run : Sized) (older : List Sized) → is_apart (run_names series) used ≡ true
    → may_join o used series run older ≡ (is_similar o (least_size series) run && (not (names_contain used (Run run.id)) && not (is_taken_again o (total_size (series ++ run ∷ [])) older)))
may_join_is o used series run older free =
    let names : is_apart (run_names (series ++ run ∷ [])) used ≡ (not (names_contain used (Run run.id)) && true) =
    ap (λ l. is_apart l used) (map-append (λ (r : Sized). Run r.id) series (run ∷ []))
    ∙ list_all-append (λ x. not (names_contain used x)) (run_names series) (Run run.id ∷ [])
    ∙ ap (λ b. b && (not (names_contain used (Run run.id)) && true)) free in
    ap (λ b. is_similar o (least_size series) run && ((not (names_contain used (Run run.id)) && b) && not (is_taken_again o (total_size (series ++ run ∷ [])) older))) names
    ∙ ap (λ b. is_similar o (least_size series) run && (b && not (is_taken_again o (total_size (series ++ run ∷ [])) older))) (twice (not (names_contain used (Run run.id))))
  where
    twice : (b : Bool) → (b && (b && true)) ≡ b
    twice true = refl
    twice false = refl

-- The runs so far and a run are unused if it joins them.
pub still_free : (used : List NodeName) (runs : List Sized) (i : ℕ) (run : Sized) → i < length runs → run ≡ get_or runs i run → is_apart (run_names (take i runs)) used ≡ true
    → not (names_contain used (Run run.id)) ≡ true → is_apart (run_names (take (i + 1) runs)) used ≡ true
still_free used runs i run lt is free unused =
    ap (λ l. is_apart (run_names l) used) (sym (to_here runs i run lt is))
    ∙ ap (λ l. is_apart l used) (map-append (λ (r : Sized). Run r.id) (take i runs) (run ∷ []))
    ∙ list_all-append (λ x. not (names_contain used x)) (run_names (take i runs)) (Run run.id ∷ [])
    ∙ ap (λ b. b && (not (names_contain used (Run run.id)) && true)) free
    ∙ ap (λ b. b && true) unused

pub both_true : (a b : Bool) → (a && b) ≡ true → (a ≡ true) × (b ≡ true)
both_true true b e = (refl, e)
both_true false b e = absurd (cc e)

-- The first series is that of these runs, if it is long enough.
pub series_found : (o : TieredOptions) (used : List NodeName) (run : Sized) (older : List Sized) (len : ℕ) → len ≡ length (longest (may_join o used) [] (run ∷ older)) → o.least ≤ len
    → first_series o used (run ∷ older) ≡ Some (oldest o.most (take len (run ∷ older)))
series_found o used run older len is long =
    let series = longest (may_join o used) [] (run ∷ older) in
    let test : nat_le o.least (length series) ≡ true = le-leb o.least (length series) (omega (arith, is)) in
    let front : series ≡ take len (run ∷ older) = is_front (may_join o used) [] (run ∷ older) ∙ ap (λ n. take n (run ∷ older)) (sym is) in
    ap (λ b. cond b (Some (oldest o.most series)) (first_series o used older)) test ∙ ap (λ l. Some (oldest o.most l)) front

-- If their series is not long enough, the first series is that of the older runs.
pub series_passed : (o : TieredOptions) (used : List NodeName) (run : Sized) (older : List Sized) (len : ℕ) → len ≡ length (longest (may_join o used) [] (run ∷ older)) → len < o.least
    → first_series o used (run ∷ older) ≡ first_series o used older
series_passed o used run older len is short =
    let series = longest (may_join o used) [] (run ∷ older) in
    let test : nat_le o.least (length series) ≡ false = lt-leb o.least (length series) (omega (arith, is)) in
    ap (λ b. cond b (Some (oldest o.most series)) (first_series o used older)) test

-- The same from a place on.
pub found_from : (o : TieredOptions) (used : List NodeName) (runs : List Sized) (i : ℕ) (len : ℕ) → i < length runs → len ≡ length (longest (may_join o used) [] (drop i runs)) → o.least ≤ len
    → first_series o used (drop i runs) ≡ Some (oldest o.most (take len (drop i runs)))
found_from o used [] i len lt is long = absurd (omega arith)
found_from o used (run ∷ runs) i len lt is long =
    let first : Sized = get_or (run ∷ runs) i run in
    let here : drop i (run ∷ runs) ≡ first ∷ drop (suc i) (run ∷ runs) = drop-cons (run ∷ runs) i run lt in
    ap (first_series o used) here
    ∙ series_found o used first (drop (suc i) (run ∷ runs)) len (is ∙ ap (λ l. length (longest (may_join o used) [] l)) here) long
    ∙ ap (λ l. Some (oldest o.most (take len l))) (sym here)

pub passed_from : (o : TieredOptions) (used : List NodeName) (runs : List Sized) (i : ℕ) (len : ℕ) → i < length runs → len ≡ length (longest (may_join o used) [] (drop i runs)) → len < o.least
    → first_series o used (drop i runs) ≡ first_series o used (drop (i + 1) runs)
passed_from o used [] i len lt is short = absurd (omega arith)
passed_from o used (run ∷ runs) i len lt is short =
    let first : Sized = get_or (run ∷ runs) i run in
    let here : drop i (run ∷ runs) ≡ first ∷ drop (suc i) (run ∷ runs) = drop-cons (run ∷ runs) i run lt in
    ap (first_series o used) here
    ∙ series_passed o used first (drop (suc i) (run ∷ runs)) len (is ∙ ap (λ l. length (longest (may_join o used) [] l)) here) short
    ∙ ap (λ n. first_series o used (drop n (run ∷ runs))) (sym (add-one i))

-- The sources of a series are not empty.
pub some_sources : (o : TieredOptions) (used : List NodeName) (runs found : List Sized) → 1 ≤ o.least → 1 ≤ o.most → Some found ≡ first_series o used runs → 1 ≤ length found
some_sources o used [] found least most e = absurd (cc e)
some_sources o used (run ∷ older) found least most e = by (nat_le o.least (length (longest (may_join o used) [] (run ∷ older)))) refl e (some_sources o used older found least most)
  where
    by : (b : Bool) → nat_le o.least (length (longest (may_join o used) [] (run ∷ older))) ≡ b
        → Some found ≡ cond b (Some (oldest o.most (longest (may_join o used) [] (run ∷ older)))) (first_series o used older)
        → (Some found ≡ first_series o used older → 1 ≤ length found) → 1 ≤ length found
    by true long is later =
        let series = longest (may_join o used) [] (run ∷ older) in
        let same : found ≡ oldest o.most series = cc is in
        let enough = leb-true o.least (length series) long in
        omega (arith, ap length same, length-drop (length series - o.most) series, enough)
    by false short is later = later is

-- The bounds of options are at least 1.
pub tiered_bounds : (o : TieredOptions) → are_tiered o ≡ true → (1 ≤ o.least) × (1 ≤ o.most)
tiered_bounds o tiered =
    let first = both_true (nat_le 1 o.least && nat_le o.least o.most) (nat_le 1 o.denominator) tiered in
    let bounds = both_true (nat_le 1 o.least) (nat_le o.least o.most) first.0 in
    let least = leb-true 1 o.least bounds.0 in
    let most = leb-true o.least o.most bounds.1 in
    (least, omega (arith, least, most))

-- A list that is not empty has a last number.
pub has_last : (found : List Sized) → 1 ≤ length found → last_of (map (λ r. r.id) found) ≡ None → ⊥
has_last [] some e = absurd (omega arith)
has_last (run ∷ []) some e = cc e
has_last (run ∷ next ∷ found) some e = has_last (next ∷ found) (omega arith) e
