-- The sources of a merge, sought one after the other.
use Rattle.std.proofs.Common.{◌≡◌, ◌∙◌, ◌<◌, ◌≤◌, sym, refl, ap, subst, ℕ, List, [], ◌∷◌, ◌++◌, suc, zero, map, length, Option, Some, None, Bool, true, false, cond, get_or, arith}
use Rattle.std.specs.Option.{option_to_list}
use Rattle.std.specs.Prelude.{◌&&◌}
use Rattle.std.proofs.Math.ListN.{set}
use Rattle.std.proofs.lemmas.List.{length-map, set-get_or}
use Rattle.row_model.specs.Rows.{Row}
use Rattle.row_laws.specs.Keys.{is_below}
use Rattle.fleet_rows.specs.Row.{row_of, rows_of}
use Rattle.fleet_rows.specs.declared.row.RowEntry.{RowEntry}
use Rattle.std.specs.List.{AllByRecursion}
use Rattle.fleet_iter.specs.Iteration.{IteratorState, AreRising, from_key, is_exact}
use Rattle.fleet_iter.proofs.Merges.{one_exact}
use Rattle.fleet_iter.proofs.RisingRows.{rising_from}
use Rattle.fleet_iter.proofs.RisingMerges.{rising_merged}
use Rattle.fleet_iter.proofs.Dedup.{from_key_skipped}
use Rattle.fleet_iter.specs.declared.iterator.IterationOrder.{IterationOrder}
use Rattle.fleet_iter.specs.declared.iterator.IterationOrder.TheVariants.{Ascending, Descending}
use Rattle.fleet_iter.specs.Merge.{head_passes, merged_lists, lists, rows_left, merged_left, AllTaken, IsTaken, NextGives, NextGivesFrom, SkipsTo, is_known, manner, manners, all_whole, all_steady, are_exact}
use Rattle.fleet_iter.proofs.SoughtMerges.{parts_rise, seek_merged}

-- The lists, of which the first n are sought to the key.
abbrev pub sought : List ℕ → ℕ → List (List Row) → List (List Row)
sought key zero ls = ls
sought key (suc n) [] = []
sought key (suc n) (l ∷ ls) = from_key key l ∷ sought key n ls

sought_at : (key : List ℕ) (i : ℕ) (ls : List (List Row)) → get_or (sought key i ls) i [] ≡ get_or ls i []
sought_at key zero ls = refl
sought_at key (suc i) [] = refl
sought_at key (suc i) (l ∷ ls) = sought_at key i ls

sought_more : (key : List ℕ) (i : ℕ) (ls : List (List Row)) → i < length ls → sought key (suc i) ls ≡ set (sought key i ls) i (from_key key (get_or ls i []))
sought_more key zero [] lt = absurd (omega arith)
sought_more key zero (l ∷ ls) lt = refl
sought_more key (suc i) [] lt = absurd (omega arith)
sought_more key (suc i) (l ∷ ls) lt = ap (λ (w : List (List Row)). from_key key l ∷ w) (sought_more key i ls (omega arith))

sought_all : (key : List ℕ) (n : ℕ) (ls : List (List Row)) → length ls ≤ n → sought key n ls ≡ map (from_key key) ls
sought_all key zero [] le = refl
sought_all key zero (l ∷ ls) le = absurd (omega arith)
sought_all key (suc n) [] le = refl
sought_all key (suc n) (l ∷ ls) le = ap (λ (w : List (List Row)). from_key key l ∷ w) (sought_all key n ls (omega arith))

-- ---- one list of the heads and sources

lists_count : (hs : List (Option RowEntry)) (ss : List IteratorState) → AllTaken hs ss → length (lists hs (rows_left ss)) ≡ length ss
lists_count [] [] a = refl
lists_count [] (s ∷ ss) a = absurd a
lists_count (h ∷ hs) [] a = absurd a
lists_count (h ∷ hs) (s ∷ ss) a = ap suc (lists_count hs ss a.1)

lists_at : (hs : List (Option RowEntry)) (ss : List IteratorState) → AllTaken hs ss → (i : ℕ) (h : Option RowEntry) (s : IteratorState) → i < length ss → h ≡ get_or hs i h → s ≡ get_or ss i s → get_or (lists hs (rows_left ss)) i [] ≡ rows_of (option_to_list h) ++ s.rows
lists_at [] [] a i h s lt e f = absurd (omega arith)
lists_at [] (r ∷ ss) a i h s lt e f = absurd a
lists_at (g ∷ hs) [] a i h s lt e f = absurd a
lists_at (g ∷ hs) (r ∷ ss) a zero h s lt e f = ap (λ (w : Option RowEntry). rows_of (option_to_list w) ++ r.rows) (sym e) ∙ ap (λ (z : IteratorState). rows_of (option_to_list h) ++ z.rows) (sym f)
lists_at (g ∷ hs) (r ∷ ss) a (suc i) h s lt e f = lists_at hs ss a.1 i h s (omega arith) e f

lists_set : (hs : List (Option RowEntry)) (ss : List IteratorState) → AllTaken hs ss → (i : ℕ) (h : Option RowEntry) (t : IteratorState) → lists (set hs i h) (rows_left (set ss i t)) ≡ set (lists hs (rows_left ss)) i (rows_of (option_to_list h) ++ t.rows)
lists_set [] [] a i h t = refl
lists_set [] (r ∷ ss) a i h t = absurd a
lists_set (g ∷ hs) [] a i h t = absurd a
lists_set (g ∷ hs) (r ∷ ss) a zero h t = refl
lists_set (g ∷ hs) (r ∷ ss) a (suc i) h t = ap (λ (w : List (List Row)). (rows_of (option_to_list g) ++ r.rows) ∷ w) (lists_set hs ss a.1 i h t)

taken_set : (hs : List (Option RowEntry)) (ss : List IteratorState) → AllTaken hs ss → (i : ℕ) (h : Option RowEntry) (t : IteratorState) → IsTaken h t → AllTaken (set hs i h) (set ss i t)
taken_set [] [] a i h t k = tt
taken_set [] (r ∷ ss) a i h t k = absurd a
taken_set (g ∷ hs) [] a i h t k = absurd a
taken_set (g ∷ hs) (r ∷ ss) a zero h t k = (k, a.1)
taken_set (g ∷ hs) (r ∷ ss) a (suc i) h t k = (a.0, taken_set hs ss a.1 i h t k)

manner_set : (ss : List IteratorState) (i : ℕ) (s t : IteratorState) → s ≡ get_or ss i s → manner t ≡ manner s → manners (set ss i t) ≡ manners ss
manner_set [] i s t is e = refl
manner_set (r ∷ ss) zero s t is e = ap (λ (m : Bool × Bool). m ∷ manners ss) (e ∙ ap manner is)
manner_set (r ∷ ss) (suc i) s t is e = ap (λ (ms : List (Bool × Bool)). manner r ∷ ms) (manner_set ss i s t is e)

get_later : (ss : List IteratorState) (i j : ℕ) (t d : IteratorState) → suc i ≤ j → get_or (set ss i t) j d ≡ get_or ss j d
get_later [] i j t d le = refl
get_later (r ∷ ss) zero zero t d le = absurd (omega arith)
get_later (r ∷ ss) zero (suc j) t d le = refl
get_later (r ∷ ss) (suc i) zero t d le = absurd (omega arith)
get_later (r ∷ ss) (suc i) (suc j) t d le = get_later ss i j t d (omega arith)

pub head_taken : (hs : List (Option RowEntry)) (ss : List IteratorState) → AllTaken hs ss → (i : ℕ) (h : Option RowEntry) (s : IteratorState) → i < length ss → h ≡ get_or hs i h → s ≡ get_or ss i s → IsTaken h s
head_taken [] [] a i h s lt e f = absurd (omega arith)
head_taken [] (r ∷ ss) a i h s lt e f = absurd a
head_taken (g ∷ hs) [] a i h s lt e f = absurd a
head_taken (g ∷ hs) (r ∷ ss) a zero h s lt e f = subst (λ w. IsTaken w s) (sym e) (subst (IsTaken g) (sym f) a.0)
head_taken (g ∷ hs) (r ∷ ss) a (suc i) h s lt e f = head_taken hs ss a.1 i h s (omega arith) e f

-- ---- a step of a seek

pub record Sought (order : IterationOrder) (key : List ℕ) (i : ℕ) (ls : List (List Row)) (hs : List (Option RowEntry)) (ss old : List IteratorState) : Type 0 where
  pub rows : is_known order (are_exact old) ≡ true → lists hs (rows_left ss) ≡ sought key i ls
  pub rising : AllByRecursion AreRising (lists hs (rows_left ss))
  pub taken : AllTaken hs ss
  pub same_manner : is_known order (are_exact old) ≡ true → manners ss ≡ manners old
  pub later : (j : ℕ) (d : IteratorState) → i ≤ j → get_or ss j d ≡ get_or old j d

exact_of : (ss old : List IteratorState) → manners ss ≡ manners old → are_exact old ≡ true → are_exact ss ≡ true
exact_of ss old same all = ap (λ (ms : List (Bool × Bool)). all_steady ms && all_whole ms) same ∙ all

one_known : (order : IterationOrder) (key : List ℕ) (i : ℕ) (ls : List (List Row)) (hs : List (Option RowEntry)) (ss old : List IteratorState) (s : IteratorState) → i < length ss → s ≡ get_or ss i s → Sought order key i ls hs ss old
    → is_known order (are_exact old) ≡ true → is_known order (is_exact s) ≡ true
one_known Ascending key i ls hs ss old s lt f k all = one_exact ss i s lt f (exact_of ss old (k.same_manner all) all)
one_known Descending key i ls hs ss old s lt f k all = refl

rising_at : (i : ℕ) (ls : List (List Row)) → AllByRecursion AreRising ls → AreRising (get_or ls i [])
rising_at i [] all = tt
rising_at zero (l ∷ ls) all = all.0
rising_at (suc i) (l ∷ ls) all = rising_at i ls all.1

rising_set : (i : ℕ) (ls : List (List Row)) (l : List Row) → AreRising l → AllByRecursion AreRising ls → AllByRecursion AreRising (set ls i l)
rising_set i [] l r all = tt
rising_set zero (x ∷ ls) l r all = (r, all.1)
rising_set (suc i) (x ∷ ls) l r all = (all.0, rising_set i ls l r all.1)

-- The rows of a source rise, so it may be sought.
pub source_rises : (order : IterationOrder) (key : List ℕ) (i : ℕ) (ls : List (List Row)) (hs : List (Option RowEntry)) (ss old : List IteratorState) (g : Option RowEntry) (s : IteratorState) → i < length ss → Sought order key i ls hs ss old
    → g ≡ get_or hs i g → s ≡ get_or ss i s → AreRising s.rows
source_rises order key i ls hs ss old g s lt k e f = by g (subst AreRising (lists_at hs ss k.taken i g s lt e f) (rising_at i (lists hs (rows_left ss)) k.rising))
  where
    by : (w : Option RowEntry) → AreRising (rows_of (option_to_list w) ++ s.rows) → AreRising s.rows
    by None r = r
    by (Some x) r = r.1

step_rises : (stated : Bool) (key : List ℕ) (s t : IteratorState) (h : Option RowEntry) → AreRising s.rows → NextGivesFrom stated key s t h → AreRising (rows_of (option_to_list h) ++ t.rows)
step_rises true key s t h rising st = subst AreRising st.0 (rising_from key s.rows rising)
step_rises false key s t h rising st = st.1

step_taken : (stated : Bool) (key : List ℕ) (s t : IteratorState) (h : Option RowEntry) → NextGivesFrom stated key s t h → IsTaken h t
step_taken true key s t h st = st.1
step_taken false key s t h st = st.0

-- If the head is below the key, the source moves on to the key.
pub sought_step : (order : IterationOrder) (key : List ℕ) (i : ℕ) (ls : List (List Row)) (hs : List (Option RowEntry)) (ss old : List IteratorState) (g h : Option RowEntry) (s t : IteratorState) → i < length ls → i < length ss → Sought order key i ls hs ss old
    → g ≡ get_or hs i g → s ≡ get_or ss i s → head_passes (is_below key) g ≡ true → NextGivesFrom (is_known order (is_exact s)) key s t h → Sought order key (suc i) ls (set hs i h) (set ss i t) old
sought_step order key i ls hs ss old g h s t lt lt2 k e f low st = record {
  rows = λ stated. rows stated (subst (λ b. NextGivesFrom b key s t h) (one_known order key i ls hs ss old s lt2 f k stated) st);
  rising = subst (AllByRecursion AreRising) (sym (lists_set hs ss k.taken i h t))
      (rising_set i (lists hs (rows_left ss)) (rows_of (option_to_list h) ++ t.rows) (step_rises (is_known order (is_exact s)) key s t h (source_rises order key i ls hs ss old g s lt2 k e f) st) k.rising);
  taken = taken_set hs ss k.taken i h t (step_taken (is_known order (is_exact s)) key s t h st);
  same_manner = λ stated. let exact : NextGives (record s { rows = from_key key s.rows }) t h = subst (λ b. NextGivesFrom b key s t h) (one_known order key i ls hs ss old s lt2 f k stated) st in manner_set ss i s t f exact.2 ∙ k.same_manner stated;
  later = λ j d le. get_later ss i j t d le ∙ k.later j d (omega (arith, le));
}
  where
    rows : is_known order (are_exact old) ≡ true → NextGives (record s { rows = from_key key s.rows }) t h → lists (set hs i h) (rows_left (set ss i t)) ≡ sought key (suc i) ls
    rows stated exact = by g refl low
      where
        here : get_or ls i [] ≡ rows_of (option_to_list g) ++ s.rows
        here = sym (sought_at key i ls) ∙ (ap (λ (w : List (List Row)). get_or w i []) (sym (k.rows stated)) ∙ lists_at hs ss k.taken i g s lt2 e f)

        by : (w : Option RowEntry) → g ≡ w → head_passes (is_below key) w ≡ true → lists (set hs i h) (rows_left (set ss i t)) ≡ sought key (suc i) ls
        by None is low = absurd (cc low)
        by (Some x) is low =
            let all : get_or ls i [] ≡ row_of x ∷ s.rows = here ∙ ap (λ (w : Option RowEntry). rows_of (option_to_list w) ++ s.rows) is in
            let left : from_key key (get_or ls i []) ≡ rows_of (option_to_list h) ++ t.rows = ap (from_key key) all ∙ (ap (λ c. cond c (from_key key s.rows) (row_of x ∷ s.rows)) low ∙ exact.0) in
            lists_set hs ss k.taken i h t ∙ (ap (λ (w : List Row). set (lists hs (rows_left ss)) i w) (sym left) ∙ (ap (λ (w : List (List Row)). set w i (from_key key (get_or ls i []))) (k.rows stated) ∙ sym (sought_more key i ls lt)))

-- There is a state at each place within the list.
state_at : (ss : List IteratorState) (i : ℕ) → i < length ss → (s : IteratorState) × (s ≡ get_or ss i s)
state_at [] i lt = absurd (omega arith)
state_at (r ∷ ss) zero lt = (r, refl)
state_at (r ∷ ss) (suc i) lt = state_at ss i (omega arith)

-- If the head is not below the key, the source is left as it is.
pub sought_left : (order : IterationOrder) (key : List ℕ) (i : ℕ) (ls : List (List Row)) (hs : List (Option RowEntry)) (ss old : List IteratorState) (g : Option RowEntry) → i < length ls → i < length ss → Sought order key i ls hs ss old
    → g ≡ get_or hs i g → head_passes (is_below key) g ≡ false → Sought order key (suc i) ls hs ss old
sought_left order key i ls hs ss old g lt lt2 k e high = record {
  rows = λ stated. k.rows stated ∙ sym (sought_more key i ls lt ∙ (ap (λ (w : List Row). set (sought key i ls) i w) (same stated ∙ sym (sought_at key i ls)) ∙ set-get_or (sought key i ls) i []));
  rising = k.rising;
  taken = k.taken;
  same_manner = k.same_manner;
  later = λ j d le. k.later j d (omega (arith, le));
}
  where
    by : (s : IteratorState) (w : Option RowEntry) → IsTaken w s → head_passes (is_below key) w ≡ false → from_key key (rows_of (option_to_list w) ++ s.rows) ≡ rows_of (option_to_list w) ++ s.rows
    by s None a high = ap (from_key key) a.2 ∙ sym a.2
    by s (Some x) a high = ap (λ c. cond c (from_key key s.rows) (row_of x ∷ s.rows)) high

    same : is_known order (are_exact old) ≡ true → from_key key (get_or ls i []) ≡ get_or ls i []
    same stated =
        let at = state_at ss i lt2 in
        let here : get_or ls i [] ≡ rows_of (option_to_list g) ++ at.0.rows = sym (sought_at key i ls) ∙ (ap (λ (w : List (List Row)). get_or w i []) (sym (k.rows stated)) ∙ lists_at hs ss k.taken i g at.0 lt2 e at.1) in
        ap (from_key key) here ∙ (by at.0 g (head_taken hs ss k.taken i g at.0 lt2 e at.1) high ∙ sym here)

-- Once all sources have moved on, the merge has dropped its rows below the key.
pub sought_merge : (order : IterationOrder) (key : List ℕ) (n : ℕ) (hs0 hs : List (Option RowEntry)) (ss old : List IteratorState) → length (lists hs0 (rows_left old)) ≤ n → AreRising (merged_left order hs0 old) → Sought order key n (lists hs0 (rows_left old)) hs ss old
    → SkipsTo (is_known order (are_exact old)) order key hs0 old hs ss
sought_merge order key n hs0 hs ss old le rising k = by (is_known order (are_exact old)) refl
  where
    in_order : (order : IterationOrder) → is_known order (are_exact old) ≡ false → AreRising (merged_left order hs ss)
    in_order Ascending e = rising_merged (lists hs (rows_left ss)) k.rising
    in_order Descending e = absurd (cc e)

    by : (b : Bool) → is_known order (are_exact old) ≡ b → SkipsTo b order key hs0 old hs ss
    by true e = record {
      rows = ap (merged_lists order) (k.rows e ∙ sought_all key n (lists hs0 (rows_left old)) le) ∙ (seek_merged order key (lists hs0 (rows_left old)) rising ∙ from_key_skipped key (merged_left order hs0 old));
      taken = k.taken;
      same_manner = k.same_manner e;
    }
    by false e = (k.taken, in_order order e)

pub sought_none : (order : IterationOrder) (key : List ℕ) (hs : List (Option RowEntry)) (ss : List IteratorState) → AllTaken hs ss → AreRising (merged_left order hs ss) → Sought order key 0 (lists hs (rows_left ss)) hs ss ss
sought_none order key hs ss taken rising = record { rows = λ _. refl; rising = parts_rise order (lists hs (rows_left ss)) rising; taken = taken; same_manner = λ _. refl; later = λ j d le. refl }

-- The place of a source is within the lists of heads and rows.
pub within_lists : {T : Type 0} (f : T → IteratorState) (hs : List (Option RowEntry)) (all : List T) (k : ℕ) → AllTaken hs (map f all) → k < length all → k < length (lists hs (rows_left (map f all)))
within_lists f hs all k taken lt =
    let count = lists_count hs (map f all) taken in
    let as_many : length (map f all) ≡ length all = length-map _ _ in
    omega (arith, count, as_many, lt)

pub lists_within : {T : Type 0} (f : T → IteratorState) (hs : List (Option RowEntry)) (all : List T) (k : ℕ) → AllTaken hs (map f all) → length all ≤ k → length (lists hs (rows_left (map f all))) ≤ k
lists_within f hs all k taken le =
    let count = lists_count hs (map f all) taken in
    let as_many : length (map f all) ≡ length all = length-map _ _ in
    omega (arith, count, as_many, le)
