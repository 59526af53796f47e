-- Runs whose ids fall, and the places of runs among them.
use Rattle.std.proofs.Common.{◌≡◌, refl, sym, ◌∙◌, ap, subst, ℕ, zero, suc, ◌<◌, ◌≤◌, ◌⊎◌, inl, inr, List, [], ◌∷◌, ◌++◌, ◌-◌, ◌≢◌, length, get_or, drop, Bool, true, false, not, cond, ◌+◌, arith}
use Rattle.std.specs.Prelude.{◌==◌, ◌&&◌, ◌||◌, nat_lt, slice_get, take, Option, Some, None, option_to_list}
use Rattle.std.specs.List.{HoldsAt, list_all, position_or_len}
use Rattle.std.specs.List.Sorted.{IsNonDecreasingBy, IsPartitionPoint}
use Rattle.std.specs.Ordering.{MatchOrdering, nat_cmp, ordering_index}
use Rattle.std.specs.declared.cmp.Ordering.{Ordering}
use Rattle.std.specs.declared.cmp.Ordering.TheVariants.{Less, Equal, Greater}
use Rattle.std.proofs.lemmas.Bool.{and_parts, cases_lt, eq-eqb, lt-ltb, ltb-true, ne_eqb}
use Rattle.std.proofs.lemmas.Cmp.{ranked}
use Rattle.std.proofs.lemmas.List.{length-append}
use Rattle.std.proofs.lemmas.List.Sums.{position_or_len_is}
use Rattle.std.proofs.lemmas.Option.{get_or_from_slice_get}
use Rattle.fleet_tree.specs.Falling.{are_falling, fits_between, is_above_first, is_above_one, is_below_last, is_below_one}
use Rattle.fleet_tree.specs.Lists.{joined, spliced}
use Rattle.fleet_tree.specs.declared.run.SortedRun.{SortedRun}
use Rattle.fleet_tree.proofs.Places.{left_here, place_behind, place_in_front}

-- Runs fall if the first is above the second, and the others fall.
pub falling_on : (runs : List SortedRun) (first : SortedRun) → 1 ≤ length runs → first ≡ get_or runs 0 first
    → are_falling runs ≡ (is_above_first first (drop 1 runs) && are_falling (drop 1 runs))
falling_on [] first some is = absurd (omega arith)
falling_on (run ∷ runs) first some is = ap (λ (r : SortedRun). is_above_first r runs && are_falling runs) (sym is)

-- ---- one run more at the end

-- Runs fall with one more if they fall without it, and it is below the last.
pub falling_with : (runs : List SortedRun) (last run : SortedRun) → Some last ≡ slice_get runs (length runs - 1) → (are_falling runs && nat_lt run.id last.id) ≡ are_falling (runs ++ run ∷ [])
falling_with [] last run is = absurd (cc is)
falling_with (first ∷ []) last run is = let same : last ≡ first = cc is in rw same (by (nat_lt run.id first.id))
  where
    by : (b : Bool) → b ≡ (b && true)
    by true = refl
    by false = refl
falling_with (first ∷ next ∷ runs) last run is =
    let behind : length (first ∷ next ∷ runs) - 1 ≡ suc (length (next ∷ runs) - 1) = omega arith in
    let there : Some last ≡ slice_get (next ∷ runs) (length (next ∷ runs) - 1) = rw behind at is in
    by (nat_lt next.id first.id) (are_falling (next ∷ runs)) (falling_with (next ∷ runs) last run there)
  where
    by : (b d : Bool) → (d && nat_lt run.id last.id) ≡ are_falling (next ∷ (runs ++ run ∷ [])) → ((b && d) && nat_lt run.id last.id) ≡ (b && are_falling (next ∷ (runs ++ run ∷ [])))
    by true d rest = rest
    by false d rest = refl

-- ---- falling ids, by place

-- A run is above all later ones.
above_later : (run : SortedRun) (runs : List SortedRun) → is_above_first run runs ≡ true → are_falling runs ≡ true → (j : ℕ) (d : SortedRun) → j < length runs → (get_or runs j d).id < run.id
above_later run [] above falls j d within = absurd (omega arith)
above_later run (next ∷ runs) above falls zero d within = ltb-true next.id run.id above
above_later run (next ∷ runs) above falls (suc j) d within =
    let parts = and_parts (is_above_first next runs) (are_falling runs) falls in
    let later = above_later next runs parts.0 parts.1 j d (omega arith) in
    let first = ltb-true next.id run.id above in
    omega (arith, later, first)

falls_at : (runs : List SortedRun) → are_falling runs ≡ true → (i j : ℕ) (d : SortedRun) → i < j → j < length runs → (get_or runs j d).id < (get_or runs i d).id
falls_at [] falls i j d before within = absurd (omega arith)
falls_at (run ∷ runs) falls i zero d before within = absurd (omega arith)
falls_at (run ∷ runs) falls zero (suc j) d before within =
    let parts = and_parts (is_above_first run runs) (are_falling runs) falls in
    above_later run runs parts.0 parts.1 j d (omega arith)
falls_at (run ∷ runs) falls (suc i) (suc j) d before within =
    let parts = and_parts (is_above_first run runs) (are_falling runs) falls in
    falls_at runs parts.1 i j d (omega arith) (omega arith)

not_above : (runs : List SortedRun) → are_falling runs ≡ true → (i j : ℕ) (d : SortedRun) → i ≤ j → j < length runs → (get_or runs j d).id ≤ (get_or runs i d).id
not_above runs falls i j d upto within = by (cases_lt i j)
  where
    by : (i < j) ⊎ (j ≤ i) → (get_or runs j d).id ≤ (get_or runs i d).id
    by (inl before) = let lower = falls_at runs falls i j d before within in omega (arith, lower)
    by (inr after) =
        let same : i ≡ j = omega arith in
        let P : ℕ → Type 0 = λ n. (get_or runs n d).id ≤ (get_or runs i d).id in
        subst P same (omega arith)

-- ---- the place of an id

pub place_within : (id : ℕ) (runs : List SortedRun) → position_or_len (λ run. run.id == id) runs ≤ length runs
place_within id [] = omega arith
place_within id (run ∷ runs) = by (run.id == id) (place_within id runs)
  where
    by : (b : Bool) → position_or_len (λ r. r.id == id) runs ≤ length runs → cond (not b) (1 + position_or_len (λ r. r.id == id) runs) 0 ≤ length (run ∷ runs)
    by true rest = omega arith
    by false rest = omega (arith, rest)

lower_is_other : (id other : ℕ) → nat_cmp id other ≡ Less → (other == id) ≡ false
lower_is_other id other e = let apart = ranked id other Less (sym e) in ne_eqb other id (λ same. omega (arith, apart, same))

higher_is_other : (id other : ℕ) → nat_cmp id other ≡ Greater → (other == id) ≡ false
higher_is_other id other e = let apart = ranked id other Greater (sym e) in ne_eqb other id (λ same. omega (arith, apart, same))

-- A lower id compares as a greater one.
compares_later : (id a b : ℕ) → b ≤ a → ordering_index (nat_cmp id a) ≤ ordering_index (nat_cmp id b)
compares_later id a b upto = by (nat_cmp id a) (nat_cmp id b) (ranked id a (nat_cmp id a) refl) (ranked id b (nat_cmp id b) refl)
  where
    by : (o p : Ordering) → MatchOrdering o (id < a) (id ≡ a) (a < id) → MatchOrdering p (id < b) (id ≡ b) (b < id) → ordering_index o ≤ ordering_index p
    by Less Less m n = omega arith
    by Less Equal m n = omega arith
    by Less Greater m n = omega arith
    by Equal Less m n = absurd (omega (arith, m, n, upto))
    by Equal Equal m n = omega arith
    by Equal Greater m n = omega arith
    by Greater Less m n = absurd (omega (arith, m, n, upto))
    by Greater Equal m n = absurd (omega (arith, m, n, upto))
    by Greater Greater m n = omega arith

module _ (id : ℕ) (runs : List SortedRun) (falls : are_falling runs ≡ true) where
  abbrev has : SortedRun → Bool
  has run = run.id == id

  abbrev compared : SortedRun → Ordering
  compared run = nat_cmp id run.id

  -- Any run serves for what lies past the end of a list.
  abbrev any : SortedRun
  any = record { id = 0; views = [] }

  -- A run with the id is the only one, and so the first.
  pub found_at : (place : ℕ) → place < length runs → HoldsAt (λ run. compared run ≡ Equal) runs place → place ≡ position_or_len has runs
  found_at place within at =
      let here : id ≡ (get_or runs place any).id = ranked id (get_or runs place any).id Equal (sym (at any)) in
      sym (position_or_len_is has runs place any (omega arith)
      (λ k before. let above = falls_at runs falls k place any before within in ne_eqb (get_or runs k any).id id (λ same. omega (arith, above, here, same)))
      (λ _. eq-eqb (get_or runs place any).id id (sym here)))

  rises : IsNonDecreasingBy (λ run. ordering_index (compared run)) runs
  rises i j d upto within = compares_later id (get_or runs i d).id (get_or runs j d).id (not_above runs falls i j d upto within)

  -- No run has the id if those before a gap are above it, and those after the gap are below it.
  pub found_nowhere : (gap : ℕ) → (IsNonDecreasingBy (λ run. ordering_index (compared run)) runs → IsPartitionPoint (λ run. compared run ≡ Less) (λ run. compared run ≡ Greater) runs gap)
      → length runs ≡ position_or_len has runs
  found_nowhere gap parted =
      sym (position_or_len_is has runs (length runs) any (omega arith) (λ k within. differs k within (cases_lt k gap)) (λ past. absurd (omega (arith, past))))
    where
      differs : (k : ℕ) → k < length runs → (k < gap) ⊎ (gap ≤ k) → has (get_or runs k any) ≡ false
      differs k within (inl before) = lower_is_other id (get_or runs k any).id ((parted rises).0 k any (omega arith) before)
      differs k within (inr after) = higher_is_other id (get_or runs k any).id ((parted rises).1 k any after within)

both : (a b : Bool) → a ≡ true → b ≡ true → (a && b) ≡ true
both true true x y = refl
both true false x y = y
both false b x y = x

-- No run has an id that is below the last.
pub all_above : (id : ℕ) (runs : List SortedRun) (last : SortedRun) → are_falling runs ≡ true → Some last ≡ slice_get runs (length runs - 1) → id < last.id
    → length runs ≡ position_or_len (λ run. run.id == id) runs
all_above id [] last falls is lower = refl
all_above id (run ∷ []) last falls is lower =
    let same : last ≡ run = cc is in
    let other : (run.id == id) ≡ false = ne_eqb run.id id (λ e. let l = ap (λ (r : SortedRun). r.id) same in omega (arith, lower, e, l)) in
    sym (ap (λ b. cond (not b) 1 0) other)
all_above id (run ∷ next ∷ runs) last falls is lower =
    let parts = and_parts (is_above_first run (next ∷ runs)) (are_falling (next ∷ runs)) falls in
    let behind : length (run ∷ next ∷ runs) - 1 ≡ suc (length (next ∷ runs) - 1) = omega arith in
    let there : Some last ≡ slice_get (next ∷ runs) (length (next ∷ runs) - 1) = rw behind at is in
    let rest : length (next ∷ runs) ≡ position_or_len (λ r. r.id == id) (next ∷ runs) = all_above id (next ∷ runs) last parts.1 there lower in
    let at_last = get_or_from_slice_get (next ∷ runs) (length (next ∷ runs) - 1) last last (sym there) in
    let above = not_above (run ∷ next ∷ runs) falls 0 (suc (length (next ∷ runs) - 1)) last (omega arith) (omega arith) in
    let least = ap (λ (r : SortedRun). r.id) at_last in
    let other : (run.id == id) ≡ false = ne_eqb run.id id (λ e. omega (arith, lower, e, above, least)) in
    let first : position_or_len (λ r. r.id == id) (run ∷ next ∷ runs) ≡ 1 + position_or_len (λ r. r.id == id) (next ∷ runs) =
    ap (λ b. cond (not b) (1 + position_or_len (λ (r : SortedRun). r.id == id) (next ∷ runs)) 0) other in
    omega (arith, rest, first)

-- Where runs fall, the first tells whether all are below an id.
lower_all : (id : ℕ) (first : SortedRun) (runs : List SortedRun) → is_above_first first runs ≡ true → are_falling runs ≡ true → first.id < id → list_all (λ run. nat_lt run.id id) runs ≡ true
lower_all id first [] above falls lower = refl
lower_all id first (next ∷ runs) above falls lower =
    let parts = and_parts (is_above_first next runs) (are_falling runs) falls in
    let under = ltb-true next.id first.id above in
    both (nat_lt next.id id) (list_all (λ run. nat_lt run.id id) runs) (lt-ltb next.id id (omega (arith, under, lower)))
    (lower_all id next runs parts.0 parts.1 (omega (arith, under, lower)))

pub first_tells : (id : ℕ) (runs : List SortedRun) (first : SortedRun) (rest : List SortedRun) → runs ≡ first ∷ rest → are_falling runs ≡ true
    → nat_lt first.id id ≡ list_all (λ run. nat_lt run.id id) runs
first_tells id runs first rest is falls =
    let parts = and_parts (is_above_first first rest) (are_falling rest) (ap are_falling (sym is) ∙ falls) in
    by (nat_lt first.id id) refl parts.0 parts.1 ∙ ap (list_all (λ (run : SortedRun). nat_lt run.id id)) (sym is)
  where
    by : (b : Bool) → nat_lt first.id id ≡ b → is_above_first first rest ≡ true → are_falling rest ≡ true → b ≡ (b && list_all (λ run. nat_lt run.id id) rest)
    by false e above falls = refl
    by true e above falls = sym (lower_all id first rest above falls (ltb-true first.id id e))

-- Some run is the last one.
none_last : (x : SortedRun) (xs : List SortedRun) → None ≢ slice_get (x ∷ xs) (length (x ∷ xs) - 1)
none_last x [] e = cc e
none_last x (y ∷ ys) e = none_last y ys (let m : length (x ∷ y ∷ ys) - 1 ≡ suc (length (y ∷ ys) - 1) = omega arith in rw m at e)

-- Runs fall with one more if they fall without it, and it is below the last, if there is one.
pub falling_more : (runs : List SortedRun) (run : SortedRun) (last : Option SortedRun) → last ≡ slice_get runs (length runs - 1) → (are_falling runs && is_below_one run last) ≡ are_falling (runs ++ run ∷ [])
falling_more runs run (Some last) is = falling_with runs last run is
falling_more [] run None is = refl
falling_more (first ∷ runs) run None is = absurd (none_last first runs is)

-- Parts of falling runs fall.
pub falling_front : (xs ys : List SortedRun) → are_falling (xs ++ ys) ≡ true → are_falling xs ≡ true
falling_front [] ys falls = refl
falling_front (x ∷ []) ys falls = refl
falling_front (x ∷ y ∷ xs) ys falls =
    let parts = and_parts (is_above_first x (y ∷ (xs ++ ys))) (are_falling (y ∷ (xs ++ ys))) falls in
    both (is_above_first x (y ∷ xs)) (are_falling (y ∷ xs)) parts.0 (falling_front (y ∷ xs) ys parts.1)

pub falling_rest : (xs ys : List SortedRun) → are_falling (xs ++ ys) ≡ true → are_falling ys ≡ true
falling_rest [] ys falls = falls
falling_rest (x ∷ xs) ys falls = falling_rest xs ys (and_parts (is_above_first x (xs ++ ys)) (are_falling (xs ++ ys)) falls).1

-- Runs that do not fall do not fall with one more.
pub falling_not : (runs : List SortedRun) (run : SortedRun) → are_falling runs ≡ false → are_falling (runs ++ run ∷ []) ≡ false
falling_not runs run not_falls = by (are_falling (runs ++ run ∷ [])) refl
  where
    by : (b : Bool) → are_falling (runs ++ run ∷ []) ≡ b → b ≡ false
    by false e = refl
    by true e = absurd (cc (sym not_falls ∙ falling_front runs (run ∷ []) e))

-- ---- a look at one chunk after another

-- The runs of a chunk fall, and those of the later ones.
pub chunk_falls : (chunks : List (List SortedRun)) (i : ℕ) (chunk : List SortedRun) → i < length chunks → chunk ≡ get_or chunks i chunk → are_falling (joined (drop i chunks)) ≡ true
    → are_falling chunk ≡ true
chunk_falls chunks i chunk below is falls = falling_front chunk (joined (drop (i + 1) chunks)) (ap are_falling (sym (left_here chunks i chunk below is)) ∙ falls)

pub others_fall : (chunks : List (List SortedRun)) (i : ℕ) (chunk : List SortedRun) → i < length chunks → chunk ≡ get_or chunks i chunk → are_falling (joined (drop i chunks)) ≡ true
    → are_falling (joined (drop (i + 1) chunks)) ≡ true
others_fall chunks i chunk below is falls = falling_rest chunk (joined (drop (i + 1) chunks)) (ap are_falling (sym (left_here chunks i chunk below is)) ∙ falls)

-- The first run with an id is in a chunk, or behind it.
pub found_here : (id before place all : ℕ) (chunks : List (List SortedRun)) (i : ℕ) (chunk : List SortedRun) → i < length chunks → chunk ≡ get_or chunks i chunk
    → place ≡ position_or_len (λ run. run.id == id) chunk → place < length chunk → before + position_or_len (λ run. run.id == id) (joined (drop i chunks)) ≡ all → before + place ≡ all
found_here id before place all chunks i chunk below is at within so_far =
    let left = ap (position_or_len (λ (run : SortedRun). run.id == id)) (left_here chunks i chunk below is) in
    let here = place_in_front (λ (run : SortedRun). run.id == id) chunk (joined (drop (i + 1) chunks)) (omega (arith, at, within)) in
    omega (arith, at, so_far, left, here)

pub found_later : (id before place all : ℕ) (chunks : List (List SortedRun)) (i : ℕ) (chunk : List SortedRun) → i < length chunks → chunk ≡ get_or chunks i chunk
    → place ≡ position_or_len (λ run. run.id == id) chunk → length chunk ≤ place → before + position_or_len (λ run. run.id == id) (joined (drop i chunks)) ≡ all
    → before + place + position_or_len (λ run. run.id == id) (joined (drop (i + 1) chunks)) ≡ all
found_later id before place all chunks i chunk below is at past so_far =
    let left = ap (position_or_len (λ (run : SortedRun). run.id == id)) (left_here chunks i chunk below is) in
    let later = place_behind (λ (run : SortedRun). run.id == id) chunk (joined (drop (i + 1) chunks)) (omega (arith, at, past)) in
    let most = place_within id chunk in
    omega (arith, at, past, so_far, left, later, most)

-- So many runs are in a chunk and behind it.
pub left_count : (chunks : List (List SortedRun)) (i : ℕ) (chunk : List SortedRun) → i < length chunks → chunk ≡ get_or chunks i chunk
    → length (joined (drop i chunks)) ≡ length chunk + length (joined (drop (i + 1) chunks))
left_count chunks i chunk below is = ap length (left_here chunks i chunk below is) ∙ length-append chunk (joined (drop (i + 1) chunks))

-- ---- an exchange of a part

-- What is behind falling runs falls.
pub falling_behind : (count : ℕ) (runs : List SortedRun) → are_falling runs ≡ true → are_falling (drop count runs) ≡ true
falling_behind zero runs falls = falls
falling_behind (suc count) [] falls = refl
falling_behind (suc count) (run ∷ runs) falls = falling_behind count runs (and_parts (is_above_first run runs) (are_falling runs) falls).1

-- A run above the first of falling runs is above those behind.
above_behind : (count : ℕ) (run : SortedRun) (runs : List SortedRun) → is_above_first run runs ≡ true → are_falling runs ≡ true → is_above_first run (drop count runs) ≡ true
above_behind zero run runs above falls = above
above_behind (suc count) run [] above falls = refl
above_behind (suc count) run (next ∷ runs) above falls =
    let parts = and_parts (is_above_first next runs) (are_falling runs) falls in
    let lower = ltb-true next.id run.id above in
    above_behind count run runs (through runs parts.0 lower) parts.1
  where
    through : (runs : List SortedRun) → is_above_first next runs ≡ true → next.id < run.id → is_above_first run runs ≡ true
    through [] above lower = refl
    through (other ∷ others) above lower =
        let upto = ltb-true other.id next.id above in
        lt-ltb other.id run.id (omega (arith, upto, lower))

-- The runs without those from one place up to another, and with a run there if one is given.
abbrev exchanged : (place end : ℕ) → Option SortedRun → List SortedRun → List SortedRun
exchanged place end run runs = take place runs ++ option_to_list run ++ drop end runs

-- Falling runs fall after an exchange of a part by a run that fits.
falling_exchanged : (runs : List SortedRun) (place end : ℕ) (run : Option SortedRun) → place ≤ end → are_falling runs ≡ true
    → fits_between runs place end run ≡ true → are_falling (exchanged place end run runs) ≡ true
falling_exchanged runs zero end None upto falls fits = falling_behind end runs falls
falling_exchanged runs zero end (Some run) upto falls fits =
    both (is_above_first run (drop end runs)) (are_falling (drop end runs)) fits (falling_behind end runs falls)
falling_exchanged runs (suc place) zero run upto falls fits = absurd (omega (arith, upto))
falling_exchanged [] (suc place) (suc end) None upto falls fits = refl
falling_exchanged [] (suc place) (suc end) (Some run) upto falls fits = refl
falling_exchanged (first ∷ runs) (suc place) (suc end) run upto falls fits =
    let parts = and_parts (is_above_first first runs) (are_falling runs) falls in
    both (is_above_first first (exchanged place end run runs)) (are_falling (exchanged place end run runs))
    (still_above place runs run parts.0 parts.1 fits) (falling_exchanged runs place end run (omega (arith, upto)) parts.1 (later place runs run fits))
  where
    later : (place : ℕ) (runs : List SortedRun) (run : Option SortedRun) → fits_between (first ∷ runs) (suc place) (suc end) run ≡ true
        → fits_between runs place end run ≡ true
    later place runs None fits = refl
    later zero runs (Some run) fits = (and_parts (is_below_last run (first ∷ [])) (is_above_first run (drop end runs)) fits).1
    later (suc place) [] (Some run) fits = (and_parts (is_below_last run (first ∷ [])) (is_above_first run (drop end [])) fits).1
    later (suc place) (next ∷ runs) (Some run) fits = fits

    still_above : (place : ℕ) (runs : List SortedRun) (run : Option SortedRun) → is_above_first first runs ≡ true → are_falling runs ≡ true
        → fits_between (first ∷ runs) (suc place) (suc end) run ≡ true → is_above_first first (exchanged place end run runs) ≡ true
    still_above zero runs None above falls fits = above_behind end first runs above falls
    still_above zero runs (Some run) above falls fits = (and_parts (is_below_last run (first ∷ [])) (is_above_first run (drop end runs)) fits).0
    still_above (suc place) [] None above falls fits = above_behind end first [] above falls
    still_above (suc place) [] (Some run) above falls fits = (and_parts (is_below_last run (first ∷ [])) (is_above_first run (drop end [])) fits).0
    still_above (suc place) (next ∷ runs) run above falls fits = above

-- What is known to fall after an exchange falls.
pub known_spliced : (runs : List SortedRun) (place count : ℕ) (run : Option SortedRun)
    → ((are_falling runs && fits_between runs place (place + count) run) || are_falling (spliced place count run runs)) ≡ are_falling (spliced place count run runs)
known_spliced runs place count run = by (are_falling runs) (fits_between runs place (place + count) run) refl refl
  where
    by : (a b : Bool) → are_falling runs ≡ a → fits_between runs place (place + count) run ≡ b
        → ((a && b) || are_falling (spliced place count run runs)) ≡ are_falling (spliced place count run runs)
    by true true falls fits = sym (falling_exchanged runs place (place + count) run (omega arith) falls fits)
    by true false falls fits = refl
    by false b falls fits = refl

-- ---- the runs beside a part

last_below : (run last : SortedRun) (runs : List SortedRun) → Some last ≡ slice_get runs (length runs - 1) → nat_lt run.id last.id ≡ is_below_last run runs
last_below run last [] is = absurd (cc is)
last_below run last (first ∷ []) is = let same : last ≡ first = cc is in rw same refl
last_below run last (first ∷ next ∷ runs) is =
    let behind : length (first ∷ next ∷ runs) - 1 ≡ suc (length (next ∷ runs) - 1) = omega arith in
    let there : Some last ≡ slice_get (next ∷ runs) (length (next ∷ runs) - 1) = rw behind at is in
    last_below run last (next ∷ runs) there

-- A run is below the last, if there is one.
pub below_last : (run : SortedRun) (runs : List SortedRun) (last : Option SortedRun) → last ≡ slice_get runs (length runs - 1) → is_below_one run last ≡ is_below_last run runs
below_last run runs (Some last) is = last_below run last runs is
below_last run [] None is = refl
below_last run (first ∷ runs) None is = absurd (none_last first runs is)

-- A run is above the one at a place, if there is one.
pub above_at : (run : SortedRun) (runs : List SortedRun) (end : ℕ) (next : Option SortedRun) → next ≡ slice_get runs end → is_above_one run next ≡ is_above_first run (drop end runs)
above_at run runs end next is = ap (is_above_one run) is ∙ by runs end
  where
    by : (runs : List SortedRun) (end : ℕ) → is_above_one run (slice_get runs end) ≡ is_above_first run (drop end runs)
    by [] zero = refl
    by [] (suc end) = refl
    by (first ∷ runs) zero = refl
    by (first ∷ runs) (suc end) = by runs end
