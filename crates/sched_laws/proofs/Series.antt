-- The runs that a pick takes stand one after the other, and the last of them is the lowest.
use Rattle.std.proofs.Common.{map, ◌≡◌, refl, sym, ◌∙◌, ap, subst, ℕ, ◌-◌, ◌<◌, ◌≤◌, List, [], ◌∷◌, ◌++◌, append_assoc, take, drop, length, cond, Bool, true, false, not, ◌&&◌, arith, min, eq-eqb}
use Rattle.std.specs.Prelude.{Some, nat_le, fold, ◌==◌}
use Rattle.std.specs.List.{list_all}
use Rattle.std.proofs.lemmas.Bool.{le-leb, leb-true}
use Rattle.std.proofs.lemmas.List.{length-drop, map-append, take-append-drop}
use Rattle.row_model.specs.Lists.{Pairs}
use Rattle.fleet_model.specs.Jobs.{contains}
use Rattle.fleet_model.specs.Nodes.{NodeName, Run, names_contain}
use Rattle.fleet_model.specs.Sources.{is_apart, run_ids}
use Rattle.fleet_model.specs.Invariants.TreesFit.{StandsBefore}
use Rattle.sched_model.specs.Sizes.{Sized, run_names, total_size}
use Rattle.sched_model.specs.Series.{TieredOptions, are_tiered, first_series, is_allowed, is_similar, is_taken_again, least_size, longest, may_join, oldest}
use Rattle.sched_model.specs.Picks.{last_of}
use Rattle.fleet_model.specs.Work.Scheduler.{lower}
use Rattle.sched_laws.proofs.Lists.{both_true, true_and}
use Rattle.sched_laws.proofs.Names.{In, apart_at, apart_from, in_back, in_first, in_later}

-- The bounds of options are at least 1.
pub tiered_bounds : (o : TieredOptions) → are_tiered o ≡ true → (1 ≤ o.least) × (1 ≤ o.most)
tiered_bounds o tiered =
    let first = both_true (nat_le 1 o.least && nat_le o.least o.most) (nat_le 1 o.denominator) tiered in
    let bounds = both_true (nat_le 1 o.least) (nat_le o.least o.most) first.0 in
    let least = leb-true 1 o.least bounds.0 in
    let most = leb-true o.least o.most bounds.1 in
    (least, omega (arith, least, most))

-- The least number of sources is at most the greatest.
pub tiered_order : (o : TieredOptions) → are_tiered o ≡ true → o.least ≤ o.most
tiered_order o tiered =
    let first = both_true (nat_le 1 o.least && nat_le o.least o.most) (nat_le 1 o.denominator) tiered in
    leb-true o.least o.most (both_true (nat_le 1 o.least) (nat_le o.least o.most) first.0).1

-- ---- runs that a series takes

-- The found runs are among the runs, one after the other. There is one at least, and none of them is used.
pub record IsFound (used : List NodeName) (runs found : List Sized) : Type 0 where
  pub before : List Sized
  pub first : Sized
  pub others : List Sized
  pub after : List Sized
  pub is : found ≡ first ∷ others
  pub whole : runs ≡ before ++ (first ∷ others ++ after)
  pub free : is_apart (run_names found) used ≡ true

-- A list with an element has a first one.
record Begins {X : Type 0} (xs : List X) : Type 0 where
  first : X
  others : List X
  is : xs ≡ first ∷ others

begins : {X : Type 0} (xs : List X) → 1 ≤ length xs → Begins xs
begins [] some = absurd (omega arith)
begins (x ∷ xs) some = record { first = x; others = xs; is = refl }

module _ (o : TieredOptions) (used : List NodeName) where
  goes_on : (series older : List Sized) → (rest : List Sized) × (longest (may_join o used) series older ++ rest ≡ series ++ older)
  goes_on series [] = ([], refl)
  goes_on series (run ∷ older) = by (may_join o used series run older) (goes_on (series ++ run ∷ []) older)
    where
      by : (b : Bool) → (rest : List Sized) × (longest (may_join o used) (series ++ run ∷ []) older ++ rest ≡ (series ++ run ∷ []) ++ older)
          → (rest : List Sized) × (cond b (longest (may_join o used) (series ++ run ∷ []) older) series ++ rest ≡ series ++ run ∷ older)
      by true later = (later.0, later.1 ∙ append_assoc series (run ∷ []) older)
      by false later = (run ∷ older, refl)

  joined_free : (series : List Sized) (run : Sized) (older : List Sized) → may_join o used series run older ≡ true → is_apart (run_names (series ++ run ∷ [])) used ≡ true
  joined_free series run older may =
      let names = run_names (series ++ run ∷ []) in
      let size = total_size (series ++ run ∷ []) in
      let similar = both_true (is_similar o (least_size series) run) (is_allowed o used names size (Run run.id) older) may in
      let allowed = both_true (is_apart (Run run.id ∷ names) used) (not (is_taken_again o size older)) similar.1 in
      (both_true (not (names_contain used (Run run.id))) (is_apart names used) allowed.0).1

  free : (series older : List Sized) → is_apart (run_names series) used ≡ true → is_apart (run_names (longest (may_join o used) series older)) used ≡ true
  free series [] apart = apart
  free series (run ∷ older) apart = by (may_join o used series run older) refl (free (series ++ run ∷ []) older)
    where
      by : (b : Bool) → may_join o used series run older ≡ b
          → (is_apart (run_names (series ++ run ∷ [])) used ≡ true → is_apart (run_names (longest (may_join o used) (series ++ run ∷ []) older)) used ≡ true)
          → is_apart (run_names (cond b (longest (may_join o used) (series ++ run ∷ []) older) series)) used ≡ true
      by true may later = later (joined_free series run older may)
      by false may later = apart

  oldest_free : (k : ℕ) (series : List Sized) → is_apart (run_names series) used ≡ true → is_apart (run_names (drop k series)) used ≡ true
  oldest_free k series apart =
      let all : run_names (take k series) ++ run_names (drop k series) ≡ run_names series = sym (map-append (λ (r : Sized). Run r.id) (take k series) (drop k series)) ∙ ap run_names (take-append-drop k series) in
      apart_from (run_names (drop k series)) used
      (λ x h there. apart_at (run_names series) used x apart (subst (In x) all (in_back x (run_names (take k series)) (run_names (drop k series)) h)) there)

  -- The last runs of a series are found: they stand among the runs, and no job uses one.
  of_series : (runs series rest : List Sized) (k : ℕ) → series ++ rest ≡ runs → is_apart (run_names series) used ≡ true → 1 ≤ length (drop k series) → IsFound used runs (drop k series)
  of_series runs series rest k all apart some =
      let front = begins (drop k series) some in
      let parts : take k series ++ (drop k series ++ rest) ≡ runs = sym (append_assoc (take k series) (drop k series) rest) ∙ ap (λ l. l ++ rest) (take-append-drop k series) ∙ all in
      record {
        before = take k series;
        first = front.first;
        others = front.others;
        after = rest;
        is = front.is;
        whole = sym parts ∙ ap (λ l. take k series ++ (l ++ rest)) front.is;
        free = oldest_free k series apart;
      }

  -- What `first_series` finds stands among the runs, and is not used.
  pub series_is_found : 1 ≤ o.least → 1 ≤ o.most → (runs found : List Sized) → first_series o used runs ≡ Some found → IsFound used runs found
  series_is_found least most [] found e = absurd (cc e)
  series_is_found least most (run ∷ older) found e =
      by (nat_le o.least (length (longest (may_join o used) [] (run ∷ older)))) refl e (series_is_found least most older found)
    where
      passed : IsFound used older found → IsFound used (run ∷ older) found
      passed f = record {
        before = run ∷ f.before;
        first = f.first;
        others = f.others;
        after = f.after;
        is = f.is;
        whole = ap (λ (l : List Sized). run ∷ l) f.whole;
        free = f.free;
      }

      by : (b : Bool) → nat_le o.least (length (longest (may_join o used) [] (run ∷ older))) ≡ b
          → cond b (Some (oldest o.most (longest (may_join o used) [] (run ∷ older)))) (first_series o used older) ≡ Some found
          → (first_series o used older ≡ Some found → IsFound used older found) → IsFound used (run ∷ older) found
      by true long is later =
          let series = longest (may_join o used) [] (run ∷ older) in
          let same : oldest o.most series ≡ found = cc is in
          let enough = leb-true o.least (length series) long in
          let all = goes_on [] (run ∷ older) in
          let some : 1 ≤ length (drop (length series - o.most) series) = omega (arith, length-drop (length series - o.most) series, enough) in
          subst (IsFound used (run ∷ older)) same (of_series (run ∷ older) series all.0 (length series - o.most) all.1 (free [] (run ∷ older) refl) some)
      by false short is later = passed (later is)

-- The series that is found has as many runs as a job may have.
pub found_is_within : (o : TieredOptions) (used : List NodeName) → o.least ≤ o.most → (runs found : List Sized) → first_series o used runs ≡ Some found → (o.least ≤ length found) × (length found ≤ o.most)
found_is_within o used bounds [] found e = absurd (cc e)
found_is_within o used bounds (run ∷ older) found e =
    by (nat_le o.least (length (longest (may_join o used) [] (run ∷ older)))) refl e (found_is_within o used bounds older found)
  where
    by : (b : Bool) → nat_le o.least (length (longest (may_join o used) [] (run ∷ older))) ≡ b
        → cond b (Some (oldest o.most (longest (may_join o used) [] (run ∷ older)))) (first_series o used older) ≡ Some found
        → (first_series o used older ≡ Some found → (o.least ≤ length found) × (length found ≤ o.most)) → (o.least ≤ length found) × (length found ≤ o.most)
    by true long is later =
        let series = longest (may_join o used) [] (run ∷ older) in
        let same : oldest o.most series ≡ found = cc is in
        let enough = leb-true o.least (length series) long in
        let count = length-drop (length series - o.most) series in
        let size = ap length same in
        (omega (arith, bounds, enough, count, size), omega (arith, count, size))
    by false short is later = later is

-- ---- the last run is the lowest

pub last_some : (run : Sized) (runs : List Sized) → (id : ℕ) × (last_of (map (λ r. r.id) (run ∷ runs)) ≡ Some id)
last_some run [] = (run.id, refl)
last_some run (next ∷ runs) = last_some next runs

pub last_is_in : (run : Sized) (runs : List Sized) (id : ℕ) → last_of (map (λ r. r.id) (run ∷ runs)) ≡ Some id → In (Run id) (run_names (run ∷ runs))
last_is_in run [] id is =
    let same : run.id ≡ id = cc is in
    subst (λ n. In (Run n) (Run run.id ∷ [])) same (in_first (Run run.id) [])
last_is_in run (next ∷ runs) id is = in_later (Run id) (Run run.id) (run_names (next ∷ runs)) (last_is_in next runs id is)

pub last_is_contained : (run : Sized) (runs : List Sized) (id : ℕ) → last_of (map (λ r. r.id) (run ∷ runs)) ≡ Some id → contains (run_ids (run_names (run ∷ runs))) id ≡ true
last_is_contained run [] id is =
    let same : run.id ≡ id = cc is in
    ap (λ b. cond b true false) (eq-eqb run.id id same)
last_is_contained run (next ∷ runs) id is = by (run.id == id) (last_is_contained next runs id is)
  where
    by : (b : Bool) → contains (run_ids (run_names (next ∷ runs))) id ≡ true → cond b true (contains (run_ids (run_names (next ∷ runs))) id) ≡ true
    by true h = refl
    by false h = h

pub last_is_low : (run : Sized) (runs : List Sized) (id : ℕ) → Pairs StandsBefore (run_names (run ∷ runs)) → last_of (map (λ r. r.id) (run ∷ runs)) ≡ Some id
    → list_all (λ r. nat_le id r) (run_ids (run_names (run ∷ runs))) ≡ true
last_is_low run [] id fall is =
    let same : run.id ≡ id = cc is in
    true_and (nat_le id run.id) true (le-leb id run.id (omega arith)) refl
last_is_low run (next ∷ runs) id fall is =
    let later = last_is_low next runs id fall.1 is in
    let next_low = leb-true id next.id (both_true (nat_le id next.id) (list_all (λ r. nat_le id r) (run_ids (run_names runs))) later).0 in
    let above : next.id < run.id = fall.0.0 in
    true_and (nat_le id run.id) (list_all (λ r. nat_le id r) (run_ids (run_names (next ∷ runs)))) (le-leb id run.id (omega (arith, next_low, above))) later

pub lowest_is_last : (run : Sized) (runs : List Sized) → Pairs StandsBefore (run_names (run ∷ runs)) → fold lower (Some run.id) (run_ids (run_names runs)) ≡ last_of (map (λ r. r.id) (run ∷ runs))
lowest_is_last run [] fall = refl
lowest_is_last run (next ∷ runs) fall =
    let above : next.id < run.id = fall.0.0 in
    let least : min run.id next.id ≡ next.id = omega (arith, above) in
    ap (λ n. fold lower (Some n) (run_ids (run_names runs))) least ∙ lowest_is_last next runs fall.1
