-- The levelled scheduler picks nothing exactly where every tree is within its sizes.
use Rattle.std.proofs.Common.{◌≡◌, refl, sym, ◌∙◌, ap, subst, ℕ, zero, suc, ◌+◌, ◌-◌, ◌≤◌, List, [], ◌∷◌, ◌++◌, append_assoc, take, length, cond, Bool, true, false, not, arith, ◌⊎◌, inl, inr}
use Rattle.std.specs.Prelude.{◌↔◌, ⊤, IsTrue, count_by, flat_map, nat_le, nat_lt, ◌&&◌, ◌||◌}
use Rattle.std.specs.List.{AllByRecursion, list_any}
use Rattle.std.proofs.lemmas.Bool.{le-leb, leb-true, leb-false, lt-ltb, ltb-true, ltb-false}
use Rattle.std.proofs.lemmas.List.{length-map}
use Rattle.fleet_model.specs.Handles.{Handle}
use Rattle.fleet_model.specs.Jobs.{JobSpec, nodes_of}
use Rattle.fleet_model.specs.Nodes.{NodeName, is_l0, Node, Segment, Tree, Trees, flushes_of, names, names_contain, runs_of}
use Rattle.fleet_model.specs.Work.Scheduler.{View}
use Rattle.sched_model.specs.FreshRuns.{fresh_run_id, is_under_way}
use Rattle.sched_model.specs.Levels.{LevelOptions, LevelPicking, are_runs_within, is_within, level_picks, limit, node_size, pick_flushes, pick_flushes_into, pick_into_run, pick_pair, pick_runs, pick_trees, run_id, with_fresh_pick, with_level_pick}
use Rattle.sched_laws.specs.Levels.{AllWithin, HasRoom}
use Rattle.sched_laws.proofs.LevelPicks.{KeptByPicks, picks_keep, runs_keep}
use Rattle.sched_laws.proofs.LevelShares.{in_filtered, no_facts}
use Rattle.sched_laws.proofs.Lists.{both_true, true_and}
use Rattle.sched_laws.proofs.Names.{In, apart_at, in_back, in_first, in_front, in_later}

not_below : (a b : ℕ) → nat_le b a ≡ true → nat_lt a b ≡ false
not_below a b e = by (nat_lt a b) refl
  where
    by : (t : Bool) → nat_lt a b ≡ t → nat_lt a b ≡ false
    by true f = let low = leb-true b a e in let high = ltb-true a b f in absurd (omega (arith, low, high))
    by false f = f

not_at_most : (a b : ℕ) → nat_lt b a ≡ true → nat_le a b ≡ false
not_at_most a b e = by (nat_le a b) refl
  where
    by : (t : Bool) → nat_le a b ≡ t → nat_le a b ≡ false
    by true f = let low = ltb-true b a e in let high = leb-true a b f in absurd (omega (arith, low, high))
    by false f = f

-- ---- trees within their sizes

module _ (o : LevelOptions) (handles : List Handle) where
  few_flushes : (s : Segment) (p : LevelPicking) → nat_lt (length (flushes_of s.tree)) o.l0_trigger ≡ true → pick_flushes o handles s p ≡ p
  few_flushes s p few =
      ap (λ b. cond b (pick_flushes_into o handles s.prefix (names (flushes_of s.tree)) (runs_of s.tree) p) p)
      (ap (λ b. b && not (list_any (names_contain p.used) (names (flushes_of s.tree))))
      (ap (nat_le o.l0_trigger) (length-map (flushes_of s.tree) (λ (node : Node). node.name)) ∙ not_at_most o.l0_trigger (length (flushes_of s.tree)) few))

  within_rest : (segment : List ℕ) (place : ℕ) (runs : Tree) (p : LevelPicking) → are_runs_within o handles place runs ≡ true → pick_runs o handles segment place runs p ≡ p
  within_rest segment place [] p within = refl
  within_rest segment place (run ∷ []) p within = refl
  within_rest segment place (run ∷ next ∷ runs) p within =
      let tests = both_true (nat_le (node_size handles run) (limit o place)) (are_runs_within o handles (place + 1) (next ∷ runs)) within in
      ap (pick_runs o handles segment (place + 1) (next ∷ runs))
      (ap (λ b. cond (b && not (names_contain p.used run.name || names_contain p.used next.name))
      (with_level_pick (record { segment = segment; sources = run.name ∷ next.name ∷ []; destination = run_id next.name }) p) p)
      (not_below (limit o place) (node_size handles run) tests.0))
      ∙ within_rest segment (place + 1) (next ∷ runs) p tests.1

  trees_rest : (trees : Trees) (p : LevelPicking) → AllByRecursion (λ s. IsTrue (is_within o handles s.tree)) trees → pick_trees o handles trees p ≡ p
  trees_rest [] p within = refl
  trees_rest (s ∷ trees) p within =
      let tests = both_true (nat_lt (length (flushes_of s.tree)) o.l0_trigger) (are_runs_within o handles 0 (runs_of s.tree)) within.0 in
      ap (λ q. pick_trees o handles trees (pick_runs o handles s.prefix 0 (runs_of s.tree) q)) (few_flushes s p tests.0)
      ∙ ap (pick_trees o handles trees) (within_rest s.prefix 0 (runs_of s.tree) p tests.1)
      ∙ trees_rest trees p within.1

none_taken : (count : ℕ) (picks : List JobSpec) → picks ≡ [] → take count picks ≡ []
none_taken zero picks none = refl
none_taken (suc count) picks none = ap (take (suc count)) none

pub rest_within : (o : LevelOptions) (most : ℕ) (view : View) → AllWithin o view → level_picks o most view ≡ []
unfolding level_picks
rest_within o most view within =
    let begun : LevelPicking = record { used = flat_map (λ job. nodes_of job.spec) view.jobs; fresh = fresh_run_id view; picks = [] } in
    none_taken (most - count_by is_under_way view.jobs) (pick_trees o view.handles view.manifest.trees begun).picks (ap (λ q. q.picks) (trees_rest o view.handles view.manifest.trees begun within))

-- ---- trees above their sizes

-- There is a pick.
abbrev HasPicks : LevelPicking → Type 0
HasPicks p = p.picks ≡ [] → ⊥

pushed : (picks : List JobSpec) (spec : JobSpec) → picks ++ spec ∷ [] ≡ [] → ⊥
pushed [] spec none = cc none
pushed (pick ∷ picks) spec none = cc none

-- Each node of the tree is unused.
abbrev AreFree : List NodeName → Tree → Type 0
AreFree used tree = (x : NodeName) → In x (names tree) → names_contain used x ≡ false

none_contained : (used sources : List NodeName) → ((x : NodeName) → In x sources → names_contain used x ≡ false) → not (list_any (names_contain used) sources) ≡ true
none_contained used [] free = refl
none_contained used (x ∷ sources) free = by (names_contain used x) (free x (in_first x sources)) (none_contained used sources (λ y h. free y (in_later y x sources h)))
  where
    by : (b : Bool) → b ≡ false → not (list_any (names_contain used) sources) ≡ true → not (b || list_any (names_contain used) sources) ≡ true
    by true e later = absurd (cc e)
    by false e later = later

module _ (o : LevelOptions) (handles : List Handle) where
  kept : KeptByPicks o handles (λ s. ⊤) HasPicks
  kept = record {
    fresh = λ s fact p some many unused none. pushed p.picks _ none;
    newest = λ s fact p some run runs is unused none. pushed p.picks _ none;
    pair = λ s fact p some before run next after is unused none. pushed p.picks _ none;
  }

  module _ (s : Segment) where
    -- Many flushes that are unused are picked.
    flushes_picked : (p : LevelPicking) → AreFree p.used s.tree → HasPicks (pick_flushes_into o handles s.prefix (names (flushes_of s.tree)) (runs_of s.tree) p)
    flushes_picked p free = by (runs_of s.tree) refl
      where
        by : (runs : Tree) → runs_of s.tree ≡ runs → HasPicks (pick_flushes_into o handles s.prefix (names (flushes_of s.tree)) runs p)
        by [] is none = pushed p.picks _ none
        by (run ∷ runs) is none = small (nat_le (node_size handles run) o.base) none
          where
            unused : names_contain p.used run.name ≡ false
            unused = free run.name (in_filtered (λ node. not (is_l0 node.name)) s.tree run.name (subst (λ (l : Tree). In run.name (names l)) (sym is) (in_first run.name (names runs))))

            into : HasPicks (pick_into_run s.prefix (names (flushes_of s.tree)) run.name p)
            into none = pushed p.picks _ (sym (ap (λ b. (cond b p (with_level_pick (record { segment = s.prefix; sources = names (flushes_of s.tree) ++ run.name ∷ []; destination = run_id run.name }) p)).picks) unused) ∙ none)

            small : (b : Bool) → HasPicks (cond b (pick_into_run s.prefix (names (flushes_of s.tree)) run.name p) (with_fresh_pick s.prefix (names (flushes_of s.tree)) p))
            small true none = into none
            small false none = pushed p.picks _ none

    -- Either there are few flushes, or there is a pick.
    flushes_rest : (p : LevelPicking) → AreFree p.used s.tree → (nat_lt (length (flushes_of s.tree)) o.l0_trigger ≡ true) ⊎ HasPicks (pick_flushes o handles s p)
    flushes_rest p free = by (nat_le o.l0_trigger (length (names (flushes_of s.tree)))) refl
      where
        unused : not (list_any (names_contain p.used) (names (flushes_of s.tree))) ≡ true
        unused = none_contained p.used (names (flushes_of s.tree)) (λ x h. free x (in_filtered (λ node. is_l0 node.name) s.tree x h))

        by : (b : Bool) → nat_le o.l0_trigger (length (names (flushes_of s.tree))) ≡ b → (nat_lt (length (flushes_of s.tree)) o.l0_trigger ≡ true) ⊎ HasPicks (pick_flushes o handles s p)
        by true e = inr (λ none. flushes_picked p free (sym (ap (λ b. (cond b (pick_flushes_into o handles s.prefix (names (flushes_of s.tree)) (runs_of s.tree) p) p).picks)
            (true_and (nat_le o.l0_trigger (length (names (flushes_of s.tree)))) (not (list_any (names_contain p.used) (names (flushes_of s.tree)))) e unused)) ∙ none))
        by false e =
            let above = leb-false o.l0_trigger (length (names (flushes_of s.tree))) e in
            let count = length-map (flushes_of s.tree) (λ (node : Node). node.name) in
            inl (lt-ltb (length (flushes_of s.tree)) o.l0_trigger (omega (arith, above, count)))

    -- Either the runs are within their limits, or there is a pick.
    runs_rest : (place : ℕ) (before runs : Tree) → runs_of s.tree ≡ before ++ runs → (p : LevelPicking) → AreFree p.used runs → (are_runs_within o handles place runs ≡ true) ⊎ HasPicks (pick_runs o handles s.prefix place runs p)
    runs_rest place before [] is p free = inl refl
    runs_rest place before (run ∷ []) is p free = inl refl
    runs_rest place before (run ∷ next ∷ runs) is p free =
        by (nat_lt (limit o place) (node_size handles run)) refl (runs_rest (place + 1) (before ++ run ∷ []) (next ∷ runs) later p (λ x h. free x (in_later x run.name (names (next ∷ runs)) h)))
      where
        later : runs_of s.tree ≡ (before ++ run ∷ []) ++ next ∷ runs
        later = is ∙ sym (append_assoc before (run ∷ []) (next ∷ runs))

        unused : not (names_contain p.used run.name || names_contain p.used next.name) ≡ true
        unused =
            ap (λ b. not (b || names_contain p.used next.name)) (free run.name (in_first run.name (names (next ∷ runs))))
            ∙ ap not (free next.name (in_later next.name run.name (names (next ∷ runs)) (in_first next.name (names runs))))

        Pair : Bool → LevelPicking
        Pair b = cond b (with_level_pick (record { segment = s.prefix; sources = run.name ∷ next.name ∷ []; destination = run_id next.name }) p) p

        within : nat_lt (limit o place) (node_size handles run) ≡ false → (are_runs_within o handles (place + 1) (next ∷ runs) ≡ true) ⊎ HasPicks (pick_runs o handles s.prefix (place + 1) (next ∷ runs) p)
            → (are_runs_within o handles place (run ∷ next ∷ runs) ≡ true) ⊎ HasPicks (pick_runs o handles s.prefix place (run ∷ next ∷ runs) p)
        within e (inl rest) =
            let low = ltb-false (limit o place) (node_size handles run) e in
            inl (true_and (nat_le (node_size handles run) (limit o place)) (are_runs_within o handles (place + 1) (next ∷ runs)) (le-leb (node_size handles run) (limit o place) (omega (arith, low))) rest)
        within e (inr some) = inr (λ none. some (sym (ap (λ b. (pick_runs o handles s.prefix (place + 1) (next ∷ runs) (Pair (b && not (names_contain p.used run.name || names_contain p.used next.name)))).picks) e) ∙ none))

        picked : nat_lt (limit o place) (node_size handles run) ≡ true → HasPicks (pick_pair o handles s.prefix place run next p)
        picked e none = pushed p.picks _
            (sym (ap (λ b. (Pair b).picks) (true_and (nat_lt (limit o place) (node_size handles run)) (not (names_contain p.used run.name || names_contain p.used next.name)) e unused)) ∙ none)

        by : (b : Bool) → nat_lt (limit o place) (node_size handles run) ≡ b → (are_runs_within o handles (place + 1) (next ∷ runs) ≡ true) ⊎ HasPicks (pick_runs o handles s.prefix (place + 1) (next ∷ runs) p)
            → (are_runs_within o handles place (run ∷ next ∷ runs) ≡ true) ⊎ HasPicks (pick_runs o handles s.prefix place (run ∷ next ∷ runs) p)
        by true e rest = inr (runs_keep o handles (λ s. ⊤) HasPicks kept s tt (place + 1) (before ++ run ∷ []) (next ∷ runs) later (pick_pair o handles s.prefix place run next p) (picked e))
        by false e rest = within e rest

    -- A tree whose flushes and runs give no pick is within its sizes, and its picks are as before.
    tree_rest : (p : LevelPicking) → AreFree p.used s.tree → IsTrue (is_within o handles s.tree) ⊎ HasPicks (pick_runs o handles s.prefix 0 (runs_of s.tree) (pick_flushes o handles s p))
    tree_rest p free = first (flushes_rest p free)
      where
        Result : Type 0
        Result = IsTrue (is_within o handles s.tree) ⊎ HasPicks (pick_runs o handles s.prefix 0 (runs_of s.tree) (pick_flushes o handles s p))

        second : nat_lt (length (flushes_of s.tree)) o.l0_trigger ≡ true → (are_runs_within o handles 0 (runs_of s.tree) ≡ true) ⊎ HasPicks (pick_runs o handles s.prefix 0 (runs_of s.tree) p) → Result
        second few (inl within) = inl (true_and (nat_lt (length (flushes_of s.tree)) o.l0_trigger) (are_runs_within o handles 0 (runs_of s.tree)) few within)
        second few (inr some) = inr (λ none. some (sym (ap (λ q. (pick_runs o handles s.prefix 0 (runs_of s.tree) q).picks) (few_flushes o handles s p few)) ∙ none))

        first : (nat_lt (length (flushes_of s.tree)) o.l0_trigger ≡ true) ⊎ HasPicks (pick_flushes o handles s p) → Result
        first (inl few) = second few (runs_rest 0 [] (runs_of s.tree) refl p (λ x h. free x (in_filtered (λ node. not (is_l0 node.name)) s.tree x h)))
        first (inr some) = inr (runs_keep o handles (λ s. ⊤) HasPicks kept s tt 0 [] (runs_of s.tree) refl (pick_flushes o handles s p) some)

  -- Trees that give no pick are within their sizes.
  trees_within : (trees : Trees) (p : LevelPicking) → AllByRecursion (λ s. AreFree p.used s.tree) trees → (pick_trees o handles trees p).picks ≡ [] → AllByRecursion (λ s. IsTrue (is_within o handles s.tree)) trees
  trees_within [] p free none = tt
  trees_within (s ∷ trees) p free none = by (tree_rest s p free.0) (trees_within trees p free.1)
    where
      after : LevelPicking
      after = pick_runs o handles s.prefix 0 (runs_of s.tree) (pick_flushes o handles s p)

      by : IsTrue (is_within o handles s.tree) ⊎ HasPicks after → ((pick_trees o handles trees p).picks ≡ [] → AllByRecursion (λ t. IsTrue (is_within o handles t.tree)) trees)
          → AllByRecursion (λ t. IsTrue (is_within o handles t.tree)) (s ∷ trees)
      by (inl within) later =
          let tests = both_true (nat_lt (length (flushes_of s.tree)) o.l0_trigger) (are_runs_within o handles 0 (runs_of s.tree)) within in
          let same : after ≡ p = ap (pick_runs o handles s.prefix 0 (runs_of s.tree)) (few_flushes o handles s p tests.0) ∙ within_rest o handles s.prefix 0 (runs_of s.tree) p tests.1 in
          (within, later (sym (ap (λ q. (pick_trees o handles trees q).picks) same) ∙ none))
      by (inr some) later = absurd (picks_keep o handles (λ t. ⊤) HasPicks kept trees (no_facts trees) after some none)

-- ---- views with room

some_left : (count : ℕ) (picks : List JobSpec) → 1 ≤ count → take count picks ≡ [] → picks ≡ []
some_left count [] some none = refl
some_left zero (pick ∷ picks) some none = absurd (omega (arith, some))
some_left (suc count) (pick ∷ picks) some none = absurd (cc none)

not_used : (b : Bool) → (b ≡ true → ⊥) → b ≡ false
not_used true never = absurd (never refl)
not_used false never = refl

all_free : (used : List NodeName) (trees : Trees) → ((x : NodeName) → In x (flat_map (λ s. names s.tree) trees) → In x used → ⊥) → AllByRecursion (λ s. AreFree used s.tree) trees
all_free used [] apart = tt
all_free used (s ∷ trees) apart = (
  λ x h. not_used (names_contain used x) (apart x (in_front x (names s.tree) (flat_map (λ t. names t.tree) trees) h)),
  all_free used trees (λ x h. apart x (in_back x (names s.tree) (flat_map (λ t. names t.tree) trees) h)),
)

-- In a view with room, the levelled scheduler picks nothing exactly if every tree is within its sizes.
pub go_on : (o : LevelOptions) (most : ℕ) (view : View) → HasRoom most view → (level_picks o most view ≡ []) ↔ AllWithin o view
unfolding level_picks
go_on o most view room = (
  λ none.
      let begun : LevelPicking = record { used = flat_map (λ job. nodes_of job.spec) view.jobs; fresh = fresh_run_id view; picks = [] } in
      let place = room.place in
      let picks = some_left (most - count_by is_under_way view.jobs) (pick_trees o view.handles view.manifest.trees begun).picks (omega (arith, place)) none in
      trees_within o view.handles view.manifest.trees begun
      (all_free begun.used view.manifest.trees (λ x h there. apart_at (flat_map (λ s. names s.tree) view.manifest.trees) begun.used x room.unused h there)) picks,
  rest_within o most view,
)
