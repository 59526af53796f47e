-- Each pick of the levelled scheduler weighs at least 2, and its picks rest only where trees are within their sizes.
use Rattle.std.proofs.Common.{◌≡◌, refl, sym, ap, subst, ℕ, ◌+◌, ◌-◌, ◌*◌, ◌≤◌, ◌<◌, List, [], ◌∷◌, ◌++◌, Bool, true, false, cond, not, length, arith}
use Rattle.std.specs.Prelude.{◌&&◌, ◌||◌, count_by, flat_map, nat_le, nat_lt}
use Rattle.std.specs.List.{list_any, AllByRecursion}
use Rattle.std.proofs.lemmas.Bool.{leb-true, ltb-true}
use Rattle.std.proofs.lemmas.List.Sums.{sum_by-cons}
use Rattle.fleet_model.specs.Handles.{Handle}
use Rattle.fleet_model.specs.Jobs.{JobSpec, nodes_of}
use Rattle.fleet_model.specs.Nodes.{NodeName, L0, Run, is_l0, Node, Segment, Tree, Trees, flushes_of, names, names_contain, runs_of}
use Rattle.fleet_model.specs.Sources.{is_apart}
use Rattle.fleet_model.specs.Work.Scheduler.{View}
use Rattle.sched_model.specs.FreshRuns.{fresh_run_id, is_under_way}
use Rattle.sched_model.specs.Levels.{LevelOptions, LevelPicking, are_allowed, level_picks, limit, node_size, pick_flushes, pick_flushes_into, pick_into_run, pick_pair, pick_runs, pick_trees, run_id, with_fresh_pick, with_level_pick}
use Rattle.sched_laws.specs.Levels.{AllWithin, HasRoom}
use Rattle.sched_laws.specs.Proposals.{MakesRun}
use Rattle.sched_laws.proofs.LevelRest.{go_on}
use Rattle.sched_laws.proofs.LevelShares.{levels_make_runs}
use Rattle.sched_laws.proofs.Lists.{all_join, both_true}
use Rattle.sched_laws.proofs.Names.{apart_from}
use Rattle.step_laws.proofs.Elements.{all_push}
use Rattle.course_laws.proofs.Calls.{all_take}
use Rattle.last_laws.specs.Weights.{weight, weight_of, IsHeavy}
use Rattle.last_laws.specs.Levels.{WeightsCount}
use Rattle.last_laws.proofs.Weights.{weight_both}

-- ---- weights

some_weight : (name : NodeName) → 1 ≤ weight name
some_weight (L0 n) = omega arith
some_weight (Run id) = omega arith

-- The tree weighs twice its flushes and its runs.
tree_counts : (tree : Tree) → weight_of (names tree) ≡ 2 * length (flushes_of tree) + length (runs_of tree)
tree_counts [] = omega arith
tree_counts (node ∷ tree) = by node.name (tree_counts tree)
  where
    by : (name : NodeName) → weight_of (names tree) ≡ 2 * length (flushes_of tree) + length (runs_of tree)
        → weight name + weight_of (names tree) ≡ 2 * length (cond (is_l0 name) (node ∷ flushes_of tree) (flushes_of tree)) + length (cond (not (is_l0 name)) (node ∷ runs_of tree) (runs_of tree))
    by (L0 n) rest = omega (arith, rest)
    by (Run id) rest = omega (arith, rest)

pub weights_count : WeightsCount
weights_count [] = omega arith
weights_count (s ∷ trees) =
    let both = weight_both (names s.tree) (flat_map (λ s. names s.tree) trees) in
    let first = tree_counts s.tree in
    let rest = weights_count trees in
    let flushes = sum_by-cons (λ (s : Segment). length (flushes_of s.tree)) s trees in
    let runs = sum_by-cons (λ (s : Segment). length (runs_of s.tree)) s trees in
    omega (arith, both, first, rest, flushes, runs)

-- Flushes weigh at least 2, if there are any.
flushes_weigh : (tree : Tree) → 1 ≤ length (names (flushes_of tree)) → 2 ≤ weight_of (names (flushes_of tree))
flushes_weigh [] some = absurd (omega (arith, some))
flushes_weigh (node ∷ tree) some = by node.name refl some (flushes_weigh tree)
  where
    by : (name : NodeName) → node.name ≡ name → 1 ≤ length (names (cond (is_l0 name) (node ∷ flushes_of tree) (flushes_of tree))) → (1 ≤ length (names (flushes_of tree)) → 2 ≤ weight_of (names (flushes_of tree)))
        → 2 ≤ weight_of (names (cond (is_l0 name) (node ∷ flushes_of tree) (flushes_of tree)))
    by (L0 n) is some rest = let first = ap weight is in omega (arith, first)
    by (Run id) is some rest = rest some

-- ---- the picks

-- The sources of the spec weigh at least 2.
abbrev Weighs : JobSpec → Type 0
Weighs spec = 2 ≤ weight_of spec.sources

-- The sources of each pick so far weigh at least 2.
abbrev AllWeigh : LevelPicking → Type 0
AllWeigh p = AllByRecursion Weighs p.picks

module _ (o : LevelOptions) (allowed : are_allowed o ≡ true) (handles : List Handle) where
  pair_weighs : (segment : List ℕ) (place : ℕ) (run next : Node) (p : LevelPicking) → AllWeigh p → AllWeigh (pick_pair o handles segment place run next p)
  pair_weighs segment place run next p all = by (nat_lt (limit o place) (node_size handles run) && not (names_contain p.used run.name || names_contain p.used next.name))
    where
      by : (b : Bool) → AllWeigh (cond b (with_level_pick (record { segment = segment; sources = run.name ∷ next.name ∷ []; destination = run_id next.name }) p) p)
      by true = all_push Weighs p.picks _ all (let first = some_weight run.name in let second = some_weight next.name in omega (arith, first, second))
      by false = all

  runs_weigh : (segment : List ℕ) (place : ℕ) (runs : List Node) (p : LevelPicking) → AllWeigh p → AllWeigh (pick_runs o handles segment place runs p)
  runs_weigh segment place [] p all = all
  runs_weigh segment place (run ∷ []) p all = all
  runs_weigh segment place (run ∷ next ∷ runs) p all = runs_weigh segment (place + 1) (next ∷ runs) (pick_pair o handles segment place run next p) (pair_weighs segment place run next p all)

  -- The flushes of a tree, with or without its newest run.
  flushes_into_weigh : (segment : List ℕ) (flushes : List NodeName) (runs : List Node) (p : LevelPicking) → 2 ≤ weight_of flushes → AllWeigh p → AllWeigh (pick_flushes_into o handles segment flushes runs p)
  flushes_into_weigh segment flushes [] p heavy all = all_push Weighs p.picks _ all heavy
  flushes_into_weigh segment flushes (run ∷ runs) p heavy all = small (nat_le (node_size handles run) o.base)
    where
      used : (b : Bool) → AllWeigh (cond b p (with_level_pick (record { segment = segment; sources = flushes ++ run.name ∷ []; destination = run_id run.name }) p))
      used true = all
      used false = all_push Weighs p.picks _ all (let both = weight_both flushes (run.name ∷ []) in omega (arith, both, heavy))

      small : (b : Bool) → AllWeigh (cond b (pick_into_run segment flushes run.name p) (with_fresh_pick segment flushes p))
      small true = used (names_contain p.used run.name)
      small false = all_push Weighs p.picks _ all heavy

  -- The trigger is at least 1, so that at least one flush is picked.
  flushes_all_weigh : (s : Segment) (p : LevelPicking) → AllWeigh p → AllWeigh (pick_flushes o handles s p)
  flushes_all_weigh s p all = by (nat_le o.l0_trigger (length (names (flushes_of s.tree))) && not (list_any (names_contain p.used) (names (flushes_of s.tree)))) refl
    where
      trigger : 1 ≤ o.l0_trigger
      trigger =
          let tests = both_true (nat_lt 0 o.l0_trigger && nat_lt 0 o.base) (nat_lt 1 o.ratio) allowed in
          let least = ltb-true 0 o.l0_trigger (both_true (nat_lt 0 o.l0_trigger) (nat_lt 0 o.base) tests.0).0 in
          omega (arith, least)

      by : (b : Bool) → (nat_le o.l0_trigger (length (names (flushes_of s.tree))) && not (list_any (names_contain p.used) (names (flushes_of s.tree)))) ≡ b
          → AllWeigh (cond b (pick_flushes_into o handles s.prefix (names (flushes_of s.tree)) (runs_of s.tree) p) p)
      by true e =
          let many = leb-true o.l0_trigger (length (names (flushes_of s.tree))) (both_true (nat_le o.l0_trigger (length (names (flushes_of s.tree)))) (not (list_any (names_contain p.used) (names (flushes_of s.tree)))) e).0 in
          flushes_into_weigh s.prefix (names (flushes_of s.tree)) (runs_of s.tree) p (flushes_weigh s.tree (omega (arith, trigger, many))) all
      by false e = all

  trees_weigh : (trees : Trees) (p : LevelPicking) → AllWeigh p → AllWeigh (pick_trees o handles trees p)
  trees_weigh [] p all = all
  trees_weigh (s ∷ trees) p all = trees_weigh trees (pick_runs o handles s.prefix 0 (runs_of s.tree) (pick_flushes o handles s p)) (runs_weigh s.prefix 0 (runs_of s.tree) (pick_flushes o handles s p) (flushes_all_weigh s p all))

all_weigh : (o : LevelOptions) → are_allowed o ≡ true → (most : ℕ) (view : View) → AllByRecursion Weighs (level_picks o most view)
unfolding level_picks
all_weigh o allowed most view =
    let begun : LevelPicking = record { used = flat_map (λ job. nodes_of job.spec) view.jobs; fresh = fresh_run_id view; picks = [] } in
    all_take Weighs (most - count_by is_under_way view.jobs) (pick_trees o view.handles view.manifest.trees begun).picks (trees_weigh o allowed view.handles view.manifest.trees begun tt)

-- Each proposal of the levelled scheduler is heavy.
pub levels_are_heavy : (o : LevelOptions) → are_allowed o ≡ true → (most : ℕ) (view : View) → AllByRecursion IsHeavy (level_picks o most view)
levels_are_heavy o allowed most view =
    all_join MakesRun Weighs IsHeavy (λ spec makes weighs. record { makes_run = makes.no_drain; weighs = weighs }) (level_picks o most view) (levels_make_runs o allowed most view) (all_weigh o allowed most view)

-- ---- trees at rest

-- Beside no jobs, the levelled scheduler proposes nothing only if every tree is within its sizes.
pub levels_rest_within : (o : LevelOptions) (most : ℕ) → 1 ≤ most → (view : View) → view.jobs ≡ [] → level_picks o most view ≡ [] → AllWithin o view
levels_rest_within o most some view none rests = (go_on o most view room).0 rests
  where
    place : count_by is_under_way view.jobs < most
    place = let count = ap (count_by is_under_way) none in omega (arith, count, some)

    room : HasRoom most view
    room = record {
      place = place;
      unused = subst (λ jobs. is_apart (flat_map (λ s. names s.tree) view.manifest.trees) (flat_map (λ job. nodes_of job.spec) jobs) ≡ true) (sym none)
          (apart_from (flat_map (λ s. names s.tree) view.manifest.trees) [] (λ x here never. absurd (cc never)));
    }
