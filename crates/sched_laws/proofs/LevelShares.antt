-- The picks of the levelled scheduler share nothing, whatever the view shows.
use Rattle.std.proofs.Common.{◌≡◌, ◌≢◌, refl, sym, ◌∙◌, ap, subst, ℕ, ◌+◌, ◌-◌, ◌<◌, ◌≤◌, List, [], ◌∷◌, ◌++◌, append_assoc, take, drop, length, cond, Bool, true, false, not, arith, ◌⊎◌, inl, inr}
use Rattle.std.specs.Prelude.{⊤, Option, Some, None, count_by, filter, flat_map, nat_lt}
use Rattle.std.specs.List.{AllByRecursion}
use Rattle.std.proofs.lemmas.Bool.{ltb-false, ltb-true}
use Rattle.std.proofs.lemmas.List.{length-take, take-append-drop}
use Rattle.row_model.specs.Lists.{Pairs}
use Rattle.fleet_model.specs.Work.Gates.{is_nonempty}
use Rattle.fleet_model.specs.Jobs.{JobSpec, contains, is_drain_to, nodes_of, with_destination}
use Rattle.fleet_model.specs.Nodes.{NodeName, Run, is_l0, Node, Segment, Tree, Trees, flushes_of, names, runs_of}
use Rattle.fleet_model.specs.Work.Scheduler.{View}
use Rattle.fleet_model.specs.Sources.{all_run_ids, run_ids}
use Rattle.fleet_model.specs.Handles.{Handle}
use Rattle.sched_model.specs.FreshRuns.{capped_id, fresh_run_id, is_under_way}
use Rattle.sched_model.specs.Levels.{LevelOptions, LevelPicking, are_allowed, level_picks, pick_trees, run_id, with_fresh_pick, with_level_pick}
use Rattle.sched_laws.specs.Levels.{ShareNothing}
use Rattle.sched_laws.specs.Proposals.{HasFreeId, MakesRun}
use Rattle.sched_laws.proofs.Begins.{fresh_is}
use Rattle.sched_laws.proofs.Holding.{IsBelow, IsFresh, still_fresh}
use Rattle.sched_laws.proofs.LevelFits.{UsesAll}
use Rattle.sched_laws.proofs.LevelPicks.{KeptByPicks, Unused, picks_keep}
use Rattle.sched_laws.proofs.LevelTrees.{IsRun, all_runs, some_flushes}
use Rattle.sched_laws.proofs.Lists.{all_append, all_back, all_front, all_join, all_weaken, pairs_front, pairs_push}
use Rattle.sched_laws.proofs.Names.{In, apart_from, in_back, in_cases, in_first, in_front, in_later}
use Rattle.sched_laws.proofs.Trees.{contained_back, contained_front, run_is_contained}

-- The picks so far share nothing, and their nodes are used. Their destinations are below the fresh id.
record Sharing (trees : Trees) (p : LevelPicking) : Type 0 where
  fresh : IsFresh trees p.fresh
  below : AllByRecursion (λ spec. HasFreeId spec → IsBelow p.fresh spec) p.picks
  used : AllByRecursion (UsesAll p) p.picks
  apart : Pairs ShareNothing p.picks

-- The runs of the segment are among the runs of all trees.
abbrev IsAmong : Trees → Segment → Type 0
IsAmong trees s = (id : ℕ) → In (Run id) (names s.tree) → contains (all_run_ids trees) id ≡ true

all_among : (trees : Trees) → AllByRecursion (IsAmong trees) trees
all_among [] = tt
all_among (s ∷ trees) = (
  λ id h. contained_front id (run_ids (names s.tree)) (all_run_ids trees) (run_is_contained (names s.tree) id h),
  all_weaken (IsAmong trees) (IsAmong (s ∷ trees)) (λ other among id h. contained_back id (run_ids (names s.tree)) (all_run_ids trees) (among id h)) trees (all_among trees),
)

-- A name of a filtered tree is a name of the tree.
pub in_filtered : (test : Node → Bool) (tree : Tree) (x : NodeName) → In x (names (filter test tree)) → In x (names tree)
in_filtered test [] x h = h
in_filtered test (node ∷ tree) x h = by (test node) h (in_filtered test tree x)
  where
    first : (node.name ≡ x) ⊎ In x (names (filter test tree)) → (In x (names (filter test tree)) → In x (names tree)) → In x (node.name ∷ names tree)
    first (inl same) later = subst (λ y. In x (y ∷ names tree)) (sym same) (in_first x (names tree))
    first (inr h) later = in_later x node.name (names tree) (later h)

    by : (b : Bool) → In x (names (cond b (node ∷ filter test tree) (filter test tree))) → (In x (names (filter test tree)) → In x (names tree)) → In x (node.name ∷ names tree)
    by true h later = first (in_cases x node.name (names (filter test tree)) h) later
    by false h later = in_later x node.name (names tree) (later h)

-- A run of the tree, which is among its runs.
run_is_in : (s : Segment) (before : Tree) (run : Node) (after : Tree) (id : ℕ) → runs_of s.tree ≡ before ++ run ∷ after → run.name ≡ Run id → In (Run id) (names s.tree)
run_is_in s before run after id is name =
    in_filtered (λ node. not (is_l0 node.name)) s.tree (Run id)
    (subst (λ (runs : Tree). In (Run id) (names runs)) (sym is) (among before))
  where
    among : (front : Tree) → In (Run id) (names (front ++ run ∷ after))
    among [] = subst (λ n. In (Run id) (n ∷ names after)) (sym name) (in_first (Run id) (names after))
    among (node ∷ front) = in_later (Run id) node.name (names (front ++ run ∷ after)) (among front)

source_in_nodes : (destination : Option ℕ) (sources : List NodeName) (x : NodeName) → In x sources → In x (with_destination destination sources)
source_in_nodes None sources x h = h
source_in_nodes (Some id) sources x h = in_later x (Run id) sources h

made_in_nodes : (destination : Option ℕ) (sources : List NodeName) (id : ℕ) → destination ≡ Some id → In (Run id) (with_destination destination sources)
made_in_nodes destination sources id is = subst (λ d. In (Run id) (with_destination d sources)) (sym is) (in_first (Run id) sources)

module _ (trees : Trees) where
  -- One more pick, whose destination is no destination of an earlier pick.
  one_more : (p : LevelPicking) → Sharing trees p → (next : ℕ) → IsFresh trees next → ((id : ℕ) → (p.fresh < 4294967295 → id < p.fresh) → next < 4294967295 → id < next)
      → (spec : JobSpec) → Unused spec.sources p → (HasFreeId spec → IsBelow next spec) → ((other : JobSpec) → HasFreeId other → IsBelow p.fresh other → UsesAll p other → other.destination ≢ spec.destination)
      → Sharing trees (record { used = nodes_of spec ++ p.used; fresh = next; picks = p.picks ++ spec ∷ [] })
  one_more p s next fresh rises spec unused below differs = record {
    fresh = fresh;
    below = all_append (λ other. HasFreeId other → IsBelow next other) p.picks (spec ∷ [])
        (all_weaken (λ other. HasFreeId other → IsBelow p.fresh other) (λ other. HasFreeId other → IsBelow next other) (λ other low free id is. rises id (low free id is)) p.picks s.below) (below, tt);
    used = all_append (λ other. (x : NodeName) → In x (nodes_of other) → In x (nodes_of spec ++ p.used)) p.picks (spec ∷ [])
        (all_weaken (UsesAll p) (λ other. (x : NodeName) → In x (nodes_of other) → In x (nodes_of spec ++ p.used)) (λ other uses x h. in_back x (nodes_of spec) p.used (uses x h)) p.picks s.used)
        (λ x h. in_front x (nodes_of spec) p.used h, tt);
    apart = pairs_push ShareNothing p.picks spec s.apart
        (all_join (λ other. HasFreeId other → IsBelow p.fresh other) (UsesAll p) (λ other. ShareNothing other spec)
        (λ other low uses. record {
          sources = apart_from other.sources spec.sources (λ x here there. unused x there (uses x (source_in_nodes other.destination other.sources x here)));
          destinations = λ free. differs other free (low free) uses;
        }) p.picks s.below s.used);
  }

  -- A pick into one of its sources.
  into_source : (s : Segment) → IsAmong trees s → (p : LevelPicking) → Sharing trees p → (sources : List NodeName) (before : Tree) (run : Node) (after : Tree) → runs_of s.tree ≡ before ++ run ∷ after
      → Unused sources p → In run.name sources → Sharing trees (with_level_pick (record { segment = s.prefix; sources = sources; destination = run_id run.name }) p)
  into_source s among p sharing sources before run after is unused source =
      let runs = all_back IsRun before (run ∷ after) (subst (AllByRecursion IsRun) is (all_runs s.tree)) in
      by runs.0.0 runs.0.1
    where
      by : (id : ℕ) → run.name ≡ Run id → Sharing trees (with_level_pick (record { segment = s.prefix; sources = sources; destination = run_id run.name }) p)
      by id name =
          let made : JobSpec = record { segment = s.prefix; sources = sources; destination = Some id } in
          subst (λ d. Sharing trees (with_level_pick (record { segment = s.prefix; sources = sources; destination = d }) p)) (sym (ap run_id name))
          (one_more p sharing p.fresh sharing.fresh (λ other low. low) made unused
          (λ free other same small. let equal : id ≡ other = cc same in let low = sharing.fresh.above small id (among id (run_is_in s before run after id is name)) in omega (arith, equal, low))
          (λ other free low uses same. unused (Run id) (subst (λ n. In n sources) name source) (uses (Run id) (made_in_nodes other.destination other.sources id same))))

  -- A pick into the fresh run.
  into_fresh : (s : Segment) (p : LevelPicking) → Sharing trees p → (sources : List NodeName) → Unused sources p → Sharing trees (with_fresh_pick s.prefix sources p)
  into_fresh s p sharing sources unused =
      let made : JobSpec = record { segment = s.prefix; sources = sources; destination = Some p.fresh } in
      one_more p sharing (capped_id (p.fresh + 1)) (still_fresh trees p.fresh sharing.fresh) rises made unused
      (λ free id same small. let equal : p.fresh ≡ id = cc same in omega (arith, equal, small))
      (λ other free low uses same. never other free same (nat_lt p.fresh 4294967295) refl (low p.fresh same))
    where
      rises : (id : ℕ) → (p.fresh < 4294967295 → id < p.fresh) → capped_id (p.fresh + 1) < 4294967295 → id < capped_id (p.fresh + 1)
      rises id low small = let below : id < p.fresh = low (omega (arith, small)) in omega (arith, small, below)

      never : (other : JobSpec) → HasFreeId other → other.destination ≡ Some p.fresh → (b : Bool) → nat_lt p.fresh 4294967295 ≡ b → (p.fresh < 4294967295 → p.fresh < p.fresh) → ⊥
      never other free same true e low = let below : p.fresh < p.fresh = low (ltb-true p.fresh 4294967295 e) in omega (arith, below)
      never other free same false e low =
          let above = ltb-false p.fresh 4294967295 e in
          let limit = sharing.fresh.limit in
          let equal : p.fresh ≡ 4294967295 = omega (arith, above, limit) in
          free (same ∙ ap Some equal)

  kept : (o : LevelOptions) (handles : List Handle) → KeptByPicks o handles (IsAmong trees) (Sharing trees)
  kept o handles = record {
    fresh = λ s among p sharing many unused. into_fresh s p sharing (names (flushes_of s.tree)) unused;
    newest = λ s among p sharing run runs is unused. into_source s among p sharing (names (flushes_of s.tree) ++ run.name ∷ []) [] run runs is unused (in_back run.name (names (flushes_of s.tree)) (run.name ∷ []) (in_first run.name []));
    pair = λ s among p sharing before run next after is unused.
        into_source s among p sharing (run.name ∷ next.name ∷ []) (before ++ run ∷ []) next after (is ∙ sym (append_assoc before (run ∷ []) (next ∷ after))) unused (in_later next.name run.name (next.name ∷ []) (in_first next.name []));
  }

pub share_nothing : (o : LevelOptions) (most : ℕ) (view : View) → Pairs ShareNothing (level_picks o most view)
unfolding level_picks
share_nothing o most view =
    let trees = view.manifest.trees in
    let begun : LevelPicking = record { used = flat_map (λ job. nodes_of job.spec) view.jobs; fresh = fresh_run_id view; picks = [] } in
    let ended : LevelPicking = pick_trees o view.handles trees begun in
    let all = picks_keep o view.handles (IsAmong trees) (Sharing trees) (kept trees o view.handles) trees (all_among trees) begun (record { fresh = fresh_is view; below = tt; used = tt; apart = tt }) in
    let count : ℕ = most - count_by is_under_way view.jobs in
    pairs_front ShareNothing (take count ended.picks) (drop count ended.picks) (subst (Pairs ShareNothing) (sym (take-append-drop count ended.picks)) all.apart)

pub levels_are_few : (o : LevelOptions) (most : ℕ) (view : View) → length (level_picks o most view) ≤ most - count_by is_under_way view.jobs
unfolding level_picks
levels_are_few o most view =
    let trees = view.manifest.trees in
    let begun : LevelPicking = record { used = flat_map (λ job. nodes_of job.spec) view.jobs; fresh = fresh_run_id view; picks = [] } in
    omega (arith, length-take (most - count_by is_under_way view.jobs) (pick_trees o view.handles trees begun).picks)

-- ---- each pick makes a run

with_one : (flushes : List NodeName) (run : NodeName) → is_nonempty (flushes ++ run ∷ []) ≡ true
with_one [] run = refl
with_one (flush ∷ flushes) run = refl

-- The job into a run is no drain.
into_run : (s : Segment) (before : Tree) (run : Node) (after : Tree) → runs_of s.tree ≡ before ++ run ∷ after → is_drain_to (run_id run.name) ≡ false
into_run s before run after is =
    let runs = all_back IsRun before (run ∷ after) (subst (AllByRecursion IsRun) is (all_runs s.tree)) in
    ap (λ name. is_drain_to (run_id name)) runs.0.1

makes_kept : (o : LevelOptions) → are_allowed o ≡ true → (handles : List Handle) → KeptByPicks o handles (λ s. ⊤) (λ p. AllByRecursion MakesRun p.picks)
makes_kept o allowed handles = record {
  fresh = λ s fact p all many unused. all_append MakesRun p.picks (_ ∷ []) all (record { sources = some_flushes o allowed (names (flushes_of s.tree)) many; no_drain = refl }, tt);
  newest = λ s fact p all run runs is unused. all_append MakesRun p.picks (_ ∷ []) all (record { sources = with_one (names (flushes_of s.tree)) run.name; no_drain = into_run s [] run runs is }, tt);
  pair = λ s fact p all before run next after is unused.
      all_append MakesRun p.picks (_ ∷ []) all (record { sources = refl; no_drain = into_run s (before ++ run ∷ []) next after (is ∙ sym (append_assoc before (run ∷ []) (next ∷ after))) }, tt);
}

-- Nothing is asked of the trees.
pub no_facts : (trees : Trees) → AllByRecursion (λ (s : Segment). ⊤) trees
no_facts [] = tt
no_facts (s ∷ trees) = (tt, no_facts trees)

pub levels_make_runs : (o : LevelOptions) → are_allowed o ≡ true → (most : ℕ) (view : View) → AllByRecursion MakesRun (level_picks o most view)
unfolding level_picks
levels_make_runs o allowed most view =
    let trees = view.manifest.trees in
    let begun : LevelPicking = record { used = flat_map (λ job. nodes_of job.spec) view.jobs; fresh = fresh_run_id view; picks = [] } in
    let ended : LevelPicking = pick_trees o view.handles trees begun in
    let all = picks_keep o view.handles (λ s. ⊤) (λ p. AllByRecursion MakesRun p.picks) (makes_kept o allowed view.handles) trees (no_facts trees) begun tt in
    let count : ℕ = most - count_by is_under_way view.jobs in
    all_front MakesRun (take count ended.picks) (drop count ended.picks) (subst (AllByRecursion MakesRun) (sym (take-append-drop count ended.picks)) all)
