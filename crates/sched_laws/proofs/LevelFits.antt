-- The picks of the levelled scheduler fit, as those of the size-tiered scheduler do.
use Rattle.std.proofs.Common.{◌≡◌, refl, sym, ◌∙◌, ap, subst, ℕ, ◌+◌, ◌<◌, ◌≤◌, ◌-◌, List, [], ◌∷◌, ◌++◌, append_assoc, take, drop, length, cond, Bool, true, false, not, arith, inl, inr, eq-eqb}
use Rattle.std.specs.Prelude.{Option, Some, None, fold, flat_map, nat_le, count_by, ◌==◌, ◌&&◌}
use Rattle.std.specs.List.{AllByRecursion, list_all, list_any}
use Rattle.std.proofs.lemmas.Bool.{le-leb}
use Rattle.std.proofs.lemmas.List.{map-append, take-append-drop}
use Rattle.row_model.specs.Lists.{Pairs}
use Rattle.fleet_model.specs.Work.Gates.{are_distinct, submit_gate}
use Rattle.fleet_model.specs.Jobs.{Job, Jobs, JobSpec, contains, nodes_of}
use Rattle.fleet_model.specs.Nodes.{NodeName, L0, Run, is_l0, Node, Segment, Tree, Trees, flushes_of, names, runs_of, tree_at}
use Rattle.fleet_model.specs.Work.Scheduler.{View}
use Rattle.fleet_model.specs.Sources.{begins_with_run, is_lowest_or_above, reaches_oldest, run_ids}
use Rattle.fleet_model.specs.Invariants.TreesFit.{NoneShared, StandsBefore}
use Rattle.fleet_model.specs.Handles.{Handle}
use Rattle.sched_model.specs.FreshRuns.{capped_id, fresh_run_id, is_under_way}
use Rattle.sched_model.specs.Levels.{LevelOptions, LevelPicking, are_allowed, level_picks, level_scheduler, pick_trees, run_id, with_fresh_pick, with_level_pick}
use Rattle.sched_model.specs.Picks.{Planned}
use Rattle.fleet_model.specs.Work.Scheduler.{lower}
use Rattle.sched_model.specs.SizeTiered.{agree, lowest_run}
use Rattle.sched_laws.specs.Proposals.{AreApart, HasFreeId, MayBeThere}
use Rattle.sched_laws.specs.Views.{ViewStands}
use Rattle.sched_laws.proofs.Begins.{midway_begins}
use Rattle.sched_laws.proofs.Gate.{AllFit, passes_if_accepted}
use Rattle.sched_laws.proofs.Holding.{Holds, IsFresh, Uses, holds_above, still_fresh}
use Rattle.sched_laws.proofs.LevelPicks.{KeptByPicks, Unused, picks_keep}
use Rattle.sched_laws.proofs.LevelTrees.{IsRun, StandsHere, all_runs, all_stand_here, no_runs, runs_begin, some_flushes}
use Rattle.sched_laws.proofs.Lists.{all_append, all_back, all_front, all_weaken, pairs_back, pairs_front, true_and}
use Rattle.sched_laws.proofs.Names.{In, in_back, in_first, in_front, in_later}
use Rattle.sched_laws.proofs.Passes.{Fits, IsMidway, Rises, with_one_more}
use Rattle.sched_laws.proofs.Picks.{IntoLowest, IsPick, IsPlaced, Makes, placed}
use Rattle.sched_laws.proofs.Stretches.{stretch_is_in}
use Rattle.sched_laws.proofs.Trees.{all_at_prefixes}
use Rattle.course_laws.proofs.NewTables.{or_right}

-- A tree as the size-tiered scheduler keeps it, of which the laws read the segment and the used nodes alone.
abbrev looked_at : Segment → List NodeName → Planned
looked_at s used = record { tree = record { segment = s.prefix; flushes = []; runs = [] }; used = used }

-- ---- a stretch of a tree

-- The sources are in the tree one after the other, and only runs are older.
record IsStretch (trees : Trees) (s : Segment) (sources rest : List NodeName) : Type 0 where
  place : IsPlaced (names (tree_at s.prefix trees)) sources rest
  runs : begins_with_run rest ≡ true

stretch_in : (trees : Trees) (s : Segment) → StandsHere trees s → (front : List NodeName) (x : NodeName) (others rest : List NodeName)
    → names (flushes_of s.tree) ++ names (runs_of s.tree) ≡ front ++ (x ∷ others ++ rest) → begins_with_run rest ≡ true → IsStretch trees s (x ∷ others) rest
stretch_in trees s stand front x others rest parts runs = record {
  place = subst (λ nodes. IsPlaced nodes (x ∷ others) rest) (sym (stand.nodes ∙ parts)) (placed front x others rest (subst (λ l. are_distinct l ≡ true) parts stand.named_once));
  runs = runs;
}

-- The spec of a pick of these sources.
abbrev spec_for : Segment → List NodeName → Option ℕ → JobSpec
spec_for s sources destination = record { segment = s.prefix; sources = sources; destination = destination }

-- A stretch of unused sources is a pick.
is_pick : (trees : Trees) (s : Segment) → StandsHere trees s → (used sources rest : List NodeName) (id : ℕ) → IsStretch trees s sources rest
    → ((x : NodeName) → In x sources → In x used → ⊥) → agree (lowest_run sources) (Some id) ≡ true → IsPick trees (looked_at s used) (spec_for s sources (Some id))
is_pick trees s stand used sources rest id stretch unused agrees = record {
  here = refl;
  some = stretch.place.some;
  once = stretch.place.once;
  no_drain = refl;
  found = stand.found;
  within = λ x h. stretch_is_in sources (names (tree_at s.prefix trees)) rest x stretch.place.stretch h;
  stretch = ap (reaches_oldest sources) stretch.place.stretch ∙ or_right (not (list_any is_l0 sources)) (begins_with_run rest) stretch.runs;
  unused = unused;
  agrees = agrees;
}

-- ---- the lowest run

into_lowest : (s : Segment) (sources : List NodeName) (id : ℕ) → In (Run id) sources → contains (run_ids sources) id ≡ true → list_all (λ run. nat_le id run) (run_ids sources) ≡ true → IntoLowest (spec_for s sources (Some id))
into_lowest s sources id among there low = record { id = id; is = refl; among = among; lowest = lowest (run_ids sources) refl }
  where
    lowest : (ids : List ℕ) → run_ids sources ≡ ids → (runs : List ℕ) → is_lowest_or_above id (run_ids sources) runs ≡ true
    lowest [] e runs = absurd (let none = ap (λ l. contains l id) e in cc (there, none))
    lowest (i ∷ ids) e runs =
        ap (λ l. is_lowest_or_above id l runs) e
        ∙ true_and (contains (i ∷ ids) id) (list_all (λ run. nat_le id run) (i ∷ ids)) (sym (ap (λ l. contains l id) e) ∙ there) (sym (ap (list_all (λ run. nat_le id run)) e) ∙ low)

run_ids-append : (xs ys : List NodeName) → run_ids (xs ++ ys) ≡ run_ids xs ++ run_ids ys
run_ids-append [] ys = refl
run_ids-append (L0 name ∷ xs) ys = run_ids-append xs ys
run_ids-append (Run id ∷ xs) ys = ap (λ (l : List ℕ). id ∷ l) (run_ids-append xs ys)

same_run : (id : ℕ) → (id == id) ≡ true
same_run id = eq-eqb id id refl

-- ---- what the picks keep

-- The nodes of the job are used.
abbrev pub UsesAll : LevelPicking → JobSpec → Type 0
UsesAll p spec = (x : NodeName) → In x (nodes_of spec) → In x p.used

-- The picks so far fit, and their nodes and those of the jobs are used.
record LevelMidway (trees : Trees) (jobs : Jobs) (p : LevelPicking) : Type 0 where
  midway : IsMidway trees jobs (record { fresh = p.fresh; picks = p.picks })
  by_jobs : AllByRecursion (λ job. UsesAll p job.spec) jobs
  by_picks : AllByRecursion (UsesAll p) p.picks

module _ (o : LevelOptions) (allowed : are_allowed o ≡ true) (trees : Trees) (shared : Pairs NoneShared trees) (jobs : Jobs) where
  -- One more pick.
  one_more : (s : Segment) (p : LevelPicking) → LevelMidway trees jobs p → (next : ℕ) → IsFresh trees next → (next < 4294967295 → p.fresh ≤ next) → ((spec : JobSpec) → Holds trees p.fresh spec → Holds trees next spec)
      → (spec : JobSpec) → IsPick trees (looked_at s p.used) spec → Makes p.fresh next spec → LevelMidway trees jobs (record { used = nodes_of spec ++ p.used; fresh = next; picks = p.picks ++ spec ∷ [] })
  one_more s p m next fresh grows rises spec pick makes = record {
    midway = with_one_more trees shared jobs (looked_at s p.used) (record { fresh = p.fresh; picks = p.picks }) m.midway next fresh grows rises
        (all_weaken (λ job. UsesAll p job.spec) (λ job. Uses (looked_at s p.used) job.spec) (λ job uses here. uses) jobs m.by_jobs)
        (all_weaken (UsesAll p) (Uses (looked_at s p.used)) (λ spec uses here. uses) p.picks m.by_picks) spec pick makes;
    by_jobs = all_weaken (λ job. UsesAll p job.spec) (λ job. (x : NodeName) → In x (nodes_of job.spec) → In x (nodes_of spec ++ p.used)) (λ job uses x h. in_back x (nodes_of spec) p.used (uses x h)) jobs m.by_jobs;
    by_picks = all_append (λ other. (x : NodeName) → In x (nodes_of other) → In x (nodes_of spec ++ p.used)) p.picks (spec ∷ [])
        (all_weaken (UsesAll p) (λ other. (x : NodeName) → In x (nodes_of other) → In x (nodes_of spec ++ p.used)) (λ other uses x h. in_back x (nodes_of spec) p.used (uses x h)) p.picks m.by_picks)
        (λ x h. in_front x (nodes_of spec) p.used h, tt);
  }

  -- A pick into a run that is a source leaves the fresh id.
  into_source : (s : Segment) (p : LevelPicking) → LevelMidway trees jobs p → StandsHere trees s → (sources rest : List NodeName) (run : Node) (id : ℕ) → run.name ≡ Run id
      → IsStretch trees s sources rest → Unused sources p → In (Run id) sources → contains (run_ids sources) id ≡ true → list_all (λ r. nat_le id r) (run_ids sources) ≡ true → agree (lowest_run sources) (Some id) ≡ true
      → LevelMidway trees jobs (with_level_pick (spec_for s sources (run_id run.name)) p)
  into_source s p m stand sources rest run id is stretch unused among there low agrees =
      subst (λ d. LevelMidway trees jobs (with_level_pick (spec_for s sources d) p)) (sym (ap run_id is))
      (one_more s p m p.fresh m.midway.next (λ small. omega arith) (λ spec holds. holds) (spec_for s sources (Some id)) (is_pick trees s stand p.used sources rest id stretch unused agrees) (inl (into_lowest s sources id among there low)))

  -- All flushes, into the fresh run.
  fresh_kept : (s : Segment) → StandsHere trees s → (p : LevelPicking) → LevelMidway trees jobs p → nat_le o.l0_trigger (length (names (flushes_of s.tree))) ≡ true → Unused (names (flushes_of s.tree)) p
      → LevelMidway trees jobs (with_fresh_pick s.prefix (names (flushes_of s.tree)) p)
  fresh_kept s stand p m many unused = by (names (flushes_of s.tree)) refl many
    where
      none : (id : ℕ) → agree (lowest_run (names (flushes_of s.tree))) (Some id) ≡ true
      none id = ap (λ ids. agree (fold lower None ids) (Some id)) (no_runs s.tree)

      by : (flushes : List NodeName) → names (flushes_of s.tree) ≡ flushes → nat_le o.l0_trigger (length flushes) ≡ true → LevelMidway trees jobs (with_fresh_pick s.prefix (names (flushes_of s.tree)) p)
      by [] e enough = absurd (let some = some_flushes o allowed [] enough in cc some)
      by (x ∷ others) e enough =
          let rest : List NodeName = names (runs_of s.tree) in
          let stretch = stretch_in trees s stand [] x others rest (ap (λ l. l ++ rest) e) (runs_begin (runs_of s.tree) (all_runs s.tree)) in
          let pick = is_pick trees s stand p.used (names (flushes_of s.tree)) rest p.fresh (subst (λ l. IsStretch trees s l rest) (sym e) stretch) unused (none p.fresh) in
          one_more s p m (capped_id (p.fresh + 1)) (still_fresh trees p.fresh m.midway.next) (λ small. omega (arith, small)) (λ spec holds. holds_above trees p.fresh spec holds)
          (spec_for s (names (flushes_of s.tree)) (Some p.fresh)) pick (inr (record { is = refl; no_runs = no_runs s.tree }, refl))

  -- All flushes and the newest run, into that run.
  newest_kept : (s : Segment) → StandsHere trees s → (p : LevelPicking) → LevelMidway trees jobs p → (run : Node) (runs : Tree) → runs_of s.tree ≡ run ∷ runs → Unused (names (flushes_of s.tree) ++ run.name ∷ []) p
      → LevelMidway trees jobs (with_level_pick (spec_for s (names (flushes_of s.tree) ++ run.name ∷ []) (run_id run.name)) p)
  newest_kept s stand p m run runs is unused = by (names (flushes_of s.tree)) refl
    where
      all : AllByRecursion IsRun (run ∷ runs)
      all = subst (AllByRecursion IsRun) is (all_runs s.tree)

      id : ℕ
      id = all.0.0

      flushes : List NodeName
      flushes = names (flushes_of s.tree)

      ids : run_ids (flushes ++ run.name ∷ []) ≡ id ∷ []
      ids = run_ids-append flushes (run.name ∷ []) ∙ ap (λ l. l ++ run_ids (run.name ∷ [])) (no_runs s.tree) ∙ ap (λ name. run_ids (name ∷ [])) all.0.1

      made : (rest : List NodeName) → IsStretch trees s (flushes ++ run.name ∷ []) rest → LevelMidway trees jobs (with_level_pick (spec_for s (flushes ++ run.name ∷ []) (run_id run.name)) p)
      made rest stretch = into_source s p m stand (flushes ++ run.name ∷ []) rest run id all.0.1 stretch unused
          (in_back (Run id) flushes (run.name ∷ []) (subst (λ name. In (Run id) (name ∷ [])) (sym all.0.1) (in_first (Run id) [])))
          (ap (λ l. contains l id) ids ∙ ap (λ b. cond b true false) (same_run id))
          (ap (list_all (λ r. nat_le id r)) ids ∙ true_and (nat_le id id) true (le-leb id id (omega arith)) refl)
          (ap (λ l. agree (fold lower None l) (Some id)) ids ∙ same_run id)

      by : (front : List NodeName) → flushes ≡ front → LevelMidway trees jobs (with_level_pick (spec_for s (flushes ++ run.name ∷ []) (run_id run.name)) p)
      by [] e = made (names runs) (subst (λ l. IsStretch trees s (l ++ run.name ∷ []) (names runs)) (sym e)
          (stretch_in trees s stand [] run.name [] (names runs) (ap (λ l. l ++ names (runs_of s.tree)) e ∙ ap names is) (runs_begin runs all.1)))
      by (x ∷ others) e = made (names runs) (subst (λ l. IsStretch trees s (l ++ run.name ∷ []) (names runs)) (sym e)
          (stretch_in trees s stand [] x (others ++ run.name ∷ []) (names runs)
          (ap (λ l. l ++ names (runs_of s.tree)) e ∙ ap (λ nodes. (x ∷ others) ++ names nodes) is ∙ sym (append_assoc (x ∷ others) (run.name ∷ []) (names runs))) (runs_begin runs all.1)))

  -- A run and the next one, into the next one.
  pair_kept : (s : Segment) → StandsHere trees s → (p : LevelPicking) → LevelMidway trees jobs p → (before : Tree) (run next : Node) (after : Tree) → runs_of s.tree ≡ before ++ run ∷ next ∷ after → Unused (run.name ∷ next.name ∷ []) p
      → LevelMidway trees jobs (with_level_pick (spec_for s (run.name ∷ next.name ∷ []) (run_id next.name)) p)
  pair_kept s stand p m before run next after is unused =
      into_source s p m stand (run.name ∷ next.name ∷ []) (names after) next id all.1.0.1 (stretch_in trees s stand (flushes ++ names before) run.name (next.name ∷ []) (names after) parts (runs_begin after all.1.1)) unused
      (in_later (Run id) run.name (next.name ∷ []) (subst (λ name. In (Run id) (name ∷ [])) (sym all.1.0.1) (in_first (Run id) [])))
      (ap (λ l. contains l id) ids ∙ among (newer == id))
      (ap (list_all (λ r. nat_le id r)) ids ∙ true_and (nat_le id newer) (nat_le id id && true) (le-leb id newer (omega (arith, above))) (true_and (nat_le id id) true (le-leb id id (omega arith)) refl))
      (ap (λ l. agree (fold lower None l) (Some id)) ids ∙ ap (λ n. n == id) (omega (arith, above)) ∙ same_run id)
    where
      flushes : List NodeName
      flushes = names (flushes_of s.tree)

      all : AllByRecursion IsRun (run ∷ next ∷ after)
      all = all_back IsRun before (run ∷ next ∷ after) (subst (AllByRecursion IsRun) is (all_runs s.tree))

      newer : ℕ
      newer = all.0.0

      id : ℕ
      id = all.1.0.0

      ids : run_ids (run.name ∷ next.name ∷ []) ≡ newer ∷ id ∷ []
      ids = ap (λ name. run_ids (name ∷ next.name ∷ [])) all.0.1 ∙ ap (λ name. newer ∷ run_ids (name ∷ [])) all.1.0.1

      parts : flushes ++ names (runs_of s.tree) ≡ (flushes ++ names before) ++ (run.name ∷ (next.name ∷ []) ++ names after)
      parts = ap (λ nodes. flushes ++ names nodes) is ∙ ap (λ l. flushes ++ l) (map-append (λ (node : Node). node.name) before (run ∷ next ∷ after)) ∙ sym (append_assoc flushes (names before) (run.name ∷ next.name ∷ names after))

      falls : StandsBefore run.name next.name
      falls =
          let pairs = pairs_back StandsBefore (flushes ++ names before) (run.name ∷ next.name ∷ names after) (subst (Pairs StandsBefore) parts stand.in_order) in
          pairs.0.0

      above : id < newer
      above = subst (λ name. StandsBefore (Run newer) name) all.1.0.1 (subst (λ name. StandsBefore name next.name) all.0.1 falls)

      among : (b : Bool) → cond b true (contains (id ∷ []) id) ≡ true
      among true = refl
      among false = ap (λ b. cond b true false) (same_run id)

  kept : (handles : List Handle) → KeptByPicks o handles (StandsHere trees) (LevelMidway trees jobs)
  kept handles = record { fresh = fresh_kept; newest = newest_kept; pair = pair_kept }

-- ---- all proposals

all_used : (jobs : Jobs) → AllByRecursion (λ job. (x : NodeName) → In x (nodes_of job.spec) → In x (flat_map (λ j. nodes_of j.spec) jobs)) jobs
all_used [] = tt
all_used (job ∷ jobs) = (
  λ x h. in_front x (nodes_of job.spec) (flat_map (λ j. nodes_of j.spec) jobs) h,
  all_weaken (λ j. (x : NodeName) → In x (nodes_of j.spec) → In x (flat_map (λ k. nodes_of k.spec) jobs)) (λ j. (x : NodeName) → In x (nodes_of j.spec) → In x (nodes_of job.spec ++ flat_map (λ k. nodes_of k.spec) jobs))
      (λ j used x h. in_back x (nodes_of job.spec) (flat_map (λ k. nodes_of k.spec) jobs) (used x h)) jobs (all_used jobs),
)

-- The proposals fit, as many as are taken.
pub levels_fit : (o : LevelOptions) → are_allowed o ≡ true → (most : ℕ) (view : View) → ViewStands view → AllFit view (level_picks o most view)
unfolding level_picks
levels_fit o allowed most view stands =
    let trees = view.manifest.trees in
    let begun : LevelPicking = record { used = flat_map (λ job. nodes_of job.spec) view.jobs; fresh = fresh_run_id view; picks = [] } in
    let begins : LevelMidway trees view.jobs begun = record { midway = midway_begins view stands; by_jobs = all_used view.jobs; by_picks = tt } in
    let here = all_stand_here trees trees (all_at_prefixes trees stands.prefixes) stands.in_order stands.named_once in
    let ended : LevelPicking = pick_trees o view.handles trees begun in
    let all = picks_keep o view.handles (StandsHere trees) (LevelMidway trees view.jobs) (kept o allowed trees stands.apart view.jobs view.handles) trees here begun begins in
    let count : ℕ = most - count_by is_under_way view.jobs in
    let parts = take-append-drop count ended.picks in
    record {
      each = all_front (Fits trees view.jobs) (take count ended.picks) (drop count ended.picks) (subst (AllByRecursion (Fits trees view.jobs)) (sym parts) all.midway.fit);
      apart = pairs_front AreApart (take count ended.picks) (drop count ended.picks) (subst (Pairs AreApart) (sym parts) all.midway.apart);
      rising = pairs_front Rises (take count ended.picks) (drop count ended.picks) (subst (Pairs Rises) (sym parts) all.midway.rising);
    }

pub levels_pass : (o : LevelOptions) → are_allowed o ≡ true → (most : ℕ) (view : View) → ViewStands view
    → (before after : List JobSpec) (job : Job) → level_picks o most view ≡ before ++ job.spec ∷ after → HasFreeId job.spec
    → (jobs : Jobs) → AllByRecursion (MayBeThere view.jobs (before ++ after) job.id) jobs
    → (later : View) → later.manifest.trees ≡ view.manifest.trees → submit_gate later.manifest.trees jobs [] ((level_scheduler o most).validate later) job ≡ None
levels_pass o allowed most view stands before after job is small jobs there later trees =
    let fit = subst (AllFit view) is (levels_fit o allowed most view stands) in
    subst (λ shown. submit_gate shown jobs [] (λ spec. true) job ≡ None) (sym trees) (passes_if_accepted view before after job fit small view.jobs (λ apart. apart) jobs there (λ spec. true) refl)
