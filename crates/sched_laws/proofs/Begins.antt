-- What holds before the first pick.
use Rattle.std.proofs.Common.{map, ◌≡◌, ◌≢◌, refl, sym, ◌∙◌, ap, subst, ℕ, ◌<◌, List, [], ◌∷◌, ◌++◌, length, cond, Bool, true, false, not, arith, ◌⊎◌, inl, inr, eqb-true, eq-eqb}
use Rattle.std.specs.Prelude.{Option, Some, None, IsTrue, nat_lt, nat_le, flat_map, filter, bytes_eq, ◌==◌}
use Rattle.std.specs.List.{AllByRecursion, list_all}
use Rattle.row_model.specs.Lists.{Pairs}
use Rattle.fleet_model.specs.Work.Gates.{reserves_nodes}
use Rattle.fleet_model.specs.Jobs.{Job, Jobs, JobSpec, contains, nodes_of}
use Rattle.fleet_model.specs.Invariants.JobsFit.{DestinationFits, SourcesStand}
use Rattle.sched_model.specs.FreshRuns.{above_all, destination_list, fresh_run_id}
use Rattle.fleet_model.specs.Nodes.{NodeName, Run, Trees, names, tree_at}
use Rattle.fleet_model.specs.Work.Scheduler.{View}
use Rattle.fleet_model.specs.Sources.{all_run_ids, is_lowest_or_above, older_nodes, reaches_oldest, run_ids}
use Rattle.sched_model.specs.Picks.{Planned}
use Rattle.sched_model.specs.Sizes.{SizedTree, sized_trees}
use Rattle.sched_model.specs.SizeTiered.{by_flushes, nodes_used, put_by_flushes, unplanned_tree}
use Rattle.sched_laws.specs.Views.{ViewStands}
use Rattle.sched_laws.proofs.Holding.{Holds, IsBelow, IsFresh}
use Rattle.sched_laws.proofs.Lists.{all_join, all_weaken, both_true}
use Rattle.sched_laws.proofs.Names.{In, in_back, in_front, never_in}
use Rattle.sched_laws.proofs.Passes.{Differ, IsMidway, IsReady}
use Rattle.sched_laws.proofs.Stretches.{stretch_is_in}
use Rattle.sched_laws.proofs.Trees.{StandsIn, all_at_prefixes, all_stand, contained_back, contained_front, contained_is_run, prefixes_differ, same_prefix, same_prefixes}

-- ---- the fresh id

below_all : (ids : List ℕ) (id : ℕ) → contains ids id ≡ true → id < above_all ids
below_all [] id h = absurd (cc h)
below_all (x ∷ ids) id h = by (x == id) refl h (below_all ids id)
  where
    by : (b : Bool) → (x == id) ≡ b → cond b true (contains ids id) ≡ true → (contains ids id ≡ true → id < above_all ids) → id < above_all (x ∷ ids)
    by true e h later = let same : x ≡ id = eqb-true x id e in omega (arith, same)
    by false e h later = let rest : id < above_all ids = later h in omega (arith, rest)

-- The destinations of the jobs.
abbrev destinations : Jobs → List ℕ
destinations jobs = flat_map (λ job. destination_list job.spec.destination) jobs

all_destinations : (jobs : Jobs) → AllByRecursion (λ job. (id : ℕ) → job.spec.destination ≡ Some id → contains (destinations jobs) id ≡ true) jobs
all_destinations [] = tt
all_destinations (job ∷ jobs) = (
  λ id is. contained_front id (destination_list job.spec.destination) (destinations jobs) (ap (λ d. contains (destination_list d) id) is ∙ ap (λ b. cond b true false) (eq-eqb id id refl)),
  all_weaken (λ j. (id : ℕ) → j.spec.destination ≡ Some id → contains (destinations jobs) id ≡ true) (λ j. (id : ℕ) → j.spec.destination ≡ Some id → contains (destinations (job ∷ jobs)) id ≡ true)
      (λ j there id is. contained_back id (destination_list job.spec.destination) (destinations jobs) (there id is)) jobs (all_destinations jobs),
)

pub fresh_is : (view : View) → IsFresh view.manifest.trees (fresh_run_id view)
fresh_is view = record {
  limit = omega arith;
  above = λ small id h. let below : id < above_all (all_run_ids view.manifest.trees ++ destinations view.jobs) =
      below_all (all_run_ids view.manifest.trees ++ destinations view.jobs) id (contained_front id (all_run_ids view.manifest.trees) (destinations view.jobs) h) in omega (arith, small, below);
}

-- ---- jobs that hold nodes

stand_within : (nodes sources : List NodeName) → reaches_oldest sources (older_nodes sources nodes) ≡ true → (x : NodeName) → In x sources → In x nodes
stand_within nodes sources stretch x h = by (older_nodes sources nodes) refl stretch
  where
    by : (found : Option (List NodeName)) → older_nodes sources nodes ≡ found → reaches_oldest sources found ≡ true → In x nodes
    by None e reaches = absurd (cc reaches)
    by (Some rest) e reaches = stretch_is_in sources nodes rest x e h

-- A job's fitting destination is one of its sources, or a run in no tree that is below the fresh id if ids are left.
stand_made : (trees : Trees) (fresh : ℕ) (spec : JobSpec) → DestinationFits trees (tree_at spec.segment trees) spec.sources spec.destination
    → (id : ℕ) → spec.destination ≡ Some id → (fresh < 4294967295 → id < fresh) → In (Run id) spec.sources ⊎ ((contains (all_run_ids trees) id ≡ true → ⊥) × (fresh < 4294967295 → id < fresh))
stand_made trees fresh spec fits id is below =
    by (run_ids spec.sources) refl (subst (DestinationFits trees (tree_at spec.segment trees) spec.sources) is fits)
  where
    by : (runs : List ℕ) → run_ids spec.sources ≡ runs
        → IsTrue (is_lowest_or_above id (run_ids spec.sources) (run_ids (names (tree_at spec.segment trees)))) × ((run_ids spec.sources ≡ []) → IsTrue (not (contains (all_run_ids trees) id)))
        → In (Run id) spec.sources ⊎ ((contains (all_run_ids trees) id ≡ true → ⊥) × (fresh < 4294967295 → id < fresh))
    by [] e low = inr (λ h. never_in (contains (all_run_ids trees) id) (low.1 e) h, below)
    by (run ∷ runs) e low =
        let others : List ℕ = run_ids (names (tree_at spec.segment trees)) in
        let lowest : is_lowest_or_above id (run ∷ runs) others ≡ true = subst (λ l. is_lowest_or_above id l others ≡ true) e low.0 in
        let among = (both_true (contains (run ∷ runs) id) (list_all (λ r. nat_le id r) (run ∷ runs)) lowest).0 in
        inl (contained_is_run spec.sources id (subst (λ l. contains l id ≡ true) (sym e) among))

holds_of_stand : (trees : Trees) (fresh : ℕ) (job : Job) → SourcesStand trees job → ((id : ℕ) → job.spec.destination ≡ Some id → fresh < 4294967295 → id < fresh) → Holds trees fresh job.spec
holds_of_stand trees fresh job stand below = record {
  within = stand_within (names (tree_at job.spec.segment trees)) job.spec.sources stand.stretch;
  made = λ id is. stand_made trees fresh job.spec stand.destination id is (below id is);
}

jobs_hold : (view : View) → ViewStands view → AllByRecursion (λ job. IsTrue (reserves_nodes job) → Holds view.manifest.trees (fresh_run_id view) job.spec) view.jobs
jobs_hold view stands =
    all_join (λ job. IsTrue (reserves_nodes job) → SourcesStand view.manifest.trees job) (λ job. (id : ℕ) → job.spec.destination ≡ Some id → contains (destinations view.jobs) id ≡ true)
    (λ job. IsTrue (reserves_nodes job) → Holds view.manifest.trees (fresh_run_id view) job.spec)
    (λ job stand there reserves. holds_of_stand view.manifest.trees (fresh_run_id view) job (stand reserves)
    (λ id is small. let below : id < above_all (all_run_ids view.manifest.trees ++ destinations view.jobs) =
    below_all (all_run_ids view.manifest.trees ++ destinations view.jobs) id (contained_back id (all_run_ids view.manifest.trees) (destinations view.jobs) (there id is)) in omega (arith, small, below)))
    view.jobs stands.jobs (all_destinations view.jobs)

-- The destination of each job is below the fresh id.
all_below : (view : View) → AllByRecursion (λ job. IsBelow (fresh_run_id view) job.spec) view.jobs
all_below view =
    all_weaken (λ job. (id : ℕ) → job.spec.destination ≡ Some id → contains (destinations view.jobs) id ≡ true) (λ job. IsBelow (fresh_run_id view) job.spec)
    (λ job there id is small. let below : id < above_all (all_run_ids view.manifest.trees ++ destinations view.jobs) =
    below_all (all_run_ids view.manifest.trees ++ destinations view.jobs) id (contained_back id (all_run_ids view.manifest.trees) (destinations view.jobs) (there id is)) in omega (arith, small, below)) view.jobs (all_destinations view.jobs)

pub midway_begins : (view : View) → ViewStands view → IsMidway view.manifest.trees view.jobs (record { fresh = fresh_run_id view; picks = [] })
midway_begins view stands = record { next = fresh_is view; held = jobs_hold view stands; holding = tt; asked = all_below view; fit = tt; apart = tt; rising = tt }

-- ---- trees that are looked at

-- The nodes that the jobs of a segment use have each source and each destination of each of these jobs.
all_used : (jobs : Jobs) (segment : List ℕ) → AllByRecursion (λ job. job.spec.segment ≡ segment → (x : NodeName) → In x (nodes_of job.spec) → In x (nodes_used jobs segment)) jobs
all_used [] segment = tt
all_used (job ∷ jobs) segment = by (bytes_eq segment job.spec.segment) refl (all_used jobs segment)
  where
    rest : Jobs
    rest = filter (λ j. bytes_eq segment j.spec.segment) jobs

    by : (b : Bool) → bytes_eq segment job.spec.segment ≡ b
        → AllByRecursion (λ j. j.spec.segment ≡ segment → (x : NodeName) → In x (nodes_of j.spec) → In x (nodes_used jobs segment)) jobs
        → AllByRecursion (λ j. j.spec.segment ≡ segment → (x : NodeName) → In x (nodes_of j.spec) → In x (flat_map (λ k. nodes_of k.spec) (cond b (job ∷ rest) rest))) (job ∷ jobs)
    by true e later = (
      λ here x h. in_front x (nodes_of job.spec) (nodes_used jobs segment) h,
      all_weaken (λ j. j.spec.segment ≡ segment → (x : NodeName) → In x (nodes_of j.spec) → In x (nodes_used jobs segment))
          (λ j. j.spec.segment ≡ segment → (x : NodeName) → In x (nodes_of j.spec) → In x (nodes_of job.spec ++ nodes_used jobs segment))
          (λ j used here x h. in_back x (nodes_of job.spec) (nodes_used jobs segment) (used here x h)) jobs later,
    )
    by false e later = (λ here. absurd (let itself = subst (λ p. bytes_eq segment p ≡ true) (sym here) (same_prefix segment) in cc (itself, e)), later)

all_ready : (trees : Trees) (jobs : Jobs) (sized : List SizedTree) → AllByRecursion (StandsIn trees) sized → AllByRecursion (IsReady trees jobs []) (map (unplanned_tree jobs) sized)
all_ready trees jobs [] stand = tt
all_ready trees jobs (t ∷ sized) stand = (record { stand = stand.0; used_by_jobs = all_used jobs t.segment; used_by_picks = tt }, all_ready trees jobs sized stand.1)

all_away : (jobs : Jobs) (t : SizedTree) (sized : List SizedTree) → AllByRecursion (λ p. t.segment ≢ p) (map (λ s. s.segment) sized) → AllByRecursion (Differ (unplanned_tree jobs t)) (map (unplanned_tree jobs) sized)
all_away jobs t [] away = tt
all_away jobs t (s ∷ sized) away = (away.0, all_away jobs t sized away.1)

all_differ : (jobs : Jobs) (sized : List SizedTree) → Pairs (λ a b. a ≢ b) (map (λ s. s.segment) sized) → Pairs Differ (map (unplanned_tree jobs) sized)
all_differ jobs [] differ = tt
all_differ jobs (t ∷ sized) differ = (all_away jobs t sized differ.0, all_differ jobs sized differ.1)

-- ---- the order of the trees

put_all : (P : Planned → Type 0) (t : Planned) (trees : List Planned) → P t → AllByRecursion P trees → AllByRecursion P (put_by_flushes t trees)
put_all P t [] first all = (first, tt)
put_all P t (u ∷ trees) first all = by (nat_lt (length t.tree.flushes) (length u.tree.flushes)) (put_all P t trees first all.1)
  where
    by : (b : Bool) → AllByRecursion P (put_by_flushes t trees) → AllByRecursion P (cond b (u ∷ put_by_flushes t trees) (t ∷ u ∷ trees))
    by true later = (all.0, later)
    by false later = (first, all)

sorted_all : (P : Planned → Type 0) (trees : List Planned) → AllByRecursion P trees → AllByRecursion P (by_flushes trees)
sorted_all P [] all = tt
sorted_all P (t ∷ trees) all = put_all P t (by_flushes trees) all.0 (sorted_all P trees all.1)

put_differ : (t : Planned) (trees : List Planned) → AllByRecursion (Differ t) trees → Pairs Differ trees → Pairs Differ (put_by_flushes t trees)
put_differ t [] away differ = (tt, tt)
put_differ t (u ∷ trees) away differ =
    by (nat_lt (length t.tree.flushes) (length u.tree.flushes)) (put_differ t trees away.1 differ.1)
    (put_all (Differ u) t trees (λ same. away.0 (sym same)) differ.0)
  where
    by : (b : Bool) → Pairs Differ (put_by_flushes t trees) → AllByRecursion (Differ u) (put_by_flushes t trees) → Pairs Differ (cond b (u ∷ put_by_flushes t trees) (t ∷ u ∷ trees))
    by true later apart = (apart, later)
    by false later apart = (away, differ)

sorted_differ : (trees : List Planned) → Pairs Differ trees → Pairs Differ (by_flushes trees)
sorted_differ [] differ = tt
sorted_differ (t ∷ trees) differ = put_differ t (by_flushes trees) (sorted_all (Differ t) trees differ.0) (sorted_differ trees differ.1)

-- The trees before the first pass.
abbrev pub looked_at : View → List Planned
looked_at view = by_flushes (map (unplanned_tree view.jobs) (sized_trees view.handles view.manifest.trees))

pub ready_begins : (view : View) → ViewStands view → AllByRecursion (IsReady view.manifest.trees view.jobs []) (looked_at view)
ready_begins view stands =
    let trees = view.manifest.trees in
    let stand = all_stand trees view.handles trees (all_at_prefixes trees stands.prefixes) stands.in_order stands.named_once in
    sorted_all (IsReady trees view.jobs []) (map (unplanned_tree view.jobs) (sized_trees view.handles trees)) (all_ready trees view.jobs (sized_trees view.handles trees) stand)

pub differ_begins : (view : View) → ViewStands view → Pairs Differ (looked_at view)
differ_begins view stands =
    let sized = sized_trees view.handles view.manifest.trees in
    let prefixes = prefixes_differ (map (λ s. s.prefix) view.manifest.trees) stands.prefixes in
    sorted_differ (map (unplanned_tree view.jobs) sized) (all_differ view.jobs sized (subst (Pairs (λ a b. a ≢ b)) (sym (same_prefixes view.handles view.manifest.trees)) prefixes))
