-- The sources of a job that stand in the trees: their tables are held, their rows are in order, and
-- they are the oldest nodes if the job makes the last run of its tree.
use Rattle.std.proofs.Common.{◌≡◌, refl, sym, ◌∙◌, ap, subst, ℕ, ◌<◌, ◌≤◌, List, [], ◌∷◌, ◌++◌, Bool, true, false, inl, inr, Option, Some, None, arith}
use Rattle.std.specs.Prelude.{IsTrue, ◌&&◌, ◌||◌, not, nat_lt, flat_map}
use Rattle.std.specs.List.{AllByRecursion, list_any}
use Rattle.std.proofs.lemmas.Bool.Decides.{Decides-eqb}
use Rattle.std.proofs.lemmas.Bool.{ltb-true}
use Rattle.row_model.specs.Lists.{Pairs}
use Rattle.row_model.specs.Rows.{sorted_rows, IsStrictlyOrdered}
use Rattle.row_model.specs.Fold.{Operator}
use Rattle.row_laws.proofs.Merges.{apart_are_ordered}
use Rattle.fleet_model.specs.Nodes.{NodeName, L0, Run, is_l0, Node, Tree, names, node_rows, Trees, tree_at}
use Rattle.fleet_model.specs.Jobs.{JobSpec, Job}
use Rattle.fleet_model.specs.Work.Gates.{is_nonempty}
use Rattle.fleet_model.specs.Sources.{run_ids, older_nodes, reaches_oldest, is_lowest_or_above}
use Rattle.fleet_model.specs.Store.{is_held, AreHeld}
use Rattle.fleet_model.specs.Trees.{source_nodes, source_pieces}
use Rattle.fleet_model.specs.Invariants.TreesFit.{IsNewer, StandsBefore}
use Rattle.fleet_model.specs.Invariants.JobsFit.{SourcesStand, DestinationFits, AreOldest}
use Rattle.fleet_model.specs.Work.Attempts.{is_last, is_last_run, source_rows}
use Rattle.step_model.specs.Past.{World}
use Rattle.step_laws.proofs.Elements.{IsIn, all_at, all_to, all_flat, all_true_front, contains_in, in_front, in_back}
use Rattle.step_laws.proofs.Bodies.{Body}
use Rattle.commit_laws.proofs.Commits.{start}
use Rattle.commit_laws.proofs.JobSteps.{tree_before}
use Rattle.commit_laws.proofs.RunRows.{nodes_apart, rows_of_pieces}
use Rattle.commit_laws.proofs.Segments.{SegmentFits, segment_named}
use Rattle.commit_laws.proofs.TreeReads.{with_horizon}
use Rattle.commit_laws.proofs.Steps.{StretchAt, stretch_at}
use Rattle.commit_laws.proofs.Stretches.{nodes_named, all_taken, pairs_first, pairs_second, pairs_of, run_in, in_runs}
use Rattle.rival_laws.proofs.Tails.{older_split}

-- ---- the nodes

-- The nodes of a job's sources, which are a stretch of one tree.
record SourceNodes (merge : Operator) (world : World) (job : Job) : Type 0 where
  at : StretchAt world.store.manifest.trees job.spec
  same : tree_at job.spec.segment world.store.manifest.trees ≡ at.s.tree
  fits : SegmentFits merge (with_horizon world.store world.store.manifest.horizon) world.store.history at.s
  tables : job.source_tables ≡ flat_map (λ (node : Node). node.pieces) (at.t ∷ at.ts)

-- The sources of a job that stand are a stretch of a tree that fits, and their pieces are the job's source tables.
source_nodes_of : (merge : Operator) (world : World) (specs : ℕ → JobSpec) (job : Job) → Body merge world specs → SourcesStand world.store.manifest.trees job → SourceNodes merge world job
source_nodes_of merge world specs job b stands =
    let kept = (start merge world specs b).kept in
    let a = stretch_at world.store.manifest.trees job.spec stands.some stands.stretch in
    let same = tree_before job.spec.segment world.store.manifest.trees a.s kept.rise a.there a.same in
    let fits = all_at _ world.store.manifest.trees a.s kept.each a.there in
    let named = segment_named merge (with_horizon world.store world.store.manifest.horizon) world.store.history a.s b.sound.tables fits in
    let nodes : source_nodes (names (a.t ∷ a.ts)) a.s.tree ≡ a.t ∷ a.ts =
    nodes_named a.s.tree (a.t ∷ a.ts) named (λ node there. subst (IsIn node) (sym a.whole) (in_back node a.newer ((a.t ∷ a.ts) ++ a.older) (in_front node (a.t ∷ a.ts) a.older there))) in
    record {
      at = a;
      same = same;
      fits = fits;
      tables = sym stands.source_tables ∙ ap (source_pieces job.spec.sources) same ∙ ap (λ ns. source_pieces ns a.s.tree) (sym a.named) ∙ ap (flat_map (λ (node : Node). node.pieces)) nodes;
    }

-- The rows of the sources are strictly ordered.
pub sources_ordered : (merge : Operator) (world : World) (specs : ℕ → JobSpec) (job : Job) → Body merge world specs → SourcesStand world.store.manifest.trees job → IsStrictlyOrdered (source_rows world.store.tables job.source_tables)
sources_ordered merge world specs job b stands =
    let n = source_nodes_of merge world specs job b stands in
    let taken = n.at.t ∷ n.at.ts in
    let tables = world.store.tables in
    let newest = pairs_first (IsNewer tables) taken n.at.older (pairs_second (IsNewer tables) n.at.newer (taken ++ n.at.older) (subst (Pairs (IsNewer tables)) n.at.whole n.fits.tree.newest_first)) in
    let ordered = all_taken (λ (node : Node). IsStrictlyOrdered (node_rows tables node)) n.at.newer taken n.at.older (subst (AllByRecursion (λ (node : Node). IsStrictlyOrdered (node_rows tables node))) n.at.whole n.fits.tree.ordered) in
    subst IsStrictlyOrdered (sym (ap (source_rows tables) n.tables ∙ ap sorted_rows (rows_of_pieces tables taken)))
    (apart_are_ordered (flat_map (node_rows tables) taken) (nodes_apart tables taken newest ordered))

-- The tables of the sources are held.
pub sources_held : (merge : Operator) (world : World) (specs : ℕ → JobSpec) (job : Job) → Body merge world specs → SourcesStand world.store.manifest.trees job → AllByRecursion (λ id. IsTrue (is_held world.store id)) job.source_tables
sources_held merge world specs job b stands =
    let n = source_nodes_of merge world specs job b stands in
    let taken = n.at.t ∷ n.at.ts in
    let held = all_taken (λ (node : Node). AreHeld world.store node.pieces) n.at.newer taken n.at.older (subst (AllByRecursion (λ (node : Node). AreHeld world.store node.pieces)) n.at.whole n.fits.pieces) in
    subst (AllByRecursion (λ id. IsTrue (is_held world.store id))) (sym n.tables) (all_flat _ (λ (node : Node). node.pieces) taken (all_to _ _ taken (λ node there one. all_true_front (is_held world.store) node.pieces one) held))

-- ---- the last run

runs_low : (run : ℕ) (ns : List NodeName) → AllByRecursion (StandsBefore (Run run)) ns → AllByRecursion (λ other. other < run) (run_ids ns)
runs_low run [] h = tt
runs_low run (L0 name ∷ ns) h = runs_low run ns h.1
runs_low run (Run other ∷ ns) h = (h.0, runs_low run ns h.1)

runs_fall : (ns : List NodeName) → Pairs StandsBefore ns → Pairs (λ a b. b < a) (run_ids ns)
runs_fall [] h = tt
runs_fall (L0 name ∷ ns) h = runs_fall ns h.1
runs_fall (Run run ∷ ns) h = (runs_low run ns h.0, runs_fall ns h.1)

-- The last one of falling ids is the least.
last_least : (id : ℕ) (ids : List ℕ) → Pairs (λ a b. b < a) ids → is_last id ids ≡ true → AllByRecursion (λ other. id ≤ other) ids
last_least id [] fall e = tt
last_least id (run ∷ []) fall e = let same = (Decides-eqb run id).0 e in (omega (arith, same), tt)
last_least id (run ∷ other ∷ ids) fall e =
    let rest = last_least id (other ∷ ids) fall.1 e in
    let first = rest.0 in
    let above = fall.0.0 in
    (omega (arith, first, above), rest)

-- There is a source.
some_source : (sources : List NodeName) → IsTrue (is_nonempty sources) → (x : NodeName) × IsIn x sources
some_source [] h = absurd (cc h)
some_source (x ∷ sources) h = (x, inl refl)

l0_any : (sources : List NodeName) (x : NodeName) → IsIn x sources → is_l0 x ≡ true → IsTrue (list_any is_l0 sources)
l0_any [] x there e = absurd there
l0_any (y ∷ sources) x (inl same) e = rw same (ap (λ b. b || list_any is_l0 sources) e)
l0_any (y ∷ sources) x (inr there) e = by (is_l0 y) (l0_any sources x there e)
  where
    by : (b : Bool) → IsTrue (list_any is_l0 sources) → IsTrue (b || list_any is_l0 sources)
    by true h = refl
    by false h = h

-- The destination is lower than no run of the tree, so no node is older than the sources.
no_older : (trees : Trees) (tree : Tree) (sources rest front : List NodeName) (destination : Option ℕ) (x : NodeName) → Pairs StandsBefore (names tree) → names tree ≡ front ++ (sources ++ (x ∷ rest)) → IsTrue (is_nonempty sources)
    → IsTrue (reaches_oldest sources (Some (x ∷ rest))) → DestinationFits trees tree sources destination → is_last_run destination tree ≡ true → ⊥
no_older trees tree sources rest front None x order split some reaches fits last = fits
no_older trees tree sources rest front (Some id) (L0 name) order split some reaches fits last =
    let s = some_source sources some in
    at s.0 s.1 (pairs_of StandsBefore sources (L0 name ∷ rest) s.0 (L0 name) (pairs_second StandsBefore front (sources ++ (L0 name ∷ rest)) (subst (Pairs StandsBefore) split order)) s.1 (inl refl))
  where
    never : (b : Bool) → IsTrue b → IsTrue (not b || false) → ⊥
    never true h k = absurd (cc k)
    never false h k = absurd (cc h)

    at : (s : NodeName) → IsIn s sources → StandsBefore s (L0 name) → ⊥
    at (L0 other) there before = never (list_any is_l0 sources) (l0_any sources (L0 other) there refl) reaches
    at (Run other) there before = before
no_older trees tree sources rest front (Some id) (Run run) order split some reaches fits last = by (run_ids sources) refl fits.0
  where
    least : AllByRecursion (λ other. id ≤ other) (run_ids (names tree))
    least = last_least id (run_ids (names tree)) (runs_fall (names tree) order) last

    there : IsIn (Run run) (names tree)
    there = subst (IsIn (Run run)) (sym split) (in_back (Run run) front (sources ++ (Run run ∷ rest)) (in_back (Run run) sources (Run run ∷ rest) (inl refl)))

    low : id ≤ run
    low = all_at (λ other. id ≤ other) (run_ids (names tree)) run least (in_runs (names tree) run there)

    first : (a b : Bool) → IsTrue (a && b) → IsTrue a
    first true b h = refl
    first false b h = absurd (cc h)

    by : (runs : List ℕ) → run_ids sources ≡ runs → IsTrue (is_lowest_or_above id runs (run_ids (names tree))) → ⊥
    by [] e above = let high = ltb-true run id (all_at _ (run_ids (names tree)) run (all_true_front (λ other. nat_lt other id) (run_ids (names tree)) above) (in_runs (names tree) run there)) in absurd (omega (arith, high, low))
    by (s ∷ runs) e lowest =
        let own = run_in sources id (subst (IsIn id) (sym e) (contains_in (s ∷ runs) id (first _ _ lowest))) in
        let below : run < id = pairs_of StandsBefore sources (Run run ∷ rest) (Run id) (Run run) (pairs_second StandsBefore front (sources ++ (Run run ∷ rest)) (subst (Pairs StandsBefore) split order)) own (inl refl) in
        absurd (omega (arith, below, low))

-- A job that makes the last run of its tree has the oldest nodes as its sources.
pub last_is_oldest : (merge : Operator) (world : World) (specs : ℕ → JobSpec) (job : Job) → Body merge world specs → SourcesStand world.store.manifest.trees job → is_last_run job.spec.destination (tree_at job.spec.segment world.store.manifest.trees) ≡ true
    → AreOldest (tree_at job.spec.segment world.store.manifest.trees) job.spec.sources
last_is_oldest merge world specs job b stands last = by (older_nodes job.spec.sources (names tree)) refl stands.stretch
  where
    tree : Tree
    tree = tree_at job.spec.segment world.store.manifest.trees

    n : SourceNodes merge world job
    n = source_nodes_of merge world specs job b stands

    order : Pairs StandsBefore (names tree)
    order = subst (λ (t : Tree). Pairs StandsBefore (names t)) (sym n.same) n.fits.tree.names_in_order

    some : (rest : List NodeName) → older_nodes job.spec.sources (names tree) ≡ Some rest → IsTrue (reaches_oldest job.spec.sources (Some rest)) → older_nodes job.spec.sources (names tree) ≡ Some []
    some [] e reaches = e
    some (x ∷ rest) e reaches =
        let f = older_split job.spec.sources (names tree) (x ∷ rest) e in
        absurd (no_older world.store.manifest.trees tree job.spec.sources rest f.front job.spec.destination x order f.split stands.some reaches stands.destination last)

    by : (o : Option (List NodeName)) → older_nodes job.spec.sources (names tree) ≡ o → IsTrue (reaches_oldest job.spec.sources o) → older_nodes job.spec.sources (names tree) ≡ Some []
    by None e reaches = absurd (cc reaches)
    by (Some rest) e reaches = some rest e reaches
