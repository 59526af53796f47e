-- A lawful commit leaves the oldest sources of a Running job the oldest.
use Rattle.std.proofs.Common.{◌≡◌, refl, sym, ◌∙◌, ap, subst, ℕ, ◌<◌, List, [], ◌∷◌, ◌++◌, cond, Bool, true, false, inl, inr, ◌⊎◌, Option, Some, None, arith}
use Rattle.std.specs.Prelude.{IsTrue, IfSome, ◌==◌, ◌&&◌, ◌||◌, not, map, flat_map, option_map, bytes_eq, is_some, ⊤}
use Rattle.std.specs.List.{AllByRecursion, list_all, concat}
use Rattle.std.proofs.lemmas.Bool.Decides.{Decides-eqb}
use Rattle.std.proofs.lemmas.List.{append-nil}
use Rattle.std.proofs.lemmas.Slice.Eq.{bytes_eq-Decides}
use Rattle.row_model.specs.Lists.{Pairs}
use Rattle.row_model.specs.Rows.{Row}
use Rattle.row_model.specs.Fold.{Operator}
use Rattle.fleet_model.specs.Nodes.{NodeName, L0, Run, is_l0, Node, Tree, Trees, Segment, Tables, is_among, names, names_contain, node_rows, table_rows, segment_at, tree_at, tree_or_empty}
use Rattle.fleet_model.specs.Jobs.{JobSpec, Job, Status, Submitted, Scheduled, Running, Compacted, Completed, Failed, status_eq, has_status, is_finished, job_with, contains, nodes_of, with_destination, is_drain, is_drain_to}
use Rattle.fleet_model.specs.History.{Party, Step, Join, Move, Drain}
use Rattle.fleet_model.specs.Trees.{on_segment, stepped_tree, stepped_in, stepped_all, to_run, with_run_for, job_of, watermark_after}
use Rattle.fleet_model.specs.Work.Records.{new_job}
use Rattle.fleet_model.specs.Past.Replay.{outputs_in}
use Rattle.fleet_model.specs.Work.Gates.{is_nonempty, first_failing, reserves_nodes, is_free, destination_fits, are_distinct, names_older}
use Rattle.fleet_model.specs.Sources.{run_ids, all_run_ids, older_nodes, reaches_oldest, is_whole_stretch, is_lowest_or_above, is_apart}
use Rattle.fleet_model.specs.Store.{Manifest, stored_jobs, is_held}
use Rattle.fleet_model.specs.Invariants.TreesFit.{StandsBefore, IsTree, IsTable, IsNewer, node_and_flushed_rows}
use Rattle.fleet_model.specs.Invariants.JobsFit.{HoldApart, SourcesStand, DestinationFits, AreOldest, was_joined}
use Rattle.step_model.specs.Past.{World}
use Rattle.step_model.specs.LawfulManifests.{CommitFits, StepsFit, JoinFits, AtOnceFits, IsKnownTo, holding}
use Rattle.step_model.specs.Kept.TablesKept.{IsFlush}
use Rattle.step_model.specs.Kept.Keeps.{Keeps}
use Rattle.step_laws.proofs.Elements.{IsIn, all_at, all_from, all_to, all_true_front, pairs_map, in_front}
use Rattle.step_laws.proofs.Bodies.{Body, JobKept, whole_of}
use Rattle.step_laws.proofs.Held.{held_put}
use Rattle.step_laws.proofs.Deletions.{in_flat, in_filter}
use Rattle.step_laws.proofs.Changed.{IsFound, found_job, job_found}
use Rattle.step_laws.proofs.PollJobs.{tree_has}
use Rattle.rival_laws.proofs.SameParty.{pairs_across, pairs_back}
use Rattle.rival_laws.proofs.Tails.{older_split, Tail, tail_oldest, apart_names, in_runs, run_above, tail_without, tail_with_run}
use Rattle.step_laws.proofs.Flushes.{table_of}
use Rattle.step_laws.proofs.Beats.{pairs_either}
use Rattle.step_laws.proofs.KnownJobs.{outputs_are, known_spec}

-- ---- names of a tree differ

-- Two flushes of a tree have two names.
abbrev FlushesDiffer : NodeName → NodeName → Type 0
FlushesDiffer a b = IsTrue (is_l0 a) → a ≡ b → ⊥

-- Of two nodes that both hold the same one table, neither is newer than the other.
not_newer : (tables : Tables) (name : ℕ) (x y : Node) → IsTable (table_rows tables name) → x.pieces ≡ name ∷ [] → y.pieces ≡ name ∷ [] → IsNewer tables x y → ⊥
not_newer tables name x y table one other newer = by (table_rows tables name) refl table
  where
    row_in : (r : Row) (rest : List Row) (node : Node) → table_rows tables name ≡ r ∷ rest → node.pieces ≡ name ∷ [] → IsIn r (node_and_flushed_rows tables node)
    row_in r rest node e is = in_front r (node_rows tables node) _ (subst (λ pieces. IsIn r (flat_map (table_rows tables) pieces)) (sym is) (in_front r (table_rows tables name) [] (subst (λ rows. IsIn r rows) (sym e) (inl refl))))

    by : (rows : List Row) → table_rows tables name ≡ rows → IsTable rows → ⊥
    by [] e t = t.some refl
    by (r ∷ rest) e t =
        let low = all_at (λ (q : Row). q.seq < r.seq) (node_and_flushed_rows tables y) r (all_at (λ (q : Row). AllByRecursion (λ (p : Row). p.seq < q.seq) (node_and_flushed_rows tables y)) (node_and_flushed_rows tables x) r newer (row_in r rest x e one)) (row_in r rest y e other) in
        absurd (omega (arith, low))

-- No two flushes of a stored tree have the same name.
flushes_differ : (merge : Operator) (world : World) (specs : ℕ → JobSpec) → Body merge world specs → (s : Segment) → IsIn s world.store.manifest.trees → Pairs FlushesDiffer (names s.tree)
flushes_differ merge world specs b s there = pairs_map (IsNewer world.store.tables) FlushesDiffer (λ (node : Node). node.name) s.tree
    (λ x y one other newer is same. by x.name x y newer is (flush x one) (subst (λ name. IsFlush world.store.history y name) (sym same) (flush y other)) one) (all_at (IsTree world.store.tables) world.store.manifest.trees s b.trees.each there).newest_first
  where
    flush : (node : Node) → IsIn node s.tree → IsFlush world.store.history node node.name
    flush node one = all_at (λ (n : Node). IsFlush world.store.history n n.name) s.tree node (all_at (λ (t : Segment). AllByRecursion (λ node. IsFlush world.store.history node node.name) t.tree) world.store.manifest.trees s b.nodes.flushes there) one

    put : (node : Node) (name : ℕ) → IsIn node s.tree → node.pieces ≡ name ∷ [] → IsTrue (is_among world.store.tables name)
    put node name one is = held_put world.store name (all_true_front (is_held world.store) (name ∷ []) (subst (λ pieces. IsTrue (list_all (is_held world.store) pieces)) is
        (all_at (λ (n : Node). IsTrue (list_all (is_held world.store) n.pieces)) s.tree node (all_at (λ (t : Segment). AllByRecursion (λ (n : Node). IsTrue (list_all (is_held world.store) n.pieces)) t.tree) world.store.manifest.trees s b.pieces there) one))).0

    by : (name : NodeName) (x y : Node) → IsNewer world.store.tables x y → IsTrue (is_l0 name) → IsFlush world.store.history x name → IsFlush world.store.history y name → IsIn x s.tree → ⊥
    by (L0 name) x y newer is first second one = not_newer world.store.tables name x y (table_of world.store.tables name b.sound.tables (put x name one first.1)) first.1 second.1 newer
    by (Run id) x y newer is first second one = absurd (cc is)

-- ---- the tail of a stored tree

-- The tail of the stored tree, whose names are in order.
pub record Ends (world : World) (p : List ℕ) (sources : List NodeName) : Type 0 where
  pub tail : Tail sources (names (tree_at p world.store.manifest.trees))
  pub order : Pairs StandsBefore sources

-- Sources that are the oldest nodes of a stored tree end the names of this tree, and stand in order.
tail_now : (merge : Operator) (world : World) (specs : ℕ → JobSpec) (p : List ℕ) (sources : List NodeName) → Body merge world specs → AreOldest (tree_at p world.store.manifest.trees) sources → Ends world p sources
tail_now merge world specs p sources b oldest =
    let f = older_split sources (names (tree_at p world.store.manifest.trees)) [] oldest in
    let split = f.split ∙ ap (λ xs. f.front ++ xs) (append-nil sources) in
    let order = tree_has (λ tree. Pairs StandsBefore (names tree)) p world.store.manifest.trees tt (all_to _ _ world.store.manifest.trees (λ s there tree. tree.names_in_order) b.trees.each) in
    let differ = tree_has (λ tree. Pairs FlushesDiffer (names tree)) p world.store.manifest.trees tt (all_from _ world.store.manifest.trees (λ s there. flushes_differ merge world specs b s there)) in
    record {
      tail = record {
        front = f.front;
        split = split;
        higher = λ x there. all_from _ sources (λ y other. pairs_across StandsBefore f.front sources x y (subst (Pairs StandsBefore) split order) there other);
        fresh = λ x there other. unlike x (pairs_across StandsBefore f.front sources x x (subst (Pairs StandsBefore) split order) there other) (pairs_across FlushesDiffer f.front sources x x (subst (Pairs FlushesDiffer) split differ) there other);
      };
      order = pairs_back StandsBefore f.front sources (subst (Pairs StandsBefore) split order);
    }
  where
    unlike : (x : NodeName) → StandsBefore x x → FlushesDiffer x x → ⊥
    unlike (L0 name) before differs = differs refl refl
    unlike (Run id) before differs = absurd (omega (arith, before))

-- ---- the tree of a segment after a step

-- A change of one segment leaves at each prefix the segment that was there, changed if it is that one.
segment_on : (p prefix : List ℕ) (sources : List NodeName) (change : Tree → Tree) (trees : Trees) → segment_at p (map (on_segment prefix sources change) trees) ≡ option_map (on_segment prefix sources change) (segment_at p trees)
segment_on p prefix sources change [] = refl
segment_on p prefix sources change (s ∷ trees) =
    ap (λ q. cond (bytes_eq p q) (Some (on_segment prefix sources change s)) (segment_at p (map (on_segment prefix sources change) trees))) (same (bytes_eq prefix s.prefix))
    ∙ by (bytes_eq p s.prefix) (segment_on p prefix sources change trees)
  where
    same : (b : Bool) → (cond b (record s { tree = change s.tree; watermark = watermark_after sources s.tree s.watermark }) s).prefix ≡ s.prefix
    same true = refl
    same false = refl

    by : (b : Bool) → segment_at p (map (on_segment prefix sources change) trees) ≡ option_map (on_segment prefix sources change) (segment_at p trees)
        → cond b (Some (on_segment prefix sources change s)) (segment_at p (map (on_segment prefix sources change) trees)) ≡ option_map (on_segment prefix sources change) (cond b (Some s) (segment_at p trees))
    by true rest = refl
    by false rest = rest

-- A segment that is found.
record SegmentFound (p : List ℕ) (trees : Trees) (s : Segment) : Type 0 where
  pub there : IsIn s trees
  pub prefix : p ≡ s.prefix

-- A segment that is found at a prefix is among the trees and has this prefix.
segment_found : (p : List ℕ) (trees : Trees) (s : Segment) → segment_at p trees ≡ Some s → SegmentFound p trees s
segment_found p [] s e = absurd (cc e)
segment_found p (t ∷ trees) s e = by (bytes_eq p t.prefix) refl (segment_found p trees s) e
  where
    the : Some t ≡ Some s → t ≡ s
    the e = cc e

    later : SegmentFound p trees s → SegmentFound p (t ∷ trees) s
    later f = record { there = inr f.there; prefix = f.prefix }

    by : (b : Bool) → bytes_eq p t.prefix ≡ b → (segment_at p trees ≡ Some s → SegmentFound p trees s) → cond b (Some t) (segment_at p trees) ≡ Some s → SegmentFound p (t ∷ trees) s
    by true f rest e = record { there = inl (the e); prefix = (bytes_eq-Decides p t.prefix).0 f ∙ ap (λ (u : Segment). u.prefix) (the e) }
    by false f rest e = later (rest e)

-- What is so of a tree is so after a step, if it is where the step changes the tree.
tree_on : (P : Tree → Type 0) (p prefix : List ℕ) (sources : List NodeName) (change : Tree → Tree) (trees : Trees) → P (tree_at p trees) → (prefix ≡ p → P (tree_at p trees) → P (change (tree_at p trees))) → P (tree_at p (map (on_segment prefix sources change) trees))
tree_on P p prefix sources change trees h grow = subst (λ o. P (tree_or_empty o)) (sym (segment_on p prefix sources change trees)) (by (segment_at p trees) refl h grow)
  where
    by : (o : Option Segment) → segment_at p trees ≡ o → P (tree_or_empty o) → (prefix ≡ p → P (tree_or_empty o) → P (change (tree_or_empty o))) → P (tree_or_empty (option_map (on_segment prefix sources change) o))
    by None e h grow = h
    by (Some s) e h grow = here (bytes_eq prefix s.prefix) refl
      where
        here : (b : Bool) → bytes_eq prefix s.prefix ≡ b → P (cond b (record s { tree = change s.tree; watermark = watermark_after sources s.tree s.watermark }) s).tree
        here true f = grow ((bytes_eq-Decides prefix s.prefix).0 f ∙ sym (segment_found p trees s e).prefix) h
        here false f = h

-- The runs of a tree are among all runs.
run_among : (p : List ℕ) (trees : Trees) (run : ℕ) → IsIn (Run run) (names (tree_at p trees)) → IsIn run (all_run_ids trees)
run_among p trees run there = by (segment_at p trees) refl there
  where
    by : (o : Option Segment) → segment_at p trees ≡ o → IsIn (Run run) (names (tree_or_empty o)) → IsIn run (all_run_ids trees)
    by None e there = absurd there
    by (Some s) e there = in_flat (λ (t : Segment). run_ids (names t.tree)) trees s run (segment_found p trees s e).there (in_runs (names s.tree) run there)

-- ---- stored jobs

-- The sources of a Running job stand in their tree.
pub running_stand : (merge : Operator) (world : World) (specs : ℕ → JobSpec) → Body merge world specs → (job : Job) → IsIn job (stored_jobs world.store) → IsTrue (has_status Running job) → SourcesStand world.store.manifest.trees job
running_stand merge world specs b job there runs = (all_at (JobKept merge world specs) (stored_jobs world.store) job b.jobs there).fits.sources.0 (waits job.status runs)
  where
    waits : (s : Status) → IsTrue (status_eq Running s) → IsTrue (status_eq Scheduled s || status_eq Running s)
    waits Running h = refl
    waits Scheduled h = refl
    waits Submitted h = absurd (cc h)
    waits Compacted h = absurd (cc h)
    waits Completed h = absurd (cc h)
    waits Failed h = absurd (cc h)

-- ---- what a step makes of a tail

in_nodes : (destination : Option ℕ) (sources : List NodeName) (x : NodeName) → IsIn x sources → IsIn x (with_destination destination sources)
in_nodes None sources x there = there
in_nodes (Some id) sources x there = inr there

apart_sources : (one other : JobSpec) → IsTrue (is_apart (nodes_of one) (nodes_of other)) → (x : NodeName) → IsIn x one.sources → IsIn x other.sources → ⊥
apart_sources one other h x first second = apart_names (nodes_of one) (nodes_of other) h x (in_nodes one.destination one.sources x first) (in_nodes other.destination other.sources x second)

-- A destination is above the tail, if there is one.
abbrev IsAboveTail : List NodeName → Option ℕ → Type 0
IsAboveTail sources None = ⊤
IsAboveTail sources (Some id) = AllByRecursion (StandsBefore (Run id)) sources

run_tail : (sources out : List NodeName) (destination : Option ℕ) (pieces : List ℕ) (tree : Tree) → IsTrue (is_nonempty sources) → ((x : NodeName) → IsIn x out → IsIn x sources → ⊥) → IsAboveTail sources destination → Tail sources (names tree)
    → Tail sources (names (to_run (λ id. with_run_for out id pieces) destination tree))
run_tail sources out None pieces tree some apart above t = t
run_tail sources out (Some id) pieces tree some apart above t = tail_with_run sources out id _ tree refl some t apart above

-- ---- the steps of a commit

-- A Running job whose sources end their tree, and the commit's specs.
record Case (merge : Operator) (world : World) (specs : ℕ → JobSpec) (job : Job) : Type 0 where
  pub body : Body merge world specs
  pub there : IsIn job (stored_jobs world.store)
  pub runs : IsTrue (has_status Running job)
  pub some : IsTrue (is_nonempty job.spec.sources)
  pub ends : Ends world job.spec.segment job.spec.sources

-- The tail in these trees.
abbrev InTrees : Job → Trees → Type 0
InTrees job trees = Tail job.spec.sources (names (tree_at job.spec.segment trees))

pub not_both : (s : Status) → IsTrue (status_eq Running s) → IsTrue (status_eq Compacted s) → ⊥
not_both Running h k = absurd (cc k)
not_both Compacted h k = absurd (cc h)
not_both Submitted h k = absurd (cc h)
not_both Scheduled h k = absurd (cc h)
not_both Completed h k = absurd (cc h)
not_both Failed h k = absurd (cc h)

pub running_reserves : (s : Status) → IsTrue (status_eq Running s) → IsTrue (status_eq Scheduled s || status_eq Running s || status_eq Compacted s)
running_reserves Running h = refl
running_reserves Compacted h = refl
running_reserves Scheduled h = refl
running_reserves Submitted h = absurd (cc h)
running_reserves Completed h = absurd (cc h)
running_reserves Failed h = absurd (cc h)

compacted_reserves : (s : Status) → IsTrue (status_eq Compacted s) → IsTrue (status_eq Scheduled s || status_eq Running s || status_eq Compacted s)
compacted_reserves Compacted h = refl
compacted_reserves Running h = refl
compacted_reserves Scheduled h = refl
compacted_reserves Submitted h = absurd (cc h)
compacted_reserves Completed h = absurd (cc h)
compacted_reserves Failed h = absurd (cc h)

above_at : (sources ns out : List NodeName) (id : ℕ) (runs : List ℕ) → Tail sources ns → Pairs StandsBefore sources → IsTrue (is_nonempty out) → IsTrue (reaches_oldest out (older_nodes out ns)) → ((x : NodeName) → IsIn x out → IsIn x sources → ⊥)
    → IsTrue (is_lowest_or_above id (run_ids out) runs) → ((run : ℕ) → IsIn (Run run) ns → IsIn run runs) → AllByRecursion (StandsBefore (Run id)) sources
above_at sources ns [] id runs t order some reaches apart fits has = absurd (cc some)
above_at sources ns (x ∷ xs) id runs t order some reaches apart fits has = run_above sources ns x xs id runs t order reaches apart fits has

-- ---- a join

-- A stored Compacted job holds no source of the Running job.
joined_apart : (merge : Operator) (world : World) (specs : ℕ → JobSpec) (job other : Job) → Case merge world specs job → IsIn other (stored_jobs world.store) → IsTrue (has_status Compacted other) → (x : NodeName) → IsIn x other.spec.sources → IsIn x job.spec.sources → ⊥
joined_apart merge world specs job other c there compacted x first second = by (pairs_either HoldApart (stored_jobs world.store) job other c.body.held_once c.there there (λ same. not_both job.status c.runs (subst (λ (j : Job). IsTrue (has_status Compacted j)) (sym same) compacted)))
  where
    by : HoldApart job other ⊎ HoldApart other job → ⊥
    by (inl h) = apart_sources job.spec other.spec (h (running_reserves job.status c.runs) (compacted_reserves other.status compacted)) x second first
    by (inr h) = apart_sources other.spec job.spec (h (compacted_reserves other.status compacted) (running_reserves job.status c.runs)) x first second

joined_above : (merge : Operator) (world : World) (specs : ℕ → JobSpec) (job other : Job) → Case merge world specs job → IsIn other (stored_jobs world.store) → IsTrue (has_status Compacted other) → SourcesStand world.store.manifest.trees other → other.spec.segment ≡ job.spec.segment
    → IsAboveTail job.spec.sources other.spec.destination
joined_above merge world specs job other c there compacted stand same = by other.spec.destination stand.destination
  where
    by : (d : Option ℕ) → DestinationFits world.store.manifest.trees (tree_at other.spec.segment world.store.manifest.trees) other.spec.sources d → IsAboveTail job.spec.sources d
    by None fits = tt
    by (Some id) fits = above_at job.spec.sources (names (tree_at other.spec.segment world.store.manifest.trees)) other.spec.sources id (run_ids (names (tree_at other.spec.segment world.store.manifest.trees)))
        (subst (λ p. Tail job.spec.sources (names (tree_at p world.store.manifest.trees))) (sym same) c.ends.tail) c.ends.order stand.some stand.stretch (joined_apart merge world specs job other c there compacted) fits.0
        (λ run one. in_runs (names (tree_at other.spec.segment world.store.manifest.trees)) run one)

-- If the sources of a Running job end their tree, they still do after a join of a commit that fits.
join_tail : (merge : Operator) (world : World) (specs : ℕ → JobSpec) (job : Job) (trees : Trees) (joined : List ℕ) (id : ℕ) (spec : JobSpec) (outputs : List ℕ) (fits : JoinFits world trees joined id) → Case merge world specs job → spec ≡ fits.job.spec → outputs ≡ concat fits.job.outputs
    → InTrees job trees → InTrees job (stepped_in world.store.tables (Join id) spec outputs trees)
join_tail merge world specs job trees joined id spec outputs fits c is made t = by (was_joined world.store.history id) refl
  where
    found : IsFound id (stored_jobs world.store) fits.job
    found = job_found id (stored_jobs world.store) fits.job fits.stored

    same_trees : stepped_in world.store.tables (Join id) spec outputs trees ≡ stepped_in world.store.tables (Join id) fits.job.spec (concat fits.job.outputs) trees
    same_trees i = stepped_in world.store.tables (Join id) (is i) (made i) trees

    on : SourcesStand world.store.manifest.trees fits.job → InTrees job (stepped_in world.store.tables (Join id) fits.job.spec (concat fits.job.outputs) trees)
    on stand = tree_on (λ tree. Tail job.spec.sources (names tree)) job.spec.segment fits.job.spec.segment fits.job.spec.sources (stepped_tree world.store.tables (Join id) fits.job.spec (concat fits.job.outputs)) trees t
        (λ same h. run_tail job.spec.sources fits.job.spec.sources fits.job.spec.destination (concat fits.job.outputs) (tree_at job.spec.segment trees) c.some
        (joined_apart merge world specs job fits.job c found.there fits.finished) (joined_above merge world specs job fits.job c found.there fits.finished stand same) h)

    stands : was_joined world.store.history id ≡ false → IsTrue (was_joined world.store.history fits.job.id) ⊎ SourcesStand world.store.manifest.trees fits.job → SourcesStand world.store.manifest.trees fits.job
    stands none (inl was) = absurd (refused (was_joined world.store.history id) none (subst (λ n. IsTrue (was_joined world.store.history n)) found.same was))
      where
        refused : (b : Bool) → b ≡ false → IsTrue b → ⊥
        refused true e h = absurd (cc e)
        refused false e h = absurd (cc h)
    stands none (inr stand) = stand

    by : (b : Bool) → was_joined world.store.history id ≡ b → InTrees job (stepped_in world.store.tables (Join id) spec outputs trees)
    by true e = subst (InTrees job) (sym (same_trees ∙ fits.again e)) t
    by false e = subst (InTrees job) (sym same_trees) (on (stands e ((all_at (JobKept merge world specs) (stored_jobs world.store) fits.job c.body.jobs found.there).fits.sources.1 fits.finished)))

-- ---- a move, and a drain

passes : (b : Bool) (o : Option ℕ) (n : ℕ) → cond b o (Some n) ≡ None → IsTrue b × (o ≡ None)
passes true o n e = (refl, e)
passes false o n e = absurd (cc e)

-- What the gate says of a job that is done at once.
record Gated (world : World) (trees : Trees) (joined : List ℕ) (spec : JobSpec) (id : ℕ) : Type 0 where
  pub some : IsTrue (is_nonempty spec.sources)
  pub stretch : IsTrue (is_drain_to spec.destination || is_whole_stretch (tree_at spec.segment trees) spec.sources)
  pub destination : IsTrue (destination_fits trees spec.sources spec.destination)
  pub free : IsTrue (is_free (holding world.store.history joined (stored_jobs world.store)) [] (new_job (id, spec)))

first_and : (a b : Bool) → IsTrue (a && b) → IsTrue a
first_and true b h = refl
first_and false b h = absurd (cc h)

-- If no rule of the nine fails, the rules 1, 5, 7 and 8 hold.
rules_hold : (b1 b2 b3 b4 b5 b6 b7 b8 b9 : Bool) → first_failing ((1, b1) ∷ (2, b2) ∷ (3, b3) ∷ (4, b4) ∷ (5, b5) ∷ (6, b6) ∷ (7, b7) ∷ (8, b8) ∷ (0, b9) ∷ []) ≡ None → IsTrue b1 × IsTrue b5 × IsTrue b7 × IsTrue b8
rules_hold b1 b2 b3 b4 b5 b6 b7 b8 b9 e =
    let r1 = passes b1 _ 1 e in
    let r2 = passes b2 _ 2 r1.1 in
    let r3 = passes b3 _ 3 r2.1 in
    let r4 = passes b4 _ 4 r3.1 in
    let r5 = passes b5 _ 5 r4.1 in
    let r6 = passes b6 _ 6 r5.1 in
    let r7 = passes b7 _ 7 r6.1 in
    let r8 = passes b8 _ 8 r7.1 in
    (r1.0, r5.0, r7.0, r8.0)

gated : (world : World) (trees : Trees) (joined : List ℕ) (spec : JobSpec) (id : ℕ) → AtOnceFits world trees joined spec id → Gated world trees joined spec id
gated world trees joined spec id fits =
    let tree = tree_at spec.segment trees in
    let r = rules_hold (is_nonempty spec.sources && are_distinct spec.sources) (not (is_drain spec) || is_nonempty spec.segment) (is_some (segment_at spec.segment trees)) (list_all (names_contain (names tree)) spec.sources)
    (is_drain spec || is_whole_stretch tree spec.sources) (not (is_drain spec) || names_older spec.sources (names tree)) (destination_fits trees spec.sources spec.destination)
    (is_free (holding world.store.history joined (stored_jobs world.store)) [] (new_job (id, spec))) true fits.gate in
    record { some = first_and _ _ r.0; stretch = r.1; destination = r.2; free = r.3 }

third_of : (a b c : Bool) → IsTrue (a || b || c) → a ≡ false → b ≡ false → IsTrue c
third_of false false c h e f = h
third_of true b c h e f = absurd (cc e)
third_of false true c h e f = absurd (cc f)

submitted_not_running : (s : Status) → IsTrue (status_eq Running s) → IsTrue (status_eq Submitted s) → ⊥
submitted_not_running Running h k = absurd (cc k)
submitted_not_running Submitted h k = absurd (cc h)
submitted_not_running Scheduled h k = absurd (cc h)
submitted_not_running Compacted h k = absurd (cc h)
submitted_not_running Completed h k = absurd (cc h)
submitted_not_running Failed h k = absurd (cc h)

running_late : (s : Status) → IsTrue (status_eq Running s) → IsTrue (status_eq Compacted s || is_finished s) → ⊥
running_late Running h k = absurd (cc k)
running_late Submitted h k = absurd (cc h)
running_late Scheduled h k = absurd (cc h)
running_late Compacted h k = absurd (cc h)
running_late Completed h k = absurd (cc h)
running_late Failed h k = absurd (cc h)

-- A job that is done at once takes no source of the Running job.
at_once_apart : (merge : Operator) (world : World) (specs : ℕ → JobSpec) (job : Job) (trees : Trees) (joined : List ℕ) (id : ℕ) (spec : JobSpec) → Case merge world specs job → AtOnceFits world trees joined spec id → contains joined job.id ≡ false
    → (x : NodeName) → IsIn x spec.sources → IsIn x job.spec.sources → ⊥
at_once_apart merge world specs job trees joined id spec c fits lacks =
    apart_sources spec job.spec (third_of (id == job.id) (not (reserves_nodes job || contains [] job.id)) (is_apart (nodes_of spec) (nodes_of job.spec)) free (other (id == job.id) refl) held)
  where
    stored : job_with job.id (stored_jobs world.store) ≡ Some job
    stored = found_job (stored_jobs world.store) job c.body.sound.job_ids c.there

    other : (b : Bool) → (id == job.id) ≡ b → b ≡ false
    other true e = absurd (submitted_not_running job.status c.runs (subst (λ o. IfSome o (λ (j : Job). IsTrue (has_status Submitted j))) (ap (λ n. job_with n (stored_jobs world.store)) ((Decides-eqb id job.id).0 e) ∙ stored) fits.open_yet))
    other false e = refl

    held : not (reserves_nodes job || contains [] job.id) ≡ false
    held = by (reserves_nodes job) (running_reserves job.status c.runs)
      where
        by : (b : Bool) → IsTrue b → not (b || false) ≡ false
        by true h = refl
        by false h = absurd (cc h)

    not_joined : (b : Bool) → was_joined world.store.history job.id ≡ b → b ≡ false
    not_joined true e = absurd (running_late job.status c.runs ((all_at (JobKept merge world specs) (stored_jobs world.store) job c.body.jobs c.there).facts.late e))
    not_joined false e = refl

    among : IsIn job (holding world.store.history joined (stored_jobs world.store))
    among = in_filter (λ (j : Job). not (contains joined j.id || was_joined world.store.history j.id)) (stored_jobs world.store) job c.there (rw (lacks, not_joined (was_joined world.store.history job.id) refl) refl)

    free : IsTrue ((id == job.id) || not (reserves_nodes job || contains [] job.id) || is_apart (nodes_of spec) (nodes_of job.spec))
    free = all_at (λ (j : Job). IsTrue ((id == j.id) || not (reserves_nodes j || contains [] j.id) || is_apart (nodes_of spec) (nodes_of j.spec))) (holding world.store.history joined (stored_jobs world.store)) job
        (all_true_front (λ (j : Job). (id == j.id) || not (reserves_nodes j || contains [] j.id) || is_apart (nodes_of spec) (nodes_of j.spec)) (holding world.store.history joined (stored_jobs world.store)) (gated world trees joined spec id fits).free) among

-- If the sources of a Running job end a tree, the destination of a job done at once in this tree stands before them.
move_above : (merge : Operator) (world : World) (specs : ℕ → JobSpec) (job : Job) (trees : Trees) (joined : List ℕ) (id : ℕ) (spec : JobSpec) → Case merge world specs job → AtOnceFits world trees joined spec id → contains joined job.id ≡ false → spec.segment ≡ job.spec.segment → InTrees job trees
    → IsAboveTail job.spec.sources spec.destination
move_above merge world specs job trees joined id spec c fits lacks same t = by spec.destination g.stretch g.destination
  where
    g : Gated world trees joined spec id
    g = gated world trees joined spec id fits

    second_and : (a b : Bool) → IsTrue (a && b) → IsTrue b
    second_and true b h = h
    second_and false b h = absurd (cc h)

    by : (d : Option ℕ) → IsTrue (is_drain_to d || is_whole_stretch (tree_at spec.segment trees) spec.sources) → IsTrue (destination_fits trees spec.sources d) → IsAboveTail job.spec.sources d
    by None stretch destination = tt
    by (Some n) stretch destination = above_at job.spec.sources (names (tree_at spec.segment trees)) spec.sources n (all_run_ids trees) (subst (λ p. Tail job.spec.sources (names (tree_at p trees))) (sym same) t) c.ends.order g.some stretch
        (at_once_apart merge world specs job trees joined id spec c fits lacks) (second_and (not (n == 4294967295)) (is_lowest_or_above n (run_ids spec.sources) (all_run_ids trees)) destination) (λ run there. run_among spec.segment trees run there)

move_tail : (merge : Operator) (world : World) (specs : ℕ → JobSpec) (job : Job) (trees : Trees) (joined : List ℕ) (id : ℕ) (spec : JobSpec) (outputs : List ℕ) → Case merge world specs job → AtOnceFits world trees joined spec id → contains joined job.id ≡ false → InTrees job trees
    → InTrees job (stepped_in world.store.tables (Move id) spec outputs trees)
move_tail merge world specs job trees joined id spec outputs c fits lacks t = tree_on (λ tree. Tail job.spec.sources (names tree)) job.spec.segment spec.segment spec.sources (stepped_tree world.store.tables (Move id) spec outputs) trees t
    (λ same h. run_tail job.spec.sources spec.sources spec.destination _ (tree_at job.spec.segment trees) c.some (at_once_apart merge world specs job trees joined id spec c fits lacks) (move_above merge world specs job trees joined id spec c fits lacks same t) h)

drain_tail : (merge : Operator) (world : World) (specs : ℕ → JobSpec) (job : Job) (trees : Trees) (joined : List ℕ) (id : ℕ) (spec : JobSpec) (outputs : List ℕ) → Case merge world specs job → AtOnceFits world trees joined spec id → contains joined job.id ≡ false → InTrees job trees
    → InTrees job (stepped_in world.store.tables (Drain id) spec outputs trees)
drain_tail merge world specs job trees joined id spec outputs c fits lacks t = tree_on (λ tree. Tail job.spec.sources (names tree)) job.spec.segment spec.segment spec.sources (stepped_tree world.store.tables (Drain id) spec outputs) trees t
    (λ same h. tail_without job.spec.sources spec.sources (tree_at job.spec.segment trees) h (at_once_apart merge world specs job trees joined id spec c fits lacks))

-- ---- all steps

-- If the sources of a Running job end their tree, they still do after all steps of a commit that fit.
steps_tail : (merge : Operator) (world : World) (specs others : ℕ → JobSpec) (party : Party) (job : Job) → Case merge world specs job → (trees : Trees) (joined : List ℕ) (steps : List Step) → AllByRecursion (λ step. IsKnownTo party world others (job_of step)) steps → StepsFit world others trees joined steps
    → contains joined job.id ≡ false → InTrees job trees → InTrees job (stepped_all world.store.tables (λ id. (others id, outputs_in world.store.records id)) steps trees)
steps_tail merge world specs others party job c trees joined [] known fits lacks t = t
steps_tail merge world specs others party job c trees joined (Join id ∷ steps) known fits lacks t =
    steps_tail merge world specs others party job c (stepped_in world.store.tables (Join id) (others id) (outputs_in world.store.records id) trees) (id ∷ joined) steps known.1 fits.1 (still (id == job.id) refl)
    (join_tail merge world specs job trees joined id (others id) (outputs_in world.store.records id) fits.0 c (known_spec party world others id fits.0.job fits.0.stored known.0) (outputs_are world.store.records id fits.0.job fits.0.stored) t)
  where
    stored : job_with job.id (stored_jobs world.store) ≡ Some job
    stored = found_job (stored_jobs world.store) job c.body.sound.job_ids c.there

    the : Some job ≡ Some fits.0.job → job ≡ fits.0.job
    the e = cc e

    still : (b : Bool) → (id == job.id) ≡ b → cond b true (contains joined job.id) ≡ false
    still true e = absurd (not_both job.status c.runs (subst (λ (j : Job). IsTrue (has_status Compacted j)) (sym (the (sym stored ∙ ap (λ n. job_with n (stored_jobs world.store)) (sym ((Decides-eqb id job.id).0 e)) ∙ fits.0.stored))) fits.0.finished))
    still false e = lacks
steps_tail merge world specs others party job c trees joined (Move id ∷ steps) known fits lacks t =
    steps_tail merge world specs others party job c (stepped_in world.store.tables (Move id) (others id) (outputs_in world.store.records id) trees) joined steps known.1 fits.1 lacks
    (move_tail merge world specs job trees joined id (others id) (outputs_in world.store.records id) c fits.0.at_once lacks t)
steps_tail merge world specs others party job c trees joined (Drain id ∷ steps) known fits lacks t =
    steps_tail merge world specs others party job c (stepped_in world.store.tables (Drain id) (others id) (outputs_in world.store.records id) trees) joined steps known.1 fits.1 lacks
    (drain_tail merge world specs job trees joined id (others id) (outputs_in world.store.records id) c fits.0.at_once lacks t)

-- ---- the law

-- If the sources of a Running job are the oldest nodes of their tree, they stay so when a lawful commit takes effect.
pub commits_leave_oldest : (merge : Operator) (party : Party) (world : World) (steps : List Step) (value : Manifest) (job : Job) → Keeps merge world → CommitFits party world steps value → job_with job.id (stored_jobs world.store) ≡ Some job → IsTrue (has_status Running job)
    → AreOldest (tree_at job.spec.segment world.store.manifest.trees) job.spec.sources → AreOldest (tree_at job.spec.segment value.trees) job.spec.sources
commits_leave_oldest merge party world steps value job k fits stored runs oldest =
    let b = (whole_of merge world k).body in
    let specs = k.stored.replay.specs in
    let there = (job_found job.id (stored_jobs world.store) job stored).there in
    let some = (running_stand merge world specs b job there runs).some in
    let c : Case merge world specs job = record { body = b; there = there; runs = runs; some = some; ends = tail_now merge world specs job.spec.segment job.spec.sources b oldest } in
    subst (λ (m : Manifest). AreOldest (tree_at job.spec.segment m.trees) job.spec.sources) (sym fits.makes)
    (tail_oldest job.spec.sources _ some (steps_tail merge world specs fits.specs party job c world.store.manifest.trees [] steps fits.known fits.each refl c.ends.tail))
