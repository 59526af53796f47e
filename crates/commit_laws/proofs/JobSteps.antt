-- What is kept of each job beside a step of a commit, and how steps for other jobs keep it.
use Rattle.std.proofs.Common.{◌≡◌, refl, sym, ◌∙◌, ap, subst, ℕ, List, [], ◌∷◌, ◌++◌, cond, Bool, true, false, inl, inr, ◌⊎◌, Option, Some, None}
use Rattle.std.specs.Prelude.{IsTrue, ◌||◌, not, map, flat_map, option_map, bytes_eq}
use Rattle.std.specs.List.{AllByRecursion}
use Rattle.std.proofs.lemmas.Slice.Eq.{bytes_eq-Decides}
use Rattle.fleet_model.specs.Nodes.{NodeName, Run, name_eq, names_contain, Node, Tree, Segment, Trees, names, segment_at, tree_at, tree_or_empty}
use Rattle.fleet_model.specs.Jobs.{JobSpec, nodes_of, with_destination, Job, Compacted, has_status, is_active, contains}
use Rattle.fleet_model.specs.Work.Gates.{is_nonempty, reserves_nodes}
use Rattle.fleet_model.specs.Handles.{tree_tables, job_tables}
use Rattle.fleet_model.specs.History.{Entry}
use Rattle.fleet_model.specs.Sources.{is_apart, all_run_ids, run_ids, begins_with_run, is_whole_stretch}
use Rattle.fleet_model.specs.Trees.{on_segment, without_nodes, source_pieces}
use Rattle.fleet_model.specs.Invariants.JobsFit.{SourcesStand, DestinationFits, AreOldest, was_joined}
use Rattle.step_model.specs.Past.{World}
use Rattle.step_model.specs.LawfulTables.{was_piece}
use Rattle.step_model.specs.Kept.JoinsKept.{JoinStands}
use Rattle.step_laws.proofs.Elements.{IsIn, all_from, in_front, in_back}
use Rattle.step_laws.proofs.Deletions.{in_flat}
use Rattle.step_laws.proofs.FlushTrees.{Rising}
use Rattle.step_laws.proofs.FlushFollows.{found_segment}
use Rattle.commit_laws.proofs.Stretches.{Named, InOrder, other_or, name_same, names_no, node_in_names, node_of, run_in, in_runs}
use Rattle.commit_laws.proofs.OtherStretches.{NotIn, NoneIn}
use Rattle.commit_laws.proofs.OtherJobs.{in_replaced, in_filtered, flushes_meet, destination_stays, stand_beside_run, oldest_beside, stand_beside_out, oldest_beside_out}
use Rattle.commit_laws.proofs.StepTrees.{names_apart_at, changed_segment, segment_on, in_trees_on}
use Rattle.commit_laws.specs.RunReads.{run_for}

-- ---- one job beside steps

-- True if the run of the job is in the tree already: a join of the commit or an earlier one put it there.
abbrev pub is_done : List Entry → List ℕ → Job → Bool
is_done history joined job = contains joined job.id || was_joined history job.id

-- What is kept of a job from the stored trees to these.
pub record JobHolds (world : World) (trees : Trees) (joined : List ℕ) (job : Job) : Type 0 where
  pub stand : IsTrue (reserves_nodes job) → is_done world.store.history joined job ≡ false → SourcesStand world.store.manifest.trees job → SourcesStand trees job
  pub oldest : IsTrue (reserves_nodes job) → is_done world.store.history joined job ≡ false → SourcesStand world.store.manifest.trees job → AreOldest (tree_at job.spec.segment world.store.manifest.trees) job.spec.sources → AreOldest (tree_at job.spec.segment trees) job.spec.sources
  pub unused : (t : ℕ) → was_piece world.past t ≡ false → IsTrue (is_active job) → is_done world.store.history joined job ≡ false → IsIn t (job_tables job) → IsIn t (flat_map tree_tables trees) → ⊥
  pub again : IsTrue (has_status Compacted job) → is_done world.store.history joined job ≡ true → JoinStands world.past trees job

-- The job touches none of these nodes.
abbrev pub IsAway : JobSpec → Job → Type 0
IsAway spec job = IsTrue (is_apart (nodes_of spec) (nodes_of job.spec))

pub in_nodes : (destination : Option ℕ) (sources : List NodeName) (x : NodeName) → IsIn x sources → IsIn x (with_destination destination sources)
in_nodes None sources x there = there
in_nodes (Some id) sources x there = inr there

pub destination_in : (destination : Option ℕ) (sources : List NodeName) (id : ℕ) → destination ≡ Some id → IsIn (Run id) (with_destination destination sources)
destination_in None sources id e = absurd (cc e)
destination_in (Some run) sources id e = inl (cc e)

sources_away : (spec : JobSpec) (job : Job) → IsAway spec job → NoneIn job.spec.sources spec.sources
sources_away spec job away = all_from _ spec.sources (λ y there. all_from _ job.spec.sources (λ x one. other_or (name_eq x y) (λ same.
    names_apart_at (nodes_of spec) (nodes_of job.spec) y away (in_nodes spec.destination spec.sources y there) (in_nodes job.spec.destination job.spec.sources y (subst (λ n. IsIn n job.spec.sources) (name_same x y same) one)))))

run_away : (spec : JobSpec) (job : Job) (id : ℕ) → spec.destination ≡ Some id → IsAway spec job → NotIn job.spec.sources (Run id)
run_away spec job id to away = all_from _ job.spec.sources (λ x one. other_or (name_eq x (Run id)) (λ same.
    names_apart_at (nodes_of spec) (nodes_of job.spec) (Run id) away (destination_in spec.destination spec.sources id to) (in_nodes job.spec.destination job.spec.sources (Run id) (subst (λ n. IsIn n job.spec.sources) (name_same x (Run id) same) one))))

-- ---- the tree of the job after a change

-- Either the change is in the job's tree, or that tree is as it was.
pub data Where (trees others : Trees) (p : List ℕ) (change : Tree → Tree) (s : Segment) : Type 0 where
  Here : tree_at p trees ≡ s.tree → tree_at p others ≡ change s.tree → Where trees others p change s
  Elsewhere : tree_at p others ≡ tree_at p trees → Where trees others p change s

-- After a change of one segment, the tree at a prefix is the changed one or is as it was.
pub where_on : (p prefix : List ℕ) (sources : List NodeName) (change : Tree → Tree) (trees : Trees) (s : Segment) → Rising trees → IsIn s trees → prefix ≡ s.prefix → Where trees (map (on_segment prefix sources change) trees) p change s
where_on p prefix sources change trees s rise there same = by (bytes_eq prefix p) refl
  where
    here : prefix ≡ p → Where trees (map (on_segment prefix sources change) trees) p change s
    here e =
        let found = found_segment p trees s rise there (sym e ∙ same) in
        Here (ap tree_or_empty found)
        (ap tree_or_empty (segment_on p prefix sources change trees ∙ ap (option_map (on_segment prefix sources change)) found) ∙ ap (λ b. (cond b (changed_segment sources change s) s).tree) ((bytes_eq-Decides prefix s.prefix).1 same))

    found_prefix : (x : Segment) → segment_at p trees ≡ Some x → bytes_eq p x.prefix ≡ true
    found_prefix x e = passes trees x e
      where
        passes : (ts : Trees) → (y : Segment) → segment_at p ts ≡ Some y → bytes_eq p y.prefix ≡ true
        passes [] y e = absurd (cc e)
        passes (z ∷ ts) y e = at (bytes_eq p z.prefix) refl (passes ts y) e
          where
            same_some : Some z ≡ Some y → z ≡ y
            same_some e = cc e

            at : (b : Bool) → bytes_eq p z.prefix ≡ b → (segment_at p ts ≡ Some y → bytes_eq p y.prefix ≡ true) → cond b (Some z) (segment_at p ts) ≡ Some y → bytes_eq p y.prefix ≡ true
            at true f rest e = ap (λ (u : Segment). bytes_eq p u.prefix) (sym (same_some e)) ∙ f
            at false f rest e = rest e

    elsewhere : bytes_eq prefix p ≡ false → (o : Option Segment) → segment_at p trees ≡ o → tree_or_empty (option_map (on_segment prefix sources change) o) ≡ tree_or_empty o
    elsewhere differs None e = refl
    elsewhere differs (Some x) e =
        ap (λ b. (cond b (changed_segment sources change x) x).tree) (ap (bytes_eq prefix) (sym ((bytes_eq-Decides p x.prefix).0 (found_prefix x e))) ∙ differs)

    by : (b : Bool) → bytes_eq prefix p ≡ b → Where trees (map (on_segment prefix sources change) trees) p change s
    by true e = here ((bytes_eq-Decides prefix p).0 e)
    by false e = Elsewhere (ap tree_or_empty (segment_on p prefix sources change trees) ∙ elsewhere e (segment_at p trees) refl)

-- The changed tree, and the tree before.
pub tree_here : (prefix : List ℕ) (sources : List NodeName) (change : Tree → Tree) (trees : Trees) (s : Segment) → Rising trees → IsIn s trees → prefix ≡ s.prefix → tree_at prefix (map (on_segment prefix sources change) trees) ≡ change s.tree
tree_here prefix sources change trees s rise there same =
    ap tree_or_empty (segment_on prefix prefix sources change trees ∙ ap (option_map (on_segment prefix sources change)) (found_segment prefix trees s rise there same))
    ∙ ap (λ b. (cond b (changed_segment sources change s) s).tree) ((bytes_eq-Decides prefix s.prefix).1 same)

pub tree_before : (prefix : List ℕ) (trees : Trees) (s : Segment) → Rising trees → IsIn s trees → prefix ≡ s.prefix → tree_at prefix trees ≡ s.tree
tree_before prefix trees s rise there same = ap tree_or_empty (found_segment prefix trees s rise there same)

-- ---- a run beside the job

-- A step that puts a run in place of its sources.
pub record RunAt (trees : Trees) (spec : JobSpec) (id : ℕ) (pieces : List ℕ) (change : Tree → Tree) : Type 0 where
  pub s : Segment
  pub there : IsIn s trees
  pub same : spec.segment ≡ s.prefix
  pub to : spec.destination ≡ Some id
  pub newer : Tree
  pub t : Node
  pub ts : Tree
  pub older : Tree
  pub whole : s.tree ≡ newer ++ ((t ∷ ts) ++ older)
  pub named : names (t ∷ ts) ≡ spec.sources
  pub own : Named s.tree
  pub order : InOrder s.tree
  pub begins : run_ids (names (t ∷ ts)) ≡ [] → IsTrue (begins_with_run (names older))
  pub fresh : IsIn (Run id) (names (t ∷ ts)) ⊎ ((run_ids (names (t ∷ ts)) ≡ []) × (IsIn id (all_run_ids trees) → ⊥))
  pub is : change s.tree ≡ newer ++ run_for id pieces (t ∷ ts) ∷ older

-- The ids of runs after the step are those before it, or the new one.
runs_of_new : {trees : Trees} {spec : JobSpec} {id : ℕ} {pieces : List ℕ} {change : Tree → Tree} (c : RunAt trees spec id pieces change) (r : ℕ) → IsIn r (run_ids (names (change c.s.tree))) → IsIn r (run_ids (names c.s.tree)) ⊎ (r ≡ id)
runs_of_new {trees} {spec} {id} {pieces} {change} c r there =
    let found = node_of (change c.s.tree) (Run r) (run_in (names (change c.s.tree)) r there) in
    by found.node found.same (in_replaced c.newer (c.t ∷ c.ts) c.older (run_for id pieces (c.t ∷ c.ts)) found.node (subst (IsIn found.node) c.is found.there))
  where
    by : (node : Node) → node.name ≡ Run r → (run_for id pieces (c.t ∷ c.ts) ≡ node) ⊎ IsIn node (c.newer ++ ((c.t ∷ c.ts) ++ c.older)) → IsIn r (run_ids (names c.s.tree)) ⊎ (r ≡ id)
    by node name (inl same) = inr (run_same (sym name ∙ ap (λ (n : Node). n.name) (sym same)))
      where
        run_same : Run r ≡ Run id → r ≡ id
        run_same e = cc e
    by node name (inr one) = inl (in_runs (names c.s.tree) r (subst (λ n. IsIn n (names c.s.tree)) name (node_in_names c.s.tree node (subst (IsIn node) (sym c.whole) one))))

-- Each id of a run in the trees after a step is that of the step's run or was there before.
pub new_run_ids : {trees : Trees} {spec : JobSpec} {id : ℕ} {pieces : List ℕ} {change : Tree → Tree} (c : RunAt trees spec id pieces change) (r : ℕ) → Rising trees → IsIn r (all_run_ids (map (on_segment spec.segment spec.sources change) trees))
    → IsIn r (all_run_ids trees) ⊎ (r ≡ id)
new_run_ids {trees} {spec} {id} {pieces} {change} c r rise there = by (in_trees_on (λ (s : Segment). run_ids (names s.tree)) r trees spec.segment spec.sources change c.s rise c.there c.same there)
  where
    from_old : IsIn r (run_ids (names c.s.tree)) ⊎ (r ≡ id) → IsIn r (all_run_ids trees) ⊎ (r ≡ id)
    from_old (inl one) = inl (in_flat (λ (s : Segment). run_ids (names s.tree)) trees c.s r c.there one)
    from_old (inr new) = inr new

    by : IsIn r (all_run_ids trees) ⊎ IsIn r (run_ids (names (change c.s.tree))) → IsIn r (all_run_ids trees) ⊎ (r ≡ id)
    by (inl one) = inl one
    by (inr new) = from_old (runs_of_new c r new)

-- The destination of a job whose sources stood fits after a step puts a run, if the job touches no node of the step.
destination_beside : {trees : Trees} {spec : JobSpec} {id : ℕ} {pieces : List ℕ} {change : Tree → Tree} (c : RunAt trees spec id pieces change) (job : Job) → Rising trees → IsAway spec job → SourcesStand trees job
    → Where trees (map (on_segment spec.segment spec.sources change) trees) job.spec.segment change c.s
    → DestinationFits (map (on_segment spec.segment spec.sources change) trees) (tree_at job.spec.segment (map (on_segment spec.segment spec.sources change) trees)) job.spec.sources job.spec.destination
destination_beside {trees} {spec} {id} {pieces} {change} c job rise away h place =
    destination_stays trees others (tree_at job.spec.segment trees) (tree_at job.spec.segment others) job.spec.sources job.spec.destination runs all h.destination
  where
    others : Trees
    others = map (on_segment spec.segment spec.sources change) trees

    all : (r : ℕ) → job.spec.destination ≡ Some r → IsIn r (all_run_ids others) → IsIn r (all_run_ids trees)
    all r to there = by (new_run_ids c r rise there)
      where
        by : IsIn r (all_run_ids trees) ⊎ (r ≡ id) → IsIn r (all_run_ids trees)
        by (inl one) = one
        by (inr new) = absurd (names_apart_at (nodes_of spec) (nodes_of job.spec) (Run id) away (destination_in spec.destination spec.sources id c.to) (destination_in job.spec.destination job.spec.sources id (to ∙ ap Some new)))

    meets : (sources : List NodeName) → job.spec.sources ≡ sources → tree_at job.spec.segment trees ≡ c.s.tree → run_ids sources ≡ [] → run_ids (names (c.t ∷ c.ts)) ≡ [] → ⊥
    meets [] e here mine others = no_sources job.spec.sources e h.some
      where
        no_sources : (xs : List NodeName) → xs ≡ [] → IsTrue (is_nonempty xs) → ⊥
        no_sources [] e k = absurd (cc k)
        no_sources (x ∷ xs) e k = absurd (cc e)
    meets (x ∷ xs) e here mine others = flushes_meet x xs c.newer c.t c.ts c.older (subst InOrder c.whole c.order) mine others (c.begins others)
        (subst (NoneIn (x ∷ xs)) (sym c.named) (subst (λ ns. NoneIn ns spec.sources) e (sources_away spec job away)))
        (subst (λ ns. IsTrue (is_whole_stretch (c.newer ++ ((c.t ∷ c.ts) ++ c.older)) ns)) e (subst (λ tree. IsTrue (is_whole_stretch tree job.spec.sources)) (here ∙ c.whole) h.stretch))

    runs : run_ids job.spec.sources ≡ [] → (r : ℕ) → IsIn r (run_ids (names (tree_at job.spec.segment others))) → IsIn r (run_ids (names (tree_at job.spec.segment trees)))
    runs none r there = by place
      where
        from_fresh : tree_at job.spec.segment trees ≡ c.s.tree → IsIn (Run id) (names (c.t ∷ c.ts)) ⊎ ((run_ids (names (c.t ∷ c.ts)) ≡ []) × (IsIn id (all_run_ids trees) → ⊥)) → IsIn id (run_ids (names c.s.tree))
        from_fresh here (inl one) =
            let found = node_of (c.t ∷ c.ts) (Run id) one in
            in_runs (names c.s.tree) id (subst (λ n. IsIn n (names c.s.tree)) found.same (node_in_names c.s.tree found.node (subst (IsIn found.node) (sym c.whole) (in_back found.node c.newer ((c.t ∷ c.ts) ++ c.older) (in_front found.node (c.t ∷ c.ts) c.older found.there)))))
        from_fresh here (inr f) = absurd (meets job.spec.sources refl here none f.0)

        old : tree_at job.spec.segment trees ≡ c.s.tree → IsIn r (run_ids (names c.s.tree)) ⊎ (r ≡ id) → IsIn r (run_ids (names c.s.tree))
        old here (inl one) = one
        old here (inr new) = subst (λ n. IsIn n (run_ids (names c.s.tree))) (sym new) (from_fresh here c.fresh)

        by : Where trees others job.spec.segment change c.s → IsIn r (run_ids (names (tree_at job.spec.segment trees)))
        by (Here here after) = subst (λ tree. IsIn r (run_ids (names tree))) (sym here) (old here (runs_of_new c r (subst (λ tree. IsIn r (run_ids (names tree))) after there)))
        by (Elsewhere e) = subst (λ tree. IsIn r (run_ids (names tree))) e there

-- The sources of a job still stand after a step puts a run, if the job touches no node of the step.
pub stand_on_run : {trees : Trees} {spec : JobSpec} {id : ℕ} {pieces : List ℕ} {change : Tree → Tree} (c : RunAt trees spec id pieces change) (job : Job) → Rising trees → IsAway spec job → SourcesStand trees job
    → SourcesStand (map (on_segment spec.segment spec.sources change) trees) job
stand_on_run {trees} {spec} {id} {pieces} {change} c job rise away h = by (where_on job.spec.segment spec.segment spec.sources change trees c.s rise c.there c.same)
  where
    others : Trees
    others = map (on_segment spec.segment spec.sources change) trees

    by : Where trees others job.spec.segment change c.s → SourcesStand others job
    by (Here here after) = stand_beside_run trees others job c.newer c.t c.ts c.older (run_for id pieces (c.t ∷ c.ts)) id (here ∙ c.whole) (after ∙ c.is) refl
        (subst (NoneIn job.spec.sources) (sym c.named) (sources_away spec job away)) (run_away spec job id c.to away) (destination_beside c job rise away h (Here here after)) h
    by (Elsewhere e) = record {
      some = h.some;
      stretch = subst (λ tree. IsTrue (is_whole_stretch tree job.spec.sources)) (sym e) h.stretch;
      source_tables = ap (λ tree. source_pieces job.spec.sources tree) e ∙ h.source_tables;
      destination = destination_beside c job rise away h (Elsewhere e);
    }

pub oldest_on_run : {trees : Trees} {spec : JobSpec} {id : ℕ} {pieces : List ℕ} {change : Tree → Tree} (c : RunAt trees spec id pieces change) (job : Job) → Rising trees → IsAway spec job → IsTrue (is_nonempty job.spec.sources)
    → AreOldest (tree_at job.spec.segment trees) job.spec.sources → AreOldest (tree_at job.spec.segment (map (on_segment spec.segment spec.sources change) trees)) job.spec.sources
oldest_on_run {trees} {spec} {id} {pieces} {change} c job rise away some h = by (where_on job.spec.segment spec.segment spec.sources change trees c.s rise c.there c.same)
  where
    by : Where trees (map (on_segment spec.segment spec.sources change) trees) job.spec.segment change c.s → AreOldest (tree_at job.spec.segment (map (on_segment spec.segment spec.sources change) trees)) job.spec.sources
    by (Here here after) = subst (λ tree. AreOldest tree job.spec.sources) (sym (after ∙ c.is)) (oldest_beside job.spec.sources c.newer c.t c.ts c.older (run_for id pieces (c.t ∷ c.ts)) id refl
        (subst (NoneIn job.spec.sources) (sym c.named) (sources_away spec job away)) (run_away spec job id c.to away) some (subst (λ tree. AreOldest tree job.spec.sources) (here ∙ c.whole) h))
    by (Elsewhere e) = subst (λ tree. AreOldest tree job.spec.sources) (sym e) h

-- ---- nodes taken out beside the job

-- A step that takes its sources out.
pub record OutAt (trees : Trees) (spec : JobSpec) : Type 0 where
  pub s : Segment
  pub there : IsIn s trees
  pub same : spec.segment ≡ s.prefix
  pub named : Named s.tree
  pub order : InOrder s.tree

not_out : (spec : JobSpec) (job : Job) → IsAway spec job → AllByRecursion (λ y. names_contain spec.sources y ≡ false) job.spec.sources
not_out spec job away = all_from _ job.spec.sources (λ x one. names_no spec.sources x (λ there.
    names_apart_at (nodes_of spec) (nodes_of job.spec) x away (in_nodes spec.destination spec.sources x there) (in_nodes job.spec.destination job.spec.sources x one)))

pub runs_left : (out : List NodeName) (tree : Tree) (r : ℕ) → IsIn r (run_ids (names (without_nodes out tree))) → IsIn r (run_ids (names tree))
runs_left out tree r there =
    let found = node_of (without_nodes out tree) (Run r) (run_in (names (without_nodes out tree)) r there) in
    in_runs (names tree) r (subst (λ n. IsIn n (names tree)) found.same (node_in_names tree found.node (in_filtered (λ (node : Node). not (names_contain out node.name)) tree found.node found.there)))

-- The destination of a job whose sources stood still fits after a step takes nodes out of a tree.
destination_out : {trees : Trees} {spec : JobSpec} (c : OutAt trees spec) (job : Job) → Rising trees → SourcesStand trees job → Where trees (map (on_segment spec.segment spec.sources (without_nodes spec.sources)) trees) job.spec.segment (without_nodes spec.sources) c.s
    → DestinationFits (map (on_segment spec.segment spec.sources (without_nodes spec.sources)) trees) (tree_at job.spec.segment (map (on_segment spec.segment spec.sources (without_nodes spec.sources)) trees)) job.spec.sources job.spec.destination
destination_out {trees} {spec} c job rise h place =
    destination_stays trees others (tree_at job.spec.segment trees) (tree_at job.spec.segment others) job.spec.sources job.spec.destination runs all h.destination
  where
    others : Trees
    others = map (on_segment spec.segment spec.sources (without_nodes spec.sources)) trees

    all : (r : ℕ) → job.spec.destination ≡ Some r → IsIn r (all_run_ids others) → IsIn r (all_run_ids trees)
    all r to there = by (in_trees_on (λ (s : Segment). run_ids (names s.tree)) r trees spec.segment spec.sources (without_nodes spec.sources) c.s rise c.there c.same there)
      where
        by : IsIn r (all_run_ids trees) ⊎ IsIn r (run_ids (names (without_nodes spec.sources c.s.tree))) → IsIn r (all_run_ids trees)
        by (inl one) = one
        by (inr one) = in_flat (λ (s : Segment). run_ids (names s.tree)) trees c.s r c.there (runs_left spec.sources c.s.tree r one)

    runs : run_ids job.spec.sources ≡ [] → (r : ℕ) → IsIn r (run_ids (names (tree_at job.spec.segment others))) → IsIn r (run_ids (names (tree_at job.spec.segment trees)))
    runs none r there = by place
      where
        by : Where trees others job.spec.segment (without_nodes spec.sources) c.s → IsIn r (run_ids (names (tree_at job.spec.segment trees)))
        by (Here here after) = subst (λ tree. IsIn r (run_ids (names tree))) (sym here) (runs_left spec.sources c.s.tree r (subst (λ tree. IsIn r (run_ids (names tree))) after there))
        by (Elsewhere e) = subst (λ tree. IsIn r (run_ids (names tree))) e there

-- The sources of a job still stand after a step takes nodes out of a tree, if the job touches no node of the step.
pub stand_on_out : {trees : Trees} {spec : JobSpec} (c : OutAt trees spec) (job : Job) → Rising trees → IsAway spec job → SourcesStand trees job → SourcesStand (map (on_segment spec.segment spec.sources (without_nodes spec.sources)) trees) job
stand_on_out {trees} {spec} c job rise away h = by (where_on job.spec.segment spec.segment spec.sources (without_nodes spec.sources) trees c.s rise c.there c.same)
  where
    others : Trees
    others = map (on_segment spec.segment spec.sources (without_nodes spec.sources)) trees

    by : Where trees others job.spec.segment (without_nodes spec.sources) c.s → SourcesStand others job
    by (Here here after) = stand_beside_out trees others job spec.sources (after ∙ ap (without_nodes spec.sources) (sym here)) (subst Named (sym here) c.named) (subst InOrder (sym here) c.order) (not_out spec job away)
        (destination_out c job rise h (Here here after)) h
    by (Elsewhere e) = record {
      some = h.some;
      stretch = subst (λ tree. IsTrue (is_whole_stretch tree job.spec.sources)) (sym e) h.stretch;
      source_tables = ap (λ tree. source_pieces job.spec.sources tree) e ∙ h.source_tables;
      destination = destination_out c job rise h (Elsewhere e);
    }

pub oldest_on_out : {trees : Trees} {spec : JobSpec} (c : OutAt trees spec) (job : Job) → Rising trees → IsAway spec job → IsTrue (is_nonempty job.spec.sources)
    → AreOldest (tree_at job.spec.segment trees) job.spec.sources → AreOldest (tree_at job.spec.segment (map (on_segment spec.segment spec.sources (without_nodes spec.sources)) trees)) job.spec.sources
oldest_on_out {trees} {spec} c job rise away some h = by (where_on job.spec.segment spec.segment spec.sources (without_nodes spec.sources) trees c.s rise c.there c.same)
  where
    by : Where trees (map (on_segment spec.segment spec.sources (without_nodes spec.sources)) trees) job.spec.segment (without_nodes spec.sources) c.s → AreOldest (tree_at job.spec.segment (map (on_segment spec.segment spec.sources (without_nodes spec.sources)) trees)) job.spec.sources
    by (Here here after) = subst (λ tree. AreOldest tree job.spec.sources) (sym after) (oldest_beside_out spec.sources job.spec.sources c.s.tree c.named (not_out spec job away) some (subst (λ tree. AreOldest tree job.spec.sources) here h))
    by (Elsewhere e) = subst (λ tree. AreOldest tree job.spec.sources) (sym e) h
