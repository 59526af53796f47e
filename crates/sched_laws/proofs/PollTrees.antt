-- The trees of a poll stand in order through its steps, and each step lets the other jobs stand.
use Rattle.std.proofs.Common.{◌≡◌, refl, sym, ◌∙◌, ap, subst, ℕ, List, [], ◌∷◌, ◌++◌, Bool, true, false, inl, inr, ◌⊎◌, Option, Some, None, arith}
use Rattle.std.specs.Prelude.{IsTrue, not, map, is_some}
use Rattle.std.specs.List.{AllByRecursion}
use Rattle.std.specs.declared.cmp.Ordering.TheVariants.{Less}
use Rattle.std.proofs.lemmas.Bool.Decides.{Decides-eqb}
use Rattle.row_model.specs.Lists.{Pairs}
use Rattle.row_model.specs.Rows.{key_cmp}
use Rattle.fleet_model.specs.Work.Gates.{are_distinct, reserves_nodes}
use Rattle.fleet_model.specs.History.{Join, Move, Drain}
use Rattle.fleet_model.specs.Jobs.{Job, JobSpec, contains}
use Rattle.fleet_model.specs.Invariants.JobsFit.{DestinationFits, SourcesStand}
use Rattle.fleet_model.specs.Nodes.{NodeName, L0, Run, name_eq, names_contain, Node, Segment, Tables, Tree, Trees, names, segment_at, tree_at}
use Rattle.fleet_model.specs.Work.Scheduler.{View}
use Rattle.fleet_model.specs.Sources.{all_run_ids, run_ids}
use Rattle.fleet_model.specs.Trees.{by_first_key, on_segment, source_pieces, stepped_in, stepped_tree, to_run, with_run_for, without_nodes}
use Rattle.fleet_model.specs.Invariants.TreesFit.{NoneShared, StandsBefore}
use Rattle.step_laws.proofs.Elements.{IsIn, all_at, all_from, all_to, in_back, in_contains, in_front, pairs_map}
use Rattle.step_laws.proofs.Deletions.{in_flat}
use Rattle.step_laws.proofs.FlushTrees.{Rising, rising_from, rising_to}
use Rattle.commit_laws.proofs.JobSteps.{IsAway, OutAt, RunAt, new_run_ids, runs_left, stand_on_out, stand_on_run}
use Rattle.commit_laws.proofs.OtherJobs.{in_filtered, in_replaced}
use Rattle.commit_laws.proofs.Steps.{RunMay, found_there, run_at, run_between, stretch_at}
use Rattle.commit_laws.proofs.StepTrees.{each_on, in_trees_on, names_apart_at, names_apart_from, on_prefix, pairs_on}
use Rattle.commit_laws.proofs.Stretches.{InOrder, Named, in_names, in_runs, name_turned, names_in, names_pairs, never_both, node_in_names, node_of, other_or, pairs_filter, pairs_names, pairs_replaced}
use Rattle.commit_laws.specs.RunReads.{run_for}
use Rattle.sched_laws.specs.Views.{ViewStands}
use Rattle.sched_laws.proofs.Lists.{true_and}
use Rattle.sched_laws.proofs.Names.{distinct_first, distinct_rest}

-- The trees are by rising prefix, each is in order, and no node is named twice.
pub record TreesStand (trees : Trees) : Type 0 where
  pub rise : Rising trees
  pub named : AllByRecursion (λ (s : Segment). Named s.tree) trees
  pub order : AllByRecursion (λ (s : Segment). InOrder s.tree) trees
  pub apart : Pairs NoneShared trees

-- ---- views

-- A tree that names no node twice, said of its nodes.
named_from : (tree : Tree) → are_distinct (names tree) ≡ true → Named tree
named_from [] once = tt
named_from (x ∷ tree) once = (
  all_from _ tree (λ y there. name_turned y.name x.name (other_or (name_eq y.name x.name) (λ same. distinct_first x.name (names tree) once (among y there same)))),
  named_from tree (distinct_rest x.name (names tree) once),
)
  where
    among : (y : Node) → IsIn y tree → name_eq y.name x.name ≡ true → names_contain (names tree) x.name ≡ true
    among y there same = subst (λ n. names_contain (names tree) n ≡ true) (named_same y.name x.name same) (in_names (names tree) y.name (node_in_names tree y there))
      where
        named_same : (a b : NodeName) → name_eq a b ≡ true → a ≡ b
        named_same (L0 a) (L0 b) e = ap L0 ((Decides-eqb a b).0 e)
        named_same (L0 a) (Run b) e = absurd (cc e)
        named_same (Run a) (L0 b) e = absurd (cc e)
        named_same (Run a) (Run b) e = ap Run ((Decides-eqb a b).0 e)

-- The other way round.
distinct_from : (tree : Tree) → Named tree → are_distinct (names tree) ≡ true
distinct_from [] named = refl
distinct_from (x ∷ tree) named =
    true_and (not (names_contain (names tree) x.name)) (are_distinct (names tree)) (ap not (other_or (names_contain (names tree) x.name) (λ there. never there))) (distinct_from tree named.1)
  where
    itself : (n : NodeName) → name_eq n n ≡ true
    itself (L0 a) = (Decides-eqb a a).1 refl
    itself (Run a) = (Decides-eqb a a).1 refl

    never : names_contain (names tree) x.name ≡ true → ⊥
    never there =
        let found = node_of tree x.name (names_in (names tree) x.name there) in
        never_both (name_eq x.name found.node.name) (ap (name_eq x.name) found.same ∙ itself x.name) (all_at _ tree found.node named.0 found.there)

pub trees_of_view : (view : View) → ViewStands view → TreesStand view.manifest.trees
trees_of_view view stands = record {
  rise = rising_from view.manifest.trees stands.prefixes;
  named = all_to _ _ view.manifest.trees (λ s there once. named_from s.tree once) stands.named_once;
  order = all_to _ _ view.manifest.trees (λ s there order. pairs_names StandsBefore s.tree order) stands.in_order;
  apart = stands.apart;
}

pub view_of_trees : (view : View) → TreesStand view.manifest.trees → AllByRecursion (λ job. IsTrue (reserves_nodes job) → SourcesStand view.manifest.trees job) view.jobs → ViewStands view
view_of_trees view stands jobs = record {
  prefixes = rising_to view.manifest.trees stands.rise;
  in_order = all_to _ _ view.manifest.trees (λ s there order. names_pairs StandsBefore s.tree order) stands.order;
  named_once = all_to _ _ view.manifest.trees (λ s there named. distinct_from s.tree named) stands.named;
  apart = stands.apart;
  jobs = jobs;
}

-- ---- one tree changes

-- Each name of the changed tree was in it, or is in no tree.
abbrev pub NewNames : Trees → (Tree → Tree) → Segment → Type 0
NewNames trees change s = (n : NodeName) → IsIn n (names (change s.tree)) → IsIn n (names s.tree) ⊎ ((y : Segment) → IsIn y trees → IsIn n (names y.tree) → ⊥)

-- Trees still stand after one of them changes, if it stays in order and gets no name that another tree has.
changed_trees_stand : (trees : Trees) (prefix : List ℕ) (sources : List NodeName) (change : Tree → Tree) (s : Segment) → TreesStand trees → IsIn s trees → prefix ≡ s.prefix
    → Named (change s.tree) → InOrder (change s.tree) → NewNames trees change s → TreesStand (map (on_segment prefix sources change) trees)
changed_trees_stand trees prefix sources change s stands there same named order new = record {
  rise = pairs_map (λ (a b : Segment). key_cmp a.prefix b.prefix ≡ Less) (λ (a b : Segment). key_cmp a.prefix b.prefix ≡ Less) (on_segment prefix sources change) trees
      (λ x y one other less. subst (λ p. key_cmp p (on_segment prefix sources change y).prefix ≡ Less) (sym (on_prefix prefix sources change x)) (subst (λ p. key_cmp x.prefix p ≡ Less) (sym (on_prefix prefix sources change y)) less)) stands.rise;
  named = each_on (λ x. Named x.tree) (λ x. Named x.tree) trees prefix sources change s stands.rise there same named (λ x one other h. h) stands.named;
  order = each_on (λ x. InOrder x.tree) (λ x. InOrder x.tree) trees prefix sources change s stands.rise there same order (λ x one other h. h) stands.order;
  apart = pairs_on NoneShared trees prefix sources change s stands.rise there same
      (λ y one none. names_apart_from (names (change s.tree)) (names y.tree) (λ n here other. first y one none n other (new n here)))
      (λ y one none. names_apart_from (names y.tree) (names (change s.tree)) (λ n other here. second y one none n other (new n here))) stands.apart;
}
  where
    first : (y : Segment) → IsIn y trees → NoneShared s y → (n : NodeName) → IsIn n (names y.tree) → IsIn n (names s.tree) ⊎ ((z : Segment) → IsIn z trees → IsIn n (names z.tree) → ⊥) → ⊥
    first y one none n other (inl old) = names_apart_at (names s.tree) (names y.tree) n none old other
    first y one none n other (inr never) = never y one other

    second : (y : Segment) → IsIn y trees → NoneShared y s → (n : NodeName) → IsIn n (names y.tree) → IsIn n (names s.tree) ⊎ ((z : Segment) → IsIn z trees → IsIn n (names z.tree) → ⊥) → ⊥
    second y one none n other (inl old) = names_apart_at (names y.tree) (names s.tree) n none other old
    second y one none n other (inr never) = never y one other

-- ---- what a step leaves

-- What holds after a step of a job with this spec: the trees stand, jobs that are apart still stand, and each
-- run was there or is the new one.
pub record IsStepped (trees others : Trees) (spec : JobSpec) : Type 0 where
  pub stands : TreesStand others
  pub keeps : (job : Job) → IsAway spec job → SourcesStand trees job → SourcesStand others job
  pub runs : (r : ℕ) → IsIn r (all_run_ids others) → IsIn r (all_run_ids trees) ⊎ (spec.destination ≡ Some r)

-- ---- a run replaces the sources

differs_before : (n : NodeName) (id : ℕ) → StandsBefore n (Run id) → name_eq n (Run id) ≡ false
differs_before (L0 m) id h = refl
differs_before (Run m) id h = other_or (name_eq (Run m) (Run id)) (λ same. let equal = (Decides-eqb m id).0 same in omega (arith, h, equal))

differs_after : (id : ℕ) (n : NodeName) → StandsBefore (Run id) n → name_eq (Run id) n ≡ false
differs_after id (L0 m) h = refl
differs_after id (Run m) h = other_or (name_eq (Run id) (Run m)) (λ same. let equal = (Decides-eqb id m).0 same in omega (arith, h, equal))

-- The run has a source's name, or one that is in no tree.
run_names_new : (trees : Trees) (spec : JobSpec) (id : ℕ) (pieces : List ℕ) (change : Tree → Tree) (c : RunAt trees spec id pieces change) → NewNames trees change c.s
run_names_new trees spec id pieces change c n there =
    let found = node_of (change c.s.tree) n there in
    by found.node found.same (in_replaced c.newer (c.t ∷ c.ts) c.older (run_for id pieces (c.t ∷ c.ts)) found.node (subst (IsIn found.node) c.is found.there))
  where
    old : (node : Node) → IsIn node (c.newer ++ ((c.t ∷ c.ts) ++ c.older)) → IsIn node.name (names c.s.tree)
    old node one = node_in_names c.s.tree node (subst (IsIn node) (sym c.whole) one)

    of_run : Run id ≡ n → IsIn (Run id) (names (c.t ∷ c.ts)) ⊎ ((run_ids (names (c.t ∷ c.ts)) ≡ []) × (IsIn id (all_run_ids trees) → ⊥)) → IsIn n (names c.s.tree) ⊎ ((y : Segment) → IsIn y trees → IsIn n (names y.tree) → ⊥)
    of_run same (inl one) =
        let found = node_of (c.t ∷ c.ts) (Run id) one in
        inl (subst (λ m. IsIn m (names c.s.tree)) (found.same ∙ same) (old found.node (in_back found.node c.newer ((c.t ∷ c.ts) ++ c.older) (in_front found.node (c.t ∷ c.ts) c.older found.there))))
    of_run same (inr fresh) = inr (λ y one here. fresh.1 (in_flat (λ (s : Segment). run_ids (names s.tree)) trees y id one (in_runs (names y.tree) id (subst (λ m. IsIn m (names y.tree)) (sym same) here))))

    by : (node : Node) → node.name ≡ n → (run_for id pieces (c.t ∷ c.ts) ≡ node) ⊎ IsIn node (c.newer ++ ((c.t ∷ c.ts) ++ c.older)) → IsIn n (names c.s.tree) ⊎ ((y : Segment) → IsIn y trees → IsIn n (names y.tree) → ⊥)
    by node name (inl run) = of_run (ap (λ (x : Node). x.name) run ∙ name) c.fresh
    by node name (inr one) = inl (subst (λ m. IsIn m (names c.s.tree)) name (old node one))

-- Where the run of a job whose sources stand may be.
run_may : (trees : Trees) (job : Job) → SourcesStand trees job → (id : ℕ) → job.spec.destination ≡ Some id → RunMay trees job.spec id
run_may trees job stand id to =
    let fits = subst (DestinationFits trees (tree_at job.spec.segment trees) job.spec.sources) to stand.destination in
    record { to = to; lowest = fits.0; fresh = λ none there. absent (contains (all_run_ids trees) id) (fits.1 none) (in_contains (all_run_ids trees) id there) }
  where
    absent : (b : Bool) → IsTrue (not b) → IsTrue b → ⊥
    absent true h there = cc h
    absent false h there = cc there

-- A run that replaces the sources of a job that stands, with tables that the tree gives.
module _ (trees : Trees) (stands : TreesStand trees) (job : Job) (stand : SourcesStand trees job) (change : Tree → Tree) (pieces_of : Tree → List ℕ) where
  -- What holds after it.
  run_replaces : (id : ℕ) → job.spec.destination ≡ Some id → ((tree : Tree) → change tree ≡ with_run_for job.spec.sources id (pieces_of tree) tree)
      → IsStepped trees (map (on_segment job.spec.segment job.spec.sources change) trees) job.spec
  run_replaces id to makes =
      let may = run_may trees job stand id to in
      let a = stretch_at trees job.spec stand.some stand.stretch in
      let named = all_at (λ (s : Segment). Named s.tree) trees a.s stands.named a.there in
      let order = all_at (λ (s : Segment). InOrder s.tree) trees a.s stands.order a.there in
      let c = run_at trees job.spec id (pieces_of a.s.tree) change a stands.rise named order may (makes a.s.tree) in
      let between = run_between trees job.spec id a stands.rise order may in
      let run = run_for id (pieces_of a.s.tree) (c.t ∷ c.ts) in
      record {
        stands = changed_trees_stand trees job.spec.segment job.spec.sources change c.s stands c.there c.same
            (subst Named (sym c.is) (pairs_replaced (λ (x y : Node). name_eq x.name y.name ≡ false) c.newer (c.t ∷ c.ts) c.older run (subst Named c.whole named)
            (all_to _ _ c.newer (λ (n : Node) there before. differs_before n.name id before) between.afterwards) (all_to _ _ c.older (λ (o : Node) there after. differs_after id o.name after) between.before)))
            (subst InOrder (sym c.is) (pairs_replaced (λ (x y : Node). StandsBefore x.name y.name) c.newer (c.t ∷ c.ts) c.older run (subst InOrder c.whole order) between.afterwards between.before))
            (run_names_new trees job.spec id (pieces_of a.s.tree) change c);
        keeps = λ other away h. stand_on_run c other stands.rise away h;
        runs = λ r there. by r (new_run_ids c r stands.rise there);
      }
    where
      by : (r : ℕ) → IsIn r (all_run_ids trees) ⊎ (r ≡ id) → IsIn r (all_run_ids trees) ⊎ (job.spec.destination ≡ Some r)
      by r (inl old) = inl old
      by r (inr new) = inr (to ∙ ap Some (sym new))

-- A job that stands has a destination.
destination_of : (trees : Trees) (job : Job) → SourcesStand trees job → (id : ℕ) × (job.spec.destination ≡ Some id)
destination_of trees job stand = by job.spec.destination refl stand.destination
  where
    by : (d : Option ℕ) → job.spec.destination ≡ d → DestinationFits trees (tree_at job.spec.segment trees) job.spec.sources d → (id : ℕ) × (job.spec.destination ≡ Some id)
    by None e fits = absurd fits
    by (Some id) e fits = (id, e)

-- ---- the steps

-- A join and a move put a run in place of the sources.
pub joined : (tables : Tables) (trees : Trees) → TreesStand trees → (job : Job) → SourcesStand trees job → (outputs : List ℕ) → IsStepped trees (stepped_in tables (Join job.id) job.spec outputs trees) job.spec
joined tables trees stands job stand outputs =
    let to = destination_of trees job stand in
    run_replaces trees stands job stand (stepped_tree tables (Join job.id) job.spec outputs) (λ tree. outputs) to.0 to.1
    (λ tree. ap (λ d. to_run (λ id. with_run_for job.spec.sources id outputs) d tree) to.1)

pub moved : (tables : Tables) (trees : Trees) → TreesStand trees → (job : Job) → SourcesStand trees job → IsStepped trees (stepped_in tables (Move job.id) job.spec [] trees) job.spec
moved tables trees stands job stand =
    let to = destination_of trees job stand in
    run_replaces trees stands job stand (stepped_tree tables (Move job.id) job.spec []) (λ tree. by_first_key tables (source_pieces job.spec.sources tree)) to.0 to.1
    (λ tree. ap (λ d. to_run (λ id. with_run_for job.spec.sources id (by_first_key tables (source_pieces job.spec.sources tree))) d tree) to.1)

-- A drain takes the sources out.
pub drained : (tables : Tables) (trees : Trees) → TreesStand trees → (id : ℕ) (spec : JobSpec) → is_some (segment_at spec.segment trees) ≡ true → IsStepped trees (stepped_in tables (Drain id) spec [] trees) spec
drained tables trees stands id spec found = by (segment_at spec.segment trees) refl found
  where
    at : (s : Segment) → IsIn s trees → spec.segment ≡ s.prefix → IsStepped trees (stepped_in tables (Drain id) spec [] trees) spec
    at s there same =
        let named = all_at (λ (x : Segment). Named x.tree) trees s stands.named there in
        let order = all_at (λ (x : Segment). InOrder x.tree) trees s stands.order there in
        let c : OutAt trees spec = record { s = s; there = there; same = same; named = named; order = order } in
        record {
          stands = changed_trees_stand trees spec.segment spec.sources (without_nodes spec.sources) s stands there same
              (pairs_filter (λ (a b : Node). name_eq a.name b.name ≡ false) (λ node. not (names_contain spec.sources node.name)) s.tree named)
              (pairs_filter (λ (a b : Node). StandsBefore a.name b.name) (λ node. not (names_contain spec.sources node.name)) s.tree order)
              (λ n one. inl (old_name n one));
          keeps = λ other away h. stand_on_out c other stands.rise away h;
          runs = λ r one. inl (old_run r (in_trees_on (λ (x : Segment). run_ids (names x.tree)) r trees spec.segment spec.sources (without_nodes spec.sources) s stands.rise there same one));
        }
      where
        old_name : (n : NodeName) → IsIn n (names (without_nodes spec.sources s.tree)) → IsIn n (names s.tree)
        old_name n one =
            let found = node_of (without_nodes spec.sources s.tree) n one in
            subst (λ m. IsIn m (names s.tree)) found.same (node_in_names s.tree found.node (in_filtered (λ node. not (names_contain spec.sources node.name)) s.tree found.node found.there))

        old_run : (r : ℕ) → IsIn r (all_run_ids trees) ⊎ IsIn r (run_ids (names (without_nodes spec.sources s.tree))) → IsIn r (all_run_ids trees)
        old_run r (inl one) = one
        old_run r (inr one) = in_flat (λ (x : Segment). run_ids (names x.tree)) trees s r there (runs_left spec.sources s.tree r one)

    by : (o : Option Segment) → segment_at spec.segment trees ≡ o → is_some o ≡ true → IsStepped trees (stepped_in tables (Drain id) spec [] trees) spec
    by None e h = absurd (cc h)
    by (Some s) e h = let place = found_there spec.segment trees s e in at s place.0 place.1
