-- A poll opens the jobs that it added, after the jobs that it opened, moved or drained before.
use Rattle.std.proofs.Common.{◌≡◌, refl, sym, ◌∙◌, ap, subst, ℕ, ◌<◌, List, [], ◌∷◌, ◌++◌, cond, Bool, true, false, inl, inr, ◌⊎◌, Option, Some, None, arith}
use Rattle.std.specs.Prelude.{IsTrue, ◌==◌, ◌||◌, not, nat_lt, nat_le, is_some, bytes_eq}
use Rattle.std.specs.List.{list_all}
use Rattle.std.proofs.lemmas.Bool.{lt-ltb, ltb-true}
use Rattle.std.proofs.lemmas.Bool.Decides.{Decides-eqb}
use Rattle.row_model.specs.Lists.{Pairs}
use Rattle.fleet_model.specs.Work.Gates.{are_distinct, destination_fits, is_free, is_nonempty, names_older, reserves_nodes, submit_gate, submitted_rules}
use Rattle.fleet_model.specs.Jobs.{Job, Jobs, JobSpec, Submitted, changed_jobs, contains, has_status, is_drain, nodes_of}
use Rattle.fleet_model.specs.Invariants.JobsFit.{SourcesStand}
use Rattle.fleet_model.specs.Nodes.{NodeName, Run, Trees, names, names_contain, segment_at, tree_at}
use Rattle.fleet_model.specs.Work.PollStates.{PollInput, PollState, accepts}
use Rattle.fleet_model.specs.Work.Polls.{can_move, drain_job, each, lost_to_scheduler, move_job, open_by, open_job, schedule_job}
use Rattle.fleet_model.specs.Work.Records.{firsts, new_job, to_completed, to_failed, to_scheduled}
use Rattle.fleet_model.specs.Sources.{all_run_ids, is_apart, is_lowest_or_above, is_whole_stretch, run_ids}
use Rattle.fleet_model.specs.Trees.{tables_now}
use Rattle.sched_model.specs.SizeTiered.{agree, lowest_run}
use Rattle.step_laws.proofs.Changed.{IsWorkerChange, ids_rise}
use Rattle.step_laws.proofs.Elements.{IsIn, all_at, all_from, all_true_from, contains_in}
use Rattle.step_laws.proofs.PollJobs.{stretch_in}
use Rattle.commit_laws.proofs.AtOnce.{all_pass}
use Rattle.commit_laws.proofs.Midway.{apart_turned, only_job}
use Rattle.coordinator_laws.proofs.Gates.{free_of, is_free_if, opened_stands, submittable}
use Rattle.coordinator_laws.proofs.Opens.{still_in}
use Rattle.sched_laws.specs.Proposals.{HasFreeId}
use Rattle.sched_laws.proofs.Gate.{all_hold}
use Rattle.sched_laws.proofs.Greatest.{greatest_id_is_refused}
use Rattle.sched_laws.proofs.Holding.{RisesTo, node_cases}
use Rattle.sched_laws.proofs.Lists.{both_true, true_and}
use Rattle.sched_laws.proofs.Names.{In, apart_from, within_at}
use Rattle.sched_laws.proofs.Passes.{SourcesUnused}
use Rattle.sched_laws.proofs.PollCommits.{AcceptsSound, IsChanged, IsSound, Stayed, WasChanged, changed_from, found_at, other_id, one_id}
use Rattle.sched_laws.proofs.PollTrees.{IsStepped, TreesStand, drained, moved}
use Rattle.sched_laws.proofs.Trees.{contained_is_run, equal_prefixes, run_of_trees, same_prefix, trees_apart}
use Rattle.step_laws.proofs.ManifestBodies.{or_left}
use Rattle.course_laws.proofs.NewTables.{or_right}

-- ---- what is known of the proposals

-- The proposals with the ids that were drawn for them, beside the jobs that the scheduler was shown.
pub record AreProposed (input : PollInput) (known : Jobs) (drawn : List (ℕ × JobSpec)) : Type 0 where
  pub once_drawn : (x y : ℕ × JobSpec) → IsIn x drawn → IsIn y drawn → x.0 ≡ y.0 → x ≡ y
  pub apart : (x y : ℕ × JobSpec) → IsIn x drawn → IsIn y drawn → x.0 < y.0 → HasFreeId x.1 → HasFreeId y.1 → IsTrue (is_apart (nodes_of x.1) (nodes_of y.1))
  pub rising : (x y : ℕ × JobSpec) → IsIn x drawn → IsIn y drawn → x.0 < y.0 → HasFreeId x.1 → HasFreeId y.1 → RisesTo x.1 y.1
  pub unused : (y : ℕ × JobSpec) → IsIn y drawn → (job : Job) → IsIn job known → IsTrue (has_status Submitted job) → SourcesUnused y.1 job.spec
  pub above : (y : ℕ × JobSpec) → IsIn y drawn → HasFreeId y.1 → (job : Job) → IsIn job known → IsTrue (has_status Submitted job) → RisesTo job.spec y.1
  pub named_once : (y : ℕ × JobSpec) → IsIn y drawn → are_distinct y.1.sources ≡ true
  pub agrees : (y : ℕ × JobSpec) → IsIn y drawn → agree (lowest_run y.1.sources) y.1.destination ≡ true
  pub no_drain : (y : ℕ × JobSpec) → IsIn y drawn → is_drain y.1 ≡ false
  pub new : (y : ℕ × JobSpec) → IsIn y drawn → (job : Job) → IsIn job known → y.0 ≡ job.id → ⊥
  pub accepted : AcceptsSound input

-- A job that waits was known, or it was added.
pub data Origin (known : Jobs) (drawn : List (ℕ × JobSpec)) (job : Job) : Type 0 where
  WasKnown : IsIn job known → Origin known drawn job
  WasAdded : (d : ℕ × JobSpec) → IsIn d drawn → new_job d ≡ job → Origin known drawn job

-- A proposal that the poll has not opened yet: its sources stand, its destination passes rule 7, and it is apart
-- from each job that holds nodes.
pub record IsPending (p : PollState) (spec : JobSpec) : Type 0 where
  pub job : Job
  pub is : job.spec ≡ spec
  pub stand : SourcesStand p.trees job
  pub fits : destination_fits p.trees spec.sources spec.destination ≡ true
  pub free : (other : Job) → IsIn other p.jobs → IsTrue (reserves_nodes other) → IsTrue (is_apart (nodes_of spec) (nodes_of other.spec))

-- The poll while it opens jobs, with those that are left.
pub record Opening (known : Jobs) (drawn : List (ℕ × JobSpec)) (p : PollState) (left : Jobs) : Type 0 where
  pub trees : TreesStand p.trees
  pub jobs_rise : Pairs (λ (a b : Job). a.id < b.id) p.jobs
  pub stand : (job : Job) → IsIn job p.jobs → IsTrue (reserves_nodes job) → SourcesStand p.trees job
  pub lost : p.lost ≡ []
  pub pending : (d : ℕ × JobSpec) → IsIn d drawn → HasFreeId d.1 → IsIn (new_job d) left → IsPending p d.1
  pub refused : (d : ℕ × JobSpec) → IsIn d drawn → HasFreeId d.1 → contains (firsts p.refused) d.0 ≡ false
  pub those : (job : Job) → IsIn job left → IsIn job p.jobs × IsTrue (has_status Submitted job) × Origin known drawn job
  pub rise : Pairs (λ (a b : Job). a.id < b.id) left

-- ---- destinations

-- The destination is a source, or no source is a run and the destination is above all runs.
destination_cases : (trees : Trees) (sources : List NodeName) (id : ℕ) → destination_fits trees sources (Some id) ≡ true
    → In (Run id) sources ⊎ ((run_ids sources ≡ []) × ((r : ℕ) → IsIn r (all_run_ids trees) → r < id))
destination_cases trees sources id fits = by (run_ids sources) refl (both_true (not (id == 4294967295)) (is_lowest_or_above id (run_ids sources) (all_run_ids trees)) fits).1
  where
    below : (runs : List ℕ) → list_all (λ run. nat_lt run id) runs ≡ true → (r : ℕ) → IsIn r runs → r < id
    below [] all r there = absurd there
    below (run ∷ runs) all r (inl same) = let low = ltb-true run id (both_true (nat_lt run id) (list_all (λ x. nat_lt x id) runs) all).0 in omega (arith, low, same)
    below (run ∷ runs) all r (inr there) = below runs (both_true (nat_lt run id) (list_all (λ x. nat_lt x id) runs) all).1 r there

    by : (ids : List ℕ) → run_ids sources ≡ ids → is_lowest_or_above id ids (all_run_ids trees) ≡ true → In (Run id) sources ⊎ ((run_ids sources ≡ []) × ((r : ℕ) → IsIn r (all_run_ids trees) → r < id))
    by [] none low = inr (none, below (all_run_ids trees) low)
    by (run ∷ runs) e low = inl (contained_is_run sources id (ap (λ l. contains l id) e ∙ (both_true (contains (run ∷ runs) id) (list_all (λ r. nat_le id r) (run ∷ runs)) low).0))

-- A destination that fits still fits if each new run is below it.
fits_after : (trees others : Trees) (sources : List NodeName) (destination : Option ℕ) → ((id : ℕ) → destination ≡ Some id → run_ids sources ≡ [] → (r : ℕ) → IsIn r (all_run_ids others) → IsIn r (all_run_ids trees) ⊎ (r < id))
    → destination_fits trees sources destination ≡ true → destination_fits others sources destination ≡ true
fits_after trees others sources None new fits = fits
fits_after trees others sources (Some id) new fits =
    let both = both_true (not (id == 4294967295)) (is_lowest_or_above id (run_ids sources) (all_run_ids trees)) fits in
    true_and (not (id == 4294967295)) (is_lowest_or_above id (run_ids sources) (all_run_ids others)) both.0 (by (run_ids sources) refl both.1)
  where
    old_low : list_all (λ run. nat_lt run id) (all_run_ids trees) ≡ true → (r : ℕ) → IsIn r (all_run_ids trees) ⊎ (r < id) → r < id
    old_low all r (inl old) = low (all_run_ids trees) all old
      where
        low : (runs : List ℕ) → list_all (λ run. nat_lt run id) runs ≡ true → IsIn r runs → r < id
        low [] all there = absurd there
        low (run ∷ runs) all (inl same) = let below = ltb-true run id (both_true (nat_lt run id) (list_all (λ x. nat_lt x id) runs) all).0 in omega (arith, below, same)
        low (run ∷ runs) all (inr there) = low runs (both_true (nat_lt run id) (list_all (λ x. nat_lt x id) runs) all).1 there
    old_low all r (inr below) = below

    by : (ids : List ℕ) → run_ids sources ≡ ids → is_lowest_or_above id ids (all_run_ids trees) ≡ true → is_lowest_or_above id (run_ids sources) (all_run_ids others) ≡ true
    by [] none low =
        ap (λ ids. is_lowest_or_above id ids (all_run_ids others)) none
        ∙ all_true_from (λ run. nat_lt run id) (all_run_ids others) (all_from _ (all_run_ids others) (λ r there. lt-ltb r id (old_low low r (new id refl none r there))))
    by (run ∷ runs) e low = ap (λ ids. is_lowest_or_above id ids (all_run_ids others)) e ∙ low

-- ---- the gate

-- What the gate says of a job that passes it.
record Passed (p : PollState) (job : Job) : Type 0 where
  within : list_all (names_contain (names (tree_at job.spec.segment p.trees))) job.spec.sources ≡ true
  found : is_some (segment_at job.spec.segment p.trees) ≡ true
  to : destination_fits p.trees job.spec.sources job.spec.destination ≡ true
  small : HasFreeId job.spec
  away : (other : Job) → IsIn other p.jobs → (job.id ≡ other.id → ⊥) → IsTrue (reserves_nodes other) → IsTrue (is_apart (nodes_of job.spec) (nodes_of other.spec))

passed : (p : PollState) (lost : List ℕ) (accepts : JobSpec → Bool) (job : Job) → submit_gate p.trees p.jobs lost accepts job ≡ None → Passed p job
passed p lost accepts job gate =
    let all = all_pass (submitted_rules p.trees p.jobs lost accepts job (tree_at job.spec.segment p.trees)) gate in
    record {
      within = all.1.1.1.0;
      found = all.1.1.0;
      to = all.1.1.1.1.1.1.0;
      small = λ greatest. greatest_id_is_refused p.trees p.jobs lost accepts job greatest gate;
      away = λ other there differs holds. free_of p.jobs lost job other (submittable p.trees p.jobs lost accepts job gate).free there differs (or_left (reserves_nodes other) (contains lost other.id) holds);
    }

module _ (input : PollInput) (known : Jobs) (drawn : List (ℕ × JobSpec)) (are : AreProposed input known drawn) where
  -- A proposal that is pending passes the gate.
  pending_passes : (p : PollState) → TreesStand p.trees → lost_to_scheduler p.lost ≡ [] → (d : ℕ × JobSpec) → IsIn d drawn → IsPending p d.1
      → submit_gate p.trees p.jobs (lost_to_scheduler p.lost) (accepts input p) (new_job d) ≡ None
  pending_passes p trees none d there pending =
      let spec = d.1 in
      let tree = tree_at spec.segment p.trees in
      let some : IsTrue (is_nonempty spec.sources) = subst (λ (s : JobSpec). IsTrue (is_nonempty s.sources)) pending.is pending.stand.some in
      let stretch : IsTrue (is_whole_stretch tree spec.sources) = subst (λ (s : JobSpec). IsTrue (is_whole_stretch (tree_at s.segment p.trees) s.sources)) pending.is pending.stand.stretch in
      let found = found_at p.trees trees.rise spec some stretch in
      let sound : IsSound p.trees spec = record { some = some; found = found; stretch = stretch; agrees = are.agrees d there } in
      let free = is_free_if p.jobs (new_job d) (λ other one differs holds. pending.free other one holds) in
      all_hold (submitted_rules p.trees p.jobs (lost_to_scheduler p.lost) (accepts input p) (new_job d) tree) (
        true_and (is_nonempty spec.sources) (are_distinct spec.sources) some (are.named_once d there),
        (
          ap (λ b. not b || is_nonempty spec.segment) (are.no_drain d there),
          (
            found,
            (
              all_true_from (names_contain (names tree)) spec.sources (stretch_in tree spec.sources stretch),
              (
                or_right (is_drain spec) (is_whole_stretch tree spec.sources) stretch,
                (
                  ap (λ b. not b || names_older spec.sources (names tree)) (are.no_drain d there),
                  (pending.fits, (ap (λ lost. is_free p.jobs lost (new_job d)) none ∙ free, (are.accepted p spec sound, tt))),
                ),
              ),
            ),
          ),
        ),
      )

  -- ---- a job that is opened before a proposal

  module _ (p : PollState) (trees : TreesStand p.trees) (job : Job) (pass : Passed p job) (submitted : IsTrue (has_status Submitted job)) (origin : Origin known drawn job) (d : ℕ × JobSpec) (there : IsIn d drawn)
      (free : HasFreeId d.1) (first : job.id < d.0) (pending : IsPending p d.1) where
    rises : RisesTo job.spec d.1
    rises = by origin
      where
        by : Origin known drawn job → RisesTo job.spec d.1
        by (WasKnown one) = are.above d there free job one submitted
        by (WasAdded e one same) =
            subst (λ (j : Job). RisesTo j.spec d.1) same
            (are.rising e d one there (subst (λ (j : Job). j.id < d.0) (sym same) first) (subst (λ (j : Job). HasFreeId j.spec) (sym same) pass.small) free)

    source_stands : (n : NodeName) → In n d.1.sources → In n (names (tree_at d.1.segment p.trees))
    source_stands n h =
        let stretch : IsTrue (is_whole_stretch (tree_at d.1.segment p.trees) d.1.sources) = subst (λ (s : JobSpec). IsTrue (is_whole_stretch (tree_at s.segment p.trees) s.sources)) pending.is pending.stand.stretch in
        within_at d.1.sources (names (tree_at d.1.segment p.trees)) n (all_true_from (names_contain (names (tree_at d.1.segment p.trees))) d.1.sources (stretch_in (tree_at d.1.segment p.trees) d.1.sources stretch)) h

    own_stands : (n : NodeName) → In n job.spec.sources → In n (names (tree_at job.spec.segment p.trees))
    own_stands n h = within_at job.spec.sources (names (tree_at job.spec.segment p.trees)) n pass.within h

    -- A run of a tree is among the runs of all trees.
    run_in_trees : (prefix : List ℕ) (id : ℕ) → In (Run id) (names (tree_at prefix p.trees)) → IsIn id (all_run_ids p.trees)
    run_in_trees prefix id h = contains_in (all_run_ids p.trees) id (run_of_trees p.trees prefix id h)

    -- A node of the opened job is a source, or it is a run that is above all runs.
    own_cases : (n : NodeName) → In n (nodes_of job.spec) → In n job.spec.sources ⊎ ((i : ℕ) × (job.spec.destination ≡ Some i) × (Run i ≡ n) × ((r : ℕ) → IsIn r (all_run_ids p.trees) → r < i))
    own_cases n h = by (node_cases job.spec n h)
      where
        made : (i : ℕ) → job.spec.destination ≡ Some i → Run i ≡ n → In (Run i) job.spec.sources ⊎ ((run_ids job.spec.sources ≡ []) × ((r : ℕ) → IsIn r (all_run_ids p.trees) → r < i))
            → In n job.spec.sources ⊎ ((i : ℕ) × (job.spec.destination ≡ Some i) × (Run i ≡ n) × ((r : ℕ) → IsIn r (all_run_ids p.trees) → r < i))
        made i to same (inl source) = inl (subst (λ m. In m job.spec.sources) same source)
        made i to same (inr above) = inr (i, to, same, above.1)

        by : In n job.spec.sources ⊎ ((i : ℕ) × (job.spec.destination ≡ Some i) × (Run i ≡ n))
            → In n job.spec.sources ⊎ ((i : ℕ) × (job.spec.destination ≡ Some i) × (Run i ≡ n) × ((r : ℕ) → IsIn r (all_run_ids p.trees) → r < i))
        by (inl source) = inl source
        by (inr run) = made run.0 run.1 run.2 (destination_cases p.trees job.spec.sources run.0 (ap (destination_fits p.trees job.spec.sources) (sym run.1) ∙ pass.to))

    -- No source of the proposal is a node of the job that was known.
    sources_apart : IsIn job known → (n : NodeName) → In n d.1.sources → In n (nodes_of job.spec) → ⊥
    sources_apart one n here other = by (bytes_eq job.spec.segment d.1.segment) refl (own_cases n other)
      where
        by : (b : Bool) → bytes_eq job.spec.segment d.1.segment ≡ b → In n job.spec.sources ⊎ ((i : ℕ) × (job.spec.destination ≡ Some i) × (Run i ≡ n) × ((r : ℕ) → IsIn r (all_run_ids p.trees) → r < i)) → ⊥
        by true e cases = are.unused d there job one submitted (equal_prefixes job.spec.segment d.1.segment e) n here other
        by false e (inl source) =
            trees_apart p.trees trees.apart job.spec.segment d.1.segment (λ same. differs same) n (own_stands n source) (source_stands n here)
          where
            differs : job.spec.segment ≡ d.1.segment → ⊥
            differs same = let itself = equal_bytes same in cc (itself, e)
              where
                equal_bytes : job.spec.segment ≡ d.1.segment → bytes_eq job.spec.segment d.1.segment ≡ true
                equal_bytes same = subst (λ s. bytes_eq job.spec.segment s ≡ true) same (same_prefix job.spec.segment)
        by false e (inr run) =
            let low = run.3 run.0 (run_in_trees d.1.segment run.0 (source_stands (Run run.0) (subst (λ m. In m d.1.sources) (sym run.2) here))) in
            omega (arith, low)

    -- The destination of the proposal is no node of the job that was known.
    destination_apart : IsIn job known → (j : ℕ) → d.1.destination ≡ Some j → In (Run j) (nodes_of job.spec) → ⊥
    destination_apart one j to other = by (destination_cases p.trees d.1.sources j (ap (destination_fits p.trees d.1.sources) (sym to) ∙ pending.fits)) (own_cases (Run j) other)
      where
        by : In (Run j) d.1.sources ⊎ ((run_ids d.1.sources ≡ []) × ((r : ℕ) → IsIn r (all_run_ids p.trees) → r < j))
            → In (Run j) job.spec.sources ⊎ ((i : ℕ) × (job.spec.destination ≡ Some i) × (Run i ≡ Run j) × ((r : ℕ) → IsIn r (all_run_ids p.trees) → r < i)) → ⊥
        by (inl source) cases = sources_apart one (Run j) source other
        by (inr above) (inl source) = let low = above.1 j (run_in_trees job.spec.segment j (own_stands (Run j) source)) in omega (arith, low)
        by (inr above) (inr run) =
            let equal : run.0 ≡ j = cc run.2 in
            let low = rises above.0 run.0 j run.1 to in
            omega (arith, equal, low)

    beside : IsTrue (is_apart (nodes_of job.spec) (nodes_of d.1))
    beside = by origin
      where
        known_apart : IsIn job known → (n : NodeName) → In n (nodes_of job.spec) → In n d.1.sources ⊎ ((j : ℕ) × (d.1.destination ≡ Some j) × (Run j ≡ n)) → ⊥
        known_apart one n here (inl source) = sources_apart one n source here
        known_apart one n here (inr run) = destination_apart one run.0 run.1 (subst (λ m. In m (nodes_of job.spec)) (sym run.2) here)

        by : Origin known drawn job → IsTrue (is_apart (nodes_of job.spec) (nodes_of d.1))
        by (WasKnown one) = apart_from (nodes_of job.spec) (nodes_of d.1) (λ n here other. known_apart one n here (node_cases d.1 n other))
        by (WasAdded e one same) =
            subst (λ (j : Job). IsTrue (is_apart (nodes_of j.spec) (nodes_of d.1))) same
            (are.apart e d one there (subst (λ (j : Job). j.id < d.0) (sym same) first) (subst (λ (j : Job). HasFreeId j.spec) (sym same) pass.small) free)

  -- ---- one job

  not_held : (change : Job → Job) → ((job : Job) → IsTrue (reserves_nodes (change job)) → ⊥) → (old other : Job) → change old ≡ other → IsTrue (reserves_nodes other) → ⊥
  not_held change never old other same holds = never old (subst (λ (j : Job). IsTrue (reserves_nodes j)) (sym same) holds)

  module _ (p : PollState) (job : Job) (left : Jobs) (o : Opening known drawn p (job ∷ left)) where
    here : IsIn job p.jobs × IsTrue (has_status Submitted job) × Origin known drawn job
    here = o.those job (inl refl)

    lower : (other : Job) → IsIn other left → job.id < other.id
    lower other one = all_at (λ (x : Job). job.id < x.id) left other o.rise.0 one

    -- The jobs that are left stay as they are.
    still : (change : Job → Job) (other : Job) → IsIn other left → IsIn other (changed_jobs change (job.id ∷ []) p.jobs) × IsTrue (has_status Submitted other) × Origin known drawn other
    still change other one =
        let was = o.those other (inr one) in
        let low = lower other one in
        (still_in change job.id p.jobs other was.0 (λ same. omega (arith, low, same)), was.1, was.2)

    pending_later : (d : ℕ × JobSpec) → IsIn d drawn → HasFreeId d.1 → IsIn (new_job d) left → IsPending p d.1
    pending_later d there free one = o.pending d there free (inr one)

    -- The state after the job, if its record is changed so that it holds nothing.
    let_go : (change : Job → Job) → IsWorkerChange change → ((old : Job) → IsTrue (reserves_nodes (change old)) → ⊥) → (new : PollState) → new.jobs ≡ changed_jobs change (job.id ∷ []) p.jobs → new.lost ≡ p.lost
        → TreesStand new.trees → ((other : Job) → IsIn other p.jobs → (job.id ≡ other.id → ⊥) → IsTrue (reserves_nodes other) → SourcesStand new.trees other)
        → ((d : ℕ × JobSpec) → IsIn d drawn → HasFreeId d.1 → IsIn (new_job d) left → (pending : IsPending p d.1) → SourcesStand new.trees pending.job × (destination_fits new.trees d.1.sources d.1.destination ≡ true))
        → ((d : ℕ × JobSpec) → IsIn d drawn → HasFreeId d.1 → contains (firsts new.refused) d.0 ≡ false)
        → Opening known drawn new left
    let_go change keeps never new is lost trees stand pending refused = record {
      trees = trees;
      jobs_rise = subst (Pairs (λ (a b : Job). a.id < b.id)) (sym is) (ids_rise change (job.id ∷ []) p.jobs keeps o.jobs_rise);
      stand = λ other one holds. stands other holds (changed_from change (job.id ∷ []) p.jobs other (subst (IsIn other) is one));
      lost = lost ∙ o.lost;
      pending = λ d there free one.
          let before = pending_later d there free one in
          let after = pending d there free one before in
          record { job = before.job; is = before.is; stand = after.0; fits = after.1; free = λ other there holds. apart before other holds (changed_from change (job.id ∷ []) p.jobs other (subst (IsIn other) is there)) };
      refused = refused;
      those = λ other one. subst (λ (jobs : Jobs). IsIn other jobs × IsTrue (has_status Submitted other) × Origin known drawn other) (sym is) (still change other one);
      rise = o.rise.1;
    }
      where
        stands : (other : Job) → IsTrue (reserves_nodes other) → IsChanged change (job.id ∷ []) p.jobs other → SourcesStand new.trees other
        stands other holds (WasChanged old one named same) = absurd (not_held change never old other same holds)
        stands other holds (Stayed one none) = stand other one (other_id job.id other.id none) holds

        apart : {spec : JobSpec} → IsPending p spec → (other : Job) → IsTrue (reserves_nodes other) → IsChanged change (job.id ∷ []) p.jobs other → IsTrue (is_apart (nodes_of spec) (nodes_of other.spec))
        apart before other holds (WasChanged old one named same) = absurd (not_held change never old other same holds)
        apart before other holds (Stayed one none) = before.free other one holds

    -- ---- refused

    one_more : (refused : List (ℕ × ℕ)) (id rule n : ℕ) → contains (firsts refused) n ≡ false → (id ≡ n → ⊥) → contains (firsts (refused ++ (id, rule) ∷ [])) n ≡ false
    one_more [] id rule n none differs = by (id == n) refl
      where
        by : (b : Bool) → (id == n) ≡ b → cond b true false ≡ false
        by true e = absurd (differs ((Decides-eqb id n).0 e))
        by false e = refl
    one_more (x ∷ refused) id rule n none differs = by (x.0 == n) none (λ rest. one_more refused id rule n rest differs)
      where
        by : (b : Bool) → cond b true (contains (firsts refused) n) ≡ false → (contains (firsts refused) n ≡ false → contains (firsts (refused ++ (id, rule) ∷ [])) n ≡ false)
            → cond b true (contains (firsts (refused ++ (id, rule) ∷ [])) n) ≡ false
        by true e later = absurd (cc e)
        by false e later = later e

    no_rules : lost_to_scheduler p.lost ≡ []
    no_rules = ap lost_to_scheduler o.lost

    -- A job that is refused is no proposal with a free id.
    differs : (rule : ℕ) → submit_gate p.trees p.jobs (lost_to_scheduler p.lost) (accepts input p) job ≡ Some rule → (d : ℕ × JobSpec) → IsIn d drawn → HasFreeId d.1 → job.id ≡ d.0 → ⊥
    differs rule gate d there free same = by here.2
      where
        never : (e : ℕ × JobSpec) → new_job e ≡ job → e ≡ d → ⊥
        never e is equal =
            let own : new_job d ≡ job = ap new_job (sym equal) ∙ is in
            let passes = pending_passes p o.trees no_rules d there (o.pending d there free (inl (sym own))) in
            let refusal : submit_gate p.trees p.jobs (lost_to_scheduler p.lost) (accepts input p) (new_job d) ≡ Some rule = subst (λ (j : Job). submit_gate p.trees p.jobs (lost_to_scheduler p.lost) (accepts input p) j ≡ Some rule) (sym own) gate in
            cc (passes, refusal)

        by : Origin known drawn job → ⊥
        by (WasKnown one) = are.new d there job one (sym same)
        by (WasAdded e one is) = never e is (are.once_drawn e d one there (ap (λ (j : Job). j.id) is ∙ same))

    fails : IsWorkerChange to_failed
    fails = record { ids = λ job. refl; specs = λ job. refl; attempts = λ job. omega arith }

    refuses : (rule : ℕ) → submit_gate p.trees p.jobs (lost_to_scheduler p.lost) (accepts input p) job ≡ Some rule → Opening known drawn (open_by input job (Some rule) p) left
    refuses rule gate = let_go to_failed fails (λ old holds. cc holds) (open_by input job (Some rule) p) refl refl o.trees
        (λ other one away holds. o.stand other one holds)
        (λ d there free one pending. (pending.stand, pending.fits))
        (λ d there free. one_more p.refused job.id rule d.0 (o.refused d there free) (differs rule gate d there free))

    -- ---- opened

    module _ (gate : submit_gate p.trees p.jobs (lost_to_scheduler p.lost) (accepts input p) job ≡ None) where
      pass : Passed p job
      pass = passed p (lost_to_scheduler p.lost) (accepts input p) job gate

      completes : IsWorkerChange to_completed
      completes = record { ids = λ job. refl; specs = λ job. refl; attempts = λ job. omega arith }

      beside_later : (d : ℕ × JobSpec) → IsIn d drawn → HasFreeId d.1 → IsIn (new_job d) left → IsPending p d.1 → IsTrue (is_apart (nodes_of job.spec) (nodes_of d.1))
      beside_later d there free one pending = beside p o.trees job pass here.1 here.2 d there free (lower (new_job d) one) pending

      -- A step on the trees that completes the job at once.
      steps : (new : PollState) → new.jobs ≡ changed_jobs to_completed (job.id ∷ []) p.jobs → new.lost ≡ p.lost → new.refused ≡ p.refused → IsStepped p.trees new.trees job.spec → Opening known drawn new left
      steps new is lost same step = let_go to_completed completes (λ old holds. cc holds) new is lost step.stands
          (λ other one away holds. step.keeps other (pass.away other one away holds) (o.stand other one holds))
          (λ d there free one pending. (
            step.keeps pending.job (subst (λ (s : JobSpec). IsTrue (is_apart (nodes_of job.spec) (nodes_of s))) (sym pending.is) (beside_later d there free one pending)) pending.stand,
            fits_after p.trees new.trees d.1.sources d.1.destination
                (λ id to none r now. risen d there free one pending id to none r (step.runs r now)) pending.fits,
          ))
          (λ d there free. subst (λ refused. contains (firsts refused) d.0 ≡ false) (sym same) (o.refused d there free))
        where
          risen : (d : ℕ × JobSpec) → IsIn d drawn → HasFreeId d.1 → IsIn (new_job d) left → IsPending p d.1 → (id : ℕ) → d.1.destination ≡ Some id → run_ids d.1.sources ≡ [] → (r : ℕ)
              → IsIn r (all_run_ids p.trees) ⊎ (job.spec.destination ≡ Some r) → IsIn r (all_run_ids p.trees) ⊎ (r < id)
          risen d there free one pending id to none r (inl old) = inl old
          risen d there free one pending id to none r (inr new) = inr (rises p o.trees job pass here.1 here.2 d there free (lower (new_job d) one) pending none r id new to)

      -- The job waits for a worker from now on.
      waits : is_drain job.spec ≡ false → Opening known drawn (schedule_job job p) left
      waits runs = record {
        trees = o.trees;
        jobs_rise = ids_rise (to_scheduled (tables_now p.trees)) (job.id ∷ []) p.jobs scheduled o.jobs_rise;
        stand = λ other one holds. stands other holds (changed_from (to_scheduled (tables_now p.trees)) (job.id ∷ []) p.jobs other one);
        lost = o.lost;
        pending = λ d there free one.
            let before = pending_later d there free one in
            record { job = before.job; is = before.is; stand = before.stand; fits = before.fits; free = λ other here holds. apart d there free one before other holds (changed_from (to_scheduled (tables_now p.trees)) (job.id ∷ []) p.jobs other here) };
        refused = o.refused;
        those = λ other one. still (to_scheduled (tables_now p.trees)) other one;
        rise = o.rise.1;
      }
        where
          scheduled : IsWorkerChange (to_scheduled (tables_now p.trees))
          scheduled = record { ids = λ job. refl; specs = λ job. refl; attempts = λ job. omega arith }

          -- The only job that is changed is this one.
          only : (old : Job) → IsIn old p.jobs → contains (job.id ∷ []) old.id ≡ true → old ≡ job
          only old one named = sym (only_job p.jobs job old o.jobs_rise here.0 one (one_id job.id old.id named))

          stands : (other : Job) → IsTrue (reserves_nodes other) → IsChanged (to_scheduled (tables_now p.trees)) (job.id ∷ []) p.jobs other → SourcesStand p.trees other
          stands other holds (WasChanged old one named same) =
              subst (SourcesStand p.trees) (ap (to_scheduled (tables_now p.trees)) (sym (only old one named)) ∙ same) (opened_stands p.trees p.jobs (lost_to_scheduler p.lost) (accepts input p) job gate runs)
          stands other holds (Stayed one none) = o.stand other one holds

          apart : (d : ℕ × JobSpec) → IsIn d drawn → HasFreeId d.1 → IsIn (new_job d) left → IsPending p d.1 → (other : Job) → IsTrue (reserves_nodes other) → IsChanged (to_scheduled (tables_now p.trees)) (job.id ∷ []) p.jobs other
              → IsTrue (is_apart (nodes_of d.1) (nodes_of other.spec))
          apart d there free one before other holds (WasChanged old here named same) =
              subst (λ (j : Job). IsTrue (is_apart (nodes_of d.1) (nodes_of j.spec))) (ap (to_scheduled (tables_now p.trees)) (sym (only old here named)) ∙ same)
              (apart_turned (nodes_of job.spec) (nodes_of d.1) (beside_later d there free one before))
          apart d there free one before other holds (Stayed here none) = before.free other here holds

      -- A job that passes is drained, moved or scheduled.
      goes : (drains moves : Bool) → is_drain job.spec ≡ drains → Opening known drawn (cond drains (drain_job input job p) (cond moves (move_job input job p) (schedule_job job p))) left
      goes true moves e = steps (drain_job input job p) refl refl refl (drained input.tables p.trees o.trees job.id job.spec pass.found)
      goes false true e =
          let opened : Job = to_scheduled (tables_now p.trees) job in
          steps (move_job input job p) refl refl refl (moved input.tables p.trees o.trees opened (opened_stands p.trees p.jobs (lost_to_scheduler p.lost) (accepts input p) job gate e))
      goes false false e = waits e

    -- The job is opened or refused.
    opened : Opening known drawn (open_job input job p) left
    opened = by (submit_gate p.trees p.jobs (lost_to_scheduler p.lost) (accepts input p) job) refl
      where
        by : (rule : Option ℕ) → submit_gate p.trees p.jobs (lost_to_scheduler p.lost) (accepts input p) job ≡ rule → Opening known drawn (open_by input job rule p) left
        by None gate = goes gate (is_drain job.spec) (can_move input p.trees job.spec) refl
        by (Some rule) gate = refuses rule gate

  -- ---- all jobs

  -- After all jobs no proposal with a free id was refused, and no job was lost.
  pub all_opened : (left : Jobs) (p : PollState) → Opening known drawn p left → Opening known drawn (each (open_job input) left p) []
  all_opened [] p o = o
  all_opened (job ∷ left) p o = all_opened left (open_job input job p) (opened p job left o)
