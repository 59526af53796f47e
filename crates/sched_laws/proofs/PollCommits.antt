-- A poll whose scheduler accepts each job that stands loses no job, and what stood stands after its commits.
use Rattle.std.proofs.Common.{◌≡◌, refl, sym, ap, subst, ℕ, ◌<◌, List, [], ◌∷◌, cond, Bool, true, false, inl, inr, ◌⊎◌, Option, Some, None, arith}
use Rattle.std.specs.Prelude.{IsTrue, ◌==◌, filter, is_some, bytes_eq}
use Rattle.std.specs.List.{concat, list_all}
use Rattle.std.proofs.lemmas.Bool.Decides.{Decides-eqb}
use Rattle.std.proofs.lemmas.Slice.Eq.{bytes_eq-Decides}
use Rattle.row_model.specs.Lists.{Pairs}
use Rattle.fleet_model.specs.Work.Gates.{commit_gate, is_nonempty, reserves_nodes}
use Rattle.fleet_model.specs.Jobs.{Compacted, Job, Jobs, JobSpec, Running, changed_jobs, contains, has_status, ids, is_overdue, is_stale, nodes_of}
use Rattle.fleet_model.specs.Invariants.JobsFit.{HoldApart, NodesHeldOnce, SourcesStand}
use Rattle.fleet_model.specs.Nodes.{Trees, names, names_contain, segment_at, tree_at}
use Rattle.fleet_model.specs.Work.PollStates.{PollInput, PollState, accepts}
use Rattle.fleet_model.specs.Work.Polls.{commit_by, commit_finished, commit_job, each, free_stale}
use Rattle.fleet_model.specs.Work.Records.{to_completed, to_waiting}
use Rattle.fleet_model.specs.Sources.{is_whole_stretch}
use Rattle.fleet_model.specs.Trees.{source_pieces}
use Rattle.sched_model.specs.SizeTiered.{agree, lowest_run}
use Rattle.step_laws.proofs.Changed.{IsWorkerChange, held_once_on, ids_rise}
use Rattle.step_laws.proofs.Elements.{IsIn, all_at, all_true_from, contains_in}
use Rattle.step_laws.proofs.FlushFollows.{found_segment}
use Rattle.step_laws.proofs.FlushTrees.{Rising}
use Rattle.step_laws.proofs.PollJobs.{stretch_in}
use Rattle.commit_laws.proofs.JobSteps.{IsAway}
use Rattle.commit_laws.proofs.Joins.{compacted_holds}
use Rattle.commit_laws.proofs.Midway.{apart_turned, only_job, two_jobs}
use Rattle.commit_laws.proofs.OtherJobs.{in_filtered}
use Rattle.commit_laws.proofs.Steps.{stretch_at}
use Rattle.rival_laws.proofs.CommitsOldest.{running_reserves}
use Rattle.coordinator_laws.proofs.Opens.{still_in}
use Rattle.course_laws.proofs.Calls.{filtered, pairs_filter}
use Rattle.sched_laws.proofs.Gate.{all_hold}
use Rattle.sched_laws.proofs.Lists.{both_true}
use Rattle.sched_laws.proofs.PollTrees.{IsStepped, TreesStand, joined}
use Rattle.step_laws.proofs.Releases.{waiting_change}

-- ---- jobs that a scheduler accepts

-- There are sources, they stand in the tree of the segment, and the destination is the lowest source run if a
-- run is a source.
pub record IsSound (trees : Trees) (spec : JobSpec) : Type 0 where
  pub some : IsTrue (is_nonempty spec.sources)
  pub found : is_some (segment_at spec.segment trees) ≡ true
  pub stretch : IsTrue (is_whole_stretch (tree_at spec.segment trees) spec.sources)
  pub agrees : agree (lowest_run spec.sources) spec.destination ≡ true

-- The scheduler of the poll accepts each job that is sound.
abbrev pub AcceptsSound : PollInput → Type 0
AcceptsSound input = (p : PollState) (spec : JobSpec) → IsSound p.trees spec → accepts input p spec ≡ true

pub found_at : (trees : Trees) → Rising trees → (spec : JobSpec) → IsTrue (is_nonempty spec.sources) → IsTrue (is_whole_stretch (tree_at spec.segment trees) spec.sources) → is_some (segment_at spec.segment trees) ≡ true
found_at trees rise spec some stretch =
    let a = stretch_at trees spec some stretch in
    ap is_some (found_segment spec.segment trees a.s rise a.there a.same)

-- ---- changed jobs

-- A job after a change of some jobs: it was changed, or it stayed.
pub data IsChanged (f : Job → Job) (these : List ℕ) (jobs : Jobs) (job : Job) : Type 0 where
  WasChanged : (old : Job) → IsIn old jobs → contains these old.id ≡ true → f old ≡ job → IsChanged f these jobs job
  Stayed : IsIn job jobs → contains these job.id ≡ false → IsChanged f these jobs job

-- Each job after a change was changed or stayed.
pub changed_from : (f : Job → Job) (these : List ℕ) (jobs : Jobs) (job : Job) → IsIn job (changed_jobs f these jobs) → IsChanged f these jobs job
changed_from f these [] job there = absurd there
changed_from f these (x ∷ jobs) job (inl same) = by (contains these x.id) refl same
  where
    by : (b : Bool) → contains these x.id ≡ b → cond b (f x) x ≡ job → IsChanged f these (x ∷ jobs) job
    by true e same = WasChanged x (inl refl) e same
    by false e same = Stayed (inl same) (subst (λ (j : Job). contains these j.id ≡ false) same e)
changed_from f these (x ∷ jobs) job (inr there) = later (changed_from f these jobs job there)
  where
    later : IsChanged f these jobs job → IsChanged f these (x ∷ jobs) job
    later (WasChanged old one named same) = WasChanged old (inr one) named same
    later (Stayed one none) = Stayed (inr one) none

pub one_id : (id n : ℕ) → contains (id ∷ []) n ≡ true → id ≡ n
one_id id n e = by (id == n) refl e
  where
    by : (b : Bool) → (id == n) ≡ b → cond b true false ≡ true → id ≡ n
    by true f e = (Decides-eqb id n).0 f
    by false f e = absurd (cc e)

pub other_id : (id n : ℕ) → contains (id ∷ []) n ≡ false → id ≡ n → ⊥
other_id id n e same = by (id == n) ((Decides-eqb id n).1 same) e
  where
    by : (b : Bool) → b ≡ true → cond b true false ≡ false → ⊥
    by true f e = cc e
    by false f e = cc f

-- ---- what stands through commits

-- The trees stand, and so do the sources of each job that holds nodes. No two jobs hold the same node, and no
-- job was lost, added or refused. Each job was got.
pub record Committing (got : List ℕ) (p : PollState) : Type 0 where
  pub trees : TreesStand p.trees
  pub rise : Pairs (λ (a b : Job). a.id < b.id) p.jobs
  pub held : NodesHeldOnce p.jobs
  pub stand : (job : Job) → IsIn job p.jobs → IsTrue (reserves_nodes job) → SourcesStand p.trees job
  pub lost : p.lost ≡ []
  pub added : p.added ≡ []
  pub refused : p.refused ≡ []
  pub got_jobs : (job : Job) → IsIn job p.jobs → IsIn job.id got

completes : IsWorkerChange to_completed
completes = record { ids = λ job. refl; specs = λ job. refl; attempts = λ job. omega arith }

in_ids : (jobs : Jobs) (id : ℕ) → IsIn id (ids jobs) → (job : Job) × (IsIn job jobs × (job.id ≡ id))
in_ids [] id there = absurd there
in_ids (x ∷ jobs) id (inl same) = (x, (inl refl, same))
in_ids (x ∷ jobs) id (inr there) = let found = in_ids jobs id there in (found.0, (inr found.1.0, found.1.1))

pub filter_holds : (p : Job → Bool) (jobs : Jobs) (job : Job) → IsIn job (filter p jobs) → p job ≡ true
filter_holds p jobs job there = let both = all_at (λ x. IsIn x jobs × (p x ≡ true)) (filter p jobs) job (filtered p jobs) there in both.1

-- Freed jobs held their nodes before.
pub freed : (got : List ℕ) (input : PollInput) (p : PollState) → p.freed ≡ [] → Committing got p → Committing got (free_stale input p)
freed got input p none c = record {
  trees = c.trees;
  rise = ids_rise to_waiting these p.jobs waiting_change c.rise;
  held = held_once_on to_waiting these p.jobs waiting_change (λ job there named holds. was_held job there named) c.held;
  stand = λ job there holds. by job holds (changed_from to_waiting these p.jobs job there);
  lost = c.lost;
  added = c.added;
  refused = c.refused;
  got_jobs = λ job there. id_of job (changed_from to_waiting these p.jobs job there);
}
  where
    these : List ℕ
    these = ids (filter (is_stale input.options.timeout input.moment) p.jobs)

    was_held : (job : Job) → IsIn job p.jobs → IsTrue (contains these job.id) → IsTrue (reserves_nodes job)
    was_held job there named =
        let found = in_ids (filter (is_stale input.options.timeout input.moment) p.jobs) job.id (contains_in these job.id named) in
        let stale = filter_holds (is_stale input.options.timeout input.moment) p.jobs found.0 found.1.0 in
        let same = only_job p.jobs found.0 job c.rise (in_filtered (is_stale input.options.timeout input.moment) p.jobs found.0 found.1.0) there found.1.1 in
        let runs = both_true (has_status Running found.0) (is_overdue input.options.timeout input.moment found.0.lease) stale in
        running_reserves job.status (subst (λ (j : Job). IsTrue (has_status Running j)) same runs.0)

    by : (job : Job) → IsTrue (reserves_nodes job) → IsChanged to_waiting these p.jobs job → SourcesStand p.trees job
    by job holds (WasChanged old there named same) =
        let stand = c.stand old there (was_held old there named) in
        subst (SourcesStand p.trees) same (record { some = stand.some; stretch = stand.stretch; source_tables = stand.source_tables; destination = stand.destination })
    by job holds (Stayed there other) = c.stand job there holds

    id_of : (job : Job) → IsChanged to_waiting these p.jobs job → IsIn job.id got
    id_of job (WasChanged old there named same) = subst (λ (j : Job). IsIn j.id got) same (c.got_jobs old there)
    id_of job (Stayed there other) = c.got_jobs job there

-- ---- one commit

-- What is accepted of a job that stands.
abbrev pub AcceptsStanding : PollInput → Type 0
AcceptsStanding input = (p : PollState) → TreesStand p.trees → (job : Job) → SourcesStand p.trees job → accepts input p job.spec ≡ true

module _ (got : List ℕ) (input : PollInput) (accepted : AcceptsStanding input) where
  commit_passes : (p : PollState) → TreesStand p.trees → (job : Job) → SourcesStand p.trees job → commit_gate p.trees (accepts input p) job ≡ None
  commit_passes p trees job stand =
      let tree = tree_at job.spec.segment p.trees in
      all_hold ((4, list_all (names_contain (names tree)) job.spec.sources) ∷ (10, bytes_eq (source_pieces job.spec.sources tree) job.source_tables) ∷ (0, accepts input p job.spec) ∷ [])
      (all_true_from (names_contain (names tree)) job.spec.sources (stretch_in tree job.spec.sources stand.stretch), ((bytes_eq-Decides (source_pieces job.spec.sources tree) job.source_tables).1 stand.source_tables, (accepted p trees job stand, tt)))

  -- What stands after one commit.
  committed : (p : PollState) → Committing got p → (job : Job) → IsIn job p.jobs → IsTrue (has_status Compacted job) → Committing got (commit_by input job None p)
  committed p c job there compacted =
      let stand = c.stand job there (compacted_holds job.status compacted) in
      let step = joined input.tables p.trees c.trees job stand (concat job.outputs) in
      record {
        trees = step.stands;
        rise = ids_rise to_completed (job.id ∷ []) p.jobs completes c.rise;
        held = held_once_on to_completed (job.id ∷ []) p.jobs completes (λ other one named holds. absurd (cc holds)) c.held;
        stand = λ other one holds. by step other holds (changed_from to_completed (job.id ∷ []) p.jobs other one);
        lost = c.lost;
        added = c.added;
        refused = c.refused;
        got_jobs = λ other one. id_of other (changed_from to_completed (job.id ∷ []) p.jobs other one);
      }
    where
      after : PollState
      after = commit_by input job None p

      none_held : (old other : Job) → to_completed old ≡ other → IsTrue (reserves_nodes other) → ⊥
      none_held old other same holds = let held : IsTrue (reserves_nodes (to_completed old)) = subst (λ (j : Job). IsTrue (reserves_nodes j)) (sym same) holds in cc held

      away : (other : Job) → IsIn other p.jobs → IsTrue (reserves_nodes other) → (job.id ≡ other.id → ⊥) → IsAway job.spec other
      away other one holds differs = either (two_jobs HoldApart p.jobs job other c.held there one differs)
        where
          either : HoldApart job other ⊎ HoldApart other job → IsAway job.spec other
          either (inl apart) = apart (compacted_holds job.status compacted) holds
          either (inr apart) = apart_turned (nodes_of other.spec) (nodes_of job.spec) (apart holds (compacted_holds job.status compacted))

      by : IsStepped p.trees after.trees job.spec → (other : Job) → IsTrue (reserves_nodes other) → IsChanged to_completed (job.id ∷ []) p.jobs other → SourcesStand after.trees other
      by step other holds (WasChanged old one named same) = absurd (none_held old other same holds)
      by step other holds (Stayed one none) = step.keeps other (away other one holds (other_id job.id other.id none)) (c.stand other one holds)

      id_of : (other : Job) → IsChanged to_completed (job.id ∷ []) p.jobs other → IsIn other.id got
      id_of other (WasChanged old one named same) = subst (λ (j : Job). IsIn j.id got) same (c.got_jobs old one)
      id_of other (Stayed one none) = c.got_jobs other one

  -- Each of these jobs is among the poll's jobs, and Compacted.
  abbrev AreLeft : PollState → Jobs → Type 0
  AreLeft p left = (job : Job) → IsIn job left → IsIn job p.jobs × IsTrue (has_status Compacted job)

  -- What stands after all commits.
  commits : (left : Jobs) (p : PollState) → Committing got p → Pairs (λ (a b : Job). a.id < b.id) left → AreLeft p left → Committing got (each (commit_job input) left p)
  commits [] p c rise those = c
  commits (job ∷ left) p c rise those = by (commit_gate p.trees (accepts input p) job) (commit_passes p c.trees job (c.stand job here.0 (compacted_holds job.status here.1))) (λ q d more. commits left q d rise.1 more)
    where
      here : IsIn job p.jobs × IsTrue (has_status Compacted job)
      here = those job (inl refl)

      still : AreLeft (commit_by input job None p) left
      still other one =
          let low = all_at (λ (o : Job). job.id < o.id) left other rise.0 one in
          (still_in to_completed job.id p.jobs other (those other (inr one)).0 (λ same. omega (arith, low, same)), (those other (inr one)).1)

      by : (rule : Option ℕ) → rule ≡ None → ((q : PollState) → Committing got q → AreLeft q left → Committing got (each (commit_job input) left q)) → Committing got (each (commit_job input) left (commit_by input job rule p))
      by None e more = more (commit_by input job None p) (committed p c job here.0 here.1) still
      by (Some rule) e more = absurd (cc e)

  pub all_committed : (p : PollState) → Committing got p → Committing got (commit_finished input p)
  all_committed p c = commits (filter (has_status Compacted) p.jobs) p c (pairs_filter (λ (a b : Job). a.id < b.id) (has_status Compacted) p.jobs c.rise)
      (λ job there. (in_filtered (has_status Compacted) p.jobs job there, filter_holds (has_status Compacted) p.jobs job there))
