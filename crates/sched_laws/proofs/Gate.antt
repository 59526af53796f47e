-- Jobs for proposals pass the gate.
use Rattle.std.proofs.Common.{◌≡◌, refl, sym, ◌∙◌, ap, subst, ℕ, List, [], ◌∷◌, ◌++◌, cond, Bool, true, false, not, ◌&&◌, ◌||◌, eq-eqb}
use Rattle.std.specs.Prelude.{Option, Some, None, IsTrue, is_some, filter, ◌==◌}
use Rattle.std.specs.List.{AllByRecursion}
use Rattle.row_model.specs.Lists.{Pairs}
use Rattle.fleet_model.specs.Work.Gates.{are_distinct, first_failing, is_free, is_nonempty, names_older, reserves_nodes, submit_gate, submitted_rules}
use Rattle.fleet_model.specs.Jobs.{Compacted, Completed, Failed, Job, Jobs, JobSpec, Running, Scheduled, Status, Submitted, contains, is_active, is_drain, is_finished, nodes_of, status_eq}
use Rattle.sched_model.specs.FreshRuns.{fresh_run_id}
use Rattle.fleet_model.specs.Nodes.{NodeName, Tree, Trees, names, segment_at, tree_at}
use Rattle.fleet_model.specs.Work.Scheduler.{View}
use Rattle.fleet_model.specs.Sources.{is_apart, is_whole_stretch, older_nodes, reaches_oldest}
use Rattle.sched_model.specs.Series.{TieredOptions, are_tiered}
use Rattle.sched_model.specs.SizeTiered.{agree, free_slots, is_stretch, lowest_run, tiered_proposals, tiered_validate}
use Rattle.sched_laws.specs.Proposals.{AreApart, HasFreeId, HoldsNothing, Itself, Known, MayBeThere, Opened}
use Rattle.sched_laws.specs.Views.{ViewStands}
use Rattle.sched_laws.proofs.Begins.{differ_begins, looked_at, midway_begins, ready_begins}
use Rattle.sched_laws.proofs.Lists.{all_append, all_at, all_back, all_weaken, pairs_after, pairs_before, true_and}
use Rattle.sched_laws.proofs.Names.{apart_back, within_from}
use Rattle.sched_laws.proofs.Passes.{Fits, IsApartFrom, Rises, passes_keep}
use Rattle.course_laws.proofs.NewTables.{or_left, or_right}

-- ---- all proposals

-- What holds of all proposals.
pub record AllFit (view : View) (proposals : List JobSpec) : Type 0 where
  pub each : AllByRecursion (Fits view.manifest.trees view.jobs) proposals
  pub apart : Pairs AreApart proposals
  pub rising : Pairs Rises proposals

pub proposals_fit : (o : TieredOptions) → are_tiered o ≡ true → (most : ℕ) (view : View) → ViewStands view → AllFit view (tiered_proposals o most view)
unfolding tiered_proposals
proposals_fit o tiered most view stands =
    let slots = free_slots most view.jobs in
    let all = passes_keep o tiered slots view.manifest.trees stands.apart view.jobs slots (looked_at view) (record { fresh = fresh_run_id view; picks = [] })
    (differ_begins view stands) (midway_begins view stands) (ready_begins view stands) in
    record { each = all.0; apart = all.1; rising = all.2 }

pub proposals_are_apart : (o : TieredOptions) → are_tiered o ≡ true → (most : ℕ) (view : View) → ViewStands view → Pairs AreApart (tiered_proposals o most view)
proposals_are_apart o tiered most view stands = (proposals_fit o tiered most view stands).apart

-- ---- rule 8

-- The job is apart from the other proposals.
abbrev IsApartFromSpecs : List JobSpec → JobSpec → Type 0
IsApartFromSpecs others spec = AllByRecursion (λ s. HasFreeId s → is_apart (nodes_of spec) (nodes_of s) ≡ true) others

-- The test of rule 8 for one other job.
abbrev leaves_free : Job → Job → Bool
leaves_free job other = (job.id == other.id) || not (reserves_nodes other || contains [] other.id) || is_apart (nodes_of job.spec) (nodes_of other.spec)

module _ (known : Jobs) (others : List JobSpec) (job : Job) (free : IsApartFrom known job.spec) (apart : IsApartFromSpecs others job.spec) where
  beside_idle : (other : Job) → reserves_nodes other ≡ false → leaves_free job other ≡ true
  beside_idle other none =
      let idle : not (reserves_nodes other || contains [] other.id) ≡ true = ap (λ b. not (b || false)) none in
      or_left ((job.id == other.id) || not (reserves_nodes other || contains [] other.id)) (is_apart (nodes_of job.spec) (nodes_of other.spec))
      (or_right (job.id == other.id) (not (reserves_nodes other || contains [] other.id)) idle)

  beside_apart : (other : Job) → is_apart (nodes_of job.spec) (nodes_of other.spec) ≡ true → leaves_free job other ≡ true
  beside_apart other away = or_right ((job.id == other.id) || not (reserves_nodes other || contains [] other.id)) (is_apart (nodes_of job.spec) (nodes_of other.spec)) away

  -- Beside a job that may be there, the job for a proposal keeps rule 8.
  one_is_free : (other : Job) → MayBeThere known others job.id other → leaves_free job other ≡ true
  one_is_free other (Itself same) =
      or_left ((job.id == other.id) || not (reserves_nodes other || contains [] other.id)) (is_apart (nodes_of job.spec) (nodes_of other.spec))
      (or_left (job.id == other.id) (not (reserves_nodes other || contains [] other.id)) (eq-eqb job.id other.id (sym same)))
  one_is_free other (HoldsNothing none) = beside_idle other none
  one_is_free other (Known there) = by (reserves_nodes other) refl
    where
      by : (b : Bool) → reserves_nodes other ≡ b → leaves_free job other ≡ true
      by true e = beside_apart other (all_at (λ j. IsTrue (reserves_nodes j) → is_apart (nodes_of job.spec) (nodes_of j.spec) ≡ true) known other free there e)
      by false e = beside_idle other e
  one_is_free other (Opened there small) = beside_apart other (all_at (λ s. HasFreeId s → is_apart (nodes_of job.spec) (nodes_of s) ≡ true) others other.spec apart there small)

  -- Rule 8 holds beside all jobs that may be there.
  all_are_free : (jobs : Jobs) → AllByRecursion (MayBeThere known others job.id) jobs → is_free jobs [] job ≡ true
  all_are_free [] all = refl
  all_are_free (other ∷ jobs) all = true_and (leaves_free job other) (is_free jobs [] job) (one_is_free other all.0) (all_are_free jobs all.1)

-- ---- all rules

pub all_hold : (rules : List (ℕ × Bool)) → AllByRecursion (λ rule. rule.1 ≡ true) rules → first_failing rules ≡ None
all_hold [] all = refl
all_hold (rule ∷ rules) all = ap (λ b. cond b (first_failing rules) (Some rule.0)) all.0 ∙ all_hold rules all.1

pub found_stretch : (sources : List NodeName) (found : Option (List NodeName)) → reaches_oldest sources found ≡ true → is_some found ≡ true
found_stretch sources None e = absurd (cc e)
found_stretch sources (Some rest) e = refl

is_accepted : (view : View) (spec : JobSpec) → Fits view.manifest.trees view.jobs spec → tiered_validate view spec ≡ true
is_accepted view spec fits =
    let trees = view.manifest.trees in
    let nodes = names (tree_at spec.segment trees) in
    let stretch = is_stretch (tree_at spec.segment trees) spec.sources in
    let stands : stretch ≡ true = true_and (is_nonempty spec.sources) (is_some (older_nodes spec.sources nodes)) fits.pick.some (found_stretch spec.sources (older_nodes spec.sources nodes) fits.pick.stretch) in
    or_right (is_drain spec) (is_some (segment_at spec.segment trees) && stretch && agree (lowest_run spec.sources) spec.destination)
    (true_and (is_some (segment_at spec.segment trees) && stretch) (agree (lowest_run spec.sources) spec.destination)
    (true_and (is_some (segment_at spec.segment trees)) stretch fits.pick.found stands) fits.pick.agrees)

-- A job that fits passes the gate, if it is free.
pub fitting_passes : (view : View) (job : Job) (jobs : Jobs) → Fits view.manifest.trees view.jobs job.spec → HasFreeId job.spec → is_free jobs [] job ≡ true → (accepts : JobSpec → Bool) → accepts job.spec ≡ true
    → submit_gate view.manifest.trees jobs [] accepts job ≡ None
fitting_passes view job jobs fits small free accepts accepted =
    let spec = job.spec in
    let trees = view.manifest.trees in
    let tree : Tree = tree_at job.spec.segment view.manifest.trees in
    all_hold (submitted_rules trees jobs [] accepts job tree) (
      true_and (is_nonempty spec.sources) (are_distinct spec.sources) fits.pick.some fits.pick.once,
      (
        ap (λ b. not b || is_nonempty spec.segment) fits.pick.no_drain,
        (
          fits.pick.found,
          (
            within_from spec.sources (names tree) fits.pick.within,
            (
              or_right (is_drain spec) (is_whole_stretch tree spec.sources) fits.pick.stretch,
              (
                ap (λ b. not b || names_older spec.sources (names tree)) fits.pick.no_drain,
                (
                  fits.destination small,
                  (
                    free,
                    (accepted, tt),
                  ),
                ),
              ),
            ),
          ),
        ),
      ),
    )

-- ---- a proposal beside the others

module _ (view : View) (before after : List JobSpec) (spec : JobSpec) (fit : AllFit view (before ++ spec ∷ after)) (small : HasFreeId spec) where
  this_fits : Fits view.manifest.trees view.jobs spec
  this_fits = let rest = all_back (Fits view.manifest.trees view.jobs) before (spec ∷ after) fit.each in rest.0

  apart_from_others : IsApartFromSpecs (before ++ after) spec
  apart_from_others =
      all_append (λ s. HasFreeId s → is_apart (nodes_of spec) (nodes_of s) ≡ true) before after
      (all_weaken (λ s. AreApart s spec) (λ s. HasFreeId s → is_apart (nodes_of spec) (nodes_of s) ≡ true)
      (λ s away free. apart_back (nodes_of s) (nodes_of spec) (away free small)) before (pairs_before AreApart before spec after fit.apart))
      (all_weaken (AreApart spec) (λ s. HasFreeId s → is_apart (nodes_of spec) (nodes_of s) ≡ true) (λ s away free. away small free) after (pairs_after AreApart before spec after fit.apart))

-- The test of the scheduler, given the trees that it is shown.
abbrev accepted_in : Trees → JobSpec → Bool
accepted_in trees spec = is_drain spec || (is_some (segment_at spec.segment trees) && is_stretch (tree_at spec.segment trees) spec.sources && agree (lowest_run spec.sources) spec.destination)

-- A job for a proposal passes the gate beside the known jobs, if it is apart from those that hold nodes and the
-- scheduler accepts it.
pub passes_if_accepted : (view : View) (before after : List JobSpec) (job : Job) → AllFit view (before ++ job.spec ∷ after) → HasFreeId job.spec
    → (known : Jobs) → (IsApartFrom view.jobs job.spec → IsApartFrom known job.spec) → (jobs : Jobs) → AllByRecursion (MayBeThere known (before ++ after) job.id) jobs
    → (accepts : JobSpec → Bool) → accepts job.spec ≡ true → submit_gate view.manifest.trees jobs [] accepts job ≡ None
passes_if_accepted view before after job fit small known same jobs there accepts accepted =
    let fits = this_fits view before after job.spec fit small in
    let free = all_are_free known (before ++ after) job (same (fits.apart small)) (apart_from_others view before after job.spec fit small) jobs there in
    fitting_passes view job jobs fits small free accepts accepted

-- The size-tiered scheduler accepts it on each view of the same trees.
pub passes_beside : (view : View) (before after : List JobSpec) (job : Job) → AllFit view (before ++ job.spec ∷ after) → HasFreeId job.spec
    → (known : Jobs) → (IsApartFrom view.jobs job.spec → IsApartFrom known job.spec) → (jobs : Jobs) → AllByRecursion (MayBeThere known (before ++ after) job.id) jobs
    → (later : View) → later.manifest.trees ≡ view.manifest.trees → submit_gate later.manifest.trees jobs [] (tiered_validate later) job ≡ None
passes_beside view before after job fit small known same jobs there later trees =
    subst (λ shown. submit_gate shown jobs [] (accepted_in shown) job ≡ None) (sym trees)
    (passes_if_accepted view before after job fit small known same jobs there (accepted_in view.manifest.trees) (is_accepted view job.spec (this_fits view before after job.spec fit small)))

pub proposals_pass : (o : TieredOptions) → are_tiered o ≡ true → (most : ℕ) (view : View) → ViewStands view
    → (before after : List JobSpec) (job : Job) → tiered_proposals o most view ≡ before ++ job.spec ∷ after → HasFreeId job.spec
    → (jobs : Jobs) → AllByRecursion (MayBeThere view.jobs (before ++ after) job.id) jobs
    → (later : View) → later.manifest.trees ≡ view.manifest.trees → submit_gate later.manifest.trees jobs [] (tiered_validate later) job ≡ None
proposals_pass o tiered most view stands before after job is small jobs there later trees =
    let fit = subst (AllFit view) is (proposals_fit o tiered most view stands) in
    passes_beside view before after job fit small view.jobs (λ apart. apart) jobs there later trees

-- ---- finished jobs

finished_is_idle : (s : Status) → is_finished s ≡ true → (status_eq Scheduled s || status_eq Running s || status_eq Compacted s) ≡ false
finished_is_idle Submitted e = refl
finished_is_idle Scheduled e = absurd (cc e)
finished_is_idle Running e = absurd (cc e)
finished_is_idle Compacted e = absurd (cc e)
finished_is_idle Completed e = refl
finished_is_idle Failed e = refl

-- A job that is apart from the active jobs is apart from all jobs.
pub apart_from_all : (spec : JobSpec) (jobs : Jobs) → IsApartFrom (filter is_active jobs) spec → IsApartFrom jobs spec
apart_from_all spec [] apart = tt
apart_from_all spec (job ∷ jobs) apart = by (is_finished job.status) refl apart (apart_from_all spec jobs)
  where
    by : (b : Bool) → is_finished job.status ≡ b → IsApartFrom (cond (cond b false true) (job ∷ filter is_active jobs) (filter is_active jobs)) spec
        → (IsApartFrom (filter is_active jobs) spec → IsApartFrom jobs spec) → IsApartFrom (job ∷ jobs) spec
    by true e apart later = (λ reserves. absurd (let idle = finished_is_idle job.status e in cc (reserves, idle)), later apart)
    by false e apart later = (apart.0, later apart.1)
