-- What the gates of a poll say of a job that passes them, and of one that does not.
use Rattle.std.proofs.Common.{◌≡◌, refl, sym, ◌∙◌, ap, subst, ℕ, List, [], ◌∷◌, Bool, true, false, Option, Some, None, arith}
use Rattle.std.specs.Prelude.{IsTrue, ◌==◌, ◌||◌, not, nat_lt, if◌then◌else◌, bytes_eq}
use Rattle.std.specs.List.{AllByRecursion, list_all}
use Rattle.std.proofs.lemmas.Bool.Decides.{Decides-eqb}
use Rattle.std.proofs.lemmas.Bool.{ltb-true}
use Rattle.std.proofs.lemmas.Slice.Eq.{bytes_eq-Decides}
use Rattle.fleet_model.specs.Nodes.{Trees, Segment, names, names_contain, tree_at}
use Rattle.fleet_model.specs.Jobs.{JobSpec, nodes_of, is_drain, is_drain_to, Job, Jobs, contains}
use Rattle.fleet_model.specs.Trees.{source_pieces, tables_now}
use Rattle.fleet_model.specs.Sources.{run_ids, all_run_ids, is_whole_stretch, is_lowest_or_above, is_apart}
use Rattle.fleet_model.specs.Work.Records.{new_job, to_scheduled}
use Rattle.fleet_model.specs.Work.Gates.{first_failing, is_nonempty, are_distinct, destination_fits, reserves_nodes, is_free, submitted_rules, submit_gate, commit_gate}
use Rattle.fleet_model.specs.Invariants.JobsFit.{SourcesStand, DestinationFits}
use Rattle.step_laws.proofs.Elements.{IsIn, all_at, all_from, all_true_front, all_true_from, contains_no}
use Rattle.step_laws.proofs.Deletions.{in_flat}
use Rattle.step_laws.proofs.PollJobs.{stretch_in, tree_has}
use Rattle.commit_laws.proofs.Stretches.{both_true}
use Rattle.commit_laws.proofs.AtOnce.{all_pass}

pass_all : (rules : List (ℕ × Bool)) → AllByRecursion (λ rule. IsTrue rule.1) rules → first_failing rules ≡ None
pass_all [] h = refl
pass_all (rule ∷ rules) h = ap (λ b. if b then first_failing rules else Some rule.0) h.0 ∙ pass_all rules h.1

-- ---- submitted jobs

-- What the gate says of a submitted job that passes it.
pub record Submittable (trees : Trees) (jobs : Jobs) (lost : List ℕ) (job : Job) : Type 0 where
  pub some : IsTrue (is_nonempty job.spec.sources)
  pub stretch : IsTrue (is_drain job.spec || is_whole_stretch (tree_at job.spec.segment trees) job.spec.sources)
  pub to : IsTrue (destination_fits trees job.spec.sources job.spec.destination)
  pub free : IsTrue (is_free jobs lost job)

pub submittable : (trees : Trees) (jobs : Jobs) (lost : List ℕ) (accepts : JobSpec → Bool) (job : Job) → submit_gate trees jobs lost accepts job ≡ None → Submittable trees jobs lost job
submittable trees jobs lost accepts job e =
    let all = all_pass (submitted_rules trees jobs lost accepts job (tree_at job.spec.segment trees)) e in
    record { some = (both_true (is_nonempty job.spec.sources) (are_distinct job.spec.sources) all.0).0; stretch = all.1.1.1.1.0; to = all.1.1.1.1.1.1.0; free = all.1.1.1.1.1.1.1.0 }

-- A job that passes the gate passes it beside other jobs too, if it is free of what they hold.
pub passes_beside : (trees : Trees) (jobs others : Jobs) (lost : List ℕ) (accepts : JobSpec → Bool) (job : Job) → submit_gate trees jobs lost accepts job ≡ None → IsTrue (is_free others [] (new_job (job.id, job.spec)))
    → submit_gate trees others [] (λ other. true) (new_job (job.id, job.spec)) ≡ None
passes_beside trees jobs others lost accepts job e free =
    let all = all_pass (submitted_rules trees jobs lost accepts job (tree_at job.spec.segment trees)) e in
    pass_all (submitted_rules trees others [] (λ other. true) (new_job (job.id, job.spec)) (tree_at job.spec.segment trees))
    (all.0, (all.1.0, (all.1.1.0, (all.1.1.1.0, (all.1.1.1.1.0, (all.1.1.1.1.1.0, (all.1.1.1.1.1.1.0, (free, (refl, tt)))))))))

-- It is apart from each other job that holds nodes.
pub free_of : (jobs : Jobs) (lost : List ℕ) (job other : Job) → IsTrue (is_free jobs lost job) → IsIn other jobs → (job.id ≡ other.id → ⊥) → IsTrue (reserves_nodes other || contains lost other.id) → IsTrue (is_apart (nodes_of job.spec) (nodes_of other.spec))
free_of jobs lost job other free there differs holds =
    by (job.id == other.id) refl (reserves_nodes other || contains lost other.id) holds
    (all_at _ jobs other (all_true_front (λ (o : Job). (job.id == o.id) || not (reserves_nodes o || contains lost o.id) || is_apart (nodes_of job.spec) (nodes_of o.spec)) jobs free) there)
  where
    by : (same : Bool) → (job.id == other.id) ≡ same → (r : Bool) → IsTrue r → IsTrue (same || not r || is_apart (nodes_of job.spec) (nodes_of other.spec)) → IsTrue (is_apart (nodes_of job.spec) (nodes_of other.spec))
    by true e r h k = absurd (differs ((Decides-eqb job.id other.id).0 e))
    by false e true h k = k
    by false e false h k = absurd (cc h)

-- The other way round: a job is free if it is apart from all others that hold nodes.
pub is_free_if : (jobs : Jobs) (job : Job) → ((other : Job) → IsIn other jobs → (job.id ≡ other.id → ⊥) → IsTrue (reserves_nodes other) → IsTrue (is_apart (nodes_of job.spec) (nodes_of other.spec))) → IsTrue (is_free jobs [] job)
is_free_if jobs job h = all_true_from (λ (o : Job). (job.id == o.id) || not (reserves_nodes o || contains [] o.id) || is_apart (nodes_of job.spec) (nodes_of o.spec)) jobs
    (all_from _ jobs (λ other there. by other there (job.id == other.id) refl (reserves_nodes other) refl))
  where
    unequal : (b : Bool) → b ≡ false → b ≡ true → ⊥
    unequal true e f = absurd (cc e)
    unequal false e f = absurd (cc f)

    by : (other : Job) → IsIn other jobs → (same : Bool) → (job.id == other.id) ≡ same → (r : Bool) → reserves_nodes other ≡ r → IsTrue (same || not (r || false) || is_apart (nodes_of job.spec) (nodes_of other.spec))
    by other there true e r f = refl
    by other there false e true f = h other there (λ same. unequal (job.id == other.id) e ((Decides-eqb job.id other.id).1 same)) f
    by other there false e false f = refl

-- The sources of an opened job stand.
pub opened_stands : (trees : Trees) (jobs : Jobs) (lost : List ℕ) (accepts : JobSpec → Bool) (job : Job) → submit_gate trees jobs lost accepts job ≡ None → is_drain job.spec ≡ false → SourcesStand trees (to_scheduled (tables_now trees) job)
opened_stands trees jobs lost accepts job e runs =
    let s = submittable trees jobs lost accepts job e in
    record {
      some = s.some;
      stretch = subst (λ b. IsTrue (b || is_whole_stretch (tree_at job.spec.segment trees) job.spec.sources)) runs s.stretch;
      source_tables = refl;
      destination = to job.spec.destination runs s.to;
    }
  where
    among_all : AllByRecursion (λ r. IsIn r (all_run_ids trees)) (run_ids (names (tree_at job.spec.segment trees)))
    among_all = tree_has (λ tree. AllByRecursion (λ r. IsIn r (all_run_ids trees)) (run_ids (names tree))) job.spec.segment trees tt
        (all_from _ trees (λ s there. all_from _ (run_ids (names s.tree)) (λ r one. in_flat (λ (x : Segment). run_ids (names x.tree)) trees s r there one)))

    lowest : (id : ℕ) (sources : List ℕ) → IsTrue (is_lowest_or_above id sources (all_run_ids trees)) → IsTrue (is_lowest_or_above id sources (run_ids (names (tree_at job.spec.segment trees))))
    lowest id [] h = all_true_from (λ run. nat_lt run id) (run_ids (names (tree_at job.spec.segment trees))) (all_from _ (run_ids (names (tree_at job.spec.segment trees))) (λ r one.
        all_at (λ run. IsTrue (nat_lt run id)) (all_run_ids trees) r (all_true_front (λ run. nat_lt run id) (all_run_ids trees) h) (all_at _ (run_ids (names (tree_at job.spec.segment trees))) r among_all one)))
    lowest id (run ∷ runs) h = h

    above : (id : ℕ) → run_ids job.spec.sources ≡ [] → IsTrue (is_lowest_or_above id (run_ids job.spec.sources) (all_run_ids trees)) → IsTrue (not (contains (all_run_ids trees) id))
    above id none h = ap not (contains_no (all_run_ids trees) id (λ there.
        let low = ltb-true id id (all_at (λ r. IsTrue (nat_lt r id)) (all_run_ids trees) id (all_true_front (λ r. nat_lt r id) (all_run_ids trees) (subst (λ ids. IsTrue (is_lowest_or_above id ids (all_run_ids trees))) none h)) there) in
        absurd (omega (arith, low))))

    to : (d : Option ℕ) → is_drain_to d ≡ false → IsTrue (destination_fits trees job.spec.sources d) → DestinationFits trees (tree_at job.spec.segment trees) job.spec.sources d
    to None e h = absurd (cc e)
    to (Some id) e h =
        let both = both_true (not (id == 4294967295)) (is_lowest_or_above id (run_ids job.spec.sources) (all_run_ids trees)) h in
        (lowest id (run_ids job.spec.sources) both.1, λ none. above id none both.1)

-- ---- Compacted jobs

pub commits_too : (trees : Trees) (accepts : JobSpec → Bool) (job : Job) → commit_gate trees accepts job ≡ None → commit_gate trees (λ spec. true) job ≡ None
commits_too trees accepts job e =
    let four = list_all (names_contain (names (tree_at job.spec.segment trees))) job.spec.sources in
    let ten = bytes_eq (source_pieces job.spec.sources (tree_at job.spec.segment trees)) job.source_tables in
    let all = all_pass ((4, four) ∷ (10, ten) ∷ (0, accepts job.spec) ∷ []) e in
    pass_all ((4, four) ∷ (10, ten) ∷ (0, true) ∷ []) (all.0, (all.1.0, (refl, tt)))

-- A job whose sources stand fails by the scheduler's rule alone.
pub lost_by_scheduler : (trees : Trees) (accepts : JobSpec → Bool) (job : Job) (rule : ℕ) → SourcesStand trees job → commit_gate trees accepts job ≡ Some rule → rule ≡ 0
lost_by_scheduler trees accepts job rule stand e =
    by (list_all (names_contain (names (tree_at job.spec.segment trees))) job.spec.sources) (bytes_eq (source_pieces job.spec.sources (tree_at job.spec.segment trees)) job.source_tables) (accepts job.spec)
    (all_true_from (names_contain (names (tree_at job.spec.segment trees))) job.spec.sources (stretch_in (tree_at job.spec.segment trees) job.spec.sources stand.stretch))
    ((bytes_eq-Decides (source_pieces job.spec.sources (tree_at job.spec.segment trees)) job.source_tables).1 stand.source_tables) e
  where
    number : (n : ℕ) → Some 0 ≡ Some n → n ≡ 0
    number n e = sym (same e)
      where
        same : Some 0 ≡ Some n → 0 ≡ n
        same e = cc e

    by : (a b c : Bool) → IsTrue a → b ≡ true → first_failing ((4, a) ∷ (10, b) ∷ (0, c) ∷ []) ≡ Some rule → rule ≡ 0
    by true true true h k e = absurd (cc e)
    by true true false h k e = number rule e
    by true false c h k e = absurd (cc k)
    by false b c h k e = absurd (cc h)
