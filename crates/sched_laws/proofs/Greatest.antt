-- The greatest id of a run is refused, and may be proposed.
use Rattle.std.proofs.Common.{◌≡◌, ◌≢◌, refl, ap, ℕ, List, [], ◌∷◌, cond, Bool, true, false}
use Rattle.std.specs.Prelude.{Some, None}
use Rattle.std.specs.List.{AllByRecursion}
use Rattle.std.specs.List.Sorted.{IsStrictlySortedBy}
use Rattle.fleet_model.specs.Work.Gates.{destination_fits, first_failing, submit_gate, submitted_rules}
use Rattle.fleet_model.specs.Jobs.{Job, Jobs, JobSpec}
use Rattle.fleet_model.specs.Nodes.{Trees, tree_at}
use Rattle.sched_model.specs.SizeTiered.{tiered_proposals}
use Rattle.sched_laws.specs.Greatest.{GreatestIdIsProposed, high_view}
use Rattle.sched_laws.specs.Views.{ViewStands}

none_fails : (rules : List (ℕ × Bool)) → first_failing rules ≡ None → AllByRecursion (λ rule. rule.1 ≡ true) rules
none_fails [] none = tt
none_fails (rule ∷ rules) none = by rule.1 none (none_fails rules)
  where
    by : (b : Bool) → cond b (first_failing rules) (Some rule.0) ≡ None → (first_failing rules ≡ None → AllByRecursion (λ r. r.1 ≡ true) rules)
        → (b ≡ true) × AllByRecursion (λ r. r.1 ≡ true) rules
    by true none later = (refl, later none)
    by false none later = absurd (cc none)

pub greatest_id_is_refused : (trees : Trees) (jobs : Jobs) (lost : List ℕ) (accepts : JobSpec → Bool) (job : Job) → job.spec.destination ≡ Some 4294967295 → submit_gate trees jobs lost accepts job ≢ None
greatest_id_is_refused trees jobs lost accepts job greatest none =
    let all = none_fails (submitted_rules trees jobs lost accepts job (tree_at job.spec.segment trees)) none in
    let fits : destination_fits trees job.spec.sources job.spec.destination ≡ true = all.1.1.1.1.1.1.0 in
    let fails : destination_fits trees job.spec.sources job.spec.destination ≡ false = ap (destination_fits trees job.spec.sources) greatest in
    cc (fits, fails)

stands : ViewStands high_view
unfolding IsStrictlySortedBy
stands = record {
  prefixes = (tt, tt);
  in_order = (((tt, (tt, tt)), ((tt, tt), (tt, tt))), tt);
  named_once = (refl, tt);
  apart = (tt, tt);
  jobs = tt;
}

pub greatest_id_is_proposed : GreatestIdIsProposed
unfolding tiered_proposals
greatest_id_is_proposed = record { stands = stands; proposed = refl }
