-- The first rule that fails, of rules in two parts.
use Rattle.std.proofs.Common.{◌≡◌, refl, sym, ◌∙◌, ap, subst, ℕ, List, [], ◌∷◌, ◌++◌, take, Bool, true, false, cond}
use Rattle.std.specs.Prelude.{IfOk, Option, Some, None, Result}
use Rattle.std.specs.List.{list_all}
use Rattle.fleet_model.specs.Work.Gates.{commit_gate, first_failing, submit_gate, submitted_rules}
use Rattle.fleet_model.specs.Jobs.{Job, JobSpec, Jobs, ids_eq}
use Rattle.fleet_model.specs.Nodes.{Trees, names, names_contain, tree_at}
use Rattle.fleet_model.specs.Trees.{source_pieces}
use Rattle.fleet_rows.specs.declared.errors.SlateDBError.{SlateDBError}
use Rattle.fleet_gates.specs.Laws.{SchedulersAreAskedLast}
use Rattle.fleet_gates.specs.Rules.{accept_each, asked_last, rule_number}
use Rattle.fleet_gates.specs.declared.rule.Rule.{Rule}

-- A rule that fails in front is the first one that fails.
pub fails_in_front : (front rules : List (ℕ × Bool)) (rule : ℕ) → Some rule ≡ first_failing front → Some rule ≡ first_failing (front ++ rules)
fails_in_front [] rules rule e = absurd (cc e)
fails_in_front (r ∷ front) rules rule e = by r.1 e (fails_in_front front rules rule)
  where
    by : (b : Bool) → Some rule ≡ cond b (first_failing front) (Some r.0) → (Some rule ≡ first_failing front → Some rule ≡ first_failing (front ++ rules))
        → Some rule ≡ cond b (first_failing (front ++ rules)) (Some r.0)
    by true h rest = rest h
    by false h rest = h

-- If no rule fails in front, the first one that fails is among the later ones.
pub passes_front : (front rules : List (ℕ × Bool)) → None ≡ first_failing front → first_failing rules ≡ first_failing (front ++ rules)
passes_front [] rules e = refl
passes_front (r ∷ front) rules e = by r.1 e (passes_front front rules)
  where
    by : (b : Bool) → None ≡ cond b (first_failing front) (Some r.0) → (None ≡ first_failing front → first_failing rules ≡ first_failing (front ++ rules))
        → first_failing rules ≡ cond b (first_failing (front ++ rules)) (Some r.0)
    by true h rest = rest h
    by false h rest = absurd (cc h)

-- A rule that fails is the first one that fails of it and later rules.
pub fails_here : (rule : ℕ) (holds : Bool) (rules : List (ℕ × Bool)) → holds ≡ false → Some rule ≡ first_failing ((rule, holds) ∷ rules)
fails_here rule true rules e = absurd (cc e)
fails_here rule false rules e = refl

-- If a rule holds, the first one that fails is among the later ones.
pub passes_here : (rule : ℕ) (holds : Bool) (rules : List (ℕ × Bool)) → holds ≡ true → first_failing rules ≡ first_failing ((rule, holds) ∷ rules)
passes_here rule true rules e = refl
passes_here rule false rules e = absurd (cc e)

-- A last rule counts only if all others hold.
last_rule : (rules : List (ℕ × Bool)) (accepted : Bool) → first_failing (rules ++ (0, accepted) ∷ []) ≡ asked_last accepted (first_failing (rules ++ (0, true) ∷ []))
last_rule [] accepted = refl
last_rule (r ∷ rules) accepted = by r.1 (last_rule rules accepted)
  where
    by : (b : Bool) → first_failing (rules ++ (0, accepted) ∷ []) ≡ asked_last accepted (first_failing (rules ++ (0, true) ∷ []))
        → cond b (first_failing (rules ++ (0, accepted) ∷ [])) (Some r.0) ≡ asked_last accepted (cond b (first_failing (rules ++ (0, true) ∷ [])) (Some r.0))
    by true rest = rest
    by false rest = refl

pub schedulers_are_asked_last : SchedulersAreAskedLast
schedulers_are_asked_last = record {
  submit = λ trees jobs lost accepts job. last_rule (take 8 (submitted_rules trees jobs lost accepts job (tree_at job.spec.segment trees))) (accepts job.spec);
  commit = λ trees accepts job. last_rule ((4, list_all (names_contain (names (tree_at job.spec.segment trees))) job.spec.sources) ∷ (10, ids_eq (source_pieces job.spec.sources (tree_at job.spec.segment trees)) job.source_tables) ∷ []) (accepts job.spec);
}

-- A rule that fails for each scheduler is the first one that fails for this one.
pub submit_fails : (trees : Trees) (jobs : Jobs) (lost : List ℕ) (accepts : JobSpec → Bool) (job : Job) (rule : ℕ)
    → Some rule ≡ submit_gate trees jobs lost accept_each job → Some rule ≡ submit_gate trees jobs lost accepts job
submit_fails trees jobs lost accepts job rule fails = ap (asked_last (accepts job.spec)) fails ∙ sym (schedulers_are_asked_last.submit trees jobs lost accepts job)

-- If all other rules hold, the scheduler decides.
pub submit_asks : (trees : Trees) (jobs : Jobs) (lost : List ℕ) (accepts : JobSpec → Bool) (job : Job) (spec : JobSpec) (r : Result (Option Rule) SlateDBError) → spec ≡ job.spec
    → None ≡ submit_gate trees jobs lost accept_each job → IfOk r (λ rule. rule_number rule ≡ asked_last (accepts spec) None) → IfOk r (λ rule. rule_number rule ≡ submit_gate trees jobs lost accepts job)
submit_asks trees jobs lost accepts job spec r same passes decided =
    subst (λ failing. IfOk r (λ rule. rule_number rule ≡ failing))
    (ap (λ s. asked_last (accepts s) None) same ∙ ap (asked_last (accepts job.spec)) passes ∙ sym (schedulers_are_asked_last.submit trees jobs lost accepts job))
    decided

pub commit_fails : (trees : Trees) (accepts : JobSpec → Bool) (job : Job) (rule : ℕ) → Some rule ≡ commit_gate trees accept_each job → Some rule ≡ commit_gate trees accepts job
commit_fails trees accepts job rule fails = ap (asked_last (accepts job.spec)) fails ∙ sym (schedulers_are_asked_last.commit trees accepts job)

pub commit_asks : (trees : Trees) (accepts : JobSpec → Bool) (job : Job) (spec : JobSpec) (r : Result (Option Rule) SlateDBError) → spec ≡ job.spec
    → None ≡ commit_gate trees accept_each job → IfOk r (λ rule. rule_number rule ≡ asked_last (accepts spec) None) → IfOk r (λ rule. rule_number rule ≡ commit_gate trees accepts job)
commit_asks trees accepts job spec r same passes decided =
    subst (λ failing. IfOk r (λ rule. rule_number rule ≡ failing))
    (ap (λ s. asked_last (accepts s) None) same ∙ ap (asked_last (accepts job.spec)) passes ∙ sym (schedulers_are_asked_last.commit trees accepts job))
    decided
