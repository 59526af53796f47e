use Rattle.std.proofs.Common.{◌∙◌, sym, ap, drop, take}
use Rattle.fleet_tree.specs.Trees.{trees_of}
use Rattle.fleet_jobs.specs.Jobs.{job_of}
use Rattle.fleet_gates.specs.Rules.{number_of, rule_number, rules_for}
use Rattle.fleet_gates.proofs.FirstRules.{fails_in_front, passes_front}
use Rattle.fleet_gates.proofs.submit.submit_rules.Goals as goal

pub returns-in-Some : goal.returns-in-Some
returns-in-Some c = λ flushes jobs lost decides.
    let trees = trees_of flushes c.args.core.now in
    let rules = rules_for trees jobs lost (job_of c.args.job.now) in
    fails_in_front (take 2 rules) (drop 2 rules) (number_of c.in-Some.rule) (ap rule_number (sym c.in-Some.is) ∙ c.in_ok-rule.ensures trees jobs lost)

pub returns-in-Some-2 : goal.returns-in-Some-2
returns-in-Some-2 c = λ flushes jobs lost decides.
    let trees = trees_of flushes c.args.core.now in
    let rules = rules_for trees jobs lost (job_of c.args.job.now) in
    fails_in_front (take 4 (drop 2 rules)) (drop 6 rules) (number_of c.in-Some-2.rule) (ap rule_number (sym c.in-Some-2.is) ∙ c.in_ok-rule-2.ensures flushes jobs lost)
    ∙ passes_front (take 2 rules) (drop 2 rules) (ap rule_number (sym c.in_default.is) ∙ c.in_ok-rule.ensures trees jobs lost)

pub returns : goal.returns
returns c = λ flushes jobs lost decides.
    let trees = trees_of flushes c.args.core.now in
    let rules = rules_for trees jobs lost (job_of c.args.job.now) in
    c.target_rule.ensures flushes jobs lost decides
    ∙ passes_front (take 4 (drop 2 rules)) (drop 6 rules) (ap rule_number (sym c.in_default-2.is) ∙ c.in_ok-rule-2.ensures flushes jobs lost)
    ∙ passes_front (take 2 rules) (drop 2 rules) (ap rule_number (sym c.in_default.is) ∙ c.in_ok-rule.ensures trees jobs lost)
