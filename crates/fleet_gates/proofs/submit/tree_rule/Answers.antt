use Rattle.std.proofs.Common.{◌≡◌, ◌∙◌, sym, ap, drop, subst, take, IfOk}
use Rattle.std.specs.Prelude.{is_some, None, Some}
use Rattle.std.specs.Option.{option_copied}
use Rattle.fleet_model.specs.Nodes.{segment_at}
use Rattle.fleet_tree.specs.Trees.{trees_of, trees_with_prefix}
use Rattle.fleet_jobs.specs.Jobs.{job_of}
use Rattle.fleet_jobs.specs.Places.{nodes_if_there}
use Rattle.fleet_jobs.specs.Specs.{segment_of}
use Rattle.fleet_jobs.specs.Taken.{tree_in}
use Rattle.fleet_jobs.proofs.ModelPlaces.{nodes_are_the_models}
use Rattle.fleet_gates.specs.Rules.{rule_number, rules_for}
use Rattle.fleet_gates.proofs.FirstRules.{fails_here, passes_here}
use Rattle.fleet_gates.proofs.ModelTrees.{there_are}
use Rattle.fleet_gates.proofs.submit.tree_rule.Goals as goal

pub returns-in-Some : goal.returns-in-Some
returns-in-Some c = λ flushes jobs lost.
    let core = c.args.core.now in
    let trees = trees_of flushes core in
    let p = segment_of c.args.job.now.spec in
    let rules = rules_for trees jobs lost (job_of c.args.job.now) in
    let at = c.as_slice.ensures ∙ c.segment.ensures ∙ ap segment_of c.spec.ensures in
    let found : tree_in p core ≡ Some c.in-Some.tree.now = sym (ap option_copied (sym c.in-Some.is) ∙ c.tree_for_segment.ensures ∙ ap (λ q. tree_in q core) at) in
    let nodes = nodes_are_the_models flushes p core ∙ ap nodes_if_there found in
    let there = sym (there_are flushes p (trees_with_prefix core)) ∙ ap is_some found in
    subst (λ failing. IfOk c.rule_in_tree.result (λ rule. rule_number rule ≡ failing)) (passes_here 3 (is_some (segment_at p trees)) (take 3 (drop 3 rules)) there) (c.rule_in_tree.ensures trees jobs lost nodes)

pub returns-in-None : goal.returns-in-None
returns-in-None c = λ flushes jobs lost.
    let core = c.args.core.now in
    let trees = trees_of flushes core in
    let p = segment_of c.args.job.now.spec in
    let rules = rules_for trees jobs lost (job_of c.args.job.now) in
    let at = c.as_slice.ensures ∙ c.segment.ensures ∙ ap segment_of c.spec.ensures in
    let found : tree_in p core ≡ None = sym (ap option_copied (sym c.in-None.is) ∙ c.tree_for_segment.ensures ∙ ap (λ q. tree_in q core) at) in
    fails_here 3 (is_some (segment_at p trees)) (take 3 (drop 3 rules)) (sym (there_are flushes p (trees_with_prefix core)) ∙ ap is_some found)
