-- Rules by their numbers, and the rules that a job meets on given trees.
use Rattle.std.specs.Prelude.{ℕ, Bool, true, List, Option, Some, None, option_map, if◌then◌else◌}
use Rattle.fleet_model.specs.Work.Gates.{submitted_rules}
use Rattle.fleet_model.specs.Jobs.{Job, JobSpec, Jobs}
use Rattle.fleet_model.specs.Nodes.{Trees, tree_at}
use Rattle.fleet_gates.specs.declared.rule.Rule.{Rule}
use Rattle.fleet_gates.specs.declared.rule.Rule.TheVariants as own

-- The number of a rule.
abbrev pub number_of : Rule → ℕ
number_of own.Sources = 1
number_of own.DrainedSegment = 2
number_of own.Tree = 3
number_of own.SourcesInTree = 4
number_of own.WholeStretch = 5
number_of own.OlderFlushes = 6
number_of own.Destination = 7
number_of own.FreeNodes = 8
number_of own.SourceTables = 10
number_of own.Scheduler = 0

-- The number of the rule, if there is one.
abbrev pub rule_number : Option Rule → Option ℕ
rule_number rule = option_map number_of rule

-- Accepts each job.
abbrev pub accept_each : JobSpec → Bool
accept_each spec = true

-- The rules for a submitted job on these trees and among these jobs, if the scheduler accepts each job.
abbrev pub rules_for : (trees : Trees) (jobs : Jobs) (lost : List ℕ) (job : Job) → List (ℕ × Bool)
rules_for trees jobs lost job = submitted_rules trees jobs lost accept_each job (tree_at job.spec.segment trees)

-- The rule that fails, given whether the scheduler accepts the job and the first other rule that fails. The scheduler
-- counts only if all other rules hold.
abbrev pub asked_last : Bool → Option ℕ → Option ℕ
asked_last accepted None = if accepted then None else Some 0
asked_last accepted (Some rule) = Some rule
