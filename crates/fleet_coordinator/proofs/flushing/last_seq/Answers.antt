use Rattle.std.proofs.Common.{◌∙◌, ap, sym, Some, None}
use Rattle.std.specs.Option.{option_copied}
use Rattle.fleet_tree.specs.Trees.{trees_with_prefix}
use Rattle.fleet_coordinator.proofs.FlushRules.{last_at}
use Rattle.fleet_coordinator.proofs.flushing.last_seq.Goals as goal

pub returns-in-Some : goal.returns-in-Some
returns-in-Some c = last_at c.args.segment.now (trees_with_prefix c.args.core.now) (Some c.in-Some.tree.now) (sym (ap option_copied c.in-Some.is) ∙ c.tree_for_segment.ensures)

pub returns-in-None : goal.returns-in-None
returns-in-None c = last_at c.args.segment.now (trees_with_prefix c.args.core.now) None (sym (ap option_copied c.in-None.is) ∙ c.tree_for_segment.ensures)
