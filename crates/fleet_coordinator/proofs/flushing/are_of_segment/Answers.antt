use Rattle.std.proofs.Common.{◌∙◌}
use Rattle.fleet_coordinator.proofs.FlushRules.{all_of_segment}
use Rattle.fleet_coordinator.proofs.flushing.are_of_segment.Goals as goal

pub returns : goal.returns
returns c = c.all_begin_with.ensures ∙ all_of_segment c.args.segment.now c.args.rows.now
