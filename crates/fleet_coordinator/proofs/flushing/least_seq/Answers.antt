use Rattle.std.proofs.Common.{◌∙◌}
use Rattle.fleet_coordinator.proofs.FlushRules.{least_at}
use Rattle.fleet_coordinator.proofs.flushing.least_seq.Goals as goal

pub returns : goal.returns
returns c = c.least_from.ensures ∙ least_at c.args.rows.now c.index-rows-0.result c.requires
