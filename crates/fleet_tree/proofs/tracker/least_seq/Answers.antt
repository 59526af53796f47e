use Rattle.std.proofs.Common.{◌∙◌}
use Rattle.fleet_tree.proofs.Tracking.{least_at}
use Rattle.fleet_tree.proofs.tracker.least_seq.Goals as goal

pub returns-in-len1-up : goal.returns-in-len1-up
returns-in-len1-up c = c.least_from.ensures ∙ least_at c.args.rows.now c.first-item.result c.in-len1-up.len_at_least c.first-item.is
