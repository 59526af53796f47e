use Rattle.std.proofs.Common.{◌∙◌}
use Rattle.fleet_jobs.proofs.Standing.{contained}
use Rattle.fleet_lock.proofs.last_entry.contains.Goals as goal

pub returns : goal.returns
returns c = c.has.ensures ∙ contained c.args.id c.args.ids.now
