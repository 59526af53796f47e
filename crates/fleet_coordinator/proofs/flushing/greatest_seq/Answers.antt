use Rattle.std.proofs.Common.{◌∙◌, ap, sym, Some}
use Rattle.fleet_coordinator.proofs.FlushRules.{greatest_at}
use Rattle.fleet_coordinator.proofs.flushing.greatest_seq.Goals as goal

pub returns : goal.returns
returns c = greatest_at c.args.rows.now c.index-rows-0.result c.requires ∙ ap Some (sym c.greatest_from.ensures)
