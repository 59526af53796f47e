use Rattle.std.proofs.Common.{◌∙◌}
use Rattle.fleet_looks.proofs.LookLines.{found_either_way}
use Rattle.fleet_looks.proofs.looks.run_with.Goals as goal

pub returns : goal.returns
returns c = c.with_id.ensures ∙ found_either_way c.args.id c.args.runs.now
