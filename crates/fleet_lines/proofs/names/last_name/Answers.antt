use Rattle.std.proofs.Common.{rules, ◌∙◌}
use Rattle.fleet_lines.proofs.NamesAfter.{fold_rest}
use Rattle.fleet_lines.proofs.names.last_name.Goals as goal

pub returns-in-Ok-clause-name : goal.returns-in-Ok-clause-name
returns-in-Ok-clause-name c = (search rules) ∙ (c.greatest_name-name.ensures ∙ fold_rest c.args.from c.args.history.now c.args.last)
