use Rattle.std.proofs.Common.{◌∙◌}
use Rattle.fleet_table.proofs.Spans.{end_open}
use Rattle.fleet_table.proofs.span.end_of.Goals as goal

pub returns-in-Unbounded-clause-value : goal.returns-in-Unbounded-clause-value
returns-in-Unbounded-clause-value c = c.count.ensures ∙ end_open c.args.range.now c.args.table.now c.in-Unbounded.ensures
