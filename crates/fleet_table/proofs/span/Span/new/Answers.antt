use Rattle.fleet_range.specs.Keys.{range_of}
use Rattle.fleet_table.proofs.Spans.{range_between}
use Rattle.fleet_table.proofs.span.Span.new.Goals as goal

pub returns : goal.returns
returns c = range_between (range_of c.args.range.now) c.args.table.now c.start_of-cursor.result.row c.end_of-end.result c.know_table.ensures.ordered c.start_of-cursor.ensures.row c.end_of-end.ensures.value
