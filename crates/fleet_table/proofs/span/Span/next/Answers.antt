use Rattle.fleet_rows.specs.Row.{row_of}
use Rattle.fleet_table.proofs.Spans.{taken_span}
use Rattle.fleet_table.proofs.span.Span.next.Goals as goal

pub returns-clause-row : goal.returns-clause-row
returns-clause-row c =
    taken_span c.self.inside.table.now c.args.self.now c.self.inside.cursor.row c.in-Ok.found.1.row c.self.inside.end (row_of c.in-Ok.found.0) c.self.view_is c.if-self.false c.in-Ok.ensures.value c.in-Ok.ensures.row
