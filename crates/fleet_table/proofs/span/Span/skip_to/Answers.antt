use Rattle.fleet_table.proofs.Spans.{skipped_span, stayed_span}
use Rattle.fleet_table.proofs.span.Span.skip_to.Goals as goal

pub returns-then-self-cursor : goal.returns-then-self-cursor
returns-then-self-cursor c =
    skipped_span c.args.key.now c.self.inside.table.now c.args.self.now c.self.inside.cursor.row c.self.inside.end c.find-cursor.result.row c.know_table.ensures.ordered c.self.view_is c.find-cursor.ensures.row c.if-self-cursor.true

pub returns-else-self-cursor : goal.returns-else-self-cursor
returns-else-self-cursor c =
    stayed_span c.args.key.now c.self.inside.table.now c.args.self.now c.self.inside.cursor.row c.self.inside.end c.find-cursor.result.row c.know_table.ensures.ordered c.self.view_is c.find-cursor.ensures.row c.if-self-cursor.false
