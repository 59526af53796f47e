use Rattle.std.proofs.Common.{arith}
use Rattle.fleet_text.proofs.Fields.{eight_reads}
use Rattle.fleet_text.proofs.forms.line_from.Goals as goal

pub returns-then-fields-eq8 : goal.returns-then-fields-eq8
returns-then-fields-eq8 c = eight_reads c.args.fields.now _ _ _ _ _ _ _ _ c.eight_from.result (omega (arith, c.if-fields-eq8.true)) c.eight_from.ensures
