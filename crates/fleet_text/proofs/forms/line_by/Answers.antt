use Rattle.std.proofs.Common.{sym, ap, ◌∙◌, map}
use Rattle.fleet_text.proofs.Fields.{line_result, now_of}
use Rattle.fleet_text.proofs.forms.line_by.Goals as goal

pub returns : goal.returns
returns c = line_result c.args.text.now _ c.line_from.result (sym c.in_ok-fill_parts.ensures ∙ ap (map now_of) (sym c.as_slice.ensures.value)) c.line_from.ensures
