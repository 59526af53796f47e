use Rattle.std.proofs.Common.{ap, ◌∙◌}
use Rattle.std.proofs.lemmas.Result.{IfOk-weaker}
use Rattle.fleet_rows.specs.Row.{row_of}
use Rattle.script_model.specs.Words.{row_text, list_text, comma}
use Rattle.fleet_text.proofs.Parts.{mapped_twice}
use Rattle.fleet_text.proofs.listings.rows_listed.Goals as goal

pub returns : goal.returns
returns c = IfOk-weaker c.listed_each.result _ _ (λ text is. is ∙ ap (list_text comma) (mapped_twice row_of row_text c.args.rows.now)) c.listed_each.ensures
