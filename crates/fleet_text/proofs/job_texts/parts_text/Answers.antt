use Rattle.std.proofs.Common.{ap, ◌∙◌}
use Rattle.std.specs.List.{join_with_byte}
use Rattle.std.proofs.lemmas.Result.{IfOk-weaker}
use Rattle.fleet_text.proofs.Parts.{parts_ranges}
use Rattle.fleet_text.proofs.job_texts.parts_text.Goals as goal

pub returns : goal.returns
returns c = IfOk-weaker c.listed_ranges.result _ _ (λ text is. is ∙ ap (join_with_byte 124) (parts_ranges c.args.parts.now)) c.listed_ranges.ensures
