use Rattle.std.proofs.Common.{ap, ◌∙◌}
use Rattle.std.specs.List.{join_with_byte}
use Rattle.std.proofs.lemmas.Result.{IfOk-weaker}
use Rattle.fleet_jobs.specs.Contexts.{table_ids}
use Rattle.script_model.specs.Replies.{tables_text}
use Rattle.fleet_text.proofs.Parts.{mapped_twice}
use Rattle.fleet_text.proofs.reply.outputs_text.Goals as goal

pub returns : goal.returns
returns c = IfOk-weaker c.listed_ranges.result _ _ (λ text is. is ∙ ap (join_with_byte 124) (mapped_twice table_ids tables_text c.args.ranges.now)) c.listed_ranges.ensures
