use Rattle.std.proofs.Common.{ap, ◌∙◌, decimal}
use Rattle.std.proofs.lemmas.Result.{IfOk-weaker}
use Rattle.fleet_model.specs.Jobs.{number_of}
use Rattle.script_model.specs.Words.{list_text, comma}
use Rattle.fleet_text.proofs.Parts.{mapped_twice}
use Rattle.fleet_text.proofs.lists.jobs_text.Goals as goal

pub returns : goal.returns
returns c = IfOk-weaker c.listed_each.result _ _ (λ text is. is ∙ ap (list_text comma) (mapped_twice number_of decimal c.args.jobs.now)) c.listed_each.ensures
