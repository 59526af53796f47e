use Rattle.std.proofs.Common.{refl, sym, ◌∙◌}
use Rattle.std.proofs.lemmas.Result.{IfOk-weaker}
use Rattle.script_model.specs.Words.{comma}
use Rattle.fleet_text.proofs.Between.{some_listed}
use Rattle.fleet_text.proofs.lists.listed_each.Goals as goal

pub returns : goal.returns
returns g c = IfOk-weaker c.between_each.result _ _ (λ text all. all comma refl ∙ some_listed comma g.T.Prints.text c.args.items.now (sym c.is_empty.ensures ∙ c.if-is_empty.false)) c.between_each.ensures
