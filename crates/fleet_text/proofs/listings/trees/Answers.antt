use Rattle.std.proofs.Common.{ap, ◌∙◌, ◌∷◌, [], codes}
use Rattle.std.proofs.lemmas.Result.{IfOk-weaker}
use Rattle.script_model.specs.Words.{list_text}
use Rattle.script_model.specs.Replies.{reply, semicolon}
use Rattle.fleet_text.proofs.Parts.{trees_texts}
use Rattle.fleet_text.proofs.listings.trees.Goals as goal

pub returns-clause-reply : goal.returns-clause-reply
returns-clause-reply c =
    IfOk-weaker c.said.result _ _ (λ answer is flushes. is ∙ ap (λ text. reply (codes "ok" ∷ text ∷ [])) (c.as_str.ensures.value ∙ c.in_ok-trees.ensures ∙ ap (list_text semicolon) (trees_texts flushes c.args.core.now))) c.said.ensures.reply
