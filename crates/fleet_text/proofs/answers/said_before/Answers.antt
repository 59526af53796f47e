use Rattle.std.proofs.Common.{ℕ, List, [], ◌∷◌, ◌++◌, map, Bor, ap, ◌∙◌}
use Rattle.std.proofs.lemmas.Result.{IfOk-weaker}
use Rattle.script_model.specs.Replies.{reply}
use Rattle.fleet_text.proofs.Joined.{joined_before, some_mapped}
use Rattle.fleet_text.proofs.answers.said_before.Goals as goal

pub returns-clause-reply : goal.returns-clause-reply
returns-clause-reply c =
    let words = map (λ (word : Bor (List ℕ)). word.now) c.args.words.now in
    let last = c.args.last.now in
    IfOk-weaker c.said.result _ _ (λ answer is. is ∙ ap (λ text. reply (text ∷ last ∷ [])) (c.as_str.ensures.value ∙ c.in_ok-text.ensures) ∙ ap (λ text. text ++ 10 ∷ []) (joined_before 32 words last (some_mapped (λ (word : Bor (List ℕ)). word.now) c.args.words.now c.requires))) c.said.ensures.reply
