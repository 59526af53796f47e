use Rattle.std.proofs.Common.{ℕ, List, Bor, ◌∙◌}
use Rattle.std.proofs.lemmas.Result.{IfOk-weaker}
use Rattle.fleet_text.proofs.Joined.{joined_by}
use Rattle.fleet_text.proofs.answers.spaced.Goals as goal

pub returns : goal.returns
returns c = IfOk-weaker c.join.result _ _ (λ text is. is ∙ joined_by 32 (λ (word : Bor (List ℕ)). word.now) c.args.words.now) c.join.ensures.ok
