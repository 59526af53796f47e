use Rattle.std.proofs.Common.{◌∙◌, ap, string_bytes}
use Rattle.std.specs.List.{join_by}
use Rattle.std.proofs.lemmas.Result.{IfOk-weaker}
use Rattle.fleet_text.proofs.Joined.{list_joined}
use Rattle.fleet_text.proofs.lists.joined.Goals as goal

pub returns : goal.returns
returns c = IfOk-weaker c.join.result _ _ (λ text is cut one. is ∙ ap (λ between. join_by string_bytes between c.args.words.now) one ∙ list_joined cut string_bytes c.args.words.now c.requires) c.join.ensures.ok
