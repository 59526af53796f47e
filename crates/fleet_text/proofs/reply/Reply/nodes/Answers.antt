use Rattle.std.proofs.Common.{ap, ◌∙◌, ◌++◌}
use Rattle.std.proofs.lemmas.Result.{on_ok_weaker}
use Rattle.script_model.specs.Words.{nodes_text}
use Rattle.fleet_text.proofs.Parts.{names_of_tree}
use Rattle.fleet_text.proofs.reply.Reply.nodes.Goals as goal

pub returns-clause-ok : goal.returns-clause-ok
returns-clause-ok c =
    on_ok_weaker c.word.result (λ is flushes. is ∙ ap (λ text. c.args.self.now ++ text) (c.as_str.ensures.value ∙ c.in_ok-text.ensures ∙ ap nodes_text (names_of_tree flushes c.args.tree.now))) c.word.ensures.ok
