use Rattle.std.proofs.Common.{◌∙◌, ap, ℤ}
use Rattle.std.specs.Int.{w64}
use Rattle.std.proofs.lemmas.Int.{to_z-of_z}
use Rattle.fleet_read.specs.Answers.{stored_answer}
use Rattle.fleet_looks.proofs.KeyReads.{reads_said}
use Rattle.fleet_looks.proofs.reads.read_key.Goals as goal

pub returns-clause-reply : goal.returns-clause-reply
returns-clause-reply g c =
    let merge = g.O.MergeOperator.merged (g.O.MergeOperator.settings c.args.operator.now) in
    let store = c.args.store.now.world.store in
    reads_said merge store c.args.segment.now c.args.key.now c.args.seq c.args.now c.in_ok-answer.answer c.answer_reply.result c.requires
    (c.in_ok-answer.ensures.answer ∙ ap (λ (now : ℤ). stored_answer merge store c.args.segment.now c.args.key.now c.args.seq now) (to_z-of_z w64 c.args.now c.ranges.now)) c.answer_reply.ensures.reply
