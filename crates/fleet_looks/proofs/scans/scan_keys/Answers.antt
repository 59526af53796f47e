use Rattle.std.proofs.Common.{◌∙◌, ap, ℤ}
use Rattle.std.specs.Int.{w64}
use Rattle.std.proofs.lemmas.Int.{to_z-of_z}
use Rattle.fleet_range.specs.Keys.{range_of}
use Rattle.fleet_read.specs.Pages.{scan_answer}
use Rattle.fleet_looks.proofs.KeyScans.{scans_said}
use Rattle.fleet_looks.proofs.scans.scan_keys.Goals as goal

pub returns-clause-reply : goal.returns-clause-reply
returns-clause-reply g c =
    let merge = g.O.MergeOperator.merged (g.O.MergeOperator.settings c.args.operator.now) in
    let store = c.args.store.now.world.store in
    let range = range_of c.in_ok-range.range in
    scans_said merge store c.args.segment.now c.args.from.now c.args.to.now c.args.seq c.args.now c.args.limit range c.in_ok-answer.answer c.answer_reply.result c.in_ok-range.ensures.keys
    (c.in_ok-answer.ensures.answer ∙ ap (λ (moment : ℤ). scan_answer merge store c.args.segment.now range c.args.seq moment c.args.limit) (to_z-of_z w64 c.args.now c.ranges.now)) c.answer_reply.ensures.reply
