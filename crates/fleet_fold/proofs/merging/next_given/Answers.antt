use Rattle.std.proofs.Common.{◌≡◌, None, arith}
use Rattle.std.proofs.lemmas.Grind.{common_steps}
use Rattle.fleet_fold.proofs.ReadNexts.{given_handed}
use Rattle.fleet_fold.proofs.merging.next_given.Goals as goal

pub returns-clause-handed : goal.returns-clause-handed
returns-clause-handed g c =
    let merge = g.B.BatchMerger.fold c.args.operator.now in
    let f = g.T.RowSource.state in
    let new = c.make_next.new in
    let none : c.args.ahead.now ≡ None = grind (arith, common_steps) in
    given_handed merge c.args.rule.now c.args.failure.now c.args.ahead.now (f c.args.inner.now) new.failure new.ahead (f new.inner) new.read c.in_ok-check.ensures.alive none c.requires.reads
    (λ reads. c.make_next.ensures.made (f c.args.inner.now) c.next_row-read.ensures.next reads)
