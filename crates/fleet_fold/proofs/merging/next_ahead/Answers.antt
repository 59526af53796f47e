use Rattle.fleet_fold.proofs.ReadNexts.{gives_ahead}
use Rattle.fleet_fold.proofs.merging.next_ahead.Goals as goal

pub returns-clause-next : goal.returns-clause-next
returns-clause-next g c =
    let merge = g.B.BatchMerger.fold c.args.operator.now in
    let f = g.T.RowSource.state in
    let new = c.make_next.new in
    (gives_ahead merge c.args.rule.now c.args.failure.now c.args.ahead.now c.take.result (f c.args.inner.now) new.failure new.ahead (f new.inner) new.read c.requires.alive c.take.ensures.value c.requires.some c.requires.reads c.make_next.ensures.made).next

pub returns-clause-handed : goal.returns-clause-handed
returns-clause-handed g c =
    let merge = g.B.BatchMerger.fold c.args.operator.now in
    let f = g.T.RowSource.state in
    let new = c.make_next.new in
    (gives_ahead merge c.args.rule.now c.args.failure.now c.args.ahead.now c.take.result (f c.args.inner.now) new.failure new.ahead (f new.inner) new.read c.requires.alive c.take.ensures.value c.requires.some c.requires.reads c.make_next.ensures.made).handed

pub returns-clause-reads : goal.returns-clause-reads
returns-clause-reads g c =
    let merge = g.B.BatchMerger.fold c.args.operator.now in
    let f = g.T.RowSource.state in
    let new = c.make_next.new in
    (gives_ahead merge c.args.rule.now c.args.failure.now c.args.ahead.now c.take.result (f c.args.inner.now) new.failure new.ahead (f new.inner) new.read c.requires.alive c.take.ensures.value c.requires.some c.requires.reads c.make_next.ensures.made).reads
