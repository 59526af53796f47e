use Rattle.std.proofs.Common.{rules}
use Rattle.fleet_fold.proofs.Plain.{next_refused_plain}
use Rattle.fleet_fold.proofs.required_operator.MergeOperatorRequiredIteratorRowEntryIterator.next.Goals as goal

pub returns-in-Err-clause-next : goal.returns-in-Err-clause-next
returns-in-Err-clause-next g c =
    let f = g.T.RowEntryIterator.state in
    next_refused_plain c.args.self.now.failure c.fail.new.self (f c.args.self.now.delegate) (f c.next.new.self) c.in-Err.error c.fail.result (search rules) c.requires.1 c.fail.ensures c.in-Err.ensures.next
