use Rattle.std.specs.Prelude.{option_map}
use Rattle.std.proofs.lemmas.Result.{IfOk-weaker}
use Rattle.fleet_iter.specs.MergeState as merge
use Rattle.fleet_rows.specs.Row.{row_of}
use Rattle.fleet_table.specs.Iterator.{state_of}
use Rattle.fleet_scan.specs.Answered.{pair_of}
use Rattle.fleet_scan.proofs.Parts.{begins}
use Rattle.fleet_scan.proofs.Steps.{gives_key}
use Rattle.fleet_scan.proofs.next.answer_key.Goals as goal

pub returns-clause-answer : goal.returns-clause-answer
returns-clause-answer g c =
    let folding = g.B.BatchMerger.fold c.args.operator.now in
    let none = c.none-taken.ensures in
    let begun = begins c.args.point _ c.take.new.self (row_of c.args.first) none.key none.ground none.operands c.in_ok-take.ensures in
    IfOk-weaker c.answer.result _ _ (λ answer is. gives_key folding c.args.point (row_of c.args.first) c.take.new.self c.take_key.new.taken (merge.state_of state_of c.args.source.now) (merge.state_of state_of c.take_key.new.source)
    begun c.in_ok-take_key.ensures.key c.requires.ordered (option_map pair_of answer) is) c.answer.ensures.answer
