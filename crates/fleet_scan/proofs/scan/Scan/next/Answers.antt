use Rattle.std.proofs.Common.{rules, refl}
use Rattle.fleet_iter.specs.MergeState as merge
use Rattle.fleet_table.specs.Iterator.{state_of}
use Rattle.fleet_scan.proofs.Calls.{reads_on, nexts_gone, nexts_ok, nexts_err}
use Rattle.fleet_scan.proofs.scan.Scan.next.Goals as goal

pub returns-then-self : goal.returns-then-self
returns-then-self g c =
    let i = c.self.inside in
    nexts_gone (g.O.MergeOperator.merged (g.O.MergeOperator.settings i.operator.now)) i.point i.failed (merge.state_of state_of i.rows) c.args.self.now c.self.view_is (search rules)

pub next_answer-requires-clause-reading : goal.next_answer-requires-clause-reading
next_answer-requires-clause-reading g c =
    let i = c.self.inside in
    (reads_on i.failed (merge.state_of state_of i.rows) (search rules) c.self.invariant.1).reading

pub next_answer-requires-clause-ordered : goal.next_answer-requires-clause-ordered
next_answer-requires-clause-ordered g c =
    let i = c.self.inside in
    (reads_on i.failed (merge.state_of state_of i.rows) (search rules) c.self.invariant.1).ordered

pub returns-in-Ok : goal.returns-in-Ok
returns-in-Ok g c =
    let i = c.self.inside in
    nexts_ok (g.O.MergeOperator.merged (g.O.MergeOperator.settings i.operator.now)) i.point i.failed (merge.state_of state_of i.rows) c.args.self.now c.self.view_is (search rules)
    (merge.state_of state_of c.next_answer.new.source) c.in-Ok.answer c.in-Ok.ensures.answer

pub returns-in-Err : goal.returns-in-Err
returns-in-Err g c =
    let i = c.self.inside in
    nexts_err (g.O.MergeOperator.merged (g.O.MergeOperator.settings i.operator.now)) i.point i.failed (merge.state_of state_of i.rows) c.args.self.now c.self.view_is (search rules)
    _ c.in-Err.error refl c.in-Err.ensures.memory
