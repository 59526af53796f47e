use Rattle.std.proofs.Common.{rules, ◌≡◌, ◌≢◌, ◌∷◌, Some, None}
use Rattle.std.specs.Prelude.{option_map}
use Rattle.fleet_iter.specs.MergeState as merge
use Rattle.fleet_rows.specs.Row.{row_of}
use Rattle.fleet_table.specs.Iterator.{state_of}
use Rattle.fleet_scan.specs.Answered.{pair_of}
use Rattle.fleet_scan.specs.Walk.{TakesFirst, GivesKey}
use Rattle.fleet_scan.proofs.Steps.{first_ordered, fewer_rows, next_key, next_gives, ends_gives, none_mapped, some_mapped}
use Rattle.fleet_scan.proofs.next.next_answer.Goals as goal

pub answer_key-requires-clause-ordered : goal.answer_key-requires-clause-ordered
answer_key-requires-clause-ordered g c =
    let takes : TakesFirst (merge.state_of state_of c.keys.source) (Some c.in-Some.first) (merge.state_of state_of c.take_first.new.source) = search rules in
    first_ordered (merge.state_of state_of c.keys.source) (merge.state_of state_of c.take_first.new.source) c.in-Some.first takes c.keys.invariant.ordered

pub keys-preserved : goal.keys-preserved
keys-preserved g c =
    let folding = g.B.BatchMerger.fold c.args.operator.now in
    let s = merge.state_of state_of c.keys.source in
    let t = merge.state_of state_of c.take_first.new.source in
    let new = merge.state_of state_of c.answer_key.new.source in
    let takes : TakesFirst s (Some c.in-Some.first) t = search rules in
    let none : c.in_ok-answer.answer ≡ None = search rules in
    let gives : GivesKey folding c.args.point (row_of c.in-Some.first ∷ t.rows) None new = none_mapped folding c.args.point (row_of c.in-Some.first ∷ t.rows) c.in_ok-answer.answer new none c.in_ok-answer.ensures.answer in
    record {
      sound = search rules;
      reading = gives.reading;
      ordered = gives.ordered;
      same = next_key folding c.args.point (merge.state_of state_of c.args.source.now).rows s t new c.in-Some.first None c.keys.invariant.same takes gives;
    }

pub keys-smaller : goal.keys-smaller
keys-smaller g c =
    let folding = g.B.BatchMerger.fold c.args.operator.now in
    let s = merge.state_of state_of c.keys.source in
    let t = merge.state_of state_of c.take_first.new.source in
    let new = merge.state_of state_of c.answer_key.new.source in
    let takes : TakesFirst s (Some c.in-Some.first) t = search rules in
    fewer_rows folding c.args.point s t new c.in-Some.first (option_map pair_of c.in_ok-answer.answer) takes c.in_ok-answer.ensures.answer

pub returns-then-is_some-clause-answer : goal.returns-then-is_some-clause-answer
returns-then-is_some-clause-answer g c =
    let folding = g.B.BatchMerger.fold c.args.operator.now in
    let s = merge.state_of state_of c.keys.source in
    let t = merge.state_of state_of c.take_first.new.source in
    let new = merge.state_of state_of c.answer_key.new.source in
    let takes : TakesFirst s (Some c.in-Some.first) t = search rules in
    let some : c.in_ok-answer.answer ≢ None = λ e. search rules in
    next_gives folding c.args.point (merge.state_of state_of c.args.source.now).rows s t new c.in-Some.first (option_map pair_of c.in_ok-answer.answer) c.keys.invariant.same takes c.in_ok-answer.ensures.answer
    (some_mapped c.in_ok-answer.answer some)

pub returns-clause-answer : goal.returns-clause-answer
returns-clause-answer g c =
    let folding = g.B.BatchMerger.fold c.args.operator.now in
    let s = merge.state_of state_of c.keys.source in
    let new = merge.state_of state_of c.take_first.new.source in
    let takes : TakesFirst s None new = search rules in
    ends_gives folding c.args.point (merge.state_of state_of c.args.source.now).rows s new c.keys.invariant.same takes
