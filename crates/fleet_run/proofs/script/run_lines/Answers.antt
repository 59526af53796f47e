use Rattle.std.proofs.Common.{arith, ◌≡◌, ◌+◌, ◌-◌, ◌∷◌, length, length-append, ap, sym, ◌∙◌, subst, Err, List}
use Rattle.std.proofs.lemmas.List.{length-map}
use Rattle.std.proofs.lemmas.Grind.{common_steps}
use Rattle.std.proofs.lemmas.Result.{err_from_is_err_and}
use Rattle.fleet_text.specs.Lines.{line_of, lines_of}
use Rattle.fleet_run.specs.declared.script.FleetError.TheVariants.{WriteFault}
use Rattle.fleet_lines.proofs.Fresh.{fresh_fleets_serve}
use Rattle.fleet_run.proofs.Runs.{run_none, run_more, run_part}
use Rattle.fleet_run.proofs.script.run_lines.Goals as goal

pub lines-init : goal.lines-init
lines-init g c =
    let are : c.from_vec-left.result.items ≡ c.args.lines = c.from_vec-left.ensures.items ∙ c.into_vec.ensures in
    record {
      so_far = run_none _ _ (lines_of c.from_vec-left.result.items) _ (g.K.Sink.view c.args.sink.now) c.requires.fresh.state (rw are c.requires.grammar);
      serving = fresh_fleets_serve _ _ c.requires.fresh;
      total = ap length (c.as_slice-total.ensures ∙ sym are);
    }

pub lines-preserved : goal.lines-preserved
lines-preserved g c =
    let so_far = rw c.in-Some.ensures.items at c.lines.invariant.so_far in
    let ran = c.in_ok-run_line.ensures in
    let parts = ap length so_far.parts ∙ length-append so_far.run (line_of c.in-Some.line ∷ lines_of c.pop_front.new.self.items) in
    let all = length-map c.from_vec-left.result.items line_of in
    let rest = length-map c.pop_front.new.self.items line_of in
    let left : c.len.result ≡ length c.pop_front.new.self.items = grind (arith, common_steps) in
    let place : (length c.as_slice-total.result.now - c.len.result) + length c.pop_front.new.self.items ≡ length c.from_vec-left.result.items = omega (arith, parts, all, rest, left, c.lines.invariant.total) in
    let placed = ap (λ n. (length c.as_slice-total.result.now - c.len.result) + n) (length-map c.pop_front.new.self.items line_of) ∙ (place ∙ sym (length-map c.from_vec-left.result.items line_of)) in
    record {
      so_far = run_more _ _ _ (line_of c.in-Some.line) _ _ _ _ _ _ _ so_far placed ran.ran c.run_line.ensures.never_fall;
      serving = ran.serving;
      total = c.lines.invariant.total;
    }

pub returns-in_err-run_line-clause-fault : goal.returns-in_err-run_line-clause-fault
returns-in_err-run_line-clause-fault g c = λ e.
    let are : c.from_vec-left.result.items ≡ c.args.lines = c.from_vec-left.ensures.items ∙ c.into_vec.ensures in
    let p = err_from_is_err_and c.from_residual.result c.from_residual.ensures.1 in
    let why : c.in_err-run_line.field-0.0 ≡ WriteFault = cc in
    let so_far = rw c.in-Some.ensures.items at c.lines.invariant.so_far in
    let parts = ap length so_far.parts ∙ length-append so_far.run (line_of c.in-Some.line ∷ lines_of c.pop_front.new.self.items) in
    let all = length-map c.from_vec-left.result.items line_of in
    let rest = length-map c.pop_front.new.self.items line_of in
    let left : c.len.result ≡ length c.pop_front.new.self.items = grind (arith, common_steps) in
    let place : (length c.as_slice-total.result.now - c.len.result) + length c.pop_front.new.self.items ≡ length c.from_vec-left.result.items = omega (arith, parts, all, rest, left, c.lines.invariant.total) in
    let placed = ap (λ n. (length c.as_slice-total.result.now - c.len.result) + n) (length-map c.pop_front.new.self.items line_of) ∙ (place ∙ sym (length-map c.from_vec-left.result.items line_of)) in
    rw are at (run_part _ _ _ (line_of c.in-Some.line) _ _ _ _ _ _ _ so_far placed (c.in_err-run_line.ensures.fault (ap (λ x. Err x) why)))
