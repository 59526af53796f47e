use Rattle.std.proofs.Common.{◌≡◌, ◌+◌, ◌≢◌, List, length, ap, ◌∙◌, sym, arith}
use Rattle.std.specs.Prelude.{◌==◌}
use Rattle.fleet_text.specs.declared.line.Line.{Line}
use Rattle.fleet_text.proofs.Lines.{read_after, reads_more, reads_all, bad_front, bad_rest}
use Rattle.fleet_text.proofs.script.read_lines.Goals as goal

pub lines-preserved : goal.lines-preserved
lines-preserved c =
    let read = rw c.in-Some-2.is at (read_after c.lines.lines.items c.are_none.result c.in-Some.front.now c.in_ok-line.field-0 (c.are_none.ensures ∙ ap (λ (ls : List Line). length ls == 0) c.as_slice.ensures.value) c.in_ok-line.ensures) in
    rw c.in_ok-push.ensures.items (reads_more _ _ _ _ _ c.in-Some-2.line c.lines.invariant c.in-Some.ensures.1 read)

pub returns-in_default-2-clause-bad : goal.returns-in_default-2-clause-bad
returns-in_default-2-clause-bad c = λ n e.
    let counted : length c.deref.result.now + 1 ≡ n = cc in
    let number : length c.lines.lines.items + 1 ≡ n = ap (λ l. length l + 1) (sym c.deref.ensures.value) ∙ counted in
    bad_front c.args.text.now c.lines.lines.items c.lines.rest.now c.in-Some.front.now c.in-Some.after.now n c.lines.invariant c.in-Some.ensures.0 c.in-Some.ensures.1 (rw c.in_default-2.is at (read_after c.lines.lines.items c.are_none.result c.in-Some.front.now c.in_ok-line.field-0 (c.are_none.ensures ∙ ap (λ (ls : List Line). length ls == 0) c.as_slice.ensures.value) c.in_ok-line.ensures)) number

pub returns-then-not-is_empty-clause-bad : goal.returns-then-not-is_empty-clause-bad
returns-then-not-is_empty-clause-bad c = λ n e.
    let counted : length c.deref-then-not-is_empty.result.now + 1 ≡ n = cc in
    let number : length c.lines.lines.items + 1 ≡ n = ap (λ l. length l + 1) (sym c.deref-then-not-is_empty.ensures.value) ∙ counted in
    let some : length c.lines.rest.now ≢ 0 = grind arith in
    bad_rest c.args.text.now c.lines.lines.items c.lines.rest.now n c.lines.invariant c.in_default.ensures some number

pub returns-clause-found : goal.returns-clause-found
returns-clause-found c =
    let none : length c.lines.rest.now ≡ 0 = grind arith in
    rw c.from_vec.ensures (reads_all c.args.text.now c.lines.lines.items c.lines.rest.now c.lines.invariant none)
