use Rattle.std.proofs.Common.{◌≡◌, ◌≢◌, ◌<◌, ◌-◌, length, get_or, take, drop, sym, ◌∙◌, arith, length-drop}
use Rattle.std.proofs.lemmas.List.{take_all}
use Rattle.fleet_text.proofs.Numbers.{no_first, signed_from_number, signed_from_none, negative_from_none, negative_from_zero, negative_from_number}
use Rattle.fleet_text.proofs.word.signed_of.Goals as goal
use Rattle.fleet_text.proofs.word.signed_of.Goals.{then-is_empty-via-then-is_empty, then-is_empty-via-else-is_empty+then-word-ne45}

pub returns-then-is_empty : goal.returns-then-is_empty
returns-then-is_empty c =
    let first : get_or c.args.word.now 0 0 ≢ 45 =
    elim c.then-is_empty.branch [
      | then-is_empty-via-then-is_empty w ↦ no_first c.args.word.now (grind arith)
      | then-is_empty-via-else-is_empty+then-word-ne45 w ↦ w.if-word-ne45.true
    ] in
    rw c.ok.ensures.value (signed_from_number c.args.word.now c.in_ok-number.number c.try_from.result first c.in_ok-number.ensures c.try_from.ensures)

pub returns-in_err-number : goal.returns-in_err-number
returns-in_err-number c =
    let first : get_or c.args.word.now 0 0 ≢ 45 =
    elim c.then-is_empty.branch [
      | then-is_empty-via-then-is_empty w ↦ no_first c.args.word.now (grind arith)
      | then-is_empty-via-else-is_empty+then-word-ne45 w ↦ w.if-word-ne45.true
    ] in
    rw c.from_residual.ensures (signed_from_none c.args.word.now first c.in_err-number.ensures)

pub returns-in_err-magnitude : goal.returns-in_err-magnitude
returns-in_err-magnitude c =
    let s = c.args.word.now in
    let rest : take (length s - 1) (drop 1 s) ≡ drop 1 s = take_all (length s - 1) (drop 1 s) (omega (arith, length-drop 1 s)) in
    rw c.from_residual-in_err-magnitude.ensures (negative_from_none s c.if-word-ne45.false (rw rest at c.in_err-magnitude.ensures))

pub returns-then-magnitude-eq0 : goal.returns-then-magnitude-eq0
returns-then-magnitude-eq0 c =
    let s = c.args.word.now in
    let rest : take (length s - 1) (drop 1 s) ≡ drop 1 s = take_all (length s - 1) (drop 1 s) (omega (arith, length-drop 1 s)) in
    negative_from_zero s c.in_ok-magnitude.magnitude c.if-word-ne45.false c.if-magnitude-eq0.true (sym rest ∙ c.in_ok-magnitude.ensures.1)

pub returns : goal.returns
returns c =
    let s = c.args.word.now in
    let rest : take (length s - 1) (drop 1 s) ≡ drop 1 s = take_all (length s - 1) (drop 1 s) (omega (arith, length-drop 1 s)) in
    let some : 0 < length s = grind arith in
    negative_from_number s c.in_ok-magnitude.magnitude c.checked_sub_unsigned.result some c.if-word-ne45.false c.if-magnitude-eq0.false c.in_ok-magnitude.ensures.0 (sym rest ∙ c.in_ok-magnitude.ensures.1) c.checked_sub_unsigned.ensures
