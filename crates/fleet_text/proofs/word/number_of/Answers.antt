use Rattle.std.proofs.Common.{◌≢◌, ◌<◌, length, get_or, arith}
use Rattle.std.specs.Prelude.{decimal}
use Rattle.std.proofs.lemmas.Fmt.{IsAscii-decimal}
use Rattle.std.proofs.lemmas.Str.{IsUtf8-from_ascii}
use Rattle.script_laws.proofs.Numbers.{no_sign, no_digit}
use Rattle.fleet_text.proofs.Numbers.{no_leading_zero, reads_number}
use Rattle.fleet_text.proofs.word.number_of.Goals as goal
use Rattle.fleet_text.proofs.word.number_of.Goals.{then-is_empty-via-then-is_empty, then-is_empty-via-else-is_empty+then-word-eq43, else-word-gt1-via-then-word-gt1+else-word-eq48, else-word-gt1-via-else-word-gt1}

pub returns-then-is_empty : goal.returns-then-is_empty
returns-then-is_empty c =
    elim c.then-is_empty.branch [
      | then-is_empty-via-then-is_empty w ↦ no_digit c.args.word.now (grind arith)
      | then-is_empty-via-else-is_empty+then-word-eq43 w ↦ no_sign 43 (omega arith) c.args.word.now w.if-word-eq43.true
    ]

pub returns-then-word-eq48 : goal.returns-then-word-eq48
returns-then-word-eq48 c = no_leading_zero c.args.word.now c.if-word-gt1.true c.if-word-eq48.true

pub returns-in_default : goal.returns-in_default
returns-in_default c = λ x fits e.
    c.in_default.ensures.cases.0 (rw e (IsUtf8-from_ascii (decimal x) (IsAscii-decimal x fits)))

pub returns : goal.returns
returns c =
    let first : 1 < length c.args.word.now → get_or c.args.word.now 0 0 ≢ 48 =
    elim c.else-word-gt1.branch [
      | else-word-gt1-via-then-word-gt1+else-word-eq48 w ↦ λ _. w.if-word-eq48.false
      | else-word-gt1-via-else-word-gt1 w ↦ λ h. absurd (omega (arith, w.if-word-gt1.false, h))
    ] in
    rw c.ok.ensures.value (reads_number c.args.word.now c.parse.result (rw c.in-Ok.ensures.cases.0 at c.parse.ensures.value.0) first c.if-word-eq43.false)
