use Rattle.std.proofs.Common.{◌≡◌, ◌≢◌, ◌<◌, ◌%◌, [], ◌∷◌, length, true, arith, rules}
use Rattle.std.specs.List.{list_all}
use Rattle.script_laws.specs.ByteTests.{is_lower_digit}
use Rattle.fleet_text.proofs.Hexes.{bytes_read, no_bytes}
use Rattle.fleet_text.proofs.word.bytes_of.Goals as goal
use Rattle.fleet_text.proofs.word.bytes_of.Goals.{then-is_empty-via-then-is_empty, then-is_empty-via-else-is_empty+then-word-ne0, then-is_empty-via-else-is_empty+else-word-ne0+then-not-are_lower_hex}

pub returns-then-is_empty : goal.returns-then-is_empty
returns-then-is_empty c =
    let word = c.args.word.now in
    let hyphen : word ≢ 45 ∷ [] = search rules in
    let other : 0 < length word → length word % 2 ≡ 0 → list_all is_lower_digit word ≡ true → ⊥ =
    elim c.then-is_empty.branch [
      | then-is_empty-via-then-is_empty w ↦ λ some even lower. let none : length word ≡ 0 = grind arith in omega (arith, some, none)
      | then-is_empty-via-else-is_empty+then-word-ne0 w ↦ λ some even lower. w.if-word-ne0.true even
      | then-is_empty-via-else-is_empty+else-word-ne0+then-not-are_lower_hex w ↦ λ some even lower. cc
    ] in
    no_bytes word hyphen other

pub returns : goal.returns
returns c =
    let word = c.args.word.now in
    let some : 0 < length word = grind arith in
    let lower : list_all is_lower_digit word ≡ true = search rules in
    rw c.in_ok-from_vec.ensures.ok (bytes_read word c.in-Ok.bytes.items some lower c.in-Ok.ensures.ok)
