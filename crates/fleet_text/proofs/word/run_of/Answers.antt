use Rattle.std.proofs.Common.{◌≡◌, ℕ, ◌<◌, ◌^◌, List, Result, Ok, Err, sym, ◌∙◌, arith}
use Rattle.std.specs.Fmt.{decimal}
use Rattle.std.specs.Result.{OkIff, result_ok}
use Rattle.std.proofs.lemmas.Fmt.{decimal_injective}
use Rattle.fleet_text.specs.Reading.{Reads}
use Rattle.fleet_text.proofs.word.run_of.Goals as goal

-- A number read from a word is converted to 32 bits. The result is what reading a number below 2 ^
-- 32 gives.
run_read : {E : Type 0} (word : List ℕ) (n : ℕ) (r : Result ℕ E) → (n < 2 ^ 64) × (word ≡ decimal n) → OkIff r (n < 2 ^ 32) n → Reads decimal (λ m. m < 2 ^ 32) word (result_ok r)
run_read word n (Ok m) read h = (rw h.1 h.0, rw h.1 read.1)
run_read word n (Err e) read h = λ x fits eq. h (let same = decimal_injective n x read.0 (omega (arith, fits)) (sym read.1 ∙ eq) in omega (arith, same, fits))

pub returns : goal.returns
returns c = rw c.ok.ensures.value (run_read c.args.word.now c.in_ok-number_of.field-0 c.try_from.result c.in_ok-number_of.ensures c.try_from.ensures)
