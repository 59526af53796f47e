-- Reading a word as a number or a stamp.
use Rattle.std.proofs.Common.{◌≡◌, ◌≢◌, ℕ, zero, suc, ◌<◌, ◌^◌, List, [], ◌∷◌, length, get_or, drop, Option, Some, None, Result, Ok, Err, ℤ, pos, negsuc, FitsSigned, SomeIff, ◌-ℤ◌, refl, sym, ap, ◌∙◌, arith}
use Rattle.std.specs.Int.{w64}
use Rattle.std.specs.Fmt.{decimal, signed_decimal}
use Rattle.std.specs.Result.{OkIff, result_ok}
use Rattle.std.specs.Str.Parse.{AllDigits, digits_value, ParsesUnsigned}
use Rattle.std.proofs.lemmas.Str.Parse.{IsNumeralModel, numerals_by_value, tells_digits, parse_plain}
use Rattle.std.proofs.lemmas.Fmt.{parse-decimal, decimal-digits_value, decimal_digit, first_decimal, decimal_injective}
use Rattle.std.proofs.lemmas.Int.{ints}
use Rattle.row_model.specs.Bounds.{IsStamp}
use Rattle.script_laws.proofs.Numbers.{no_sign}
use Rattle.fleet_text.specs.Reading.{Reads}

own : IsNumeralModel (AllDigits 10) (digits_value 10)
own = numerals_by_value (AllDigits 10) tells_digits

-- A number of several digits does not begin with zero.
pub no_leading_zero : (bytes : List ℕ) → 1 < length bytes → get_or bytes 0 0 ≡ 48 → (x : ℕ) → x < 2 ^ 64 → bytes ≢ decimal x
no_leading_zero bytes long first zero h e =
    let one = ap length (e ∙ decimal_digit 0 (omega arith)) in absurd (omega (arith, one, long))
no_leading_zero bytes long first (suc x) h e =
    let f = first_decimal (suc x) (omega arith) h in
    let g = sym (ap (λ b. get_or b 0 0) e) ∙ first in
    absurd (omega (arith, f, g))

one_digit : (bytes : List ℕ) → 0 < length bytes → (1 < length bytes → get_or bytes 0 0 ≢ 48) → get_or bytes 0 0 ≡ 48 → length bytes ≡ 1
one_digit bytes some first e = let short : 1 < length bytes → ⊥ = λ h. first h e in omega (arith, some, short)

-- The result of parsing a word that begins neither with a plus nor, if it has several bytes, with
-- zero.
pub reads_number : {E : Type 0} (bytes : List ℕ) (r : Result ℕ E) → ParsesUnsigned 64 10 bytes r → (1 < length bytes → get_or bytes 0 0 ≢ 48) → get_or bytes 0 0 ≢ 43 → Reads decimal (λ n. n < 2 ^ 64) bytes (result_ok r)
reads_number {E} bytes (Ok n) h first plus =
    let p = parse_plain own {E = E} 64 bytes (Ok n) h plus in
    let one : get_or bytes 0 0 ≡ 48 → length bytes ≡ 1 = λ e. one_digit bytes p.0.1 first e in
    (rw p.1 p.0.2, sym (ap decimal p.1 ∙ decimal-digits_value own bytes p.0.0 p.0.1 one p.0.2))
reads_number bytes (Err e) h first plus = λ x fits eq. let same = parse-decimal 64 x bytes (Err e) fits fits eq h in cc

-- ---- stamps

pub no_first : (bytes : List ℕ) → length bytes ≡ 0 → get_or bytes 0 0 ≢ 45
no_first [] none = λ e. absurd (omega (arith, e))
no_first (b ∷ bytes) none = absurd (omega arith)

stamp_fits : (z : ℤ) → FitsSigned w64 z → IsStamp z
stamp_fits (pos n) h = omega (arith, ints, h)
stamp_fits (negsuc n) h = omega (arith, ints, h)

fits_stamp : (z : ℤ) → IsStamp z → FitsSigned w64 z
fits_stamp (pos n) h = omega (arith, ints, h)
fits_stamp (negsuc n) h = omega (arith, ints, h)

-- A word that does not begin with a hyphen is read as a number below 2 ^ 63.
pub signed_from_number : {E : Type 0} (bytes : List ℕ) (n : ℕ) (r : Result ℤ E) → get_or bytes 0 0 ≢ 45 → (n < 2 ^ 64) × (bytes ≡ decimal n) → OkIff r (FitsSigned w64 (pos n)) (pos n) → Reads signed_decimal IsStamp bytes (result_ok r)
signed_from_number bytes n (Ok z) first read h = (rw h.1 (stamp_fits (pos n) h.0), rw h.1 read.1)
signed_from_number bytes n (Err e) first read h = not_read
  where
    not_read : (z : ℤ) → IsStamp z → bytes ≢ signed_decimal z
    not_read (pos m) fits eq = h (rw (decimal_injective n m read.0 (omega (arith, fits)) (sym read.1 ∙ eq)) (fits_stamp (pos m) fits))
    not_read (negsuc m) fits eq = first (ap (λ b. get_or b 0 0) eq)

pub signed_from_none : (bytes : List ℕ) → get_or bytes 0 0 ≢ 45 → ((x : ℕ) → x < 2 ^ 64 → bytes ≢ decimal x) → (z : ℤ) → IsStamp z → bytes ≢ signed_decimal z
signed_from_none bytes first none (pos m) fits eq = none m (omega (arith, fits)) eq
signed_from_none bytes first none (negsuc m) fits eq = first (ap (λ b. get_or b 0 0) eq)

-- A word that begins with a hyphen is no stamp if the rest is no number.
pub negative_from_none : (bytes : List ℕ) → get_or bytes 0 0 ≡ 45 → ((x : ℕ) → x < 2 ^ 64 → drop 1 bytes ≢ decimal x) → (z : ℤ) → IsStamp z → bytes ≢ signed_decimal z
negative_from_none bytes first none (pos m) fits eq = no_sign 45 (omega arith) bytes first m (omega (arith, fits)) eq
negative_from_none bytes first none (negsuc m) fits eq = none (suc m) (omega (arith, fits)) (ap (drop 1) eq)

pub negative_from_zero : (bytes : List ℕ) (n : ℕ) → get_or bytes 0 0 ≡ 45 → n ≡ 0 → drop 1 bytes ≡ decimal n → (z : ℤ) → IsStamp z → bytes ≢ signed_decimal z
negative_from_zero bytes n first none read (pos m) fits eq = no_sign 45 (omega arith) bytes first m (omega (arith, fits)) eq
negative_from_zero bytes n first none read (negsuc m) fits eq =
    let same = decimal_injective n (suc m) (omega arith) (omega (arith, fits)) (sym read ∙ ap (drop 1) eq) in omega (arith, same, none)

with_front : (bytes : List ℕ) → 0 < length bytes → get_or bytes 0 0 ≡ 45 → bytes ≡ 45 ∷ drop 1 bytes
with_front [] some first = absurd (omega arith)
with_front (b ∷ bytes) some first = ap (λ x. x ∷ bytes) first

below_zero : (n : ℕ) → pos 0 -ℤ pos (suc n) ≡ negsuc n
below_zero n = omega (arith, ints)

-- A word that is a minus and a number other than zero reads as the negated number, or as nothing if that
-- does not fit.
pub negative_from_number : (bytes : List ℕ) (n : ℕ) (r : Option ℤ) → 0 < length bytes → get_or bytes 0 0 ≡ 45 → n ≢ 0 → n < 2 ^ 64 → drop 1 bytes ≡ decimal n → SomeIff r (FitsSigned w64 (pos 0 -ℤ pos n)) (pos 0 -ℤ pos n) → Reads signed_decimal IsStamp bytes r
negative_from_number bytes zero r some first above small read h = absurd (above refl)
negative_from_number bytes (suc n) (Some z) some first above small read h =
    (rw h.1 (stamp_fits (pos 0 -ℤ pos (suc n)) h.0), with_front bytes some first ∙ ap (λ ds. 45 ∷ ds) read ∙ ap signed_decimal (sym (h.1 ∙ below_zero n)))
negative_from_number bytes (suc n) None some first above small read h = not_read
  where
    not_read : (z : ℤ) → IsStamp z → bytes ≢ signed_decimal z
    not_read (pos m) fits eq = no_sign 45 (omega arith) bytes first m (omega (arith, fits)) eq
    not_read (negsuc m) fits eq =
        let same = decimal_injective (suc n) (suc m) small (omega (arith, fits)) (sym read ∙ ap (drop 1) eq) in
        h (omega (arith, ints, fits, same))
