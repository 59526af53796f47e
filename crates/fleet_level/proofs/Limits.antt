-- The limits of runs, from the newest run on.
use Rattle.std.proofs.Common.{◌≡◌, refl, sym, ◌∙◌, ap, ℕ, ◌+◌, ◌<◌, ◌≤◌, ◌*◌, ◌^◌, Bool, true, false, arith, le-mul_of_pos_right, mul_assoc, mul-one}
use native.Mathlib.Nat.{pow-zero}
use Rattle.std.specs.Prelude.{◌&&◌, nat_lt}
use Rattle.std.proofs.lemmas.Bool.{ltb-true, ltb-false}
use Rattle.std.proofs.lemmas.Grind.{pow_more}
use Rattle.row_model.specs.Written.Sizes.{saturated_sum}
use Rattle.sched_model.specs.Levels.{LevelOptions, are_allowed, limit}

-- A size that was stopped at 2^64 - 1 grows to the same stopped size.
stopped : (size ratio : ℕ) → 1 ≤ ratio → saturated_sum (saturated_sum size * ratio) ≡ saturated_sum (size * ratio)
stopped size ratio least = by (nat_lt size 18446744073709551615) refl
  where
    by : (b : Bool) → nat_lt size 18446744073709551615 ≡ b → saturated_sum (saturated_sum size * ratio) ≡ saturated_sum (size * ratio)
    by true is =
        let small : size < 18446744073709551615 = ltb-true size 18446744073709551615 is in
        let same : saturated_sum size ≡ size = omega (arith, small) in
        ap (λ n. saturated_sum (n * ratio)) same
    by false is =
        let big : 18446744073709551615 ≤ size = ltb-false size 18446744073709551615 is in
        let same : saturated_sum size ≡ 18446744073709551615 = omega (arith, big) in
        let grown : size ≤ size * ratio = le-mul_of_pos_right size least in
        let greatest : saturated_sum (18446744073709551615 * ratio) ≡ saturated_sum (size * ratio) = omega (arith, big, grown, least) in
        ap (λ n. saturated_sum (n * ratio)) same ∙ greatest

-- The limit of the next older run.
pub next_limit : (o : LevelOptions) (place now next : ℕ) → 1 ≤ o.ratio → now ≡ limit o place → next ≡ saturated_sum (now * o.ratio) → next ≡ limit o (place + 1)
next_limit o place now next least is step =
    step
    ∙ ap (λ n. saturated_sum (n * o.ratio)) is
    ∙ stopped (o.base * o.ratio ^ place) o.ratio least
    ∙ ap saturated_sum (mul_assoc o.base (o.ratio ^ place) o.ratio ∙ ap (λ n. o.base * n) (sym (pow_more o.ratio place)))

-- The limit of the newest run.
pub first_limit : (o : LevelOptions) → o.base < 2 ^ 64 → o.base ≡ limit o 0
first_limit o fits =
    let whole : o.base * o.ratio ^ 0 ≡ o.base = ap (λ n. o.base * n) (pow-zero o.ratio) ∙ mul-one o.base in
    omega (arith, fits, whole)

-- Options that are allowed have a ratio of at least 1.
pub ratio_is_some : (o : LevelOptions) → are_allowed o ≡ true → 1 ≤ o.ratio
ratio_is_some o allowed = by (nat_lt 0 o.l0_trigger) (nat_lt 0 o.base) (nat_lt 1 o.ratio) refl allowed
  where
    by : (a b r : Bool) → nat_lt 1 o.ratio ≡ r → (a && b && r) ≡ true → 1 ≤ o.ratio
    by true true true is all = let low = ltb-true 1 o.ratio is in omega (arith, low)
    by true true false is all = absurd (cc all)
    by true false r is all = absurd (cc all)
    by false b r is all = absurd (cc all)
