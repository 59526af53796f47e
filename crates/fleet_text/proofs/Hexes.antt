-- Reading a word as bytes.
use Rattle.std.proofs.Common.{◌≡◌, ◌≢◌, ℕ, ◌+◌, ◌*◌, ◌/◌, ◌%◌, ◌<◌, true, List, [], ◌∷◌, length, slice_index, Option, Some, None, Result, Ok, Err, refl, sym, ap, ◌∙◌, cond, ltb, arith}
use Rattle.std.proofs.lemmas.Bool.{and_parts}
use Rattle.std.specs.List.{list_all}
use Rattle.std.specs.Result.{result_unwrap_or}
use Rattle.hex.specs.Hex.{decode_of, decode_pairs, digit_or_error, hex_digit_value, encode_lower, encode_with, lower_digits, pair_value, value_at, ◌>>=◌}
use Rattle.hex.specs.declared.error.FromHexError.{FromHexError}
use Rattle.hex.proofs.HexLemmas.{IsDigits-lower_digits, decode_of-even, decode_of-ok, length-encode_with}
use Rattle.row_model.specs.Bounds.{AreBytes}
use Rattle.script_model.specs.Words.{bytes_text}
use Rattle.script_laws.specs.ByteTests.{is_lower_digit}
use Rattle.script_laws.proofs.Hexes.{bytes_of_places, lower_at, encoded_lower}

-- The lower-case digit of a value below 16.
lower_digit : ℕ → ℕ
lower_digit v = cond (ltb v 10) (v + 48) (v + 87)

by_value : (c v : ℕ) → is_lower_digit c ≡ true → hex_digit_value c ≡ Some v → c ≡ lower_digit v
unfolding lower_digit
by_value c v lower h = grind (arith)

same_digit : (a b v : ℕ) → is_lower_digit a ≡ true → is_lower_digit b ≡ true → hex_digit_value a ≡ Some v → hex_digit_value b ≡ Some v → a ≡ b
same_digit a b v la lb ha hb = by_value a v la ha ∙ sym (by_value b v lb hb)

value_small : (c v : ℕ) → hex_digit_value c ≡ Some v → v < 16
value_small c v h = grind (arith)

-- A lower-case digit is the one that the table has for its value.
digit_of : (c v : ℕ) → is_lower_digit c ≡ true → hex_digit_value c ≡ Some v → slice_index lower_digits v ≡ c
digit_of c v lower h =
    let small = value_small c v h in
    same_digit (slice_index lower_digits v) c v (lower_at v small) lower (IsDigits-lower_digits v small) h

-- ---- decoded digits are encoded again as they were

bind_ok : {A B : Type 0} (r : Result A FromHexError) (f : A → Result B FromHexError) (y : B) → (r >>= f) ≡ Ok y → (x : A) × (r ≡ Ok x) × (f x ≡ Ok y)
bind_ok (Ok x) f y h = (x, refl, h)
bind_ok (Err e) f y h = cc h

digit_read : (c i : ℕ) (o : Option ℕ) (v : ℕ) → digit_or_error c i o ≡ Ok v → o ≡ Some v
digit_read c i (Some w) v h = ap Some (ap (λ (r : Result ℕ FromHexError). result_unwrap_or r 0) h)
digit_read c i None v h = cc h

-- A word of lower-case digits that is read as bytes is the spelling of these bytes.
encoded_pairs : (i : ℕ) (s bytes : List ℕ) → list_all is_lower_digit s ≡ true → decode_pairs i s ≡ Ok bytes → s ≡ encode_lower bytes
unfolding decode_pairs encode_with
encoded_pairs i [] bytes lower h =
    let e : [] ≡ bytes = ap (λ (r : Result (List ℕ) FromHexError). result_unwrap_or r []) h in
    rw (← e) refl
encoded_pairs i (a ∷ []) bytes lower h = cc h
encoded_pairs i (a ∷ b ∷ rest) bytes lower h =
    let p0 = bind_ok (pair_value a b i) _ bytes h in
    let p1 = bind_ok (value_at a i) _ p0.0 p0.1 in
    let p2 = bind_ok (value_at b (i + 1)) _ p0.0 p1.2 in
    let p3 = bind_ok (decode_pairs (i + 2) rest) _ bytes p0.2 in
    let e : p0.0 ∷ p3.0 ≡ bytes = ap (λ (r : Result (List ℕ) FromHexError). result_unwrap_or r []) p3.2 in
    let byte : p1.0 * 16 + p2.0 ≡ p0.0 = ap (λ (r : Result ℕ FromHexError). result_unwrap_or r 0) p2.2 in
    let ha = digit_read a i (hex_digit_value a) p1.0 p1.1 in
    let hb = digit_read b (i + 1) (hex_digit_value b) p2.0 p2.1 in
    let la = and_parts (is_lower_digit a) (list_all is_lower_digit (b ∷ rest)) lower in
    let lb = and_parts (is_lower_digit b) (list_all is_lower_digit rest) la.1 in
    let small = value_small b p2.0 hb in
    let high : p0.0 / 16 ≡ p1.0 = omega (arith, byte, small) in
    let low : p0.0 % 16 ≡ p2.0 = omega (arith, byte, small) in
    let ih = encoded_pairs (i + 2) rest p3.0 lb.1 p3.1 in
    let da : slice_index lower_digits (p0.0 / 16) ≡ a = ap (slice_index lower_digits) high ∙ digit_of a p1.0 la.0 ha in
    let db : slice_index lower_digits (p0.0 % 16) ≡ b = ap (slice_index lower_digits) low ∙ digit_of b p2.0 lb.0 hb in
    rw (← e, da, db) (ap (λ r. a ∷ b ∷ r) ih)

-- ---- words

pub bytes_read : (word bytes : List ℕ) → 0 < length word → list_all is_lower_digit word ≡ true → decode_of word ≡ Ok bytes → AreBytes bytes × (word ≡ bytes_text bytes)
bytes_read word bytes some lower h =
    let ok = decode_of-ok word bytes h in
    let e = encoded_pairs 0 word bytes lower (sym (decode_of-even word ok.0) ∙ h) in
    (bytes_of_places bytes ok.3, e ∙ in_word bytes (omega (arith, ok.2)))
  where
    in_word : (bytes : List ℕ) → 0 < length bytes → encode_lower bytes ≡ bytes_text bytes
    in_word [] some = absurd (omega arith)
    in_word (b ∷ bytes) some = refl

-- A word spells no bytes if it is not a hyphen and not an even, positive number of lower-case
-- digits.
pub no_bytes : (word : List ℕ) → (word ≢ 45 ∷ []) → (0 < length word → length word % 2 ≡ 0 → list_all is_lower_digit word ≡ true → ⊥) → (bytes : List ℕ) → AreBytes bytes → word ≢ bytes_text bytes
no_bytes word hyphen other [] h e = hyphen e
no_bytes word hyphen other (b ∷ bytes) h e =
    let len = length-encode_with lower_digits (b ∷ bytes) in
    let same = ap length e in
    other (omega (arith, len, same)) (omega (arith, len, same)) (ap (list_all is_lower_digit) e ∙ encoded_lower (b ∷ bytes) h)
