-- Of each text, whether it spells a value that fits: numbers, stamps, bytes, and lists of words.
use Rattle.std.proofs.Common.{◌≡◌, ◌≢◌, ℕ, suc, ◌-◌, ◌<◌, ◌≤◌, ◌^◌, Bool, true, false, ◌⊎◌, inl, inr, List, [], ◌∷◌, length, map, drop, get_or, Option, Some, None, Result, ℤ, pos, negsuc, refl, sym, ap, subst, ◌∙◌, arith, codes}
use Rattle.std.specs.Prelude.{bytes_eq}
use Rattle.std.specs.Fmt.{decimal, signed_decimal}
use Rattle.std.specs.List.{AllByRecursion, join_with_byte, slice_split}
use Rattle.std.specs.Result.{result_unwrap_or}
use Rattle.std.specs.Str.Parse.{AllDigits, digits_value}
use Rattle.std.proofs.lemmas.Bool.{cases_lt}
use Rattle.std.proofs.lemmas.Slice.Eq.{bytes_eq-Decides}
use Rattle.std.proofs.lemmas.Str.Parse.{numerals_by_value, tells_digits}
use Rattle.std.proofs.lemmas.Fmt.{digits_value-decimal}
use Rattle.hex.specs.Hex.{decode_of}
use Rattle.hex.specs.declared.error.FromHexError.{FromHexError}
use Rattle.hex.proofs.HexLemmas.{decode_of-encode_lower}
use Rattle.row_model.specs.Bounds.{AreBytes, AreShortBytes, IsKey, IsStamp, IsStampOrNone}
use Rattle.script_model.specs.Words.{bytes_text, stamp_text}
use Rattle.script_laws.specs.ByteTests.{is_byte}
use Rattle.script_laws.proofs.Pieces.{Lacks, apart, split_words, join_split}
use Rattle.script_laws.proofs.Hexes.{byte_at}

abbrev pub Decided : Type 0 → Type 0
Decided P = P ⊎ (P → ⊥)

-- The text is the spelling of a value that fits, or of no such value.
abbrev pub SpeltOrNot : {A B : Type 0} → (A → B) → (A → Type 0) → B → Type 0
SpeltOrNot {A} spelling Fits text = ((x : A) × Fits x × (text ≡ spelling x)) ⊎ ((x : A) → Fits x → text ≢ spelling x)

-- How values are spelt, which of them fit, and, of each text, whether it spells a value that fits.
pub record Form (A B : Type 0) : Type 1 where
  pub spelling : A → B
  pub Fits : A → Type 0
  pub is_spelt_or_not : (text : B) → SpeltOrNot spelling Fits text

-- ---- what is decided

pub same_or_not : (a b : List ℕ) → Decided (a ≡ b)
same_or_not a b = by (bytes_eq a b) refl
  where
    by : (test : Bool) → bytes_eq a b ≡ test → Decided (a ≡ b)
    by true is = inl ((bytes_eq-Decides a b).0 is)
    by false is = inr (apart is)

pub le_or_not : (a b : ℕ) → Decided (a ≤ b)
le_or_not a b = elim (cases_lt b a) [
  | inl less ↦ inr (λ le. omega (arith, less, le))
  | inr more ↦ inl more
]

pub lt_or_not : (a b : ℕ) → Decided (a < b)
lt_or_not a b = elim (cases_lt a b) [
  | inl less ↦ inl less
  | inr more ↦ inr (λ lt. omega (arith, lt, more))
]

pub both_or_not : {P Q : Type 0} → Decided P → Decided Q → Decided (P × Q)
both_or_not (inl p) (inl q) = inl (p, q)
both_or_not (inl p) (inr is_not) = inr (λ h. is_not h.1)
both_or_not (inr is_not) q = inr (λ h. is_not h.0)

bytes_or_not : (bytes : List ℕ) → Decided (AreBytes bytes)
bytes_or_not [] = inl tt
bytes_or_not (b ∷ bytes) = both_or_not (lt_or_not b 256) (bytes_or_not bytes)

-- ---- values that are read back from their spelling

-- If each value that fits is read back from its spelling, then the value that is read of a text is
-- the only one that the text can spell.
read_or_not : {A B : Type 0} (spelling : A → B) (Fits : A → Type 0) (read : B → A) → ((x : A) → Fits x → read (spelling x) ≡ x) → (text : B) → Decided (text ≡ spelling (read text)) → Decided (Fits (read text)) → SpeltOrNot spelling Fits text
read_or_not spelling Fits read back text (inl is) (inl fits) = inl (read text, fits, is)
read_or_not spelling Fits read back text (inl is) (inr is_not) = inr (λ x fits e. is_not (subst Fits (sym (ap read e ∙ back x fits)) fits))
read_or_not spelling Fits read back text (inr is_not) fit = inr (λ x fits e. is_not (e ∙ ap spelling (sym (ap read e ∙ back x fits))))

number_of : (n : ℕ) → n < 2 ^ 64 → digits_value 10 (decimal n) ≡ n
number_of n h = digits_value-decimal (numerals_by_value (AllDigits 10) tells_digits) n h

pub number_or_not : (Fits : ℕ → Type 0) → ((n : ℕ) → Fits n → n < 2 ^ 64) → ((n : ℕ) → Decided (Fits n)) → (text : List ℕ) → SpeltOrNot decimal Fits text
number_or_not Fits low test text =
    read_or_not decimal Fits (digits_value 10) (λ n fits. number_of n (low n fits)) text (same_or_not text (decimal (digits_value 10 text))) (test (digits_value 10 text))

-- The spelling of a number below 0.
abbrev below_zero : ℕ → List ℕ
below_zero n = signed_decimal (negsuc n)

size_below : List ℕ → ℕ
size_below text = digits_value 10 (drop 1 text) - 1

size_back : (n : ℕ) → n < 2 ^ 63 → size_below (below_zero n) ≡ n
unfolding size_below
size_back n h = let same = number_of (suc n) (omega (arith, h)) in omega (arith, same)

negative_or_not : (text : List ℕ) → SpeltOrNot below_zero (λ n. n < 2 ^ 63) text
negative_or_not text = read_or_not below_zero (λ n. n < 2 ^ 63) size_below size_back text (same_or_not text (below_zero (size_below text))) (lt_or_not (size_below text) (2 ^ 63))

-- Each text spells a stamp, or no stamp.
pub stamp_or_not : (text : List ℕ) → SpeltOrNot signed_decimal IsStamp text
stamp_or_not text = by (number_or_not (λ n. n < 2 ^ 63) (λ n h. omega (arith, h)) (λ n. lt_or_not n (2 ^ 63)) text) (negative_or_not text)
  where
    by : SpeltOrNot decimal (λ n. n < 2 ^ 63) text → SpeltOrNot below_zero (λ n. n < 2 ^ 63) text → SpeltOrNot signed_decimal IsStamp text
    by (inl found) other = inl (pos found.0, found.1, found.2)
    by (inr none) (inl found) = inl (negsuc found.0, found.1, found.2)
    by (inr none) (inr no_other) = inr each
      where
        each : (z : ℤ) → IsStamp z → text ≢ signed_decimal z
        each (pos n) lt e = none n lt e
        each (negsuc n) lt e = no_other n lt e

-- Each text spells a stamp or none, or neither.
pub stamp_or_none_or_not : (text : List ℕ) → SpeltOrNot stamp_text IsStampOrNone text
stamp_or_none_or_not text = by (same_or_not text (codes "-")) (stamp_or_not text)
  where
    by : Decided (text ≡ codes "-") → SpeltOrNot signed_decimal IsStamp text → SpeltOrNot stamp_text IsStampOrNone text
    by (inl is) stamp = inl (None, tt, is)
    by (inr is_not) (inl found) = inl (Some found.0, found.1, found.2)
    by (inr is_not) (inr none) = inr each
      where
        each : (stamp : Option ℤ) → IsStampOrNone stamp → text ≢ stamp_text stamp
        each None fits e = is_not e
        each (Some z) fits e = none z fits e

-- The bytes that a text spells, if it spells bytes.
bytes_of : List ℕ → List ℕ
bytes_of text = result_unwrap_or (decode_of text) []

bytes_back : (bytes : List ℕ) → AreBytes bytes → bytes_of (bytes_text bytes) ≡ bytes
unfolding bytes_of
bytes_back [] h = refl
bytes_back (b ∷ bytes) h = ap (λ (r : Result (List ℕ) FromHexError). result_unwrap_or r []) (decode_of-encode_lower (b ∷ bytes) (byte_at (b ∷ bytes) h))

-- Bytes whose length has a property.
abbrev AreSized : (ℕ → Type 0) → List ℕ → Type 0
AreSized Size bytes = AreBytes bytes × Size (length bytes)

pub sized_or_not : (Size : ℕ → Type 0) → ((n : ℕ) → Decided (Size n)) → (text : List ℕ) → SpeltOrNot bytes_text (AreSized Size) text
sized_or_not Size test text =
    read_or_not bytes_text (AreSized Size) bytes_of (λ bytes fits. bytes_back bytes fits.0) text (same_or_not text (bytes_text (bytes_of text)))
    (both_or_not (bytes_or_not (bytes_of text)) (test (length (bytes_of text))))

-- If two properties say the same, a text that spells no value of the one spells none of the other.
pub as_or_not : {A B : Type 0} (spelling : A → B) (P Q : A → Type 0) (text : B) → ((x : A) → P x → Q x) → ((x : A) → Q x → P x) → SpeltOrNot spelling P text → SpeltOrNot spelling Q text
as_or_not spelling P Q text to from (inl found) = inl (found.0, to found.0 found.1, found.2)
as_or_not spelling P Q text to from (inr none) = inr (λ x fits e. none x (from x fits) e)

pub short_or_not : (text : List ℕ) → SpeltOrNot bytes_text AreShortBytes text
short_or_not text = sized_or_not (λ n. n ≤ 65535) (λ n. le_or_not n 65535) text

abbrev IsKeySize : ℕ → Type 0
IsKeySize n = (0 < n) × (n ≤ 65535)

pub key_or_not : (text : List ℕ) → SpeltOrNot bytes_text IsKey text
key_or_not text =
    as_or_not bytes_text (AreSized IsKeySize) IsKey text (λ bytes h. (h.0, h.1.0, h.1.1)) (λ bytes h. (h.0, (h.1, h.2)))
    (sized_or_not IsKeySize (λ n. both_or_not (lt_or_not 0 n) (le_or_not n 65535)) text)

-- ---- lists of words

-- Each list of words spells a list of values, or one of its words spells none.
pub map_or_not : {A : Type 0} (f : A → List ℕ) (P : A → Type 0) → ((text : List ℕ) → SpeltOrNot f P text) → (words : List (List ℕ)) → SpeltOrNot (map f) (AllByRecursion P) words
map_or_not f P is_or_not [] = inl ([], tt, refl)
map_or_not {A} f P is_or_not (w ∷ words) = by (is_or_not w) (map_or_not f P is_or_not words)
  where
    by : SpeltOrNot f P w → SpeltOrNot (map f) (AllByRecursion P) words → SpeltOrNot (map f) (AllByRecursion P) (w ∷ words)
    by (inl first) (inl others) = let is = first.2 in let are = others.2 in inl (first.0 ∷ others.0, (first.1, others.1), cc (is, are))
    by (inr none) others = inr each
      where
        each : (xs : List A) → AllByRecursion P xs → w ∷ words ≢ map f xs
        each [] fits e = cc e
        each (x ∷ xs) fits e = none x fits.0 (ap (λ (ws : List (List ℕ)). get_or ws 0 []) e)
    by (inl first) (inr none) = inr each
      where
        each : (xs : List A) → AllByRecursion P xs → w ∷ words ≢ map f xs
        each [] fits e = cc e
        each (x ∷ xs) fits e = none xs fits.1 (ap (drop 1) e)

-- Words that lack a byte are spelt by a text that joins them with this byte, or no words are.
pub joined_or_not : {A : Type 0} (c : ℕ) (f : A → List (List ℕ)) (P : A → Type 0) → ((x : A) → P x → (f x ≢ []) × AllByRecursion (Lacks c) (f x)) → ((words : List (List ℕ)) → SpeltOrNot f P words) → (text : List ℕ)
    → SpeltOrNot (λ x. join_with_byte c (f x)) P text
joined_or_not {A} c f P lack is_or_not text = by (is_or_not (slice_split (is_byte c) text))
  where
    by : SpeltOrNot f P (slice_split (is_byte c) text) → SpeltOrNot (λ x. join_with_byte c (f x)) P text
    by (inl found) = inl (found.0, found.1, join_split c text (f found.0) found.2)
    by (inr none) = inr (λ x fits e. none x fits (ap (slice_split (is_byte c)) e ∙ split_words c (f x) (lack x fits).0 (lack x fits).1))
