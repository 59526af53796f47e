-- Of each list of words, whether it is a word and then words that spell values that fit.
use Rattle.std.proofs.Common.{◌≡◌, ◌≢◌, ℕ, ◌<◌, ◌≤◌, ◌^◌, Bool, true, false, inl, inr, List, [], ◌∷◌, drop, get_or, Option, Some, None, ℤ, refl, sym, ap, ◌∙◌, arith, codes}
use Rattle.std.specs.Prelude.{⊤}
use Rattle.std.specs.Fmt.{decimal, signed_decimal}
use Rattle.row_model.specs.Bounds.{AreShortBytes, IsKey, IsStamp, IsStampOrNone}
use Rattle.script_model.specs.Words.{bytes_text, stamp_text, flag_text, fault_text}
use Rattle.spelling_laws.proofs.Spelt.{Decided, SpeltOrNot, Form, same_or_not, le_or_not, lt_or_not, both_or_not, number_or_not, stamp_or_not, stamp_or_none_or_not, short_or_not, key_or_not}

-- If two lists of words are equal, their words at each place are equal.
pub word : {ws vs : List (List ℕ)} (i : ℕ) → ws ≡ vs → get_or ws i [] ≡ get_or vs i []
word i e = ap (λ (l : List (List ℕ)). get_or l i []) e

abbrev pub Word : Type 0 → Type 1
Word A = Form A (List ℕ)

abbrev pub Words : Type 0 → Type 1
Words A = Form A (List (List ℕ))

-- ---- single words

-- A number below 2 ^ 64.
abbrev pub number : Word ℕ
number = record { spelling = decimal; Fits = λ n. n < 2 ^ 64; is_spelt_or_not = number_or_not (λ n. n < 2 ^ 64) (λ n h. h) (λ n. lt_or_not n (2 ^ 64)) }

-- A number below 2 ^ 32.
abbrev pub short_number : Word ℕ
short_number = record { spelling = decimal; Fits = λ n. n < 2 ^ 32; is_spelt_or_not = number_or_not (λ n. n < 2 ^ 32) (λ n h. omega (arith, h)) (λ n. lt_or_not n (2 ^ 32)) }

-- A number from 1 to below a bound.
abbrev pub some_below : (most : ℕ) → most ≤ 2 ^ 64 → Word ℕ
some_below most le =
    record { spelling = decimal; Fits = λ n. (1 ≤ n) × (n < most); is_spelt_or_not = number_or_not (λ n. (1 ≤ n) × (n < most)) (λ n h. let lt = h.1 in omega (arith, lt, le)) (λ n. both_or_not (le_or_not 1 n) (lt_or_not n most)) }

-- A number from 1 up to a bound.
abbrev pub some_up_to : (most : ℕ) → most < 2 ^ 64 → Word ℕ
some_up_to most lt =
    record { spelling = decimal; Fits = λ n. (1 ≤ n) × (n ≤ most); is_spelt_or_not = number_or_not (λ n. (1 ≤ n) × (n ≤ most)) (λ n h. let le = h.1 in omega (arith, le, lt)) (λ n. both_or_not (le_or_not 1 n) (le_or_not n most)) }

-- A number up to a bound.
abbrev pub up_to : (most : ℕ) → most < 2 ^ 64 → Word ℕ
up_to most lt = record { spelling = decimal; Fits = λ n. n ≤ most; is_spelt_or_not = number_or_not (λ n. n ≤ most) (λ n h. omega (arith, h, lt)) (λ n. le_or_not n most) }

abbrev pub stamp : Word ℤ
stamp = record { spelling = signed_decimal; Fits = IsStamp; is_spelt_or_not = stamp_or_not }

abbrev pub stamp_or_none : Word (Option ℤ)
stamp_or_none = record { spelling = stamp_text; Fits = IsStampOrNone; is_spelt_or_not = stamp_or_none_or_not }

abbrev pub short_bytes : Word (List ℕ)
short_bytes = record { spelling = bytes_text; Fits = AreShortBytes; is_spelt_or_not = short_or_not }

abbrev pub key_bytes : Word (List ℕ)
key_bytes = record { spelling = bytes_text; Fits = IsKey; is_spelt_or_not = key_or_not }

-- If two words are those of true and of false, a text is one of them or not.
test_or_not : (spelling : Bool → List ℕ) (text : List ℕ) → Decided (text ≡ spelling true) → Decided (text ≡ spelling false) → SpeltOrNot spelling (λ test. ⊤) text
test_or_not spelling text (inl is) other = inl (true, tt, is)
test_or_not spelling text (inr is_not) (inl is) = inl (false, tt, is)
test_or_not spelling text (inr is_not) (inr nor) = inr each
  where
    each : (test : Bool) → ⊤ → text ≢ spelling test
    each true fits e = is_not e
    each false fits e = nor e

pub flag_or_not : (text : List ℕ) → SpeltOrNot flag_text (λ flag. ⊤) text
flag_or_not text = test_or_not flag_text text (same_or_not text (codes "1")) (same_or_not text (codes "0"))

pub fault_or_not : (text : List ℕ) → SpeltOrNot fault_text (λ stands. ⊤) text
fault_or_not text = test_or_not fault_text text (same_or_not text (codes "stands")) (same_or_not text (codes "lost"))

abbrev pub flag : Word Bool
flag = record { spelling = flag_text; Fits = λ flag. ⊤; is_spelt_or_not = flag_or_not }

abbrev pub fault : Word Bool
fault = record { spelling = fault_text; Fits = λ stands. ⊤; is_spelt_or_not = fault_or_not }

-- ---- a word and then words

pub then_or_not : {A C : Type 0} (first : Word A) (after : Words C) (words : List (List ℕ)) → SpeltOrNot (λ (x : A × C). first.spelling x.0 ∷ after.spelling x.1) (λ x. first.Fits x.0 × after.Fits x.1) words
then_or_not first after [] = inr (λ x fits e. cc e)
then_or_not {A} {C} first after (w ∷ words) = by (first.is_spelt_or_not w) (after.is_spelt_or_not words)
  where
    by : SpeltOrNot first.spelling first.Fits w → SpeltOrNot after.spelling after.Fits words → SpeltOrNot (λ (x : A × C). first.spelling x.0 ∷ after.spelling x.1) (λ x. first.Fits x.0 × after.Fits x.1) (w ∷ words)
    by (inl found) (inl others) = let is = found.2 in let are = others.2 in inl ((found.0, others.0), (found.1, others.1), cc (is, are))
    by (inr none) others = inr (λ x fits e. none x.0 fits.0 (word 0 e))
    by (inl found) (inr none) = inr (λ x fits e. none x.1 fits.1 (ap (drop 1) e))

-- A word, and then words.
abbrev pub followed : {A C : Type 0} → Word A → Words C → Words (A × C)
followed {A} {C} first after = record { spelling = λ (x : A × C). first.spelling x.0 ∷ after.spelling x.1; Fits = λ x. first.Fits x.0 × after.Fits x.1; is_spelt_or_not = then_or_not first after }

pub named_or_not : {A : Type 0} (name : List ℕ) (after : Words A) (words : List (List ℕ)) → SpeltOrNot (λ (x : A). name ∷ after.spelling x) after.Fits words
named_or_not name after [] = inr (λ x fits e. cc e)
named_or_not {A} name after (w ∷ words) = by (same_or_not w name) (after.is_spelt_or_not words)
  where
    by : Decided (w ≡ name) → SpeltOrNot after.spelling after.Fits words → SpeltOrNot (λ (x : A). name ∷ after.spelling x) after.Fits (w ∷ words)
    by (inl is) (inl others) = let are = others.2 in inl (others.0, others.1, cc (is, are))
    by (inr is_not) others = inr (λ x fits e. is_not (word 0 e))
    by (inl is) (inr none) = inr (λ x fits e. none x fits (ap (drop 1) e))

-- The word is this name, and then come words.
abbrev pub named : {A : Type 0} → List ℕ → Words A → Words A
named {A} name after = record { spelling = λ (x : A). name ∷ after.spelling x; Fits = after.Fits; is_spelt_or_not = named_or_not name after }

pub end_or_not : (words : List (List ℕ)) → SpeltOrNot (λ (x : ⊤). []) (λ x. ⊤) words
end_or_not [] = inl (tt, tt, refl)
end_or_not (w ∷ words) = inr (λ x fits e. cc e)

-- No further word.
abbrev pub ends : Words ⊤
ends = record { spelling = λ x. []; Fits = λ x. ⊤; is_spelt_or_not = end_or_not }

pub last_or_not : {A : Type 0} (only : Word A) (words : List (List ℕ)) → SpeltOrNot (λ (x : A). only.spelling x ∷ []) only.Fits words
last_or_not only [] = inr (λ x fits e. cc e)
last_or_not only (w ∷ v ∷ words) = inr (λ x fits e. cc e)
last_or_not {A} only (w ∷ []) = by (only.is_spelt_or_not w)
  where
    by : SpeltOrNot only.spelling only.Fits w → SpeltOrNot (λ (x : A). only.spelling x ∷ []) only.Fits (w ∷ [])
    by (inl found) = inl (found.0, found.1, ap (λ t. t ∷ []) found.2)
    by (inr none) = inr (λ x fits e. none x fits (word 0 e))

-- A last word.
abbrev pub last : {A : Type 0} → Word A → Words A
last {A} only = record { spelling = λ (x : A). only.spelling x ∷ []; Fits = only.Fits; is_spelt_or_not = last_or_not only }

-- A last word that may be left out. If a spelling of an option has no word for none and else the
-- word of its value, then what is known of that word is known of the option.
pub optional_or_not : {A : Type 0} (only : Word A) (spelling : Option A → List (List ℕ)) (Fits : Option A → Type 0) → spelling None ≡ [] → Fits None → ((x : A) → spelling (Some x) ≡ only.spelling x ∷ []) → ((x : A) → only.Fits x → Fits (Some x)) → ((x : A) → Fits (Some x) → only.Fits x)
    → (words : List (List ℕ)) → SpeltOrNot spelling Fits words
optional_or_not only spelling Fits none is_none one to from [] = inl (None, is_none, sym none)
optional_or_not {A} only spelling Fits none is_none one to from (w ∷ words) = by (last_or_not only (w ∷ words))
  where
    by : SpeltOrNot (λ (x : A). only.spelling x ∷ []) only.Fits (w ∷ words) → SpeltOrNot spelling Fits (w ∷ words)
    by (inl found) = inl (Some found.0, to found.0 found.1, found.2 ∙ sym (one found.0))
    by (inr no_one) = inr each
      where
        each : (o : Option A) → Fits o → w ∷ words ≢ spelling o
        each None fits e = let empty = e ∙ none in cc empty
        each (Some x) fits e = no_one x (from x fits) (e ∙ one x)
