-- Reading a list of values from the fields of a word.
use Rattle.std.proofs.Common.{◌≡◌, ◌≢◌, ℕ, zero, suc, ◌+◌, ◌<◌, ◌≤◌, List, [], ◌∷◌, ◌++◌, length, get_or, map, take, Bor, refl, sym, ap, ◌∙◌, arith}
use Rattle.std.specs.List.{AllByRecursion, slice_split}
use Rattle.std.proofs.lemmas.List.{take_more, take_all}
use Rattle.std.proofs.lemmas.List.Splits.{length-slice_split}
use Rattle.script_laws.specs.ByteTests.{is_byte}
use Rattle.fleet_text.proofs.Lines.{AllByRecursion-push, map-push}

abbrev pub now_of : Bor (List ℕ) → List ℕ
now_of x = x.now

-- The first i fields spell these values.
pub record ReadsEach {A M : Type 0} (view : A → M) (text : M → List ℕ) (Fits : M → Type 0) (fs : List (Bor (List ℕ))) (i : ℕ) (xs : List A) : Type 0 where
  pub each : AllByRecursion Fits (map view xs)
  pub words : map text (map view xs) ≡ map (λ x. x.now) (take i fs)

pub each_none : {A M : Type 0} (view : A → M) (text : M → List ℕ) (Fits : M → Type 0) (fs : List (Bor (List ℕ))) → ReadsEach view text Fits fs 0 []
each_none view text Fits fs = record { each = tt; words = refl }

pub each_more : {A M : Type 0} (view : A → M) (text : M → List ℕ) (Fits : M → Type 0) (fs : List (Bor (List ℕ))) (i : ℕ) (xs : List A) (d : Bor (List ℕ)) (x : A) → ReadsEach view text Fits fs i xs → i < length fs → Fits (view x) × ((get_or fs i d).now ≡ text (view x)) → ReadsEach view text Fits fs (i + 1) (xs ++ x ∷ [])
each_more view text Fits fs i xs d x r lt read =
    let one : map view (xs ++ x ∷ []) ≡ map view xs ++ view x ∷ [] = map-push view xs x in
    record {
      each = rw one (AllByRecursion-push Fits (map view xs) (view x) r.each read.0);
      words =
          ap (map text) one ∙ map-push text (map view xs) (view x) ∙ ap (λ l. l ++ text (view x) ∷ []) r.words ∙ ap (λ w. map now_of (take i fs) ++ w ∷ []) (sym read.1)
          ∙ sym (map-push now_of (take i fs) (get_or fs i d)) ∙ ap (map now_of) (sym (take_more fs i d lt));
    }

-- All fields have been read, so their words are those of the values, and there is at least one.
pub each_all : {A M : Type 0} (view : A → M) (text : M → List ℕ) (Fits : M → Type 0) (cut : ℕ) (word : List ℕ) (fs : List (Bor (List ℕ))) (i : ℕ) (xs : List A) → ReadsEach view text Fits fs i xs → length fs ≤ i → map (λ x. x.now) fs ≡ slice_split (is_byte cut) word
    → (0 < length (map view xs)) × AllByRecursion Fits (map view xs) × (map text (map view xs) ≡ slice_split (is_byte cut) word)
each_all {M = M} view text Fits cut word fs i xs r le split =
    let words : map text (map view xs) ≡ slice_split (is_byte cut) word = r.words ∙ ap (map now_of) (take_all i fs le) ∙ split in
    (some (map view xs) words, r.each, words)
  where
    some : (ms : List M) → map text ms ≡ slice_split (is_byte cut) word → 0 < length ms
    some [] words = let n = length-slice_split (is_byte cut) word in let none = ap length words in absurd (omega (arith, n, none))
    some (m ∷ ms) words = omega arith

-- A field that spells no value is not among the words of a list of values.
pub not_among : {M : Type 0} (text : M → List ℕ) (Fits : M → Type 0) (fs : List (Bor (List ℕ))) (i : ℕ) (d : Bor (List ℕ)) (ms : List M) → AllByRecursion Fits ms → i < length fs → ((m : M) → Fits m → (get_or fs i d).now ≢ text m) → map (λ x. x.now) fs ≢ map text ms
not_among text Fits [] i d ms h lt none e = omega arith
not_among text Fits (g ∷ fs) i d [] h lt none e = cc e
not_among text Fits (g ∷ fs) zero d (m ∷ ms) h lt none e = none m h.0 (ap (λ (ws : List (List ℕ)). get_or ws 0 []) e)
not_among text Fits (g ∷ fs) (suc i) d (m ∷ ms) h lt none e = let tail : map now_of fs ≡ map text ms = cc in not_among text Fits fs i d ms h.1 (omega arith) none tail
