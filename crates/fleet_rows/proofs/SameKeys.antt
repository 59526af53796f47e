-- Keys compared by words, for whether they are the same.
use Rattle.std.proofs.Common.{◌≡◌, ◌≢◌, ◌∙◌, refl, sym, ap, ℕ, ◌≤◌, List, length, take, false, true}
use Rattle.std.specs.Prelude.{bytes_eq, ◌==◌}
use Rattle.std.specs.Int.{w64, from_be_bytes}
use Rattle.std.specs.Ordering.{nat_cmp, is_eq}
use Rattle.std.specs.Cmp.{ranked}
use Rattle.std.specs.Cmp.Lexicographic.{slice_cmp, texts_ties}
use Rattle.std.specs.declared.cmp.Ordering.{Ordering}
use Rattle.std.specs.declared.cmp.Ordering.TheVariants.{Less, Equal, Greater}
use Rattle.fleet_rows.proofs.Words.{AreLeft, words_answer, words_over}

unequal : (x y : ℕ) → x ≢ y → is_eq (nat_cmp x y) ≡ false
unequal x y far = by (nat_cmp x y) refl
  where
    by : (o : Ordering) → o ≡ nat_cmp x y → is_eq o ≡ false
    by Less is = refl
    by Equal is = absurd (far (ranked x y Equal is))
    by Greater is = refl

-- Keys are other ones where two of their words differ.
pub words_differ : (key other xs ys us vs : List ℕ) (x y : ℕ) → AreLeft key other xs ys → 8 ≤ length xs → 8 ≤ length ys → us ≡ take 8 xs → vs ≡ take 8 ys
    → x ≡ from_be_bytes w64 us → y ≡ from_be_bytes w64 vs → x ≢ y → bytes_eq key other ≡ false
words_differ key other xs ys us vs x y left long far first next word other_word apart =
    texts_ties key other
    ∙ (ap is_eq (sym (words_answer key other xs ys us vs x y (nat_cmp x y) left long far first next word other_word apart refl)) ∙ unequal x y apart)

-- Keys are the same if what is left of them is at a tie.
pub rest_decides : (key other xs ys : List ℕ) → AreLeft key other xs ys → is_eq (slice_cmp nat_cmp xs ys) ≡ bytes_eq key other
rest_decides key other xs ys left = ap is_eq (sym left.same) ∙ sym (texts_ties key other)

-- Keys are the same if nothing is left of them.
pub nothing_left : (key other xs ys : List ℕ) → AreLeft key other xs ys → (length xs == 0) ≡ true → (length ys == 0) ≡ true → true ≡ bytes_eq key other
nothing_left key other xs ys left none empty = sym (texts_ties key other ∙ ap is_eq (sym (words_over key other xs ys left none empty)))
