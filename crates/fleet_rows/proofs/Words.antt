-- Keys compared by words of eight bytes.
use Rattle.std.proofs.Common.{◌≡◌, ◌≢◌, ◌∙◌, refl, sym, ap, subst, ℕ, ◌+◌, ◌-◌, ◌*◌, ◌<◌, ◌≤◌, List, [], ◌∷◌, ◌++◌, zero, length, get_or, get_or-drop, take, drop, suc, arith, take-append-drop, length-take-le, true}
use Rattle.std.proofs.lemmas.Bool.Decides.{Decides-eqb}
use Rattle.std.proofs.lemmas.List.{take_rest}
use Rattle.std.specs.Prelude.{◌==◌}
use Rattle.std.specs.Int.{w64, from_be_bytes}
use Rattle.std.specs.Slice.Scan.{big_endian}
use Rattle.std.specs.Ordering.{nat_cmp, ordering_then}
use Rattle.std.specs.Cmp.{nat_cmp_is, ranked}
use Rattle.std.specs.Cmp.Lexicographic.{slice_cmp}
use Rattle.std.specs.declared.cmp.Ordering.{Ordering}
use Rattle.std.specs.declared.cmp.Ordering.TheVariants.{Less, Equal, Greater}

abbrev pub AreBytes : List ℕ → Type 0
AreBytes xs = (i : ℕ) → get_or xs i 0 < 256

-- After a lesser number, as many bytes spell a lesser number.
rises : (a b : ℕ) (us vs : List ℕ) → length us ≡ length vs → AreBytes us → a < b → big_endian a us < big_endian b vs
rises a b [] [] long small lt = lt
rises a b [] (v ∷ vs) long small lt = absurd (omega (arith, long))
rises a b (u ∷ us) [] long small lt = absurd (omega (arith, long))
rises a b (u ∷ us) (v ∷ vs) long small lt =
    let first : u < 256 = small 0 in
    rises (a * 256 + u) (b * 256 + v) us vs (omega (arith, long)) (λ i. small (suc i)) (omega (arith, first, lt))

-- As many bytes stand in the order of the numbers that they spell. Where these are equal, what follows decides.
spelt_order : (a : ℕ) (us vs xs ys : List ℕ) → length us ≡ length vs → AreBytes us → AreBytes vs
    → slice_cmp nat_cmp (us ++ xs) (vs ++ ys) ≡ ordering_then (nat_cmp (big_endian a us) (big_endian a vs)) (slice_cmp nat_cmp xs ys)
spelt_order a [] [] xs ys long small low = ap (λ o. ordering_then o (slice_cmp nat_cmp xs ys)) (nat_cmp_is a a Equal refl)
spelt_order a [] (v ∷ vs) xs ys long small low = absurd (omega (arith, long))
spelt_order a (u ∷ us) [] xs ys long small low = absurd (omega (arith, long))
spelt_order a (u ∷ us) (v ∷ vs) xs ys long small low =
    by (nat_cmp u v) refl (spelt_order (a * 256 + u) us vs xs ys (omega (arith, long)) (λ i. small (suc i)) (λ i. low (suc i)))
  where
    following : Ordering
    following = slice_cmp nat_cmp xs ys

    rest : Ordering
    rest = slice_cmp nat_cmp (us ++ xs) (vs ++ ys)

    by : (o : Ordering) → o ≡ nat_cmp u v → rest ≡ ordering_then (nat_cmp (big_endian (a * 256 + u) us) (big_endian (a * 256 + u) vs)) following
        → ordering_then (nat_cmp u v) rest ≡ ordering_then (nat_cmp (big_endian (a * 256 + u) us) (big_endian (a * 256 + v) vs)) following
    by Less is same =
        let lt : u < v = ranked u v Less is in
        ap (λ o. ordering_then o rest) (sym is)
        ∙ ap (λ o. ordering_then o following) (nat_cmp_is _ _ Less (rises (a * 256 + u) (a * 256 + v) us vs (omega (arith, long)) (λ i. small (suc i)) (omega (arith, lt))))
    by Equal is same =
        let level : u ≡ v = ranked u v Equal is in
        ap (λ o. ordering_then o rest) (sym is)
        ∙ subst (λ w. rest ≡ ordering_then (nat_cmp (big_endian (a * 256 + u) us) (big_endian (a * 256 + w) vs)) following) level same
    by Greater is same =
        let gt : v < u = ranked u v Greater is in
        ap (λ o. ordering_then o rest) (sym is)
        ∙ ap (λ o. ordering_then o following) (nat_cmp_is _ _ Greater (rises (a * 256 + v) (a * 256 + u) vs us (omega (arith, long)) (λ i. low (suc i)) (omega (arith, gt))))

-- Eight bytes as a word are the number that they spell, the first byte first.
spelt_8 : (bs : List ℕ) → length bs ≡ 8 → from_be_bytes w64 bs ≡ big_endian 0 bs
spelt_8 [] long = absurd (omega (arith, long))
spelt_8 (a ∷ []) long = absurd (omega (arith, long))
spelt_8 (a ∷ b ∷ []) long = absurd (omega (arith, long))
spelt_8 (a ∷ b ∷ c ∷ []) long = absurd (omega (arith, long))
spelt_8 (a ∷ b ∷ c ∷ d ∷ []) long = absurd (omega (arith, long))
spelt_8 (a ∷ b ∷ c ∷ d ∷ e ∷ []) long = absurd (omega (arith, long))
spelt_8 (a ∷ b ∷ c ∷ d ∷ e ∷ f ∷ []) long = absurd (omega (arith, long))
spelt_8 (a ∷ b ∷ c ∷ d ∷ e ∷ f ∷ g ∷ []) long = absurd (omega (arith, long))
spelt_8 (a ∷ b ∷ c ∷ d ∷ e ∷ f ∷ g ∷ h ∷ []) long = omega arith
spelt_8 (a ∷ b ∷ c ∷ d ∷ e ∷ f ∷ g ∷ h ∷ i ∷ bs) long = absurd (omega (arith, long))

first_bytes : (n : ℕ) (xs : List ℕ) → AreBytes xs → AreBytes (take n xs)
first_bytes zero xs small i = omega arith
first_bytes (suc n) [] small i = small i
first_bytes (suc n) (x ∷ xs) small zero = small 0
first_bytes (suc n) (x ∷ xs) small (suc i) = first_bytes n xs (λ j. small (suc j)) i

later_bytes : (n : ℕ) (xs : List ℕ) → AreBytes xs → AreBytes (drop n xs)
later_bytes n xs small i = subst (λ x. x < 256) (sym (get_or-drop n xs i 0)) (small (n + i))

-- The words at the front of two keys decide their order. Where these are equal, what follows decides.
words_decide : (xs ys us vs : List ℕ) (x y : ℕ) → AreBytes xs → AreBytes ys → 8 ≤ length xs → 8 ≤ length ys → us ≡ take 8 xs → vs ≡ take 8 ys
    → x ≡ from_be_bytes w64 us → y ≡ from_be_bytes w64 vs → slice_cmp nat_cmp xs ys ≡ ordering_then (nat_cmp x y) (slice_cmp nat_cmp (drop 8 xs) (drop 8 ys))
words_decide xs ys us vs x y small low long far first other word next =
    let here : length (take 8 xs) ≡ 8 = length-take-le 8 xs long in
    let there : length (take 8 ys) ≡ 8 = length-take-le 8 ys far in
    let following = slice_cmp nat_cmp (drop 8 xs) (drop 8 ys) in
    let one : x ≡ big_endian 0 (take 8 xs) = word ∙ ap (from_be_bytes w64) first ∙ spelt_8 (take 8 xs) here in
    let two : y ≡ big_endian 0 (take 8 ys) = next ∙ ap (from_be_bytes w64) other ∙ spelt_8 (take 8 ys) there in
    sym (ap (λ w. slice_cmp nat_cmp w (take 8 ys ++ drop 8 ys)) (take-append-drop 8 xs) ∙ ap (slice_cmp nat_cmp xs) (take-append-drop 8 ys))
    ∙ (spelt_order 0 (take 8 xs) (take 8 ys) (drop 8 xs) (drop 8 ys) (here ∙ sym there) (first_bytes 8 xs small) (first_bytes 8 ys low)
    ∙ (ap (λ n. ordering_then (nat_cmp n (big_endian 0 (take 8 ys))) following) (sym one) ∙ ap (λ n. ordering_then (nat_cmp x n) following) (sym two)))

-- The answer where two words differ.
words_apart : (x y : ℕ) (following : Ordering) → x ≢ y → nat_cmp x y ≡ ordering_then (nat_cmp x y) following
words_apart x y following far = by (nat_cmp x y) refl
  where
    by : (o : Ordering) → o ≡ nat_cmp x y → o ≡ ordering_then o following
    by Less is = refl
    by Equal is = absurd (far (ranked x y Equal is))
    by Greater is = refl

words_level : (x y : ℕ) (following : Ordering) → x ≡ y → ordering_then (nat_cmp x y) following ≡ following
words_level x y following level = ap (λ o. ordering_then o following) (sym (nat_cmp_is x y Equal level))

-- What is left of two keys from which some bytes were taken, as long as all of these were equal.
pub record AreLeft (key other rest other_rest : List ℕ) : Type 0 where
  pub small : AreBytes rest
  pub low : AreBytes other_rest
  pub same : slice_cmp nat_cmp key other ≡ slice_cmp nat_cmp rest other_rest

-- Two equal words were taken from what is left.
pub words_left : (key other xs ys us vs : List ℕ) (x y : ℕ) → AreLeft key other xs ys → 8 ≤ length xs → 8 ≤ length ys → us ≡ take 8 xs → vs ≡ take 8 ys
    → x ≡ from_be_bytes w64 us → y ≡ from_be_bytes w64 vs → x ≡ y → AreLeft key other (take (length xs - 8) (drop 8 xs)) (take (length ys - 8) (drop 8 ys))
words_left key other xs ys us vs x y left long far first next word other_word level =
    record {
      small = subst AreBytes (sym (take_rest xs 8)) (later_bytes 8 xs left.small);
      low = subst AreBytes (sym (take_rest ys 8)) (later_bytes 8 ys left.low);
      same = left.same ∙ (words_decide xs ys us vs x y left.small left.low long far first next word other_word
          ∙ (words_level x y (slice_cmp nat_cmp (drop 8 xs) (drop 8 ys)) level
          ∙ (ap (λ w. slice_cmp nat_cmp w (drop 8 ys)) (sym (take_rest xs 8)) ∙ ap (slice_cmp nat_cmp (take (length xs - 8) (drop 8 xs))) (sym (take_rest ys 8)))));
    }

-- Two different words decide.
pub words_answer : (key other xs ys us vs : List ℕ) (x y : ℕ) (answer : Ordering) → AreLeft key other xs ys → 8 ≤ length xs → 8 ≤ length ys → us ≡ take 8 xs → vs ≡ take 8 ys
    → x ≡ from_be_bytes w64 us → y ≡ from_be_bytes w64 vs → x ≢ y → answer ≡ nat_cmp x y → answer ≡ slice_cmp nat_cmp key other
words_answer key other xs ys us vs x y answer left long far first next word other_word apart is =
    is ∙ (words_apart x y (slice_cmp nat_cmp (drop 8 xs) (drop 8 ys)) apart
    ∙ (sym (words_decide xs ys us vs x y left.small left.low long far first next word other_word) ∙ sym left.same))

both_empty : (xs ys : List ℕ) → length xs ≡ 0 → length ys ≡ 0 → Equal ≡ slice_cmp nat_cmp xs ys
both_empty [] [] none other = refl
both_empty [] (y ∷ ys) none other = absurd (omega (arith, other))
both_empty (x ∷ xs) ys none other = absurd (omega (arith, none))

-- Keys are equal if nothing is left of them.
pub words_over : (key other xs ys : List ℕ) → AreLeft key other xs ys → (length xs == 0) ≡ true → (length ys == 0) ≡ true → Equal ≡ slice_cmp nat_cmp key other
words_over key other xs ys left none empty =
    both_empty xs ys ((Decides-eqb (length xs) 0).0 none) ((Decides-eqb (length ys) 0).0 empty) ∙ sym left.same
