-- Lists in chunks.
use Rattle.std.proofs.Common.{◌≡◌, refl, sym, ◌∙◌, ap, ℕ, ◌+◌, ◌<◌, ◌≤◌, List, [], ◌∷◌, ◌++◌, length, drop, slice_index_or, Bool, true, false, cond, arith, ltb-false, ltb-true}
use Rattle.std.specs.Prelude.{fold, nat_lt, sum_by, take_while}
use Rattle.std.specs.List.{flat_map}
use Rattle.std.proofs.lemmas.List.{append_assoc, drop_more, flat_map_more, length-append}
use Rattle.std.proofs.lemmas.List.Concat.{length-flat_map}
use Rattle.std.proofs.lemmas.List.Sums.{take_while-cons}
use Rattle.row_model.specs.Written.Sizes.{saturated_sum}
use Rattle.fleet_tree.proofs.Sizes.{fold-is}

module _ {X : Type 0} where
  abbrev pub joined : List (List X) → List X
  joined chunks = flat_map (λ chunk. chunk) chunks

  -- The number of elements of a first chunk and of others.
  pub count_is : (first : List X) (others : List (List X)) (counted : ℕ) → counted ≡ fold (λ count chunk. saturated_sum (count + length chunk)) 0 others
      → saturated_sum (counted + length first) ≡ saturated_sum (length (first ++ joined others))
  count_is first others counted is =
      let all : counted ≡ saturated_sum (sum_by (λ chunk. length chunk) others) = is ∙ fold-is (λ chunk. length chunk) others in
      let long : length (joined others) ≡ sum_by (λ chunk. length chunk) others = length-flat_map (λ chunk. chunk) others in
      let both : length (first ++ joined others) ≡ length first + length (joined others) = length-append first (joined others) in
      omega (arith, all, long, both)

  module _ (p : X → Bool) where
    -- A chunk is cut where not all of it passes.
    pub record IsCut (cut : Bool) (chunk : List X) : Type 0 where
      pub some : cut ≡ true → length (take_while p chunk) < length chunk
      pub all : cut ≡ false → length chunk ≤ length (take_while p chunk)

    -- A first chunk is cut, or what passes of the others follows.
    pub next_chunk : (cut : Bool) (chunk rest : List X) → IsCut cut chunk → take_while p (chunk ++ rest) ≡ take_while p chunk ++ cond cut [] (take_while p rest)
    next_chunk true [] rest is = absurd (let h = is.some refl in omega (arith, h))
    next_chunk false [] rest is = refl
    next_chunk cut (x ∷ chunk) rest is =
        let long : length (take_while p (x ∷ chunk)) ≡ length (cond (p x) (x ∷ take_while p chunk) []) = ap length (take_while-cons p x chunk) in
        take_while-cons p x (chunk ++ rest)
        ∙ by (p x) (next_chunk cut chunk rest) (λ e. let h = is.some e in omega (arith, h, long)) (λ e. let h = is.all e in omega (arith, h, long))
        ∙ sym (ap (λ first. first ++ cond cut [] (take_while p rest)) (take_while-cons p x chunk))
      where
        by : (b : Bool) → (IsCut cut chunk → take_while p (chunk ++ rest) ≡ take_while p chunk ++ cond cut [] (take_while p rest))
            → (cut ≡ true → length (cond b (x ∷ take_while p chunk) []) < length (x ∷ chunk))
            → (cut ≡ false → length (x ∷ chunk) ≤ length (cond b (x ∷ take_while p chunk) []))
            → cond b (x ∷ take_while p (chunk ++ rest)) [] ≡ cond b (x ∷ take_while p chunk) [] ++ cond cut [] (take_while p rest)
        by true more some all =
            ap (λ l. x ∷ l) (more record { some = λ e. let h = some e in omega (arith, h); all = λ e. let h = all e in omega (arith, h) })
        by false more some all = none cut all
          where
            none : (c : Bool) → (c ≡ false → length (x ∷ chunk) ≤ 0) → [] ≡ cond c [] (take_while p rest)
            none true h = refl
            none false h = absurd (let k = h refl in omega (arith, k))

    -- Whether a chunk is cut, by the numbers of the views in it and before the cut.
    pub cut_by : (cut : Bool) (chunk part : List X) (count all : ℕ) → part ≡ take_while p chunk → count ≡ length part → all ≡ length chunk
        → (cut ≡ true → count < all) → (cut ≡ false → all ≤ count) → IsCut cut chunk
    cut_by cut chunk part count all is counted long some none =
        let same : length part ≡ length (take_while p chunk) = ap length is in
        record { some = λ e. let h = some e in omega (arith, same, counted, long, h); all = λ e. let h = none e in omega (arith, same, counted, long, h) }

    -- One chunk more was looked at.
    pub one_more : (before after chunks : List (List X)) (place : ℕ) (chunk part : List X) (cut : Bool) → place < length chunks → chunk ≡ slice_index_or chunks place chunk
        → part ≡ take_while p chunk → IsCut cut chunk → after ≡ before ++ part ∷ []
        → joined before ++ take_while p (joined (drop place chunks)) ≡ take_while p (joined chunks)
        → joined after ++ cond cut [] (take_while p (joined (drop (place + 1) chunks))) ≡ take_while p (joined chunks)
    one_more before after chunks place chunk part cut below at is cuts made so_far =
        let rest = joined (drop (place + 1) chunks) in
        let left : joined (drop place chunks) ≡ chunk ++ rest =
        ap joined (drop_more chunks place chunk below) ∙ ap (λ first. first ++ rest) (sym at) in
        ap (λ all. joined all ++ cond cut [] (take_while p rest)) made
        ∙ ap (λ all. all ++ cond cut [] (take_while p rest)) (sym (flat_map_more (λ chunk. chunk) [] before part))
        ∙ append_assoc (joined before) part (cond cut [] (take_while p rest))
        ∙ ap (λ first. joined before ++ (first ++ cond cut [] (take_while p rest))) is
        ∙ ap (λ all. joined before ++ all) (sym (next_chunk cut chunk rest cuts) ∙ ap (take_while p) (sym left))
        ∙ so_far

    -- The views before the cut are those of the first chunk, and those of the others unless it is cut.
    pub before_is : (first part : List X) (others before : List (List X)) (count all : ℕ) → part ≡ take_while p first → count ≡ length part → all ≡ length first
        → joined before ≡ cond (nat_lt count all) [] (take_while p (joined others))
        → part ++ joined before ≡ take_while p (first ++ joined others)
    before_is first part others before count all is counted long rest =
        let cuts = cut_by (nat_lt count all) first part count all is counted long (ltb-true count all) (ltb-false count all) in
        ap (λ more. part ++ more) rest
        ∙ ap (λ front. front ++ cond (nat_lt count all) [] (take_while p (joined others))) is
        ∙ sym (next_chunk (nat_lt count all) first (joined others) cuts)
