-- The places of items in lists that stand in chunks.
use Rattle.std.proofs.Common.{◌≡◌, refl, sym, ◌∙◌, ap, subst, ℕ, zero, suc, ◌+◌, ◌-◌, ◌<◌, ◌≤◌, List, [], ◌∷◌, ◌++◌, length, get_or, take, drop, Bool, true, false, not, cond, arith}
use Rattle.std.specs.Prelude.{Option, Some, None, slice_get, slice_set, IfSome, option_to_list}
use Rattle.std.specs.List.{position_or_len}
use Rattle.std.proofs.lemmas.List.{append-nil, append_assoc, drop_all, drop_more, length-append, length-drop, length-take, take_all, take_more}
use Rattle.std.proofs.lemmas.List.Concat.{flat_map-append}
use Rattle.fleet_tree.specs.Lists.{joined, spliced}

module _ {X : Type 0} where
  -- ---- one chunk among the others

  -- The items before a chunk, those of the chunk, and those after it.
  pub parts : (chunks : List (List X)) (i : ℕ) (chunk : List X) → slice_get chunks i ≡ Some chunk → joined chunks ≡ joined (take i chunks) ++ (chunk ++ joined (drop (suc i) chunks))
  parts [] i chunk is = absurd (cc is)
  parts (first ∷ chunks) zero chunk is = let same : first ≡ chunk = cc is in ap (λ c. c ++ joined chunks) same
  parts (first ∷ chunks) (suc i) chunk is =
      ap (λ items. first ++ items) (parts chunks i chunk is) ∙ sym (append_assoc first (joined (take i chunks)) (chunk ++ joined (drop (suc i) chunks)))

  -- Another chunk in the place of one.
  pub with_chunk : (chunks : List (List X)) (i : ℕ) (old new : List X) → slice_get chunks i ≡ Some old → joined (slice_set chunks i new) ≡ joined (take i chunks) ++ (new ++ joined (drop (suc i) chunks))
  with_chunk [] i old new is = absurd (cc is)
  with_chunk (first ∷ chunks) zero old new is = refl
  with_chunk (first ∷ chunks) (suc i) old new is =
      ap (λ items. first ++ items) (with_chunk chunks i old new is) ∙ sym (append_assoc first (joined (take i chunks)) (new ++ joined (drop (suc i) chunks)))

  -- All chunks are before a place behind them.
  pub all_before : (chunks : List (List X)) (i : ℕ) → slice_get chunks i ≡ None → joined (take i chunks) ≡ joined chunks
  all_before [] zero is = refl
  all_before [] (suc i) is = refl
  all_before (first ∷ chunks) zero is = absurd (cc is)
  all_before (first ∷ chunks) (suc i) is = ap (λ items. first ++ items) (all_before chunks i is)

  -- ---- items between others

  got_front : (items back : List X) (place : ℕ) → place < length items → slice_get (items ++ back) place ≡ slice_get items place
  got_front [] back place within = absurd (omega (arith, within))
  got_front (x ∷ items) back zero within = refl
  got_front (x ∷ items) back (suc place) within = got_front items back place (omega (arith, within))

  pub got_between : (front items back : List X) (place : ℕ) → place < length items → slice_get (front ++ (items ++ back)) (length front + place) ≡ slice_get items place
  got_between [] items back place within =
      let here : 0 + place ≡ place = omega arith in
      ap (slice_get (items ++ back)) here ∙ got_front items back place within
  got_between (x ∷ front) items back place within =
      let later : length (x ∷ front) + place ≡ suc (length front + place) = omega arith in
      ap (slice_get (x ∷ (front ++ (items ++ back)))) later ∙ got_between front items back place within

  dropped_front : (items back : List X) (place : ℕ) → place ≤ length items → drop place (items ++ back) ≡ drop place items ++ back
  dropped_front items back zero within = refl
  dropped_front [] back (suc place) within = absurd (omega (arith, within))
  dropped_front (x ∷ items) back (suc place) within = dropped_front items back place (omega (arith, within))

  pub dropped_between : (front items back : List X) (place : ℕ) → place ≤ length items → drop (length front + place) (front ++ (items ++ back)) ≡ drop place items ++ back
  dropped_between [] items back place within =
      let here : 0 + place ≡ place = omega arith in
      ap (λ n. drop n (items ++ back)) here ∙ dropped_front items back place within
  dropped_between (x ∷ front) items back place within =
      let later : length (x ∷ front) + place ≡ suc (length front + place) = omega arith in
      ap (λ n. drop n (x ∷ (front ++ (items ++ back)))) later ∙ dropped_between front items back place within

  taken_front : (items back : List X) (place : ℕ) → place ≤ length items → take place (items ++ back) ≡ take place items
  taken_front items back zero within = refl
  taken_front [] back (suc place) within = absurd (omega (arith, within))
  taken_front (x ∷ items) back (suc place) within = ap (λ l. x ∷ l) (taken_front items back place (omega (arith, within)))

  pub taken_between : (front items back : List X) (place : ℕ) → place ≤ length items → take (length front + place) (front ++ (items ++ back)) ≡ front ++ take place items
  taken_between [] items back place within =
      let here : 0 + place ≡ place = omega arith in
      ap (λ n. take n (items ++ back)) here ∙ taken_front items back place within
  taken_between (x ∷ front) items back place within =
      let later : length (x ∷ front) + place ≡ suc (length front + place) = omega arith in
      ap (λ n. take n (x ∷ (front ++ (items ++ back)))) later ∙ ap (λ l. x ∷ l) (taken_between front items back place within)

  -- An exchange among the items between others.
  pub spliced_between : (front items back : List X) (place count : ℕ) (item : Option X) → place + count ≤ length items
      → spliced (length front + place) count item (front ++ (items ++ back)) ≡ front ++ (spliced place count item items ++ back)
  spliced_between front items back place count item within =
      let end : length front + place + count ≡ length front + (place + count) = omega arith in
      ap (λ before. before ++ option_to_list item ++ drop (length front + place + count) (front ++ (items ++ back))) (taken_between front items back place (omega (arith, within)))
      ∙ ap (λ n. (front ++ take place items) ++ option_to_list item ++ drop n (front ++ (items ++ back))) end
      ∙ ap (λ after. (front ++ take place items) ++ option_to_list item ++ after) (dropped_between front items back (place + count) within)
      ∙ ap (λ before. before ++ (drop (place + count) items ++ back)) (append_assoc front (take place items) (option_to_list item))
      ∙ append_assoc front (take place items ++ option_to_list item) (drop (place + count) items ++ back)
      ∙ ap (λ l. front ++ l) (sym (append_assoc (take place items ++ option_to_list item) (drop (place + count) items) back))

  -- How many items there are after an exchange.
  pub spliced_count : (items : List X) (place count : ℕ) (item : Option X) → place + count ≤ length items → length (spliced place count item items) ≡ length items - count + length (option_to_list item)
  spliced_count items place count item within =
      let all = length-append (take place items ++ option_to_list item) (drop (place + count) items) in
      let front = length-append (take place items) (option_to_list item) in
      let taken = length-take place items in
      let left = length-drop (place + count) items in
      omega (arith, within, all, front, taken, left)

  -- ---- a spot, as a place among all

  -- An exchange within a chunk is one among all items.
  pub spliced_chunk : (chunks : List (List X)) (i place at count : ℕ) (chunk : List X) (item : Option X) → slice_get chunks i ≡ Some chunk
      → place ≡ length (joined (take i chunks)) + at → at + count ≤ length chunk
      → joined (slice_set chunks i (spliced at count item chunk)) ≡ spliced place count item (joined chunks)
  spliced_chunk chunks i place at count chunk item is stands within =
      with_chunk chunks i chunk (spliced at count item chunk) is
      ∙ sym (spliced_between (joined (take i chunks)) chunk (joined (drop (suc i) chunks)) at count item within)
      ∙ ap (λ n. spliced n count item (joined (take i chunks) ++ (chunk ++ joined (drop (suc i) chunks)))) (sym stands)
      ∙ ap (spliced place count item) (sym (parts chunks i chunk is))

  -- The item of a chunk.
  pub got_in_chunk : (chunks : List (List X)) (i place at : ℕ) (chunk : List X) → slice_get chunks i ≡ Some chunk
      → place ≡ length (joined (take i chunks)) + at → at < length chunk → slice_get (joined chunks) place ≡ slice_get chunk at
  got_in_chunk chunks i place at chunk is stands within =
      ap (λ n. slice_get (joined chunks) n) stands
      ∙ ap (λ items. slice_get items (length (joined (take i chunks)) + at)) (parts chunks i chunk is)
      ∙ got_between (joined (take i chunks)) chunk (joined (drop (suc i) chunks)) at within

  pub dropped_in_chunk : (chunks : List (List X)) (i place at : ℕ) (chunk : List X) → slice_get chunks i ≡ Some chunk
      → place ≡ length (joined (take i chunks)) + at → at ≤ length chunk → drop place (joined chunks) ≡ drop at chunk ++ joined (drop (suc i) chunks)
  dropped_in_chunk chunks i place at chunk is stands within =
      ap (λ n. drop n (joined chunks)) stands
      ∙ ap (λ items. drop (length (joined (take i chunks)) + at) items) (parts chunks i chunk is)
      ∙ dropped_between (joined (take i chunks)) chunk (joined (drop (suc i) chunks)) at within

  pub taken_in_chunk : (chunks : List (List X)) (i place at : ℕ) (chunk : List X) → slice_get chunks i ≡ Some chunk
      → place ≡ length (joined (take i chunks)) + at → at ≤ length chunk → take place (joined chunks) ≡ joined (take i chunks) ++ take at chunk
  taken_in_chunk chunks i place at chunk is stands within =
      ap (λ n. take n (joined chunks)) stands
      ∙ ap (λ items. take (length (joined (take i chunks)) + at) items) (parts chunks i chunk is)
      ∙ taken_between (joined (take i chunks)) chunk (joined (drop (suc i) chunks)) at within

  -- No item is at a place behind all chunks, and none after it.
  pub got_behind : (chunks : List (List X)) (i place at : ℕ) → slice_get chunks i ≡ None → place ≡ length (joined (take i chunks)) + at → slice_get (joined chunks) place ≡ None
  got_behind chunks i place at is stands =
      let long : length (joined (take i chunks)) ≡ length (joined chunks) = ap length (all_before chunks i is) in
      past (joined chunks) place (omega (arith, long, stands))
    where
      past : (items : List X) (n : ℕ) → length items ≤ n → slice_get items n ≡ None
      past [] n upto = refl
      past (x ∷ items) zero upto = absurd (omega (arith, upto))
      past (x ∷ items) (suc n) upto = past items n (omega (arith, upto))

  pub dropped_behind : (chunks : List (List X)) (i place at : ℕ) → slice_get chunks i ≡ None → place ≡ length (joined (take i chunks)) + at → drop place (joined chunks) ≡ []
  dropped_behind chunks i place at is stands =
      let long : length (joined (take i chunks)) ≡ length (joined chunks) = ap length (all_before chunks i is) in
      past (joined chunks) place (omega (arith, long, stands))
    where
      past : (items : List X) (n : ℕ) → length items ≤ n → drop n items ≡ []
      past [] zero upto = refl
      past [] (suc n) upto = refl
      past (x ∷ items) zero upto = absurd (omega (arith, upto))
      past (x ∷ items) (suc n) upto = past items n (omega (arith, upto))

  there : (chunks : List (List X)) (i : ℕ) → slice_get chunks i ≡ None → i < length chunks → ⊥
  there [] i none below = omega (arith, below)
  there (chunk ∷ chunks) zero none below = cc none
  there (chunk ∷ chunks) (suc i) none below = there chunks i none (omega (arith, below))

  -- ---- a look at one chunk after another

  -- The items before a place are one chunk more.
  pub one_more : (chunks : List (List X)) (i : ℕ) (chunk : List X) → i < length chunks → chunk ≡ get_or chunks i chunk
      → length (joined (take (i + 1) chunks)) ≡ length (joined (take i chunks)) + length chunk
  one_more chunks i chunk below is =
      let more : joined (take (i + 1) chunks) ≡ joined (take i chunks) ++ (chunk ++ []) =
      ap joined (take_more chunks i chunk below ∙ ap (λ (c : List X). take i chunks ++ c ∷ []) (sym is)) ∙ flat_map-append (λ (c : List X). c) (take i chunks) (chunk ∷ []) in
      ap length (more ∙ ap (λ l. joined (take i chunks) ++ l) (append-nil chunk)) ∙ length-append (joined (take i chunks)) chunk

  -- The items from a chunk on are those of the chunk, and of the later ones.
  pub left_here : (chunks : List (List X)) (i : ℕ) (chunk : List X) → i < length chunks → chunk ≡ get_or chunks i chunk
      → joined (drop i chunks) ≡ chunk ++ joined (drop (i + 1) chunks)
  left_here chunks i chunk below is = ap joined (drop_more chunks i chunk below ∙ ap (λ (c : List X). c ∷ drop (i + 1) chunks) (sym is))

  -- The place of the first item that passes, among those of a front or behind it.
  pub place_in_front : (p : X → Bool) (front rest : List X) → position_or_len p front < length front → position_or_len p (front ++ rest) ≡ position_or_len p front
  place_in_front p [] rest within = absurd (omega (arith, within))
  place_in_front p (x ∷ front) rest within = by (p x) (place_in_front p front rest) within
    where
      by : (b : Bool) → (position_or_len p front < length front → position_or_len p (front ++ rest) ≡ position_or_len p front)
          → cond (not b) (1 + position_or_len p front) 0 < length (x ∷ front)
          → cond (not b) (1 + position_or_len p (front ++ rest)) 0 ≡ cond (not b) (1 + position_or_len p front) 0
      by true more within = refl
      by false more within = ap (λ n. 1 + n) (more (omega (arith, within)))

  pub place_behind : (p : X → Bool) (front rest : List X) → length front ≤ position_or_len p front → position_or_len p (front ++ rest) ≡ length front + position_or_len p rest
  place_behind p [] rest past = omega arith
  place_behind p (x ∷ front) rest past = by (p x) (place_behind p front rest) past
    where
      by : (b : Bool) → (length front ≤ position_or_len p front → position_or_len p (front ++ rest) ≡ length front + position_or_len p rest)
          → length (x ∷ front) ≤ cond (not b) (1 + position_or_len p front) 0
          → cond (not b) (1 + position_or_len p (front ++ rest)) 0 ≡ length (x ∷ front) + position_or_len p rest
      by true more past = absurd (omega (arith, past))
      by false more past = let rest_of = more (omega (arith, past)) in omega (arith, rest_of)

  -- The chunk from which a look goes on.
  pub first_left : (chunks : List (List X)) (i : ℕ) (chunk : List X) (others : List (List X)) → drop i chunks ≡ chunk ∷ others → slice_get chunks i ≡ Some chunk
  first_left [] zero chunk others is = absurd (cc is)
  first_left [] (suc i) chunk others is = absurd (cc is)
  first_left (first ∷ chunks) zero chunk others is = cc is
  first_left (first ∷ chunks) (suc i) chunk others is = first_left chunks i chunk others is

  others_left : (chunks : List (List X)) (i : ℕ) (chunk : List X) (others : List (List X)) → drop i chunks ≡ chunk ∷ others → others ≡ drop (suc i) chunks
  others_left [] zero chunk others is = absurd (cc is)
  others_left [] (suc i) chunk others is = absurd (cc is)
  others_left (first ∷ chunks) zero chunk others is = cc is
  others_left (first ∷ chunks) (suc i) chunk others is = others_left chunks i chunk others is

  -- A place in a chunk that is there.
  pub place_inside : (chunks : List (List X)) (i at : ℕ) (chunk : List X) → slice_get chunks i ≡ Some chunk → IfSome (slice_get chunks i) (λ c. at < length c) → at < length chunk
  place_inside chunks i at chunk is inside = subst (λ (o : Option (List X)). IfSome o (λ c. at < length c)) is inside

  -- The items from a place on are those of a chunk from there on, and those of the later chunks.
  pub dropped_from : (chunks : List (List X)) (i place at : ℕ) (chunk : List X) (others : List (List X)) → drop i chunks ≡ chunk ∷ others → place ≡ length (joined (take i chunks)) + at
      → IfSome (slice_get chunks i) (λ c. at < length c) → drop at chunk ++ joined others ≡ drop place (joined chunks)
  dropped_from chunks i place at chunk others is stands inside =
      let there = first_left chunks i chunk others is in
      let within = place_inside chunks i at chunk there inside in
      ap (λ cs. drop at chunk ++ joined cs) (others_left chunks i chunk others is)
      ∙ sym (dropped_in_chunk chunks i place at chunk there stands (omega (arith, within)))

  -- Chunks of all items from a place on are added to others.
  pub added_from : (before others : List (List X)) (first left : List X) → first ++ joined others ≡ left → (with_first after : List (List X)) → with_first ≡ before ++ first ∷ [] → after ≡ with_first ++ others
      → joined after ≡ joined before ++ left
  added_from before others first left is with_first after pushed more =
      ap joined (more ∙ ap (λ l. l ++ others) pushed ∙ append_assoc before (first ∷ []) others)
      ∙ flat_map-append (λ (c : List X). c) before (first ∷ others)
      ∙ ap (λ l. joined before ++ l) is

  -- ---- one item more at the end

  -- An item is put at the end of the last chunk.
  pub pushed_last : (chunks new : List (List X)) (i place : ℕ) (item : X) → i + 1 ≡ length chunks → IfSome (slice_get chunks i) (λ chunk. place ≡ length chunk)
      → IfSome (slice_get chunks i) (λ chunk. new ≡ slice_set chunks i (spliced place 0 (Some item) chunk)) → joined new ≡ joined chunks ++ item ∷ []
  pushed_last chunks new i place item last ends made = by (slice_get chunks i) refl ends made
    where
      here : (chunk : List X) → slice_get chunks i ≡ Some chunk → place ≡ length chunk → new ≡ slice_set chunks i (spliced place 0 (Some item) chunk) → joined new ≡ joined chunks ++ item ∷ []
      here chunk is at set =
          let none : joined (drop (suc i) chunks) ≡ [] = ap joined (drop_all (suc i) chunks (omega (arith, last))) in
          let all : joined chunks ≡ joined (take i chunks) ++ chunk =
          parts chunks i chunk is ∙ ap (λ l. joined (take i chunks) ++ l) (ap (λ l. chunk ++ l) none ∙ append-nil chunk) in
          let items : spliced place 0 (Some item) chunk ≡ chunk ++ item ∷ [] =
          ap (λ n. spliced n 0 (Some item) chunk) at
          ∙ ap (λ before. before ++ option_to_list (Some item) ++ drop (length chunk + 0) chunk) (take_all (length chunk) chunk (omega arith))
          ∙ ap (λ after. chunk ++ option_to_list (Some item) ++ after) (drop_all (length chunk + 0) chunk (omega arith))
          ∙ append-nil (chunk ++ item ∷ []) in
          ap joined set
          ∙ with_chunk chunks i chunk (spliced place 0 (Some item) chunk) is
          ∙ ap (λ l. joined (take i chunks) ++ (l ++ joined (drop (suc i) chunks))) items
          ∙ ap (λ l. joined (take i chunks) ++ ((chunk ++ item ∷ []) ++ l)) none
          ∙ ap (λ l. joined (take i chunks) ++ l) (append-nil (chunk ++ item ∷ []))
          ∙ sym (append_assoc (joined (take i chunks)) chunk (item ∷ []))
          ∙ ap (λ l. l ++ item ∷ []) (sym all)

      by : (got : Option (List X)) → slice_get chunks i ≡ got → IfSome got (λ chunk. place ≡ length chunk)
          → IfSome got (λ chunk. new ≡ slice_set chunks i (spliced place 0 (Some item) chunk)) → joined new ≡ joined chunks ++ item ∷ []
      by None is at set = absurd (there chunks i is (omega (arith, last)))
      by (Some chunk) is at set = here chunk is at set

  -- The chunk at a place that is there, after an exchange in it.
  pub spliced_there : (chunks new : List (List X)) (i place at count : ℕ) (item : Option X) → place ≡ length (joined (take i chunks)) + at
      → (IfSome (slice_get chunks i) (λ chunk. at + count ≤ length chunk)) × (i < length chunks)
      → IfSome (slice_get chunks i) (λ chunk. new ≡ slice_set chunks i (spliced at count item chunk)) → joined new ≡ spliced place count item (joined chunks)
  spliced_there chunks new i place at count item stands within made = by (slice_get chunks i) refl within.0 made
    where
      by : (got : Option (List X)) → slice_get chunks i ≡ got → IfSome got (λ chunk. at + count ≤ length chunk)
          → IfSome got (λ chunk. new ≡ slice_set chunks i (spliced at count item chunk)) → joined new ≡ spliced place count item (joined chunks)
      by None is fits set = absurd (there chunks i is within.1)
      by (Some chunk) is fits set = ap joined set ∙ spliced_chunk chunks i place at count chunk item is stands fits

  -- ---- the last item

  -- The last item of a chunk behind which all are empty.
  pub last_of : (others : List (List X)) (chunk : List X) (item : X) (chunks : List (List X)) → Some item ≡ slice_get chunk (length chunk - 1) → chunks ≡ others ++ chunk ∷ []
      → Some item ≡ slice_get (joined chunks) (length (joined chunks) - 1)
  last_of others [] item chunks is ends = absurd (cc is)
  last_of others (x ∷ chunk) item chunks is ends =
      let front = joined others in
      let all : joined chunks ≡ front ++ ((x ∷ chunk) ++ []) = ap joined ends ∙ flat_map-append (λ (c : List X). c) others ((x ∷ chunk) ∷ []) in
      let long : length (joined chunks) ≡ length front + length ((x ∷ chunk) ++ []) = ap length all ∙ length-append front ((x ∷ chunk) ++ []) in
      let longer : length ((x ∷ chunk) ++ []) ≡ length (x ∷ chunk) = ap length (append-nil (x ∷ chunk)) in
      let place : length front + (length (x ∷ chunk) - 1) ≡ length (joined chunks) - 1 = omega (arith, long, longer) in
      is
      ∙ sym (got_between front (x ∷ chunk) [] (length (x ∷ chunk) - 1) (omega arith))
      ∙ ap (λ l. slice_get l (length front + (length (x ∷ chunk) - 1))) (sym all)
      ∙ ap (slice_get (joined chunks)) place
