-- Texts of what is made in turn.
use Rattle.std.proofs.Common.{◌≡◌, ℕ, suc, ◌+◌, ◌*◌, pos, codes, List, [], ◌∷◌, ◌++◌, map, refl, sym, ap, ◌∙◌, subst, append-nil, append_assoc}
use Rattle.std.specs.Prelude.{flat_map}
use Rattle.std.specs.List.{join_with_byte}
use Rattle.std.proofs.lemmas.List.Concat.{flat_map-append}
use Rattle.std.specs.Fmt.{digits, decimal}
use Rattle.row_model.specs.Rows.{Row}
use Rattle.script_model.specs.Words.{row_text, rows_text, comma}
use Rattle.script_model.specs.Script.{Line, ReadKey, spelt_line, script_text}
use Rattle.script_model.specs.Generated.{state_after, draw_below, made_in_turn, generated_row, generated_flush, generated_job, generated_round, generated_lines}

-- The first thing is made, and then the others.
first_made : {A : Type 0} (make : ℕ → ℕ → A × ℕ) (count first x : ℕ)
    → ((made_in_turn make (suc count) first x).0 ≡ (make first x).0 ∷ (made_in_turn make count (first + 1) (make first x).1).0)
    × ((made_in_turn make (suc count) first x).1 ≡ (made_in_turn make count (first + 1) (make first x).1).1)
unfolding made_in_turn
first_made make count first x = (refl, refl)

-- The whole text is this text, and after it the spelling of `count` things that are made from `first` on in
-- state x. They leave the last state.
pub record IsBefore {A : Type 0} (spelling : A → List ℕ) (make : ℕ → ℕ → A × ℕ) (whole : List ℕ) (last count first : ℕ) (text : List ℕ) (x : ℕ) : Type 0 where
  pub rest : text ++ flat_map spelling (made_in_turn make count first x).0 ≡ whole
  pub end : (made_in_turn make count first x).1 ≡ last

-- The whole text is an earlier text, and after it the spelling of `all` things that are made from `start` on.
-- Of these, `count` are not spelt yet.
abbrev pub IsOnTheWay : {A : Type 0} → (A → List ℕ) → (ℕ → ℕ → A × ℕ) → (all start : ℕ) → (List ℕ) → ℕ → (count first : ℕ) → (List ℕ) → ℕ → Type 0
IsOnTheWay spelling make all start earlier x count first text y =
    IsBefore spelling make (earlier ++ flat_map spelling (made_in_turn make all start x).0) (made_in_turn make all start x).1 count first text y

-- One thing more was spelt.
pub one_more : {A : Type 0} (spelling : A → List ℕ) (make : ℕ → ℕ → A × ℕ) (whole : List ℕ) (last count next first : ℕ) (before after : List ℕ) (x y : ℕ) → count ≡ suc next
    → IsBefore spelling make whole last count first before x → after ≡ before ++ spelling (make first x).0 → y ≡ (make first x).1 → IsBefore spelling make whole last next (first + 1) after y
one_more spelling make whole last count next first before after x y is so grown moved =
    let now = subst (λ c. IsBefore spelling make whole last c first before x) is so in
    let step = first_made make next first x in
    record {
      rest =
          ap (λ t. t ++ flat_map spelling (made_in_turn make next (first + 1) y).0) grown
          ∙ append_assoc before (spelling (make first x).0) (flat_map spelling (made_in_turn make next (first + 1) y).0)
          ∙ ap (λ z. before ++ (spelling (make first x).0 ++ flat_map spelling (made_in_turn make next (first + 1) z).0)) moved
          ∙ ap (λ xs. before ++ flat_map spelling xs) (sym step.0)
          ∙ now.rest;
      end = ap (λ z. (made_in_turn make next (first + 1) z).1) moved ∙ sym step.1 ∙ now.end;
    }

-- All were spelt.
pub all_made : {A : Type 0} (spelling : A → List ℕ) (make : ℕ → ℕ → A × ℕ) (whole : List ℕ) (last count first : ℕ) (text : List ℕ) (x : ℕ) → count ≡ 0
    → IsBefore spelling make whole last count first text x → (text ≡ whole) × (x ≡ last)
unfolding made_in_turn
all_made spelling make whole last count first text x none so =
    let now = subst (λ c. IsBefore spelling make whole last c first text x) none so in
    (sym (append-nil text) ∙ now.rest, now.end)

-- Items with a separator between each two are the first one, and the others with the separator before
-- each.
first_joined : {A : Type 0} (c : ℕ) (spelling : A → List ℕ) (x : A) (xs : List A) → spelling x ++ flat_map (λ y. c ∷ spelling y) xs ≡ join_with_byte c (map spelling (x ∷ xs))
first_joined c spelling x [] = append-nil (spelling x)
first_joined c spelling x (y ∷ ys) = ap (λ t. spelling x ++ c ∷ t) (first_joined c spelling y ys)

-- The text of rows, from that of the first row on.
pub rows_spelt : (name x y z : ℕ) (old first out : List ℕ) → first ≡ old ++ row_text (generated_row name 0 x).0 → y ≡ (generated_row name 0 x).1
    → (out ≡ first ++ flat_map (λ r. comma ∷ row_text r) (made_in_turn (generated_row name) 3 1 y).0) × (z ≡ (made_in_turn (generated_row name) 3 1 y).1)
    → (out ≡ old ++ rows_text (made_in_turn (generated_row name) 4 0 x).0) × (z ≡ (made_in_turn (generated_row name) 4 0 x).1)
unfolding made_in_turn
rows_spelt name x y z old first out begun moved (all, end) =
    let r = (generated_row name 0 x).0 in
    let others = λ (s : ℕ). made_in_turn (generated_row name) 3 1 s in
    let with_comma = λ (q : Row). comma ∷ row_text q in (
      all
          ∙ ap (λ s. first ++ flat_map with_comma (others s).0) moved
          ∙ ap (λ t. t ++ flat_map with_comma (others (generated_row name 0 x).1).0) begun
          ∙ append_assoc old (row_text r) (flat_map with_comma (others (generated_row name 0 x).1).0)
          ∙ ap (λ t. old ++ t) (first_joined comma row_text r (others (generated_row name 0 x).1).0),
      end ∙ ap (λ s. (others s).1) moved,
    )

-- The text of a round, from those of its flushes, its job and its read on.
pub round_spelt : (k x y z : ℕ) (old one two out : List ℕ) → (one ≡ old ++ script_text (made_in_turn (generated_flush (3 * k)) 3 (3 * k + 1) x).0) × (y ≡ (made_in_turn (generated_flush (3 * k)) 3 (3 * k + 1) x).1)
    → two ≡ one ++ script_text (generated_job k) → out ≡ two ++ spelt_line (ReadKey [] (draw_below 256 y ∷ []) (3 * k + 3) (pos 0)) → z ≡ state_after y
    → (out ≡ old ++ script_text (generated_round k x).0) × (z ≡ (generated_round k x).1)
unfolding generated_round
round_spelt k x y z old one two out (flushed, moved) compacted read last =
    let flushes = made_in_turn (generated_flush (3 * k)) 3 (3 * k + 1) x in
    let job = generated_job k in
    let line = λ (s : ℕ). ReadKey [] (draw_below 256 s ∷ []) (3 * k + 3) (pos 0) in
    let r = line flushes.1 in
    let parts = script_text flushes.0 ++ script_text job in
    let whole : script_text ((flushes.0 ++ job) ++ r ∷ []) ≡ parts ++ spelt_line r =
    flat_map-append spelt_line (flushes.0 ++ job) (r ∷ [])
    ∙ ap (λ t. script_text (flushes.0 ++ job) ++ t) (append-nil (spelt_line r))
    ∙ ap (λ t. t ++ spelt_line r) (flat_map-append spelt_line flushes.0 job) in (
      read
          ∙ ap (λ s. two ++ spelt_line (line s)) moved
          ∙ ap (λ t. t ++ spelt_line r) (compacted ∙ ap (λ t. t ++ script_text job) flushed ∙ append_assoc old (script_text flushes.0) (script_text job))
          ∙ append_assoc old parts (spelt_line r)
          ∙ ap (λ t. old ++ t) (sym whole),
      last ∙ ap state_after moved,
    )

-- The text of the lines of all rounds is the texts of the rounds.
text_of_rounds : (rounds : List (List Line)) → flat_map script_text rounds ≡ script_text (flat_map (λ lines. lines) rounds)
text_of_rounds [] = refl
text_of_rounds (lines ∷ rounds) = ap (λ t. script_text lines ++ t) (text_of_rounds rounds) ∙ sym (flat_map-append _ lines (flat_map (λ lines. lines) rounds))

-- The text of a script, from that of its rounds on.
pub script_spelt : (number rounds : ℕ) (out : List ℕ) → out ≡ codes "start coordinator 1\nstart worker 1\n" ++ flat_map script_text (made_in_turn generated_round rounds 0 number).0
    → out ≡ script_text (generated_lines number rounds)
unfolding digits generated_lines
script_spelt number rounds out is = is ∙ ap (λ t. codes "start coordinator 1\nstart worker 1\n" ++ t) (text_of_rounds (made_in_turn generated_round rounds 0 number).0)

-- ---- numbers

-- One and zero as digits.
pub decimal_one : decimal 1 ≡ codes "1"
unfolding digits
decimal_one = refl

pub decimal_zero : decimal 0 ≡ codes "0"
unfolding digits
decimal_zero = refl
