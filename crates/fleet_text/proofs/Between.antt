-- Texts with a separator between each two.
use Rattle.std.proofs.Common.{◌≡◌, ◌==◌, false, ℕ, ◌+◌, ◌<◌, ◌≤◌, List, [], ◌∷◌, ◌++◌, map, take, length, get_or, refl, sym, ap, ◌∙◌, append-nil, append_assoc}
use Rattle.std.specs.Prelude.{flat_map}
use Rattle.std.specs.List.{join_with_byte}
use Rattle.script_model.specs.Words.{list_text}
use Rattle.std.proofs.lemmas.List.{take_more, take_all}
use Rattle.std.proofs.lemmas.List.Concat.{flat_map-append}

-- The text of an item with the separator before it.
abbrev pub with_separator : {X : Type 0} → (separator : List ℕ) → (X → List ℕ) → X → List ℕ
with_separator separator text x = separator ++ text x

between_bytes : {X : Type 0} (c : ℕ) (text : X → List ℕ) (x : X) (xs : List X) → text x ++ flat_map (with_separator (c ∷ []) text) xs ≡ join_with_byte c (map text (x ∷ xs))
between_bytes c text x [] = append-nil (text x)
between_bytes c text x (y ∷ ys) = ap (λ t. text x ++ c ∷ t) (between_bytes c text y ys)

-- One more item was appended.
pub one_more : {X : Type 0} (separator : List ℕ) (text : X → List ℕ) (start before after : List ℕ) (xs : List X) (i : ℕ) (d x : X) → i < length xs → x ≡ get_or xs i d
    → before ≡ start ++ flat_map (with_separator separator text) (take i xs) → after ≡ before ++ separator ++ text x → after ≡ start ++ flat_map (with_separator separator text) (take (i + 1) xs)
one_more separator text start before after xs i d x lt is so grown =
    let f = with_separator separator text in
    let last : flat_map f (take (i + 1) xs) ≡ flat_map f (take i xs) ++ (separator ++ text x) =
    ap (flat_map f) (take_more xs i d lt) ∙ flat_map-append f (take i xs) (get_or xs i d ∷ []) ∙ ap (λ t. flat_map f (take i xs) ++ t) (append-nil (separator ++ text (get_or xs i d)) ∙ ap (λ y. separator ++ text y) (sym is)) in
    let longer : before ++ (separator ++ text x) ≡ (start ++ flat_map f (take i xs)) ++ (separator ++ text x) = ap (λ b. b ++ (separator ++ text x)) so in
    grown ∙ append_assoc before separator (text x) ∙ longer ∙ append_assoc start (flat_map f (take i xs)) (separator ++ text x) ∙ ap (λ t. start ++ t) (sym last)

-- All items were appended after the first one.
pub all_between : {X : Type 0} (separator : List ℕ) (c : ℕ) (text : X → List ℕ) (items others : List X) (x : X) (i : ℕ) (empty first out : List ℕ) → separator ≡ c ∷ [] → items ≡ x ∷ others → length others ≤ i → empty ≡ [] → first ≡ empty ++ text x
    → out ≡ first ++ flat_map (with_separator separator text) (take i others) → out ≡ join_with_byte c (map text items)
all_between separator c text items others x i empty first out one parts end none begun so =
    so ∙ ap (λ xs. first ++ flat_map (with_separator separator text) xs) (take_all i others end) ∙ ap (λ t. t ++ flat_map (with_separator separator text) others) (begun ∙ ap (λ e. e ++ text x) none)
    ∙ ap (λ s. text x ++ flat_map (with_separator s text) others) one ∙ between_bytes c text x others ∙ sym (ap (λ xs. join_with_byte c (map text xs)) parts)

-- A list of some items is spelt without a dash.
pub some_listed : {X : Type 0} (c : ℕ) (text : X → List ℕ) (items : List X) → (length items == 0) ≡ false → join_with_byte c (map text items) ≡ list_text c (map text items)
some_listed c text [] some = absurd (cc some)
some_listed c text (x ∷ items) some = refl
