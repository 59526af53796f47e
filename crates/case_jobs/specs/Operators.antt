-- Two operators that refuse some operands. One joins the bytes that it accepts, and the other keeps the
-- newest operand. Both are lawful.
use Rattle.std.specs.Prelude.{◌≡◌, refl, ℕ, ◌+◌, ◌<◌, ◌^◌, List, [], ◌∷◌, ◌++◌, length, map, Bool, true, false, ◌&&◌, not, nat_lt, nat_eq, if◌then◌else◌, Option, Some, None, option_map, codes}
use Rattle.std.specs.List.{concat, list_all}
use Rattle.std.proofs.Common.{sym, ◌∙◌, ap, subst, cond, arith}
use Rattle.std.proofs.lemmas.Bool.{ltb-true, lt-ltb, and_parts, and_from}
use Rattle.std.proofs.lemmas.List.{append_assoc, append-nil}
use Rattle.std.proofs.lemmas.List.Folds.{concat-append, list_all-append}
use Rattle.std.proofs.lemmas.Option.{same_Some}
use Rattle.row_model.specs.Fold.{Operator, Outcome, Merged, Refused, merge_one, fold, fold_bytes, IsLawful}
use Rattle.row_laws.proofs.GroupReads.{refusal_stays}
use Rattle.row_laws.proofs.ReadOnto.{fold-snoc}

abbrev pub is_short : List ℕ → Bool
is_short bytes = nat_lt (length bytes) (2 ^ 32)

abbrev pub lacks : ℕ → List ℕ → Bool
lacks byte bytes = list_all (λ other. not (nat_eq other byte)) bytes

-- ---- joined bytes, unless they are too long or have the byte that the settings name

-- Bytes are accepted if there are fewer than 2^32 of them, and if the byte that the settings name is not
-- among them.
abbrev pub is_accepted : (s bytes : List ℕ) → Bool
is_accepted [] bytes = is_short bytes
is_accepted (unwanted ∷ s) bytes = is_short bytes && lacks unwanted bytes

abbrev pub accepted_outcome : (s bytes : List ℕ) → Outcome
accepted_outcome s bytes = if is_accepted s bytes then Merged bytes else Refused (codes "no")

-- The operator joins the operand's bytes to the existing ones, if there are any. It refuses if the joined
-- bytes are not accepted.
abbrev pub sifting_operator : List ℕ → Operator
sifting_operator s key None operand = accepted_outcome s operand
sifting_operator s key (Some bytes) operand = accepted_outcome s (bytes ++ operand)

-- The next lemmas show that both parts of accepted bytes are accepted.
length_app : (xs ys : List ℕ) → length (xs ++ ys) ≡ length xs + length ys
length_app [] ys = omega arith
length_app (x ∷ xs) ys = let further = length_app xs ys in omega (arith, further)

short_parts : (a x : List ℕ) → is_short (a ++ x) ≡ true → (is_short a ≡ true) × (is_short x ≡ true)
short_parts a x h =
    let both = length_app a x in
    let short = ltb-true (length (a ++ x)) (2 ^ 32) h in
    (lt-ltb (length a) (2 ^ 32) (omega (arith, both, short)), lt-ltb (length x) (2 ^ 32) (omega (arith, both, short)))

lacks_parts : (byte : ℕ) (a x : List ℕ) → lacks byte (a ++ x) ≡ true → (lacks byte a ≡ true) × (lacks byte x ≡ true)
lacks_parts byte a x h =
    and_parts (lacks byte a) (lacks byte x) (sym (list_all-append (λ other. not (nat_eq other byte)) a x) ∙ h)

parts : (s a x : List ℕ) → is_accepted s (a ++ x) ≡ true → (is_accepted s a ≡ true) × (is_accepted s x ≡ true)
parts [] a x h = short_parts a x h
parts (unwanted ∷ s) a x h =
    let both = and_parts (is_short (a ++ x)) (lacks unwanted (a ++ x)) h in
    let short = short_parts a x both.0 in
    let without = lacks_parts unwanted a x both.1 in (
      and_from (is_short a) (lacks unwanted a) short.0 without.0,
      and_from (is_short x) (lacks unwanted x) short.1 without.1,
    )

abbrev bytes_or_none : Option (List ℕ) → List ℕ
bytes_or_none None = []
bytes_or_none (Some a) = a

accepted_short : (s bytes : List ℕ) → is_accepted s bytes ≡ true → is_short bytes ≡ true
accepted_short [] bytes h = h
accepted_short (unwanted ∷ s) bytes h = (and_parts (is_short bytes) (lacks unwanted bytes) h).0

abbrev bytes_of : Outcome → List ℕ
bytes_of (Merged bytes) = bytes
bytes_of (Refused message) = []

module _ (s : List ℕ) where
  refused : (a : List ℕ) → is_accepted s a ≡ false → accepted_outcome s a ≡ Refused (codes "no")
  refused a h = ap (λ b. cond b (Merged a) (Refused (codes "no"))) h

  merged : (a : List ℕ) → is_accepted s a ≡ true → accepted_outcome s a ≡ Merged a
  merged a h = ap (λ b. cond b (Merged a) (Refused (codes "no"))) h

  not_more : (a x : List ℕ) → is_accepted s a ≡ false → accepted_outcome s (a ++ x) ≡ Refused (codes "no")
  not_more a x h = by (is_accepted s (a ++ x)) refl
    where
      by : (b : Bool) → is_accepted s (a ++ x) ≡ b → accepted_outcome s (a ++ x) ≡ Refused (codes "no")
      by true is = let clash = sym (parts s a x is).0 ∙ h in absurd (cc clash)
      by false is = refused (a ++ x) is

  not_before : (a x : List ℕ) → is_accepted s x ≡ false → accepted_outcome s (a ++ x) ≡ Refused (codes "no")
  not_before a x h = by (is_accepted s (a ++ x)) refl
    where
      by : (b : Bool) → is_accepted s (a ++ x) ≡ b → accepted_outcome s (a ++ x) ≡ Refused (codes "no")
      by true is = let clash = sym (parts s a x is).1 ∙ h in absurd (cc clash)
      by false is = refused (a ++ x) is

  -- Merging an answer onto bytes answers for the joined bytes. Merging it onto nothing leaves it as it is.
  onto_bytes : (key a c : List ℕ)
      → merge_one (sifting_operator s) key (Some (Merged a)) (accepted_outcome s c) ≡ accepted_outcome s (a ++ c)
  onto_bytes key a c = by (is_accepted s c) refl
    where
      by : (b : Bool) → is_accepted s c ≡ b
          → merge_one (sifting_operator s) key (Some (Merged a)) (accepted_outcome s c) ≡ accepted_outcome s (a ++ c)
      by true h = ap (merge_one (sifting_operator s) key (Some (Merged a))) (merged c h)
      by false h = ap (merge_one (sifting_operator s) key (Some (Merged a))) (refused c h) ∙ sym (not_before a c h)

  onto_none : (key c : List ℕ) → merge_one (sifting_operator s) key None (accepted_outcome s c) ≡ accepted_outcome s c
  onto_none key c = by (is_accepted s c) refl
    where
      by : (b : Bool) → is_accepted s c ≡ b
          → merge_one (sifting_operator s) key None (accepted_outcome s c) ≡ accepted_outcome s c
      by true h = ap (merge_one (sifting_operator s) key None) (merged c h)
      by false h = ap (merge_one (sifting_operator s) key None) (refused c h) ∙ sym (refused c h)

  onto_answer : (key a : List ℕ) (x : Outcome) (c : List ℕ)
      → merge_one (sifting_operator s) key (Some (Merged a)) x ≡ accepted_outcome s (a ++ c)
      → merge_one (sifting_operator s) key (Some (accepted_outcome s a)) x ≡ accepted_outcome s (a ++ c)
  onto_answer key a x c same = by (is_accepted s a) refl
    where
      refusal : (x : Outcome)
          → merge_one (sifting_operator s) key (Some (Refused (codes "no"))) x ≡ Refused (codes "no")
      refusal x = refl

      by : (b : Bool) → is_accepted s a ≡ b
          → merge_one (sifting_operator s) key (Some (accepted_outcome s a)) x ≡ accepted_outcome s (a ++ c)
      by true h = ap (λ o. merge_one (sifting_operator s) key (Some o) x) (merged a h) ∙ same
      by false h = ap (λ o. merge_one (sifting_operator s) key (Some o) x) (refused a h) ∙ sym (not_more a c h)

  fold_answer : (key a : List ℕ) (xs : List (List ℕ))
      → fold (sifting_operator s) key (Some (accepted_outcome s a)) (map Merged xs)
      ≡ Some (accepted_outcome s (a ++ concat xs))
  fold_answer key a [] = ap (λ b. Some (accepted_outcome s b)) (sym (append-nil a))
  fold_answer key a (x ∷ xs) =
      ap (λ o. fold (sifting_operator s) key (Some o) (map Merged xs)) (onto_answer key a (Merged x) x refl)
      ∙ fold_answer key (a ++ x) xs ∙ ap (λ b. Some (accepted_outcome s b)) (append_assoc a x (concat xs))

  fold_all : (key : List ℕ) (e : Option (List ℕ)) (x : List ℕ) (xs : List (List ℕ))
      → fold_bytes (sifting_operator s) key e (x ∷ xs)
      ≡ Some (accepted_outcome s (bytes_or_none e ++ (x ++ concat xs)))
  fold_all key None x xs = fold_answer key x xs
  fold_all key (Some a) x xs =
      fold_answer key (a ++ x) xs ∙ ap (λ b. Some (accepted_outcome s b)) (append_assoc a x (concat xs))

  joins_one : (key : List ℕ) (e : Option (List ℕ)) (c : List ℕ) → Some (accepted_outcome s (bytes_or_none e ++ c))
      ≡ fold (sifting_operator s) key (option_map Merged e) (accepted_outcome s c ∷ [])
  joins_one key None c = ap Some (sym (onto_none key c))
  joins_one key (Some a) c = ap Some (sym (onto_bytes key a c))

  joins_all : (key : List ℕ) (e : Option (List ℕ)) (xs : List (List ℕ)) (y : List ℕ) (ys : List (List ℕ))
      → fold_bytes (sifting_operator s) key e (xs ++ y ∷ ys)
      ≡ fold (sifting_operator s) key (option_map Merged e)
      (map Merged xs ++ accepted_outcome s (y ++ concat ys) ∷ [])
  joins_all key e [] y ys = fold_all key e y ys ∙ joins_one key e (y ++ concat ys)
  joins_all key e (x ∷ xs) y ys =
      let c : List ℕ = y ++ concat ys in
      let a : List ℕ = bytes_or_none e ++ (x ++ concat xs) in
      fold_all key e x (xs ++ y ∷ ys)
      ∙ ap (λ b. Some (accepted_outcome s (bytes_or_none e ++ (x ++ b)))) (concat-append xs (y ∷ ys))
      ∙ ap (λ b. Some (accepted_outcome s (bytes_or_none e ++ b))) (sym (append_assoc x (concat xs) c))
      ∙ ap (λ b. Some (accepted_outcome s b)) (sym (append_assoc (bytes_or_none e) (x ++ concat xs) c))
      ∙ ap Some (sym (onto_answer key a (accepted_outcome s c) c (onto_bytes key a c)))
      ∙ ap (λ o. Some (merge_one (sifting_operator s) key o (accepted_outcome s c))) (sym (fold_all key e x xs))
      ∙ sym (fold-snoc (sifting_operator s) key (option_map Merged e) (map Merged (x ∷ xs)) (accepted_outcome s c))

  joins : (key : List ℕ) (e : Option (List ℕ)) (xs ys : List (List ℕ)) (one : Outcome)
      → fold_bytes (sifting_operator s) key None ys ≡ Some one
      → fold_bytes (sifting_operator s) key e (xs ++ ys)
      ≡ fold (sifting_operator s) key (option_map Merged e) (map Merged xs ++ one ∷ [])
  joins key e xs [] one h = absurd (cc h)
  joins key e xs (y ∷ ys) one h =
      joins_all key e xs y ys
      ∙ ap (λ o. fold (sifting_operator s) key (option_map Merged e) (map Merged xs ++ o ∷ []))
      (same_Some _ _ (sym (fold_all key None y ys) ∙ h))

  short_answer : (a bytes : List ℕ) → accepted_outcome s a ≡ Merged bytes → length bytes < 2 ^ 32
  short_answer a bytes is = by (is_accepted s a) refl
    where
      by : (b : Bool) → is_accepted s a ≡ b → length bytes < 2 ^ 32
      by true h = subst (λ (xs : List ℕ). length xs < 2 ^ 32) (ap bytes_of (sym (merged a h) ∙ is))
          (ltb-true (length a) (2 ^ 32) (accepted_short s a h))
      by false h = let clash = sym (refused a h) ∙ is in absurd (cc clash)

  short : (key : List ℕ) (e : Option (List ℕ)) (x bytes : List ℕ)
      → sifting_operator s key e x ≡ Merged bytes → length bytes < 2 ^ 32
  short key None x bytes is = short_answer x bytes is
  short key (Some a) x bytes is = short_answer (a ++ x) bytes is

  pub sifted_is_lawful : IsLawful (sifting_operator s)
  sifted_is_lawful = record { joins = joins; short = short }

-- ---- the newest operand, unless it is too long or has the byte 254 or 255

abbrev pub never_or_merged : List ℕ → Outcome
never_or_merged operand = if lacks 255 operand then Merged operand else Refused (codes "never")

abbrev pub no_or_merged : List ℕ → Outcome
no_or_merged operand = if is_accepted (254 ∷ []) operand then never_or_merged operand else Refused (codes "no")

-- The operator answers the operand, whatever the existing value is, and refuses an operand that it does not
-- accept.
abbrev pub newest : Operator
newest key e operand = no_or_merged operand

-- If the operand is accepted, the answer is the operand itself.
never_stands : (x bytes : List ℕ) → never_or_merged x ≡ Merged bytes → x ≡ bytes
never_stands x bytes is = by (lacks 255 x) refl
  where
    by : (b : Bool) → lacks 255 x ≡ b → x ≡ bytes
    by true h = ap bytes_of (sym (ap (λ b. cond b (Merged x) (Refused (codes "never"))) h) ∙ is)
    by false h = let clash = sym (ap (λ b. cond b (Merged x) (Refused (codes "never"))) h) ∙ is in absurd (cc clash)

no_stands : (x bytes : List ℕ) → no_or_merged x ≡ Merged bytes → (x ≡ bytes) × (length bytes < 2 ^ 32)
no_stands x bytes is = by (is_accepted (254 ∷ []) x) refl
  where
    by : (b : Bool) → is_accepted (254 ∷ []) x ≡ b → (x ≡ bytes) × (length bytes < 2 ^ 32)
    by true h =
        let same = never_stands x bytes (sym (ap (λ b. cond b (never_or_merged x) (Refused (codes "no"))) h) ∙ is) in (
          same,
          subst (λ (xs : List ℕ). length xs < 2 ^ 32) same
              (ltb-true (length x) (2 ^ 32) (accepted_short (254 ∷ []) x h)),
        )
    by false h = let clash = sym (ap (λ b. cond b (never_or_merged x) (Refused (codes "no"))) h) ∙ is
        in absurd (cc clash)

stands : (x bytes : List ℕ) → no_or_merged x ≡ Merged bytes → no_or_merged bytes ≡ Merged bytes
stands x bytes is = subst (λ (xs : List ℕ). no_or_merged xs ≡ Merged bytes) (no_stands x bytes is).0 is

folded_stands : (key y : List ℕ) (ys : List (List ℕ)) (bytes : List ℕ)
    → fold newest key (Some (no_or_merged y)) (map Merged ys) ≡ Some (Merged bytes)
    → no_or_merged bytes ≡ Merged bytes
folded_stands key y [] bytes is = stands y bytes (same_Some _ _ is)
folded_stands key y (z ∷ zs) bytes is = by (no_or_merged y) refl (folded_stands key z zs bytes)
  where
    clash : (message : List ℕ) → no_or_merged y ≡ Refused message → Refused message ≡ Merged bytes
    clash message h = same_Some _ _ (sym (refusal_stays newest key message (map Merged (z ∷ zs)))
        ∙ ap (λ o. fold newest key (Some o) (map Merged (z ∷ zs))) (sym h) ∙ is)

    by : (o : Outcome) → no_or_merged y ≡ o
        → (fold newest key (Some (no_or_merged z)) (map Merged zs) ≡ Some (Merged bytes)
        → no_or_merged bytes ≡ Merged bytes) → no_or_merged bytes ≡ Merged bytes
    by (Merged a) h further = further (ap (λ o. fold newest key (Some o) (map Merged (z ∷ zs))) (sym h) ∙ is)
    by (Refused message) h further = let never = clash message h in absurd (cc never)

-- What operands fold to stays as it is when it is merged onto an existing value.
stands_onto : (key : List ℕ) (e : Option (List ℕ)) (y : List ℕ) (ys : List (List ℕ)) (one : Outcome)
    → fold newest key (Some (no_or_merged y)) (map Merged ys) ≡ Some one
    → merge_one newest key (option_map Merged e) one ≡ one
stands_onto key None y ys (Merged bytes) is = folded_stands key y ys bytes is
stands_onto key (Some a) y ys (Merged bytes) is = folded_stands key y ys bytes is
stands_onto key None y ys (Refused message) is = refl
stands_onto key (Some a) y ys (Refused message) is = refl

onto_first : (key : List ℕ) (e : Option (List ℕ)) (x : List ℕ) (xs : List Outcome)
    → fold newest key (option_map Merged e) (Merged x ∷ xs) ≡ fold newest key (Some (no_or_merged x)) xs
onto_first key None x xs = refl
onto_first key (Some a) x xs = refl

newest_joins : (key : List ℕ) (e : Option (List ℕ)) (xs ys : List (List ℕ)) (one : Outcome)
    → fold_bytes newest key None ys ≡ Some one
    → fold_bytes newest key e (xs ++ ys) ≡ fold newest key (option_map Merged e) (map Merged xs ++ one ∷ [])
newest_joins key e xs [] one is = absurd (cc is)
newest_joins key e [] (y ∷ ys) one is =
    onto_first key e y (map Merged ys) ∙ is ∙ ap Some (sym (stands_onto key e y ys one is))
newest_joins key e (x ∷ xs) (y ∷ ys) one is =
    onto_first key e x (map Merged (xs ++ y ∷ ys))
    ∙ by (no_or_merged x) refl (λ a. newest_joins key (Some a) xs (y ∷ ys) one is)
    ∙ sym (onto_first key e x (map Merged xs ++ one ∷ []))
  where
    by : (o : Outcome) → no_or_merged x ≡ o
        → ((a : List ℕ) → fold_bytes newest key (Some a) (xs ++ y ∷ ys)
        ≡ fold newest key (Some (Merged a)) (map Merged xs ++ one ∷ []))
        → fold newest key (Some (no_or_merged x)) (map Merged (xs ++ y ∷ ys))
        ≡ fold newest key (Some (no_or_merged x)) (map Merged xs ++ one ∷ [])
    by (Merged a) h further =
        ap (λ o. fold newest key (Some o) (map Merged (xs ++ y ∷ ys))) h ∙ further a
        ∙ ap (λ o. fold newest key (Some o) (map Merged xs ++ one ∷ [])) (sym h)
    by (Refused message) h further =
        ap (λ o. fold newest key (Some o) (map Merged (xs ++ y ∷ ys))) h
        ∙ refusal_stays newest key message (map Merged (xs ++ y ∷ ys))
        ∙ sym (refusal_stays newest key message (map Merged xs ++ one ∷ []))
        ∙ ap (λ o. fold newest key (Some o) (map Merged xs ++ one ∷ [])) (sym h)

pub newest_is_lawful : IsLawful newest
newest_is_lawful = record { joins = newest_joins; short = λ key e x bytes is. (no_stands x bytes is).1 }
