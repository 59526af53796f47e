-- What can be put once was put by one party.
use Rattle.std.proofs.Common.{◌≡◌, refl, sym, ◌∙◌, ap, subst, ℕ, List, [], ◌∷◌, ◌++◌, Bool, true, false, inl, inr}
use Rattle.std.specs.Prelude.{◌&&◌, IsTrue, flat_map}
use Rattle.std.proofs.lemmas.Bool.Decides.{Decides-eqb}
use Rattle.row_model.specs.Lists.{Pairs}
use Rattle.fleet_model.specs.History.{Party, Writer, Submitter, Coordinator, Worker, Sweeper, Event, Entry, stood}
use Rattle.step_model.specs.Entries.{party_eq, did_event}
use Rattle.step_laws.proofs.Elements.{IsIn, all_at, all_back, any_element, Passes}
use Rattle.step_laws.proofs.Deletions.{in_flat}

pub party_same : (p q : Party) → party_eq p q ≡ true → p ≡ q
party_same Writer Writer e = refl
party_same Submitter Submitter e = refl
party_same Sweeper Sweeper e = refl
party_same (Coordinator n) (Coordinator m) e = ap Coordinator ((Decides-eqb n m).0 e)
party_same (Worker n) (Worker m) e = ap Worker ((Decides-eqb n m).0 e)
party_same p q e = absurd (cc e)

-- ---- one place

pub pairs_across : {A : Type 0} (R : A → A → Type 0) (xs ys : List A) (a b : A) → Pairs R (xs ++ ys) → IsIn a xs → IsIn b ys → R a b
pairs_across R [] ys a b h there other = absurd there
pairs_across R (x ∷ xs) ys a b h (inl same) other = subst (λ c. R c b) same (all_at (R x) ys b (all_back (R x) xs ys h.0) other)
pairs_across R (x ∷ xs) ys a b h (inr there) other = pairs_across R xs ys a b h.1 there other

pub pairs_back : {A : Type 0} (R : A → A → Type 0) (xs ys : List A) → Pairs R (xs ++ ys) → Pairs R ys
pairs_back R [] ys h = h
pairs_back R (x ∷ xs) ys h = pairs_back R xs ys h.1

-- Two entries that say the same number are one, if no number is said twice.
pub same_place : {B : Type 0} (f : Entry → List B) (R : B → B → Type 0) (n : B) → (R n n → ⊥) → (history : List Entry) (x y : Entry) → Pairs R (flat_map f history) → IsIn x history → IsIn y history → IsIn n (f x) → IsIn n (f y) → x ≡ y
same_place f R n never [] x y h there other one two = absurd there
same_place f R n never (e ∷ history) x y h (inl first) (inl second) one two = sym first ∙ second
same_place f R n never (e ∷ history) x y h (inl first) (inr other) one two =
    absurd (never (pairs_across R (f e) (flat_map f history) n n h (subst (λ z. IsIn n (f z)) (sym first) one) (in_flat f history y n other two)))
same_place f R n never (e ∷ history) x y h (inr there) (inl second) one two =
    absurd (never (pairs_across R (f e) (flat_map f history) n n h (subst (λ z. IsIn n (f z)) (sym second) two) (in_flat f history x n there one)))
same_place f R n never (e ∷ history) x y h (inr there) (inr other) one two = same_place f R n never history x y (pairs_back R (f e) (flat_map f history) h) there other one two

-- An entry of the party, of the kind, that took effect.
pub record Did (is : Event → Bool) (party : Party) (history : List Entry) : Type 0 where
  pub entry : Entry
  pub there : IsIn entry history
  pub by : party ≡ entry.party
  pub kind : is entry.event ≡ true
  pub took : stood entry.answer ≡ true

-- If a party did something of a kind with effect, an entry of the history is of this party and kind and took effect.
pub did_entry : (is : Event → Bool) (party : Party) (history : List Entry) → IsTrue (did_event is party history) → Did is party history
did_entry is party history h = at (any_element (λ (e : Entry). party_eq party e.party && is e.event && stood e.answer) history h)
  where
    first : (a b c : Bool) → (a && b && c) ≡ true → a ≡ true
    first true b c e = refl
    first false b c e = absurd (cc e)

    second : (a b c : Bool) → (a && b && c) ≡ true → b ≡ true
    second true true c e = refl
    second true false c e = absurd (cc e)
    second false b c e = absurd (cc e)

    third : (a b c : Bool) → (a && b && c) ≡ true → c ≡ true
    third true true c e = e
    third true false c e = absurd (cc e)
    third false b c e = absurd (cc e)

    at : Passes (λ (e : Entry). party_eq party e.party && is e.event && stood e.answer) history → Did is party history
    at found =
        let e = found.element in
        record {
          entry = e;
          there = found.there;
          by = party_same party e.party (first (party_eq party e.party) (is e.event) (stood e.answer) found.passes);
          kind = second (party_eq party e.party) (is e.event) (stood e.answer) found.passes;
          took = third (party_eq party e.party) (is e.event) (stood e.answer) found.passes;
        }

-- Two parties that did what is done once are one.
pub same_party : (is : Event → Bool) (f : Entry → List ℕ) (R : ℕ → ℕ → Type 0) (n : ℕ) (one other : Party) (history : List Entry) → (R n n → ⊥) → ((e : Entry) → is e.event ≡ true → stood e.answer ≡ true → IsIn n (f e))
    → Pairs R (flat_map f history) → IsTrue (did_event is one history) → IsTrue (did_event is other history) → one ≡ other
same_party is f R n one other history never says once first second =
    let a = did_entry is one history first in
    let b = did_entry is other history second in
    a.by ∙ ap (λ (e : Entry). e.party) (same_place f R n never history a.entry b.entry once a.there b.there (says a.entry a.kind a.took) (says b.entry b.kind b.took)) ∙ sym b.by
