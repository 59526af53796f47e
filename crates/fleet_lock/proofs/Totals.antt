-- Numbers of all views together, and what one changed view changes of them.
use Rattle.std.proofs.Common.{◌≡◌, ◌≢◌, ℕ, zero, suc, ◌+◌, ◌-◌, ◌≤◌, ◌<◌, ◌==◌, List, [], ◌∷◌, ◌++◌, length, set, Bool, true, false, refl, sym, ap, subst, ⊎_elim, arith}
use Rattle.std.specs.Prelude.{nat_lt, if◌then◌else◌}
use Rattle.std.proofs.lemmas.Bool.Decides.{nat_tests}
use Rattle.std.proofs.lemmas.Bool.{eqb-true}
use mathlib.Core.Option.{some, some-ne-none, some-injective}
use lib.ListN.{get_elem?}
use Rattle.atomic_table.proofs.Lists.{at_set}
use Rattle.fleet_lock.specs.declared.sight.Sight.{Sight}
use Rattle.fleet_store.specs.Memory.{StoreParts}
use Rattle.fleet_lock.specs.Counts.{total, times, count, once_from}
use Rattle.fleet_lock.specs.Rule.{name_count, place_of, keeps_less, newcomer, joined_view}

pub total_set : (f : Sight → ℕ) (views : List Sight) (i : ℕ) (v w : Sight) → get_elem? views i ≡ some v → total f (set views i w) + f v ≡ total f views + f w
total_set f [] i v w e = absurd (some-ne-none v (sym e))
total_set f (x ∷ xs) zero v w e = let q : f x ≡ f v = ap f (some-injective x v e) in omega arith
total_set f (x ∷ xs) (suc i) v w e = let h = total_set f xs i v w e in omega arith

pub total_snoc : (f : Sight → ℕ) (views : List Sight) (v : Sight) → total f (views ++ v ∷ []) ≡ total f views + f v
total_snoc f [] v = omega arith
total_snoc f (x ∷ xs) v = let h = total_snoc f xs v in omega arith

pub total_at : (f : Sight → ℕ) (views : List Sight) (i : ℕ) (v : Sight) → get_elem? views i ≡ some v → f v ≤ total f views
total_at f [] i v e = absurd (some-ne-none v (sym e))
total_at f (x ∷ xs) zero v e = let q : f x ≡ f v = ap f (some-injective x v e) in omega arith
total_at f (x ∷ xs) (suc i) v e = let h = total_at f xs i v e in omega arith

-- Two views have no more than all together.
pub total_two : (f : Sight → ℕ) (views : List Sight) (i j : ℕ) (v w : Sight) → j ≢ i → get_elem? views i ≡ some v → get_elem? views j ≡ some w → f v + f w ≤ total f views
total_two f [] i j v w ne e g = absurd (some-ne-none v (sym e))
total_two f (x ∷ xs) zero zero v w ne e g = absurd (ne refl)
total_two f (x ∷ xs) zero (suc j) v w ne e g = let q : f x ≡ f v = ap f (some-injective x v e) in let h = total_at f xs j w g in omega arith
total_two f (x ∷ xs) (suc i) zero v w ne e g = let q : f x ≡ f w = ap f (some-injective x w g) in let h = total_at f xs i v e in omega arith
total_two f (x ∷ xs) (suc i) (suc j) v w ne e g = let h = total_two f xs i j v w (λ same. ne (ap suc same)) e g in omega arith

pub total_le : (f g : Sight → ℕ) (views : List Sight) → ((i : ℕ) (v : Sight) → get_elem? views i ≡ some v → f v ≤ g v) → total f views ≤ total g views
total_le f g [] h = omega arith
total_le f g (x ∷ xs) h = let a = h 0 x refl in let b = total_le f g xs (λ i v e. h (suc i) v e) in omega arith

pub times-append : (x : ℕ) (xs ys : List ℕ) → times x (xs ++ ys) ≡ times x xs + times x ys
times-append x [] ys = omega arith
times-append x (y ∷ xs) ys = let h = times-append x xs ys in omega arith

-- A fact of each view, after one view has changed.
pub each_set : (P : ℕ → Sight → Type 0) (views : List Sight) (i : ℕ) (w : Sight) → ((j : ℕ) (u : Sight) → j ≢ i → get_elem? views j ≡ some u → P j u) → P i w → (j : ℕ) (u : Sight) → get_elem? (set views i w) j ≡ some u → P j u
each_set P views i w others mine j u e =
    ⊎_elim
    (λ (x : (j ≡ i) × (w ≡ u)). subst (λ (y : ℕ × Sight). P y.0 y.1) (λ k. (sym x.0 k, x.1 k)) mine)
    (λ (x : (j ≢ i) × (get_elem? views j ≡ some u)). others j u x.0 x.1)
    (at_set views i j w u e)

total_none : (f : Sight → ℕ) (views : List Sight) → total (λ v. v.parts) views ≡ 0 → ((j : ℕ) (u : Sight) → get_elem? views j ≡ some u → u.parts ≡ 0 → f u ≡ 0) → total f views ≡ 0
total_none f [] none_left h = refl
total_none f (x ∷ xs) none_left h = let a = h 0 x refl (omega arith) in let b = total_none f xs (omega arith) (λ j u e. h (suc j) u e) in omega arith

-- If one view has all parts, then it has all that views without parts have none of.
pub total_alone : (f : Sight → ℕ) (views : List Sight) (i : ℕ) (v : Sight) → get_elem? views i ≡ some v → total (λ u. u.parts) views ≡ v.parts → ((j : ℕ) (u : Sight) → get_elem? views j ≡ some u → u.parts ≡ 0 → f u ≡ 0) → total f views ≡ f v
total_alone f [] i v e all h = absurd (some-ne-none v (sym e))
total_alone f (x ∷ xs) zero v e all h =
    let q = some-injective x v e in
    let p : x.parts ≡ v.parts = ap (λ (u : Sight). u.parts) q in
    let r : f x ≡ f v = ap f q in
    let b = total_none f xs (omega arith) (λ j u e. h (suc j) u e) in omega arith
total_alone f (x ∷ xs) (suc i) v e all h =
    let l = total_at (λ u. u.parts) xs i v e in
    let a = h 0 x refl (omega arith) in
    let b = total_alone f xs i v e (omega arith) (λ j u e. h (suc j) u e) in omega arith

-- ---- names

-- A name that is handed on is held by the new view in place of the old one.
pub held_split : (v : Sight) (name n : ℕ) → ((n : ℕ) → times n v.handed ≤ v.whole + times n v.received) → 0 < name_count v name → name_count (keeps_less v name) n + name_count (newcomer v name) n ≡ name_count v n
held_split v name n fits holds = by (name == n) refl (fits n)
  where
    by : (b : Bool) → (name == n) ≡ b → times n v.handed ≤ v.whole + times n v.received
        → ((v.whole + times n v.received) - (count b + times n v.handed)) + ((0 + (count b + 0)) - 0) ≡ (v.whole + times n v.received) - times n v.handed
    by true e le = let here : 0 < name_count v n = subst (λ m. 0 < name_count v m) (eqb-true name n e) holds in omega arith
    by false e le = omega arith

-- So the old view has handed on no more than it received.
pub names_split : (v : Sight) (name n : ℕ) → ((n : ℕ) → times n v.handed ≤ v.whole + times n v.received) → 0 < name_count v name → times n (name ∷ v.handed) ≤ v.whole + times n v.received
names_split v name n fits holds = by (name == n) refl (fits n)
  where
    by : (b : Bool) → (name == n) ≡ b → times n v.handed ≤ v.whole + times n v.received → count b + times n v.handed ≤ v.whole + times n v.received
    by true e le = let here : 0 < name_count v n = subst (λ m. 0 < name_count v m) (eqb-true name n e) holds in omega arith
    by false e le = omega arith

-- Two views that are joined hold their names together.
pub held_joined : (v w : Sight) (n : ℕ) → times n v.handed ≤ v.whole + times n v.received → times n w.handed ≤ w.whole + times n w.received → name_count (joined_view v w) n ≡ name_count v n + name_count w n
held_joined v w n a b = let r = times-append n v.received w.received in let h = times-append n v.handed w.handed in omega arith

pub names_joined : (v w : Sight) (n : ℕ) → times n v.handed ≤ v.whole + times n v.received → times n w.handed ≤ w.whole + times n w.received → times n (v.handed ++ w.handed) ≤ (v.whole + w.whole) + times n (v.received ++ w.received)
names_joined v w n a b = let r = times-append n v.received w.received in let h = times-append n v.handed w.handed in omega arith

-- ---- places

-- A new place is the next one.
pub next_place : (start : ℕ) (old new : List StoreParts) (place : ℕ) → length old ≤ length new → length new ≤ length old + 1
    → once_from start (length old) place + times place (place_of start old new) ≡ once_from start (length new) place
next_place start old new place le more = by_length (length old) (length new) le more
  where
    by_length : (m n : ℕ) → m ≤ n → n ≤ m + 1 → once_from start m place + times place (if nat_lt m n then ((start + m) ∷ []) else []) ≡ once_from start n place
    by_length m n le more = grind (arith, nat_tests)
