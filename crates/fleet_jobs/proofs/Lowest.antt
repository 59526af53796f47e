-- The lowest run of the sources decides whether an id is the lowest source run.
use Rattle.std.proofs.Common.{◌≡◌, refl, sym, ◌∙◌, ap, ℕ, ◌<◌, ◌≤◌, List, [], ◌∷◌, map, min, Bool, true, false, cond, arith}
use Rattle.std.specs.Prelude.{◌==◌, ◌&&◌, nat_le, nat_lt, fold, Option, Some, None}
use Rattle.std.specs.List.{list_all}
use Rattle.std.proofs.lemmas.Bool.{eqb-true, eq-eqb, le-leb, leb-false, leb-true}
use Rattle.fleet_model.specs.Jobs.{contains}
use Rattle.fleet_model.specs.Nodes.{NodeName, L0, Run}
use Rattle.fleet_model.specs.Sources.{is_lowest_or_above, run_ids}
use Rattle.fleet_model.specs.Work.Scheduler.{lower}

abbrev not_below : ℕ → List ℕ → Bool
not_below run ids = list_all (λ id. nat_le run id) ids

and_false : (b : Bool) → (b && false) ≡ false
and_false true = refl
and_false false = refl

no_two : (b : Bool) → b ≡ true → b ≡ false → ⊥
no_two true e f = absurd (cc f)
no_two false e f = absurd (cc e)

not_equal : (a b : ℕ) → a < b → (b == a) ≡ false
not_equal a b below = by (b == a) refl
  where
    by : (e : Bool) → (b == a) ≡ e → e ≡ false
    by true e = let same = eqb-true b a e in let clash : ⊥ = omega (arith, below, same) in absurd clash
    by false e = refl

-- Two ids count as their lower one: whether an id is among the ids, and none of them is below it.
two_ids : (m s run : ℕ) (among rest : Bool)
    → (cond (m == run) true (cond (s == run) true among) && (nat_le run m && (nat_le run s && rest))) ≡ (cond (min m s == run) true among && (nat_le run (min m s) && rest))
two_ids m s run among rest = by_order (nat_le m s) refl
  where
    first_is_low : m ≤ s → (b : Bool) → nat_le run m ≡ b → (e : Bool) → (m == run) ≡ e
        → (cond e true (cond (s == run) true among) && (b && (nat_le run s && rest))) ≡ (cond e true among && (b && rest))
    first_is_low low false f e g = and_false (cond e true (cond (s == run) true among)) ∙ sym (and_false (cond e true among))
    first_is_low low true f true g =
        let at_most = leb-true run m f in
        ap (λ b. b && rest) (le-leb run s (omega (arith, low, at_most)))
    first_is_low low true f false g =
        let at_most = leb-true run m f in
        let other : (s == run) ≡ false = by (s == run) refl in
        ap (λ b. cond b true among && (nat_le run s && rest)) other ∙ ap (λ b. among && (b && rest)) (le-leb run s (omega (arith, low, at_most)))
      where
        by : (b : Bool) → (s == run) ≡ b → b ≡ false
        by true h =
            let same = eqb-true s run h in
            let at_most = leb-true run m f in
            let equal : m ≡ run = omega (arith, low, same, at_most) in
            absurd (no_two (m == run) (eq-eqb m run equal) g)
        by false h = refl

    second_is_low : s < m → (b : Bool) → nat_le run s ≡ b
        → (cond (m == run) true (cond (s == run) true among) && (nat_le run m && (b && rest))) ≡ (cond (s == run) true among && (b && rest))
    second_is_low low false f =
        ap (λ b. cond (m == run) true (cond (s == run) true among) && b) (and_false (nat_le run m)) ∙ and_false (cond (m == run) true (cond (s == run) true among)) ∙ sym (and_false (cond (s == run) true among))
    second_is_low low true f =
        let at_most = leb-true run s f in
        ap (λ b. cond b true (cond (s == run) true among) && (nat_le run m && rest)) (not_equal run m (omega (arith, low, at_most)))
        ∙ ap (λ b. cond (s == run) true among && (b && rest)) (le-leb run m (omega (arith, low, at_most)))

    by_order : (b : Bool) → nat_le m s ≡ b
        → (cond (m == run) true (cond (s == run) true among) && (nat_le run m && (nat_le run s && rest))) ≡ (cond (min m s == run) true among && (nat_le run (min m s) && rest))
    by_order true f =
        let low = leb-true m s f in
        let lower_one : min m s ≡ m = omega (arith, low) in
        first_is_low low (nat_le run m) refl (m == run) refl ∙ sym (ap (λ n. cond (n == run) true among && (nat_le run n && rest)) lower_one)
    by_order false f =
        let low : s < m = leb-false m s f in
        let lower_one : min m s ≡ s = omega (arith, low) in
        second_is_low low (nat_le run s) refl ∙ sym (ap (λ n. cond (n == run) true among && (nat_le run n && rest)) lower_one)

lowest_is : (m run : ℕ) (ids : List ℕ) → (contains (m ∷ ids) run && not_below run (m ∷ ids)) ≡ (fold min m ids == run)
lowest_is m run [] = by (m == run) refl
  where
    by : (e : Bool) → (m == run) ≡ e → (cond e true false && (nat_le run m && true)) ≡ e
    by true e = let same = eqb-true m run e in ap (λ b. b && true) (le-leb run m (omega (arith, same)))
    by false e = refl
lowest_is m run (s ∷ ids) = two_ids m s run (contains ids run) (not_below run ids) ∙ lowest_is (min m s) run ids

folds : (m : ℕ) (ids : List ℕ) → fold lower (Some m) ids ≡ Some (fold min m ids)
folds m [] = refl
folds m (id ∷ ids) = folds (min m id) ids

pub is_lowest : (ids runs : List ℕ) (lowest run : ℕ) → Some lowest ≡ fold lower None ids → (lowest == run) ≡ is_lowest_or_above run ids runs
is_lowest [] runs lowest run e = absurd (cc e)
is_lowest (id ∷ ids) runs lowest run e =
    let same : lowest ≡ fold min id ids = cc (e ∙ folds id ids) in
    ap (λ n. n == run) same ∙ sym (lowest_is id run ids)

pub no_lowest : (ids runs : List ℕ) (run : ℕ) → None ≡ fold lower None ids → list_all (λ other. nat_lt other run) runs ≡ is_lowest_or_above run ids runs
no_lowest [] runs run e = refl
no_lowest (id ∷ ids) runs run e = absurd (cc (e ∙ folds id ids))
