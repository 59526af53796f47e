-- The greater of two elements is above a third one exactly if one of the two is. The lesser is above it
-- exactly if both are.
use Rattle.std.specs.Prelude.{◌≡◌, Bool, true, false, ◌&&◌, ◌||◌, cond}
use Rattle.std.proofs.Common.{refl, sym, ap, ◌∙◌}
use Rattle.std.proofs.lemmas.Cmp.{upto}
use Rattle.std.specs.Cmp.{IsTotalOrder}
use Rattle.std.specs.Ordering.{is_lt, is_gt, ordering_reverse}
use Rattle.std.specs.declared.cmp.Ordering.{Ordering}
use Rattle.std.specs.declared.cmp.Ordering.TheVariants.{Less, Equal, Greater}
use Rattle.fleet_range.proofs.Cuts.{not_greater}

or_left : (a b : Bool) → (a ≡ false → b ≡ false) → a ≡ (a || b)
or_left true b h = refl
or_left false b h = sym (h refl)

or_right : (a b : Bool) → (b ≡ false → a ≡ false) → b ≡ (a || b)
or_right false b h = refl
or_right true true h = refl
or_right true false h = sym (h refl)

and_left : (a b : Bool) → (b ≡ false → a ≡ false) → a ≡ (a && b)
and_left false b h = refl
and_left true true h = refl
and_left true false h = h refl

and_right : (a b : Bool) → (a ≡ false → b ≡ false) → b ≡ (a && b)
and_right true b h = refl
and_right false b h = h refl

turned : (r s : Ordering) → r ≡ ordering_reverse s → is_lt r ≡ is_gt s
turned r Less e = ap is_lt e
turned r Equal e = ap is_lt e
turned r Greater e = ap is_lt e

module _ {X : Type 0} {C : X → X → Ordering} (o : IsTotalOrder C) where
  -- If x is at most y, and y is at most z, then x is at most z.
  pub rises : (x y z : X) → is_gt (C x y) ≡ false → is_gt (C y z) ≡ false → is_gt (C x z) ≡ false
  rises x y z h e = upto o x y z h e

  pub lesser_first : (x y : X) → is_lt (C y x) ≡ false → is_gt (C x y) ≡ false
  lesser_first x y h = sym (turned (C y x) (C x y) (o.antisymm y x)) ∙ h

  greater_first : (x y : X) → is_lt (C y x) ≡ true → is_gt (C y x) ≡ false
  greater_first x y h = not_greater (C y x) h

  pub past_max : {A : Type 0} (f : A → X) (a b : A) (z : X) (t : Bool) → t ≡ is_lt (C (f b) (f a)) → is_gt (C (f (cond t a b)) z) ≡ (is_gt (C (f a) z) || is_gt (C (f b) z))
  past_max f a b z true e = or_left _ _ (rises (f b) (f a) z (greater_first (f a) (f b) (sym e)))
  past_max f a b z false e = or_right _ _ (rises (f a) (f b) z (lesser_first (f a) (f b) (sym e)))

  pub past_min : {A : Type 0} (f : A → X) (a b : A) (z : X) (t : Bool) → t ≡ is_lt (C (f b) (f a)) → is_gt (C (f (cond t b a)) z) ≡ (is_gt (C (f a) z) && is_gt (C (f b) z))
  past_min f a b z true e = and_right _ _ (rises (f b) (f a) z (greater_first (f a) (f b) (sym e)))
  past_min f a b z false e = and_left _ _ (rises (f a) (f b) z (lesser_first (f a) (f b) (sym e)))
