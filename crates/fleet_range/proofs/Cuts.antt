-- Ranges as pairs of cuts. A key lies in a range exactly if the cut of the end is above the key and the cut
-- of the start is not.
use Rattle.std.specs.Prelude.{◌≡◌, Bool, true, false, ◌&&◌, not}
use Rattle.std.proofs.Common.{refl, sym, ap, ◌∙◌}
use Rattle.std.specs.Cmp.{IsTotalOrder}
use Rattle.std.specs.Ordering.{is_lt, is_gt, is_eq, is_le, ordering_then, ordering_reverse}
use Rattle.std.specs.declared.cmp.Ordering.{Ordering}
use Rattle.std.specs.declared.cmp.Ordering.TheVariants.{Less, Equal, Greater}
use Rattle.std.specs.declared.ops.Bound.{Bound}
use Rattle.std.specs.declared.ops.Bound.TheVariants.{Included, Excluded, Unbounded}
use Rattle.fleet_range.specs.Sides.{Cut, below, cut_cmp, end_cut, start_cut, then_equal}
use Rattle.fleet_range.specs.Ranges.{is_from_start, is_in, is_to_end, leaves_room, touches}

-- Whether a cut is above the key.
abbrev pub past : {K : Type 0} → (K → K → Ordering) → K → Cut K → Bool
past R key cut = is_gt (cut_cmp R cut (below key))

from_start_cut : {K : Type 0} (R : K → K → Ordering) (key : K) (start : Bound K) → is_from_start R start key ≡ not (past R key (start_cut start))
from_start_cut R key Unbounded = refl
from_start_cut R key (Included x) = ap (λ r. not (is_gt r)) (sym (then_equal (R x key)))
from_start_cut R key (Excluded x) = strictly (R x key)
  where
    strictly : (r : Ordering) → is_lt r ≡ not (is_gt (ordering_then r Greater))
    strictly Less = refl
    strictly Equal = refl
    strictly Greater = refl

-- A key lies before an end exactly if the cut of the end is above the key.
to_end_cut : {K : Type 0} {R : K → K → Ordering} → IsTotalOrder R → (key : K) (end : Bound K) → is_to_end R end key ≡ past R key (end_cut end)
to_end_cut o key Unbounded = refl
to_end_cut {K} {R} o key (Included y) = up_to (R key y) (R y key) (o.antisymm y key)
  where
    up_to : (r s : Ordering) → s ≡ ordering_reverse r → not (is_gt r) ≡ is_gt (ordering_then s Greater)
    up_to Less s e = sym (ap (λ s. is_gt (ordering_then s Greater)) e)
    up_to Equal s e = sym (ap (λ s. is_gt (ordering_then s Greater)) e)
    up_to Greater s e = sym (ap (λ s. is_gt (ordering_then s Greater)) e)
to_end_cut {K} {R} o key (Excluded y) = short_of (R key y) (R y key) (o.antisymm y key)
  where
    short_of : (r s : Ordering) → s ≡ ordering_reverse r → is_lt r ≡ is_gt (ordering_then s Equal)
    short_of Less s e = sym (ap (λ s. is_gt (ordering_then s Equal)) e)
    short_of Equal s e = sym (ap (λ s. is_gt (ordering_then s Equal)) e)
    short_of Greater s e = sym (ap (λ s. is_gt (ordering_then s Equal)) e)

pub in_cuts : {K : Type 0} {R : K → K → Ordering} → IsTotalOrder R → (start end : Bound K) (key : K) → is_in R (start, end) key ≡ (not (past R key (start_cut start)) && past R key (end_cut end))
in_cuts {K} {R} o start end key = λ i. from_start_cut R key start i && to_end_cut o key end i

-- A start and an end leave room exactly if the cut of the start is less than the cut of the end.
pub room_cuts : {K : Type 0} (R : K → K → Ordering) (start end : Bound K) → leaves_room R start end ≡ is_lt (cut_cmp R (start_cut start) (end_cut end))
room_cuts R Unbounded Unbounded = refl
room_cuts R Unbounded (Included y) = refl
room_cuts R Unbounded (Excluded y) = refl
room_cuts R (Included x) Unbounded = refl
room_cuts R (Excluded x) Unbounded = refl
room_cuts R (Included x) (Included y) = up_to (R x y)
  where
    up_to : (r : Ordering) → is_le r ≡ is_lt (ordering_then r Less)
    up_to Less = refl
    up_to Equal = refl
    up_to Greater = refl
room_cuts R (Included x) (Excluded y) = ap is_lt (sym (then_equal (R x y)))
room_cuts R (Excluded x) (Included y) = ap is_lt (sym (then_equal (R x y)))
room_cuts R (Excluded x) (Excluded y) = strictly (R x y)
  where
    strictly : (r : Ordering) → is_lt r ≡ is_lt (ordering_then r Greater)
    strictly Less = refl
    strictly Equal = refl
    strictly Greater = refl

pub not_greater : (r : Ordering) → is_lt r ≡ true → is_gt r ≡ false
not_greater Less h = refl
not_greater Equal h = refl
not_greater Greater h = cc

tied_not_greater : (r : Ordering) → is_eq r ≡ true → is_gt r ≡ false
tied_not_greater Less h = refl
tied_not_greater Equal h = refl
tied_not_greater Greater h = cc

pub touch_cuts : {K : Type 0} (R : K → K → Ordering) (start end : Bound K) → touches R start end ≡ true → is_gt (cut_cmp R (start_cut start) (end_cut end)) ≡ false
touch_cuts R Unbounded end h = cc
touch_cuts R (Included x) Unbounded h = cc
touch_cuts R (Excluded x) Unbounded h = cc
touch_cuts R (Included x) (Included y) h = cc
touch_cuts R (Excluded x) (Excluded y) h = cc
touch_cuts R (Included x) (Excluded y) h = tied_not_greater _ (ap is_eq (then_equal (R x y)) ∙ h)
touch_cuts R (Excluded x) (Included y) h = tied_not_greater _ (ap is_eq (then_equal (R x y)) ∙ h)
