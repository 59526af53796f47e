-- The keys of the intersection and of the union of two ranges.
use Rattle.std.specs.Prelude.{◌≡◌, Bool, true, false, ◌&&◌, ◌||◌, not, cond, Option, Some, None, IfSome, IfNone}
use Rattle.std.proofs.Common.{refl, sym, subst, ap, ◌∙◌}
use Rattle.std.proofs.lemmas.Cmp.{tied_itself}
use Rattle.std.specs.Cmp.{IsTotalOrder}
use Rattle.std.specs.Option.{option_map}
use Rattle.std.specs.Ordering.{is_lt, is_gt, ordering_then, ord_max, ord_min}
use Rattle.std.specs.declared.cmp.Ordering.{Ordering}
use Rattle.std.specs.declared.cmp.Ordering.TheVariants.{Less, Equal, Greater}
use Rattle.std.specs.declared.ops.Bound.{Bound}
use Rattle.fleet_range.specs.Sides.{Cut, below, cut_cmp, cut_total, end_cmp, end_cut, end_cuts, start_cmp, start_cut, start_cuts, start_total}
use Rattle.fleet_range.specs.Ranges.{Ends, ends_cmp, if_non_empty, intersection, is_in, is_non_empty, joined_ends, overlap, touches}
use Rattle.fleet_range.proofs.Cuts.{in_cuts, not_greater, past, room_cuts, touch_cuts}
use Rattle.fleet_range.proofs.Bounded.{lesser_first, past_max, past_min, rises}

both_of : (p q r s : Bool) → (not (p || q) && (r && s)) ≡ ((not p && r) && (not q && s))
both_of true q r s = refl
both_of false true true s = refl
both_of false true false s = refl
both_of false false true s = refl
both_of false false false s = refl

either_of : (p q r s : Bool) → (q ≡ false → p ≡ false) → (r ≡ false → q ≡ false) → (not p && (r || s)) ≡ ((not p && r) || (not q && s))
either_of true true true s h e = refl
either_of true true false s h e = let f = e refl in cc
either_of true false r s h e = let f = h refl in cc
either_of false true true s h e = refl
either_of false true false s h e = let f = e refl in cc
either_of false false r s h e = refl

none_of : (p r : Bool) → (r ≡ false → p ≡ false) → p ≡ true → (not p && r) ≡ false
none_of p r h e = cc

module _ {K : Type 0} {R : K → K → Ordering} (o : IsTotalOrder R) where
  past_greater_start : (a b : Bound K) (key : K) → past R key (start_cut (ord_max (start_cmp R) a b)) ≡ (past R key (start_cut a) || past R key (start_cut b))
  past_greater_start a b key = past_max (cut_total o) start_cut a b (below key) (is_lt (start_cmp R b a)) (ap is_lt (sym (start_cuts R b a)))

  past_greater_end : (a b : Bound K) (key : K) → past R key (end_cut (ord_max (end_cmp R) a b)) ≡ (past R key (end_cut a) || past R key (end_cut b))
  past_greater_end a b key = past_max (cut_total o) end_cut a b (below key) (is_lt (end_cmp R b a)) (ap is_lt (sym (end_cuts R b a)))

  past_lesser_end : (a b : Bound K) (key : K) → past R key (end_cut (ord_min (end_cmp R) a b)) ≡ (past R key (end_cut a) && past R key (end_cut b))
  past_lesser_end a b key = past_min (cut_total o) end_cut a b (below key) (is_lt (end_cmp R b a)) (ap is_lt (sym (end_cuts R b a)))

  -- A key lies in the overlap of two ranges exactly if it lies in both.
  pub in_overlap : (a b : Ends K) (key : K) → is_in R (overlap R a b) key ≡ (is_in R a key && is_in R b key)
  in_overlap a b key =
      in_cuts o (ord_max (start_cmp R) a.0 b.0) (ord_min (end_cmp R) a.1 b.1) key
      ∙ (λ i. not (past_greater_start a.0 b.0 key i) && past_lesser_end a.1 b.1 key i)
      ∙ both_of (past R key (start_cut a.0)) (past R key (start_cut b.0)) (past R key (end_cut a.1)) (past R key (end_cut b.1))
      ∙ sym (λ i. in_cuts o a.0 a.1 key i && in_cuts o b.0 b.1 key i)

  -- If the bounds of a range leave no room, no key lies in the range.
  pub in_none : (ends : Ends K) (key : K) → is_non_empty R ends ≡ false → is_in R ends key ≡ false
  in_none ends key h = in_cuts o ends.0 ends.1 key ∙ outside (past R key (start_cut ends.0)) (past R key (end_cut ends.1)) (rises (cut_total o) (end_cut ends.1) (start_cut ends.0) (below key) backward)
    where
      backward : is_gt (cut_cmp R (end_cut ends.1) (start_cut ends.0)) ≡ false
      backward = lesser_first (cut_total o) (end_cut ends.1) (start_cut ends.0) (sym (room_cuts R ends.0 ends.1) ∙ h)

      outside : (p r : Bool) → (p ≡ false → r ≡ false) → (not p && r) ≡ false
      outside true r h = refl
      outside false r h = h refl

  lesser_end_first : (a b : Bound K) → is_gt (cut_cmp R (end_cut (ord_min (end_cmp R) a b)) (end_cut a)) ≡ false
  lesser_end_first a b =
      past_min (cut_total o) end_cut a b (end_cut a) (is_lt (end_cmp R b a)) (ap is_lt (sym (end_cuts R b a)))
      ∙ ap (λ r. is_gt r && is_gt (cut_cmp R (end_cut b) (end_cut a))) (tied_itself (cut_total o) (end_cut a))

  later_start_first : (a b : Bound K) (z : Cut K) → is_gt (cut_cmp R (start_cut (ord_max (start_cmp R) a b)) z) ≡ false → is_gt (cut_cmp R (start_cut b) z) ≡ false
  later_start_first a b z h = right_of _ _ (sym (past_max (cut_total o) start_cut a b z (is_lt (start_cmp R b a)) (ap is_lt (sym (start_cuts R b a)))) ∙ h)
    where
      right_of : (p q : Bool) → (p || q) ≡ false → q ≡ false
      right_of true q h = cc
      right_of false q h = h

  -- If two ranges overlap or touch, the second one starts no later than the first one ends.
  starts_by_end : (a b : Ends K) → (is_non_empty R (overlap R a b) || touches R b.0 a.1) ≡ true → is_gt (cut_cmp R (start_cut b.0) (end_cut a.1)) ≡ false
  starts_by_end a b h = by_case (is_non_empty R (overlap R a b)) refl h
    where
      by_case : (t : Bool) → is_non_empty R (overlap R a b) ≡ t → (t || touches R b.0 a.1) ≡ true → is_gt (cut_cmp R (start_cut b.0) (end_cut a.1)) ≡ false
      by_case true e h =
          rises (cut_total o) (start_cut b.0) (end_cut (ord_min (end_cmp R) a.1 b.1)) (end_cut a.1)
          (later_start_first a.0 b.0 _ (not_greater _ (sym (room_cuts R (ord_max (start_cmp R) a.0 b.0) (ord_min (end_cmp R) a.1 b.1)) ∙ e)))
          (lesser_end_first a.1 b.1)
      by_case false e h = touch_cuts R b.0 a.1 h

  in_joined : (a b : Ends K) (key : K) → is_gt (start_cmp R a.0 b.0) ≡ false → (is_non_empty R (overlap R a b) || touches R b.0 a.1) ≡ true → is_in R (a.0, ord_max (end_cmp R) a.1 b.1) key ≡ (is_in R a key || is_in R b key)
  in_joined a b key h t =
      in_cuts o a.0 (ord_max (end_cmp R) a.1 b.1) key
      ∙ (λ i. not (past R key (start_cut a.0)) && past_greater_end a.1 b.1 key i)
      ∙ either_of (past R key (start_cut a.0)) (past R key (start_cut b.0)) (past R key (end_cut a.1)) (past R key (end_cut b.1))
      (rises (cut_total o) (start_cut a.0) (start_cut b.0) (below key) (ap is_gt (start_cuts R a.0 b.0) ∙ h))
      (rises (cut_total o) (start_cut b.0) (end_cut a.1) (below key) (starts_by_end a b t))
      ∙ sym (λ i. in_cuts o a.0 a.1 key i || in_cuts o b.0 b.1 key i)

  pub joined_near : (a b : Ends K) → (is_non_empty R (overlap R a b) || touches R b.0 a.1) ≡ true → joined_ends R a b ≡ Some (a.0, ord_max (end_cmp R) a.1 b.1)
  joined_near a b h = ap (λ t. cond t (Some (a.0, ord_max (end_cmp R) a.1 b.1)) None) h

  -- Statements about an answer that may be None, by the bounds that the answer shows.
  module _ {X : Type 0} (ends_of : X → Ends K) where
    pub intersection_both : (a b : Ends K) (r : Option X) → option_map ends_of r ≡ intersection R a b → IfSome r (λ x. (key : K) → is_in R (ends_of x) key ≡ (is_in R a key && is_in R b key))
    intersection_both a b None e = tt
    intersection_both a b (Some x) e = λ key. by_test (is_non_empty R (overlap R a b)) e key
      where
        by_test : (t : Bool) → Some (ends_of x) ≡ cond t (Some (overlap R a b)) None → (key : K) → is_in R (ends_of x) key ≡ (is_in R a key && is_in R b key)
        by_test true e key = (let same : ends_of x ≡ overlap R a b = cc in ap (λ ends. is_in R ends key) same) ∙ in_overlap a b key
        by_test false e key = cc

    pub intersection_none : (a b : Ends K) (r : Option X) → option_map ends_of r ≡ intersection R a b → IfNone r ((key : K) → (is_in R a key && is_in R b key) ≡ false)
    intersection_none a b (Some x) e = tt
    intersection_none a b None e = λ key. by_test (is_non_empty R (overlap R a b)) refl e key
      where
        by_test : (t : Bool) → is_non_empty R (overlap R a b) ≡ t → option_map ends_of None ≡ cond t (Some (overlap R a b)) None → (key : K) → (is_in R a key && is_in R b key) ≡ false
        by_test true h e key = cc
        by_test false h e key = sym (in_overlap a b key) ∙ in_none (overlap R a b) key h

    joined_either : (a b : Ends K) (r : Option X) → is_gt (start_cmp R a.0 b.0) ≡ false → option_map ends_of r ≡ joined_ends R a b → IfSome r (λ x. (key : K) → is_in R (ends_of x) key ≡ (is_in R a key || is_in R b key))
    joined_either a b None h e = tt
    joined_either a b (Some x) h e = λ key. by_test (is_non_empty R (overlap R a b) || touches R b.0 a.1) refl e key
      where
        by_test : (t : Bool) → (is_non_empty R (overlap R a b) || touches R b.0 a.1) ≡ t → Some (ends_of x) ≡ cond t (Some (a.0, ord_max (end_cmp R) a.1 b.1)) None → (key : K) → is_in R (ends_of x) key ≡ (is_in R a key || is_in R b key)
        by_test true u e key = (let same : ends_of x ≡ (a.0, ord_max (end_cmp R) a.1 b.1) = cc in ap (λ ends. is_in R ends key) same) ∙ in_joined a b key h u
        by_test false u e key = cc

    or_turned : (p q : Bool) → (p || q) ≡ (q || p)
    or_turned true true = refl
    or_turned true false = refl
    or_turned false true = refl
    or_turned false false = refl

    first_starts : (r s : Ordering) → is_lt (ordering_then r s) ≡ true → is_gt r ≡ false
    first_starts Less s h = refl
    first_starts Equal s h = refl
    first_starts Greater s h = cc

    second_starts : (r s : Ordering) → is_lt (ordering_then r s) ≡ false → is_lt r ≡ false
    second_starts Less s h = h
    second_starts Equal s h = refl
    second_starts Greater s h = refl

    -- If the first range is before the second one, a key lies in their union exactly if it lies in one of the
    -- two.
    pub joined_before : (a b : Ends K) (r : Option X) → is_lt (ends_cmp R a b) ≡ true → option_map ends_of r ≡ joined_ends R a b → IfSome r (λ x. (key : K) → is_in R (ends_of x) key ≡ (is_in R a key || is_in R b key))
    joined_before a b r h e = joined_either a b r (first_starts _ _ h) e

    pub joined_after : (a b : Ends K) (r : Option X) → is_lt (ends_cmp R a b) ≡ false → option_map ends_of r ≡ joined_ends R b a → IfSome r (λ x. (key : K) → is_in R (ends_of x) key ≡ (is_in R a key || is_in R b key))
    joined_after a b None h e = tt
    joined_after a b (Some x) h e = λ key. joined_either b a (Some x) (lesser_first (start_total o) b.0 a.0 (second_starts _ _ h)) e key ∙ or_turned (is_in R b key) (is_in R a key)

-- What holds of bounds holds of the range that is made of them, if they leave room.
pub if_room : {K : Type 0} (R : K → K → Ordering) (ends : Ends K) (r : Option (Ends K)) → r ≡ if_non_empty R ends → (P : Ends K → Type 0) → P ends → IfSome r P
if_room R ends None e P holds = tt
if_room {K} R ends (Some x) e P holds = by_test (is_non_empty R ends) e
  where
    by_test : (t : Bool) → Some x ≡ cond t (Some ends) None → P x
    by_test true e = let same : ends ≡ x = cc in subst P same holds
    by_test false e = cc

pub if_no_room : {K : Type 0} (R : K → K → Ordering) (ends : Ends K) (r : Option (Ends K)) → r ≡ if_non_empty R ends → (Q : Type 0) → (is_non_empty R ends ≡ false → Q) → IfNone r Q
if_no_room R ends (Some x) e Q holds = tt
if_no_room {K} R ends None e Q holds = holds (by_test (is_non_empty R ends) e)
  where
    by_test : (t : Bool) → None ≡ cond t (Some ends) None → t ≡ false
    by_test true e = cc
    by_test false e = refl
