-- The bounds that a `ComparableRange` shows of the greater start and the lesser end of two ranges.
use Rattle.std.specs.Prelude.{◌≡◌, Bool, true, false, cond, Result, Ok, Err, IfOk}
use Rattle.std.proofs.Common.{refl, ap, ◌∙◌}
use Rattle.std.specs.Ordering.{is_lt, ord_max, ord_min}
use Rattle.std.specs.declared.cmp.Ordering.{Ordering}
use Rattle.fleet_range.specs.Sides.{end_cmp, start_cmp}
use Rattle.fleet_range.specs.Ranges.{overlap}
use Rattle.fleet_range.specs.Shown.{end_of, ends_of, start_of}
use Rattle.fleet_range.specs.declared.start_bound.StartBound.{StartBound}
use Rattle.fleet_range.specs.declared.end_bound.EndBound.{EndBound}
use Rattle.fleet_range.specs.declared.comparable_range.ComparableRange.{ComparableRange}

pub shown_of_either : {A B : Type 0} (f : A → B) (t : Bool) (a b : A) → f (cond t a b) ≡ cond t (f a) (f b)
shown_of_either f true a b = refl
shown_of_either f false a b = refl

pub if_ok_then : {A E : Type 0} (P Q : A → Type 0) (r : Result A E) → ((x : A) → P x → Q x) → IfOk r P → IfOk r Q
if_ok_then P Q (Ok x) f h = f x h
if_ok_then P Q (Err e) f h = tt

module _ {K : Type 0} (R : K → K → Ordering) where
  pub greater_start_shown : (a b s : StartBound K) → s ≡ ord_max (λ x y. start_cmp R (start_of x) (start_of y)) a b → start_of s ≡ ord_max (start_cmp R) (start_of a) (start_of b)
  greater_start_shown a b s h = ap start_of h ∙ shown_of_either start_of (is_lt (start_cmp R (start_of b) (start_of a))) a b

  pub greater_end_shown : (a b e : EndBound K) → e ≡ ord_max (λ x y. end_cmp R (end_of x) (end_of y)) a b → end_of e ≡ ord_max (end_cmp R) (end_of a) (end_of b)
  greater_end_shown a b e h = ap end_of h ∙ shown_of_either end_of (is_lt (end_cmp R (end_of b) (end_of a))) a b

  pub lesser_end_shown : (a b e : EndBound K) → e ≡ ord_min (λ x y. end_cmp R (end_of x) (end_of y)) a b → end_of e ≡ ord_min (end_cmp R) (end_of a) (end_of b)
  lesser_end_shown a b e h = ap end_of h ∙ shown_of_either end_of (is_lt (end_cmp R (end_of b) (end_of a))) b a

  pub overlap_shown : (a b : ComparableRange K) (s : StartBound K) (e : EndBound K) → s ≡ ord_max (λ x y. start_cmp R (start_of x) (start_of y)) a.start b.start → e ≡ ord_min (λ x y. end_cmp R (end_of x) (end_of y)) a.end b.end → (start_of s, end_of e) ≡ overlap R (ends_of a) (ends_of b)
  overlap_shown a b s e h k = λ i. (greater_start_shown a.start b.start s h i, lesser_end_shown a.end b.end e k i)
