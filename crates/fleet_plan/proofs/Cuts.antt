-- The keys at which ranges begin rise, and each key lies in exactly one of the ranges.
use Rattle.std.proofs.Common.{◌≡◌, ◌<◌, ◌≤◌, refl, sym, ◌∙◌, ap, subst, ℕ, ◌+◌, ◌/◌, cond, Bool, true, false, not, ◌&&◌, List, [], ◌∷◌, ◌++◌, length, arith}
use Rattle.std.specs.Prelude.{◌||◌, ◌==◌, nat_le, nat_lt, max, sum_by, filter}
use Rattle.std.specs.List.Sorted.{IsStrictlySortedBy}
use Rattle.std.specs.declared.cmp.Ordering.{Ordering}
use Rattle.std.specs.declared.cmp.Ordering.TheVariants.{Less, Equal, Greater}
use Rattle.std.specs.declared.ops.Bound.{Bound}
use Rattle.std.specs.declared.ops.Bound.TheVariants.{Included, Excluded, Unbounded}
use Rattle.std.specs.Ordering.{is_lt, is_gt, ordering_reverse}
use Rattle.std.proofs.lemmas.Cmp.{nat_list_cmp_total}
use Rattle.std.proofs.lemmas.Grind.{common_steps}
use Rattle.std.proofs.lemmas.List.{append_assoc, map-append}
use Rattle.row_model.specs.Rows.{key_cmp}
use Rattle.row_model.specs.Ranges.{Range, is_after_start, is_in_range, ranges_from}
use Rattle.row_model.specs.Ranges as model
use Rattle.row_model.specs.Written.Sizes.{saturated_sum}
use Rattle.row_model.specs.Written.Plan.{Anchor, anchors_by_key, cut_anchors, cuts, smallest_key}
use Rattle.row_laws.proofs.ApartRows.{lt_is}
use Rattle.row_laws.proofs.Elements.{all_weaken}
use Rattle.fleet_range.specs.Keys.{model_bound, range_of}
use Rattle.fleet_range.specs.Ranges.{Ends, is_non_empty}
use Rattle.fleet_plan.specs.Boundaries.{HoldEveryKeyOnce, boundary_keys, ranges_of}

-- The keys rise, and are above the start of a range. The start is never an excluded key.
abbrev pub RiseFrom : Bound (List ℕ) → List (List ℕ) → Type 0
RiseFrom Unbounded keys = IsStrictlySortedBy key_cmp keys
RiseFrom (Included key) keys = IsStrictlySortedBy key_cmp (key ∷ keys)
RiseFrom (Excluded key) keys = ⊥

-- A property holds for the boundary keys if it holds for no keys and for the cuts with each target.
either : (P : List (List ℕ) → Type 0) (anchors : List Anchor) (most least : ℕ) → P [] → ((target : ℕ) → 0 < most → P (cut_anchors most target (anchors_by_key anchors))) → P (boundary_keys anchors most least)
either P anchors most least none some = by (nat_le most 1) (target == 0) (nat_le total target) refl
  where
    total : ℕ
    total = saturated_sum (sum_by (λ (a : Anchor). a.bytes) anchors)

    target : ℕ
    target = max (total / most) least

    by : (one empty small : Bool) → nat_le most 1 ≡ one → P (cond (one || empty || small) [] (cut_anchors most target (anchors_by_key anchors)))
    by true empty small e = none
    by false true small e = none
    by false false true e = none
    by false false false e = some target (grind (arith, common_steps))

-- ---- the cuts rise

lowered : (low key : List ℕ) (keys : List (List ℕ)) → key_cmp low key ≡ Less → IsStrictlySortedBy key_cmp (key ∷ keys) → IsStrictlySortedBy key_cmp (low ∷ key ∷ keys)
unfolding IsStrictlySortedBy
lowered low key keys below rises = ((below, all_weaken (λ k. key_cmp key k ≡ Less) (λ k. key_cmp low k ≡ Less) (λ k above. nat_list_cmp_total.trans low key k below above) keys rises.0), rises)

-- The keys that are cut at, after the last one, rise.
cut_rises : (most target standing before threshold : ℕ) (last : List ℕ) (anchors : List Anchor) → IsStrictlySortedBy key_cmp (last ∷ cuts most target standing before threshold last anchors)
unfolding IsStrictlySortedBy
cut_rises most target standing before threshold last [] = (tt, tt)
cut_rises most target standing before threshold last (a ∷ anchors) =
    by (nat_le threshold before && nat_lt (standing + 1) most) (is_lt (key_cmp last a.key)) refl _ _
    (cut_rises most target (standing + 1) (saturated_sum (before + a.bytes)) (saturated_sum (threshold + target)) a.key anchors)
    (cut_rises most target standing (saturated_sum (before + a.bytes)) threshold last anchors)
  where
    by : (room above : Bool) → is_lt (key_cmp last a.key) ≡ above → (opened same : List (List ℕ))
        → IsStrictlySortedBy key_cmp (a.key ∷ opened) → IsStrictlySortedBy key_cmp (last ∷ same) → IsStrictlySortedBy key_cmp (last ∷ cond (room && above) (a.key ∷ opened) same)
    by true true e opened same new old = lowered last a.key opened (lt_is (key_cmp last a.key) e) new
    by true false e opened same new old = old
    by false above e opened same new old = old

pub boundaries_rise : (anchors : List Anchor) (most least : ℕ) → IsStrictlySortedBy key_cmp (boundary_keys anchors most least)
unfolding IsStrictlySortedBy
boundaries_rise anchors most least = either (IsStrictlySortedBy key_cmp) anchors most least tt (λ target room. (cut_rises most target 0 0 target (smallest_key (anchors_by_key anchors)) (anchors_by_key anchors)).1)

-- ---- there are fewer cuts than ranges asked for

-- If fewer cuts stand than there may be ranges, there are still fewer with all later cuts.
cuts_few : (most target standing before threshold : ℕ) (last : List ℕ) (anchors : List Anchor) → standing < most → standing + length (cuts most target standing before threshold last anchors) < most
cuts_few most target standing before threshold last [] room = omega (arith, room)
cuts_few most target standing before threshold last (a ∷ anchors) room =
    by (nat_le threshold before) (nat_lt (standing + 1) most) (is_lt (key_cmp last a.key)) _ _
    (λ e. cuts_few most target (standing + 1) (saturated_sum (before + a.bytes)) (saturated_sum (threshold + target)) a.key anchors (grind (arith, common_steps)))
    (cuts_few most target standing (saturated_sum (before + a.bytes)) threshold last anchors room)
  where
    by : (reached more above : Bool) (opened same : List (List ℕ)) → (more ≡ true → standing + 1 + length opened < most) → standing + length same < most
        → standing + length (cond (reached && more && above) (a.key ∷ opened) same) < most
    by true true true opened same new old =
        let fits = new refl in
        omega (arith, fits)
    by true true false opened same new old = old
    by true false above opened same new old = old
    by false more above opened same new old = old

ranges_count : (start : model.Bound) (keys : List (List ℕ)) → length (ranges_from start keys) ≡ length keys + 1
ranges_count start [] = refl
ranges_count start (key ∷ keys) =
    let rest = ranges_count (model.Included key) keys in
    omega (arith, rest)

pub few_ranges : (anchors : List Anchor) (most least : ℕ) → length (ranges_from model.Unbounded (boundary_keys anchors most least)) ≤ max most 1
few_ranges anchors most least = either (λ keys. length (ranges_from model.Unbounded keys) ≤ max most 1) anchors most least (omega arith) (λ target room.
    let few = cuts_few most target 0 0 target (smallest_key (anchors_by_key anchors)) (anchors_by_key anchors) room in
    let count = ranges_count model.Unbounded (cut_anchors most target (anchors_by_key anchors)) in
    omega (arith, few, count))

-- ---- each key lies in exactly one of the ranges

-- The keys rise, and are above the start of a range. The start is never an excluded key.
RisesAfter : model.Bound → List (List ℕ) → Type 0
RisesAfter model.Unbounded keys = IsStrictlySortedBy key_cmp keys
RisesAfter (model.Included from) keys = IsStrictlySortedBy key_cmp (from ∷ keys)
RisesAfter (model.Excluded from) keys = ⊥

abbrev holders : List ℕ → List Range → ℕ
holders key ranges = length (filter (λ range. is_in_range range key) ranges)

abbrev one_if : Bool → ℕ
one_if b = cond b 1 0

reversed : (o : Ordering) → is_gt (ordering_reverse o) ≡ is_lt o
reversed Less = refl
reversed Equal = refl
reversed Greater = refl

at_or_after : (from key : List ℕ) → is_after_start (model.Included from) key ≡ not (is_lt (key_cmp key from))
at_or_after from key = ap (λ o. not (is_gt o)) (nat_list_cmp_total.antisymm from key) ∙ ap not (reversed (key_cmp key from))

counted : (first : Bool) (range : Range) (ranges : List Range) (n : ℕ) → length ranges ≡ n → length (cond first (range ∷ ranges) ranges) ≡ one_if first + n
counted true range ranges n e = omega (arith, e)
counted false range ranges n e = omega (arith, e)

-- A key that is not below the next start is after this one.
after_too : (start : model.Bound) (next : List ℕ) (keys : List (List ℕ)) (key : List ℕ) → RisesAfter start (next ∷ keys) → is_lt (key_cmp key next) ≡ false → is_after_start start key ≡ true
unfolding RisesAfter IsStrictlySortedBy
after_too model.Unbounded next keys key rises from_next = refl
after_too (model.Included from) next keys key rises from_next = at_or_after from key ∙ ap not (by (is_lt (key_cmp key from)) refl)
  where
    by : (b : Bool) → is_lt (key_cmp key from) ≡ b → is_lt (key_cmp key from) ≡ false
    by false e = e
    by true e =
        let clash : false ≡ true = sym from_next ∙ ap is_lt (nat_list_cmp_total.trans key from next (lt_is (key_cmp key from) e) rises.0.0) in
        absurd (cc clash)
after_too (model.Excluded from) next keys key rises from_next = absurd rises

later_rises : (start : model.Bound) (next : List ℕ) (keys : List (List ℕ)) → RisesAfter start (next ∷ keys) → RisesAfter (model.Included next) keys
unfolding RisesAfter IsStrictlySortedBy
later_rises model.Unbounded next keys rises = rises
later_rises (model.Included from) next keys rises = rises.1
later_rises (model.Excluded from) next keys rises = absurd rises

-- A key lies in exactly one of the ranges from a start on if it is after the start, and in none of them
-- otherwise.
holders_from : (start : model.Bound) (keys : List (List ℕ)) (key : List ℕ) → RisesAfter start keys → holders key (ranges_from start keys) ≡ one_if (is_after_start start key)
holders_from start [] key rises = by (is_after_start start key)
  where
    last : Range
    last = record { from = start; to = model.Unbounded }

    by : (b : Bool) → length (cond (b && true) (last ∷ []) []) ≡ one_if b
    by true = refl
    by false = refl
holders_from start (next ∷ keys) key rises =
    counted (is_after_start start key && is_lt (key_cmp key next)) first (filter (λ range. is_in_range range key) (ranges_from (model.Included next) keys)) (one_if (is_after_start (model.Included next) key)) (holders_from (model.Included next) keys key (later_rises start next keys rises))
    ∙ ap (λ b. one_if (is_after_start start key && is_lt (key_cmp key next)) + one_if b) (at_or_after next key)
    ∙ by (is_after_start start key) (is_lt (key_cmp key next)) (after_too start next keys key rises)
  where
    first : Range
    first = record { from = start; to = model.Excluded next }

    by : (after low : Bool) → (low ≡ false → after ≡ true) → one_if (after && low) + one_if (not low) ≡ one_if after
    by true true h = refl
    by true false h = refl
    by false true h = refl
    by false false h =
        let clash : false ≡ true = h refl in
        absurd (cc clash)

pub every_key_once : (keys : List (List ℕ)) → IsStrictlySortedBy key_cmp keys → HoldEveryKeyOnce (ranges_from model.Unbounded keys)
unfolding RisesAfter
every_key_once keys rises key = holders_from model.Unbounded keys key rises

-- ---- ranges one by one

-- The range from the start up to the next key is not empty.
pub leaves_room : (start : Bound (List ℕ)) (key : List ℕ) (keys : List (List ℕ)) → RiseFrom start (key ∷ keys) → is_non_empty key_cmp (start, Excluded key) ≡ true
unfolding IsStrictlySortedBy
leaves_room Unbounded key keys rises = refl
leaves_room (Included from) key keys rises = ap is_lt rises.0.0
leaves_room (Excluded from) key keys rises = absurd rises

rise_on : (start : Bound (List ℕ)) (key : List ℕ) (keys : List (List ℕ)) → RiseFrom start (key ∷ keys) → RiseFrom (Included key) keys
unfolding IsStrictlySortedBy
rise_on Unbounded key keys rises = rises
rise_on (Included from) key keys rises = rises.1
rise_on (Excluded from) key keys rises = absurd rises

-- The ranges so far and one more, followed by the ranges after it, are the ranges so far followed by the
-- ranges from the start on.
one_more : (ranges : List (Ends (List ℕ))) (start : Bound (List ℕ)) (key : List ℕ) (keys : List (List ℕ))
    → ranges_of (ranges ++ (start, Excluded key) ∷ []) ++ ranges_from (model.Included key) keys ≡ ranges_of ranges ++ ranges_from (model_bound start) (key ∷ keys)
one_more ranges start key keys =
    let last : List Range = range_of (start, Excluded key) ∷ [] in
    ap (λ made. made ++ ranges_from (model.Included key) keys) (map-append range_of ranges ((start, Excluded key) ∷ []))
    ∙ append_assoc (ranges_of ranges) last (ranges_from (model.Included key) keys)

-- A step of the loop over the keys keeps its invariant.
pub keys_step : (ranges made : List (Ends (List ℕ))) (start : Bound (List ℕ)) (key : List ℕ) (left rest keys : List (List ℕ))
    → made ≡ ranges ++ (start, Excluded key) ∷ [] → left ≡ key ∷ rest
    → (ranges_of ranges ++ ranges_from (model_bound start) left ≡ ranges_from model.Unbounded keys) × RiseFrom start left
    → (ranges_of made ++ ranges_from (model.Included key) rest ≡ ranges_from model.Unbounded keys) × RiseFrom (Included key) rest
keys_step ranges made start key left rest keys is first kept = (
  ap (λ rs. ranges_of rs ++ ranges_from (model.Included key) rest) is
      ∙ one_more ranges start key rest
      ∙ ap (λ ks. ranges_of ranges ++ ranges_from (model_bound start) ks) (sym first)
      ∙ kept.0,
  rise_on start key rest (subst (RiseFrom start) first kept.1),
)
