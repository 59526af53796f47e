-- Ranges of keys of any ordered type: which keys lie in a range, and the intersection and the union of two
-- ranges.
use Rattle.std.specs.Prelude.{◌≡◌, Bool, true, false, ◌&&◌, ◌||◌, not, Option, Some, None, if◌then◌else◌}
use Rattle.std.specs.Ordering.{is_lt, is_gt, is_eq, is_le, ordering_then, ord_max, ord_min}
use Rattle.std.specs.declared.cmp.Ordering.{Ordering}
use Rattle.std.specs.declared.ops.Bound.{Bound}
use Rattle.std.specs.declared.ops.Bound.TheVariants.{Included, Excluded, Unbounded}
use Rattle.fleet_range.specs.Sides.{start_cmp, end_cmp}

-- The ends of a range: the bound where it starts, and the bound where it ends.
abbrev pub Ends : Type 0 → Type 0
Ends K = Bound K × Bound K

-- Each clone of a key equals that key.
abbrev pub ClonesEqual : {K : Type 0} → (K → K → Type 0) → Type 0
ClonesEqual {K} IsClone = (key copy : K) → IsClone key copy → copy ≡ key

module _ {K : Type 0} (R : K → K → Ordering) where
  abbrev pub is_from_start : Bound K → K → Bool
  is_from_start Unbounded key = true
  is_from_start (Included x) key = not (is_gt (R x key))
  is_from_start (Excluded x) key = is_lt (R x key)

  abbrev pub is_to_end : Bound K → K → Bool
  is_to_end Unbounded key = true
  is_to_end (Included y) key = not (is_gt (R key y))
  is_to_end (Excluded y) key = is_lt (R key y)

  -- Whether the key lies in the range.
  abbrev pub is_in : Ends K → K → Bool
  is_in ends key = is_from_start ends.0 key && is_to_end ends.1 key

  -- Whether a start and an end leave room. Only the bounds are compared: two Excluded bounds at rising keys
  -- leave room even if no key lies between them.
  abbrev pub leaves_room : (start end : Bound K) → Bool
  leaves_room Unbounded end = true
  leaves_room (Included x) Unbounded = true
  leaves_room (Excluded x) Unbounded = true
  leaves_room (Included x) (Included y) = is_le (R x y)
  leaves_room (Included x) (Excluded y) = is_lt (R x y)
  leaves_room (Excluded x) (Included y) = is_lt (R x y)
  leaves_room (Excluded x) (Excluded y) = is_lt (R x y)

  -- Whether the bounds of a range leave room. The range may hold no key even if they do.
  abbrev pub is_non_empty : Ends K → Bool
  is_non_empty ends = leaves_room ends.0 ends.1

  abbrev pub if_non_empty : Ends K → Option (Ends K)
  if_non_empty ends = if is_non_empty ends then Some ends else None

  -- The greater start and the lesser end of two ranges. These bounds may leave no room.
  abbrev pub overlap : (a b : Ends K) → Ends K
  overlap a b = (ord_max (start_cmp R) a.0 b.0, ord_min (end_cmp R) a.1 b.1)

  abbrev pub intersection : (a b : Ends K) → Option (Ends K)
  intersection a b = if_non_empty (overlap a b)

  -- Whether a range with this start begins exactly where a range with this end stops. Both bounds are then at
  -- one key, and exactly one of them is Included.
  abbrev pub touches : (start end : Bound K) → Bool
  touches (Excluded x) (Included y) = is_eq (R x y)
  touches (Included x) (Excluded y) = is_eq (R x y)
  touches (Included x) (Included y) = false
  touches (Excluded x) (Excluded y) = false
  touches Unbounded end = false
  touches (Included x) Unbounded = false
  touches (Excluded x) Unbounded = false

  -- The order of ranges: by start, and for equal starts by end.
  abbrev pub ends_cmp : (a b : Ends K) → Ordering
  ends_cmp a b = ordering_then (start_cmp R a.0 b.0) (end_cmp R a.1 b.1)

  -- The union of two ranges of which the second is not before the first: from the first start to the greater
  -- end. None if the two ranges neither overlap nor touch.
  abbrev pub joined_ends : (first second : Ends K) → Option (Ends K)
  joined_ends first second = if is_non_empty (overlap first second) || touches second.0 first.1
      then Some (first.0, ord_max (end_cmp R) first.1 second.1) else None

  abbrev pub union_of : (a b : Ends K) → Option (Ends K)
  union_of a b = if is_lt (ends_cmp a b) then joined_ends a b else joined_ends b a
