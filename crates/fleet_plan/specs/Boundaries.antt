-- The keys at which the ranges of a job begin, and the ranges in which a key lies.
use Rattle.std.specs.Prelude.{◌≡◌, ℕ, ◌/◌, ◌||◌, ◌==◌, nat_le, max, if◌then◌else◌, List, [], map, filter, length, sum_by}
use Rattle.row_model.specs.Ranges.{Range, is_in_range}
use Rattle.row_model.specs.Written.Sizes.{saturated_sum}
use Rattle.row_model.specs.Written.Plan.{Anchor, anchors_by_key, cut_anchors}
use Rattle.fleet_range.specs.Keys.{range_of}
use Rattle.fleet_range.specs.Ranges.{Ends}

abbrev pub ranges_of : List (Ends (List ℕ)) → List Range
ranges_of ranges = map range_of ranges

-- Each key lies in exactly one of the ranges.
abbrev pub HoldEveryKeyOnce : List Range → Type 0
HoldEveryKeyOnce ranges = (key : List ℕ) → length (filter (λ range. is_in_range range key) ranges) ≡ 1

-- The keys at which the ranges after the first one begin. There are none where one range has all keys: if at
-- most one range is asked for, if the target is 0, or if all bytes do not exceed the target.
abbrev pub boundary_keys : (anchors : List Anchor) (max_ranges min_range_bytes : ℕ) → List (List ℕ)
boundary_keys anchors max_ranges min_range_bytes =
    let total = saturated_sum (sum_by (λ a. a.bytes) anchors) in
    let target = max (total / max_ranges) min_range_bytes in
    if nat_le max_ranges 1 || target == 0 || nat_le total target then []
    else cut_anchors max_ranges target (anchors_by_key anchors)
