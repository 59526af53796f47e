use Rattle.std.proofs.Common.{◌≡◌, rules, List, ℕ, ◌++◌, true, false, nat_eq}
use Rattle.std.specs.List.{starts_with}
use Rattle.row_model.specs.Rows.{key_cmp}
use Rattle.row_model.specs.Ranges.{is_in_range}
use Rattle.fleet_range.specs.Keys.{IsBytes, placed_ends, range_of}
use Rattle.fleet_range.proofs.Membership.{placed_inside, placed_none, placed_outside}
use Rattle.fleet_range.proofs.Taken.{if_no_room, if_room}
use Rattle.fleet_range.proofs.bytes_range.BytesRange.from_prefix_and_subrange.Goals as goal

pub returns-clause-inside : goal.returns-clause-inside
returns-clause-inside g c =
    let prefix = c.args.prefix.now in
    let ends = g.R.ByteRangeBounds.ends c.args.subrange in
    if_room key_cmp (placed_ends prefix ends) c.try_new.result (search rules) (λ range. (suffix : List ℕ) → is_in_range (range_of range) (prefix ++ suffix) ≡ is_in_range (range_of ends) suffix) (placed_inside prefix ends)

pub returns-clause-prefixed : goal.returns-clause-prefixed
returns-clause-prefixed g c =
    let prefix = c.args.prefix.now in
    let ends = g.R.ByteRangeBounds.ends c.args.subrange in
    if_room key_cmp (placed_ends prefix ends) c.try_new.result (search rules) (λ range. (key : List ℕ) → IsBytes key → is_in_range (range_of range) key ≡ true → starts_with nat_eq key prefix ≡ true) (placed_outside prefix ends)

pub returns-clause-none : goal.returns-clause-none
returns-clause-none g c =
    let ends = g.R.ByteRangeBounds.ends c.args.subrange in
    if_no_room key_cmp (placed_ends c.args.prefix.now ends) c.try_new.result (search rules) ((suffix : List ℕ) → is_in_range (range_of ends) suffix ≡ false) (placed_none c.args.prefix.now ends)
