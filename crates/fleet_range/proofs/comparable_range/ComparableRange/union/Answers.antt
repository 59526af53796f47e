use Rattle.std.proofs.Common.{◌≡◌, ◌||◌, IfSome, is_lt, ap, sym, ◌∙◌}
use Rattle.std.specs.Option.{option_map}
use Rattle.fleet_range.specs.Ranges.{is_in, joined_ends}
use Rattle.fleet_range.specs.Shown.{ends_of}
use Rattle.fleet_range.proofs.Sided.{if_ok_then}
use Rattle.fleet_range.proofs.Taken.{joined_before, joined_after}
use Rattle.fleet_range.proofs.comparable_range.ComparableRange.union.Goals as goal

pub returns-then-is_lt-clause-either : goal.returns-then-is_lt-clause-either
returns-then-is_lt-clause-either g c =
    let before = ap is_lt (sym c.cmp.ensures) ∙ sym c.is_lt.ensures ∙ c.if-is_lt.true in
    if_ok_then
    (λ r. option_map ends_of r ≡ joined_ends g.T.Ord.cmp (ends_of c.args.self.now) (ends_of c.args.other.now))
    (λ r. IfSome r (λ range. (key : _) → is_in g.T.Ord.cmp (ends_of range) key ≡ (is_in g.T.Ord.cmp (ends_of c.args.self.now) key || is_in g.T.Ord.cmp (ends_of c.args.other.now) key)))
    c.united.result
    (λ r. joined_before g.met.T.Ord.total ends_of (ends_of c.args.self.now) (ends_of c.args.other.now) r before)
    c.united.ensures.bounds

pub returns-else-is_lt-clause-either : goal.returns-else-is_lt-clause-either
returns-else-is_lt-clause-either g c =
    let after = ap is_lt (sym c.cmp.ensures) ∙ sym c.is_lt.ensures ∙ c.if-is_lt.false in
    if_ok_then
    (λ r. option_map ends_of r ≡ joined_ends g.T.Ord.cmp (ends_of c.args.other.now) (ends_of c.args.self.now))
    (λ r. IfSome r (λ range. (key : _) → is_in g.T.Ord.cmp (ends_of range) key ≡ (is_in g.T.Ord.cmp (ends_of c.args.self.now) key || is_in g.T.Ord.cmp (ends_of c.args.other.now) key)))
    c.united-else-is_lt.result
    (λ r. joined_after g.met.T.Ord.total ends_of (ends_of c.args.self.now) (ends_of c.args.other.now) r after)
    c.united-else-is_lt.ensures.bounds
