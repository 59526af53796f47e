use Rattle.std.proofs.Common.{◌≡◌, ◌-◌, ◌+◌, ap, arith, drop, sym, ◌∙◌}
use Rattle.std.proofs.Math.Seq.{drop-length}
use Rattle.fleet_range.specs.Keys.{successor}
use Rattle.fleet_range.proofs.Prefixes.{found, still_none}
use Rattle.fleet_range.proofs.prefix.successor.Goals as goal

pub trailing-init : goal.trailing-init
trailing-init c = record { inside = omega arith; no_more = ap successor (drop-length c.args.prefix.now) }

pub returns-then-byte-lt255 : goal.returns-then-byte-lt255
returns-then-byte-lt255 c =
    let kept : c.trailing.kept - 1 + 1 ≡ c.trailing.kept = omega arith in
    let no_more = ap (λ k. successor (drop k c.args.prefix.now)) kept ∙ c.trailing.invariant.no_more in
    let end = found c.args.prefix.now (c.trailing.kept - 1) (omega arith) c.if-byte-lt255.true no_more in
    cc (c.in_ok-from_vec.ensures.ok, c.in_ok-push.ensures.items, c.in_ok-end.ensures.items)

pub trailing-preserved : goal.trailing-preserved
trailing-preserved c =
    let kept : c.trailing.kept - 1 + 1 ≡ c.trailing.kept = omega arith in
    let no_more = ap (λ k. successor (drop k c.args.prefix.now)) kept ∙ c.trailing.invariant.no_more in
    record { inside = omega arith; no_more = still_none c.args.prefix.now (c.trailing.kept - 1) (omega arith) c.if-byte-lt255.false no_more }

pub returns : goal.returns
returns c =
    let none : c.trailing.kept ≡ 0 = omega arith in
    sym (ap (λ k. successor (drop k c.args.prefix.now)) (sym none) ∙ c.trailing.invariant.no_more)
