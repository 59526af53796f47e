use Rattle.std.proofs.Common.{Some, ap, sym, ◌∙◌}
use Rattle.fleet_range.specs.Shown.{ends_of, start_of}
use Rattle.fleet_range.proofs.Sided.{greater_end_shown}
use Rattle.fleet_range.proofs.Taken.{joined_near}
use Rattle.fleet_range.proofs.comparable_range.ComparableRange.united.Goals as goal

pub returns-in_ok-clone-2-clause-bounds : goal.returns-in_ok-clone-2-clause-bounds
returns-in_ok-clone-2-clause-bounds g c =
    let end = greater_end_shown g.T.Ord.cmp c.args.self.now.end c.args.other.now.end c.in_ok-clone-2.field-0 (c.in_ok-clone-2.ensures.copy ∙ c.greater.ensures) in
    (λ i. Some (ap start_of c.in_ok-clone.ensures.copy i, end i))
    ∙ sym (joined_near g.met.T.Ord.total (ends_of c.args.self.now) (ends_of c.args.other.now) (sym c.is_near.ensures ∙ c.if-is_near.true))
