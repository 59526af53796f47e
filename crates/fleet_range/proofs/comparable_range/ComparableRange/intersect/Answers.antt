use Rattle.std.proofs.Common.{ap, sym, ◌∙◌}
use Rattle.fleet_range.specs.Ranges.{is_in, leaves_room, overlap}
use Rattle.fleet_range.specs.Shown.{ends_of}
use Rattle.fleet_range.proofs.Sided.{overlap_shown}
use Rattle.fleet_range.proofs.Taken.{in_none, in_overlap}
use Rattle.fleet_range.proofs.comparable_range.ComparableRange.intersect.Goals as goal

pub returns-in_ok-clone-2-clause-both : goal.returns-in_ok-clone-2-clause-both
returns-in_ok-clone-2-clause-both g c = λ key.
    ap (λ ends. is_in g.T.Ord.cmp ends key) (overlap_shown g.T.Ord.cmp c.args.self.now c.args.other.now c.in_ok-clone.field-0 c.in_ok-clone-2.field-0 (c.in_ok-clone.ensures.copy ∙ c.greater-start.ensures) (c.in_ok-clone-2.ensures.copy ∙ c.lesser-end.ensures))
    ∙ in_overlap g.met.T.Ord.total (ends_of c.args.self.now) (ends_of c.args.other.now) key

pub returns-else-have_room-clause-none : goal.returns-else-have_room-clause-none
returns-else-have_room-clause-none g c = λ key.
    let both = overlap_shown g.T.Ord.cmp c.args.self.now c.args.other.now c.greater-start.result.now c.lesser-end.result.now c.greater-start.ensures c.lesser-end.ensures in
    sym (in_overlap g.met.T.Ord.total (ends_of c.args.self.now) (ends_of c.args.other.now) key)
    ∙ in_none g.met.T.Ord.total (overlap g.T.Ord.cmp (ends_of c.args.self.now) (ends_of c.args.other.now)) key (ap (λ ends. leaves_room g.T.Ord.cmp ends.0 ends.1) (sym both) ∙ sym c.have_room.ensures ∙ c.if-have_room.false)
