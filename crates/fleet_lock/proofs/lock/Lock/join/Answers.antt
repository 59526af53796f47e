use Rattle.std.proofs.Common.{◌≡◌, ◌∙◌, ◌+◌, ◌∷◌, [], ap, arith, subst, sym}
use Rattle.fleet_lock.specs.Passes.{IsPass, PassValue, first_view}
use Rattle.fleet_lock.specs.Rule.{IsFront, joined_view}
use Rattle.fleet_lock.specs.declared.sight.Sight.{Sight}
use Rattle.fleet_lock.specs.declared.tally.Tally.{Tally}
use Rattle.fleet_lock.proofs.Moves.{joins_as, tells_as}
use Rattle.fleet_lock.proofs.Passes.{join_keeps, same_base}
use Rattle.fleet_lock.proofs.lock.Lock.join.Goals as goal

pub join_seat-requires : goal.join_seat-requires
join_seat-requires g c =
    let e = c.seat_of-seat.ensures in
    let f = c.seat_of-other.ensures in
    let i = c.into.invariant in
    let j = c.from.invariant in
    let shape = c.args.self.now.shape in (
      e.own ∙ (ap (λ (x : PassValue). x.table) c.into.view_is ∙ c.requires.own),
      f.own ∙ (ap (λ (x : PassValue). x.table) c.from.view_is ∙ c.requires.other),
      ap (λ m. m.1) f.view,
      omega (arith, shape.0),
      joins_as g.S.Holds.value _ _ _ _ _ _ _ (ap (λ m. m.0) e.view) (ap (λ m. m.0) f.view) (omega (arith, i.parts_are, i.some_part)) i.idle.0 i.idle.1 (omega (arith, j.parts_are, j.some_part)) j.idle.0 j.idle.1,
    )

pub load-requires : goal.load-requires
load-requires g c =
    let e = c.seat_of-seat.ensures in
    let j = c.join_seat.ensures in
    let i = c.into.invariant in
    let shape = c.args.self.now.shape in
    let both : c.join_seat.new.seat.me.0.parts ≡ c.seat_of-seat.result.me.0.parts + c.seat_of-other.result.me.0.parts = ap (λ m. m.0.parts) j.2 in
    let mine : c.seat_of-seat.result.me.0.parts ≡ (first_view c.into.inside.badge.views).parts = ap (λ m. m.0.parts) e.view in (
      j.0 ∙ (e.own ∙ (ap (λ (x : PassValue). x.table) c.into.view_is ∙ c.requires.own)),
      omega (arith, shape.0),
      tells_as g.S.Holds.value _ _ _ _ shape.1 (ap (λ m. m.1) j.2 ∙ ap (λ m. m.1) e.view) (omega (arith, both, mine, i.parts_are, i.some_part)),
    )

pub invariant_of-into : goal.invariant_of-into
invariant_of-into g c =
    let e = c.seat_of-seat.ensures in
    let f = c.seat_of-other.ensures in
    let seen : c.join_seat.new.seat.me.0 ≡ joined_view (first_view c.into.inside.badge.views) (first_view c.from.inside.badge.views) =
    ap (λ m. m.0) c.join_seat.ensures.2 ∙ (λ i. joined_view (ap (λ m. m.0) e.view i) (ap (λ m. m.0) f.view i)) in
    let views : c.into_badge.result.views ≡ joined_view (first_view c.into.inside.badge.views) (first_view c.from.inside.badge.views) ∷ [] =
    c.into_badge.ensures.2 ∙ ap (λ m. m.0 ∷ []) c.load.ensures.2.0 ∙ ap (λ (v : Sight). v ∷ []) seen in
    subst (λ (tally : Tally). IsPass c.into_badge.result.views (c.into.inside.parts + c.from.inside.parts) tally c.into.inside.party) (sym c.joined-into-inside.ensures) (join_keeps _ _ _ _ _ _ _ _ _ c.into.invariant c.from.invariant views)

pub returns-clause-base : goal.returns-clause-base
returns-clause-base g c =
    let e = c.seat_of-seat.ensures in
    let f = c.seat_of-other.ensures in
    let seen : c.join_seat.new.seat.me.0 ≡ joined_view c.args.into.now.sight c.args.from.sight =
    ap (λ m. m.0) c.join_seat.ensures.2 ∙ (λ i. joined_view (ap (λ m. m.0) e.view i) (ap (λ m. m.0) f.view i)) ∙ (λ i. joined_view (c.into.view_is i).sight (c.from.view_is i).sight) in
    same_base c.args.into.now.sight c.args.from.sight (subst (λ (v : Sight). v.other_base ≡ v.base) seen c.load.ensures.2.2)

pub returns-clause-front : goal.returns-clause-front
returns-clause-front g c =
    let e = c.seat_of-seat.ensures in
    let f = c.seat_of-other.ensures in
    let seen : c.join_seat.new.seat.me.0 ≡ joined_view c.args.into.now.sight c.args.from.sight =
    ap (λ m. m.0) c.join_seat.ensures.2 ∙ (λ i. joined_view (ap (λ m. m.0) e.view i) (ap (λ m. m.0) f.view i)) ∙ (λ i. joined_view (c.into.view_is i).sight (c.from.view_is i).sight) in
    subst (λ (v : Sight). IsFront v.other_trace v.trace) seen c.load.ensures.2.3
