use Rattle.std.proofs.Common.{◌∙◌, ap, refl}
use Rattle.fleet_store.specs.Exchanges.{manifest_put}
use Rattle.fleet_store.specs.Manifests.{jobs_shown}
use Rattle.fleet_lock.specs.Passes.{first_view}
use Rattle.fleet_lock.proofs.PassCalls.{called_through, follows_through, may_put_manifest_through, stands_through}
use Rattle.fleet_lock.proofs.pass_store.ThroughStore.put_manifest.Goals as goal

pub leave-requires-clause-follows : goal.leave-requires-clause-follows
leave-requires-clause-follows g c =
    follows_through g.S.Holds.folds c.args.self.now.pass.ghost_name _ _ c.pass.view_is c.seat_of-seat.result.me.0 (ap (λ m. m.0) c.seat_of-seat.ensures.view) (g.S.Holds.value c.enter-held.result) c.enter-held.ensures.found c.pass.invariant.name
    c.enter-held.ensures.turn.0 _ (g.S.Holds.value c.put_manifest-answer.new.self) c.put_manifest-answer.ensures.grows c.enter-held.new.seat.me.0 (ap (λ m. m.0) c.enter-held.ensures.turn.1)

pub returns-clause-asked : goal.returns-clause-asked
returns-clause-asked g c =
    called_through g.S.Holds.folds c.args.self.now.pass.ghost_name _ _ c.pass.view_is c.seat_of-seat.result.me.0 (ap (λ m. m.0) c.seat_of-seat.ensures.view) (g.S.Holds.value c.enter-held.result) c.enter-held.ensures.found c.pass.invariant.name
    c.enter-held.ensures.turn.0 _ (g.S.Holds.value c.put_manifest-answer.new.self) c.put_manifest-answer.ensures.grows c.enter-held.new.seat.me.0 (ap (λ m. m.0) c.enter-held.ensures.turn.1)
    (record { table = c.into_badge.result.table_id; sight = first_view c.into_badge.result.views; line = c.pass.inside.line; party = c.pass.inside.party })
    (c.into_badge.ensures.0 ∙ (c.leave.ensures.own ∙ (c.enter-held.ensures.own ∙ c.seat_of-seat.ensures.own))) (ap first_view c.into_badge.ensures.2 ∙ ap (λ m. m.0) c.leave.ensures.left) refl refl
    (manifest_put c.args.version c.args.value c.args.why (jobs_shown c.args.jobs)) _ _ c.put_manifest-answer.result c.put_manifest-answer.ensures.asked

pub returns-clause-stands : goal.returns-clause-stands
returns-clause-stands g c =
    stands_through g.S.Holds.folds c.args.self.now.pass.ghost_name _ _ c.pass.view_is c.seat_of-seat.result.me.0 (ap (λ m. m.0) c.seat_of-seat.ensures.view) (g.S.Holds.value c.enter-held.result) c.enter-held.ensures.found c.pass.invariant.name
    c.enter-held.ensures.turn.0 _ (g.S.Holds.value c.put_manifest-answer.new.self) c.put_manifest-answer.ensures.grows c.enter-held.new.seat.me.0 (ap (λ m. m.0) c.enter-held.ensures.turn.1)
    (record { table = c.into_badge.result.table_id; sight = first_view c.into_badge.result.views; line = c.pass.inside.line; party = c.pass.inside.party })
    (c.into_badge.ensures.0 ∙ (c.leave.ensures.own ∙ (c.enter-held.ensures.own ∙ c.seat_of-seat.ensures.own))) (ap first_view c.into_badge.ensures.2 ∙ ap (λ m. m.0) c.leave.ensures.left) refl refl
    (manifest_put c.args.version c.args.value c.args.why (jobs_shown c.args.jobs)) _ _ c.put_manifest-answer.result refl c.put_manifest-answer.ensures.asked

pub put_manifest-answer-requires : goal.put_manifest-answer-requires
put_manifest-answer-requires g c =
    may_put_manifest_through g.S.Holds.folds c.args.self.now.pass.ghost_name _ _ c.pass.view_is c.seat_of-seat.result.me.0 (ap (λ m. m.0) c.seat_of-seat.ensures.view) (g.S.Holds.value c.enter-held.result) c.enter-held.ensures.found c.pass.invariant.name c.args.version c.args.value c.args.why (jobs_shown c.args.jobs) c.requires
