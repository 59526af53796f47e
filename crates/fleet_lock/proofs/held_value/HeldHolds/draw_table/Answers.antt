use Rattle.std.proofs.Common.{◌∙◌, Err, ap, map, refl}
use Rattle.std.proofs.lemmas.Result.{err_from_is_err_and}
use Rattle.fleet_store.specs.Asks.{DrawsTableId}
use Rattle.fleet_lock.proofs.Lone.{asked_after, asked_none, grows_after, grows_none, held_after, not_called, unchanged}
use Rattle.fleet_lock.proofs.held_value.HeldHolds.draw_table.Goals as goal

pub invariant_of-self-2 : goal.invariant_of-self-2
invariant_of-self-2 g c =
    held_after g.O.Folds.folds c.draw_table-answer.ensures.0 c.args.line c.args.party _ _ c.self.view_is c.self.inside.store c.set_actor.new.self c.draw_table-answer.new.store _ _ _ c.draw_table-answer.result (c.self.inside.lent.lawful _) c.self.invariant c.set_actor.ensures c.draw_table-answer.ensures.1 (λ room. room) refl c.was_made.result _ _ c.was_made.ensures (ap (map (λ s. s.value)) c.reserve.ensures.items) c.remember.ensures

pub returns-clause-grows : goal.returns-clause-grows
returns-clause-grows g c =
    grows_after g.O.Folds.folds c.draw_table-answer.ensures.0 c.args.line c.args.party _ _ c.self.view_is c.self.inside.store c.set_actor.new.self c.draw_table-answer.new.store _ _ _ c.draw_table-answer.result (c.self.inside.lent.lawful _) c.self.invariant c.set_actor.ensures c.draw_table-answer.ensures.1 (λ room. room) refl c.was_made.result _ _ c.was_made.ensures (ap (map (λ s. s.value)) c.reserve.ensures.items) c.remember.ensures

pub returns-clause-asked : goal.returns-clause-asked
returns-clause-asked g c =
    asked_after g.O.Folds.folds c.draw_table-answer.ensures.0 c.args.line c.args.party _ _ c.self.view_is c.self.inside.store c.set_actor.new.self c.draw_table-answer.new.store _ _ _ c.draw_table-answer.result (c.self.inside.lent.lawful _) c.self.invariant c.set_actor.ensures c.draw_table-answer.ensures.1 (λ room. room) refl c.was_made.result _ _ c.was_made.ensures (ap (map (λ s. s.value)) c.reserve.ensures.items) c.remember.ensures
    (λ before after. DrawsTableId before after c.args.moment c.draw_table-answer.result) c.draw_table-answer.ensures.1

pub returns-in_err-reserve-clause-grows : goal.returns-in_err-reserve-clause-grows
returns-in_err-reserve-clause-grows g c =
    let p = err_from_is_err_and c.from_residual.result c.from_residual.ensures.1 in
    grows_none g.O.Folds.folds c.args.line c.args.party _ _ (unchanged _ _ c.self.view_is _ (ap (map (λ s. s.value)) c.reserve.ensures.items)) c.from_residual.result (p.1 ∙ ap Err p.2)

pub returns-in_err-reserve-clause-asked : goal.returns-in_err-reserve-clause-asked
returns-in_err-reserve-clause-asked g c =
    let p = err_from_is_err_and c.from_residual.result c.from_residual.ensures.1 in
    asked_none g.O.Folds.folds c.args.line c.args.party _ _ (unchanged _ _ c.self.view_is _ (ap (map (λ s. s.value)) c.reserve.ensures.items)) c.from_residual.result (p.1 ∙ ap Err p.2)
    (λ result before after. DrawsTableId before after c.args.moment result) (λ view. not_called view _ _ _)
