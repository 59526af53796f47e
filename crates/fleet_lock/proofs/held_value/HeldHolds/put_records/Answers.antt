use Rattle.std.proofs.Common.{◌∙◌, Err, ap, map, refl}
use Rattle.std.proofs.lemmas.Result.{err_from_is_err_and}
use Rattle.fleet_store.specs.Exchanges.{records_put}
use Rattle.fleet_store.specs.Asks.{PutsRecords, RecordsPutFit}
use Rattle.fleet_lock.proofs.Lone.{asked_after, asked_none, grows_after, grows_none, held_after, lawful_of, may_lend, not_put, unchanged}
use Rattle.fleet_lock.proofs.held_value.HeldHolds.put_records.Goals as goal

pub invariant_of-self-2 : goal.invariant_of-self-2
invariant_of-self-2 g c =
    held_after g.O.Folds.folds c.put_records-answer.ensures.0 c.args.line c.args.party _ _ c.self.view_is c.self.inside.store c.set_actor.new.self c.put_records-answer.new.store _ _ _ c.put_records-answer.result (c.self.inside.lent.lawful _) c.self.invariant c.set_actor.ensures c.put_records-answer.ensures.1.called (λ room. lawful_of _ 0 c.set_actor.new.self (λ met. records_put c.args.version c.args.records c.args.why) (may_lend g.O.Folds.folds 0 c.args.line c.args.party _ _ c.self.view_is c.self.inside.store c.set_actor.new.self (λ v. RecordsPutFit v c.args.version c.args.records c.args.why) c.self.invariant c.set_actor.ensures c.requires).lawful) refl c.was_made.result _ _ c.was_made.ensures (ap (map (λ s. s.value)) c.reserve.ensures.items) c.remember.ensures

pub returns-clause-grows : goal.returns-clause-grows
returns-clause-grows g c =
    grows_after g.O.Folds.folds c.put_records-answer.ensures.0 c.args.line c.args.party _ _ c.self.view_is c.self.inside.store c.set_actor.new.self c.put_records-answer.new.store _ _ _ c.put_records-answer.result (c.self.inside.lent.lawful _) c.self.invariant c.set_actor.ensures c.put_records-answer.ensures.1.called (λ room. lawful_of _ 0 c.set_actor.new.self (λ met. records_put c.args.version c.args.records c.args.why) (may_lend g.O.Folds.folds 0 c.args.line c.args.party _ _ c.self.view_is c.self.inside.store c.set_actor.new.self (λ v. RecordsPutFit v c.args.version c.args.records c.args.why) c.self.invariant c.set_actor.ensures c.requires).lawful) refl c.was_made.result _ _ c.was_made.ensures (ap (map (λ s. s.value)) c.reserve.ensures.items) c.remember.ensures

pub returns-clause-asked : goal.returns-clause-asked
returns-clause-asked g c =
    asked_after g.O.Folds.folds c.put_records-answer.ensures.0 c.args.line c.args.party _ _ c.self.view_is c.self.inside.store c.set_actor.new.self c.put_records-answer.new.store _ _ _ c.put_records-answer.result (c.self.inside.lent.lawful _) c.self.invariant c.set_actor.ensures c.put_records-answer.ensures.1.called (λ room. lawful_of _ 0 c.set_actor.new.self (λ met. records_put c.args.version c.args.records c.args.why) (may_lend g.O.Folds.folds 0 c.args.line c.args.party _ _ c.self.view_is c.self.inside.store c.set_actor.new.self (λ v. RecordsPutFit v c.args.version c.args.records c.args.why) c.self.invariant c.set_actor.ensures c.requires).lawful) refl c.was_made.result _ _ c.was_made.ensures (ap (map (λ s. s.value)) c.reserve.ensures.items) c.remember.ensures
    (λ before after. PutsRecords before after c.args.version c.args.records c.args.why c.put_records-answer.result) c.put_records-answer.ensures.1

pub put_records-answer-requires-clause-fits : goal.put_records-answer-requires-clause-fits
put_records-answer-requires-clause-fits g c lifetimes within lent =
    may_lend g.O.Folds.folds lent c.args.line c.args.party _ _ c.self.view_is c.self.inside.store c.set_actor.new.self (λ v. RecordsPutFit v c.args.version c.args.records c.args.why) c.self.invariant c.set_actor.ensures c.requires

pub returns-in_err-reserve-clause-grows : goal.returns-in_err-reserve-clause-grows
returns-in_err-reserve-clause-grows g c =
    let p = err_from_is_err_and c.from_residual.result c.from_residual.ensures.1 in
    grows_none g.O.Folds.folds c.args.line c.args.party _ _ (unchanged _ _ c.self.view_is _ (ap (map (λ s. s.value)) c.reserve.ensures.items)) c.from_residual.result (p.1 ∙ ap Err p.2)

pub returns-in_err-reserve-clause-asked : goal.returns-in_err-reserve-clause-asked
returns-in_err-reserve-clause-asked g c =
    let p = err_from_is_err_and c.from_residual.result c.from_residual.ensures.1 in
    asked_none g.O.Folds.folds c.args.line c.args.party _ _ (unchanged _ _ c.self.view_is _ (ap (map (λ s. s.value)) c.reserve.ensures.items)) c.from_residual.result (p.1 ∙ ap Err p.2)
    (λ result before after. PutsRecords before after c.args.version c.args.records c.args.why result) (λ view. not_put view c.args.version c.args.records c.args.why)
