use Rattle.std.proofs.Common.{◌∙◌, Err, ap}
use Rattle.std.proofs.lemmas.Result.{err_from_is_err_and}
use Rattle.fleet_store.specs.Under.{lent_of, store_of}
use Rattle.fleet_rival.proofs.Rivals.{none_put, puts_after, records_may}
use Rattle.fleet_rival.proofs.rival.RivalStore.put_records.Goals as goal

pub returns : goal.returns
returns c =
    puts_after (store_of c.put_records_again.new.under) (store_of c.set_actor.new.self) (store_of c.put_records.new.self) (store_of c.args.self.now.under)
    c.args.self.now.line c.args.self.now.party c.set_actor.ensures.store (lent_of c.args.self.now.under) (lent_of c.set_actor.new.self) (lent_of c.put_records.new.self)
    c.put_records_again.ensures.rivals c.put_records_again.ensures.faults c.put_records_again.ensures.whole (c.set_actor.ensures.same_reference ∙ c.put_records_again.ensures.same_reference)
    c.args.version c.args.value c.args.why c.put_records.result c.put_records.ensures

pub put_records-requires : goal.put_records-requires
put_records-requires c =
    records_may (store_of c.put_records_again.new.under) (store_of c.set_actor.new.self) (store_of c.set_actor.new.self) (store_of c.args.self.now.under)
    c.args.self.now.line c.args.self.now.party c.set_actor.ensures.store (lent_of c.args.self.now.under) (lent_of c.set_actor.new.self) (lent_of c.set_actor.new.self)
    c.args.version c.args.value c.args.why c.put_records_again.ensures.rivals c.requires

pub returns-in_err-put_records_again : goal.returns-in_err-put_records_again
returns-in_err-put_records_again c =
    let p = err_from_is_err_and c.from_residual.result c.from_residual.ensures.1 in
    none_put (store_of c.args.self.now.under) (store_of c.put_records_again.new.under) c.args.self.now.line c.args.self.now.party (lent_of c.args.self.now.under) (lent_of c.put_records_again.new.under)
    c.args.version c.args.value c.args.why c.from_residual.result (p.1 ∙ ap Err (p.2 ∙ c.in_err-put_records_again.ensures.memory))
    c.put_records_again.ensures.rivals c.put_records_again.ensures.faults c.put_records_again.ensures.whole c.put_records_again.ensures.same_reference
