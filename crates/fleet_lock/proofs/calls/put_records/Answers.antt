use Rattle.std.proofs.Common.{subst, sym}
use Rattle.fleet_store.specs.Asks.{RecordsPutFit}
use Rattle.fleet_store.specs.Memory.{StoreParts}
use Rattle.fleet_store.specs.Under.{lent_of, view_of}
use Rattle.fleet_lock.proofs.calls.put_records.Goals as goal

pub put_records-requires : goal.put_records-requires
put_records-requires g c =
    let lent = lent_of c.under.result in
    subst (λ (s : StoreParts). RecordsPutFit (view_of g.F.Fold.fold lent s) c.args.version c.args.records c.args.why) (sym c.under.ensures.store) (c.requires.fits lent)
