use Rattle.std.proofs.Common.{subst, sym}
use Rattle.fleet_store.specs.Asks.{MayCall}
use Rattle.fleet_model.specs.Exchanges.{PutsTable}
use Rattle.fleet_store.specs.Memory.{StoreParts}
use Rattle.fleet_store.specs.Under.{lent_of, view_of}
use Rattle.fleet_lock.proofs.calls.put_table.Goals as goal

pub put_table-requires : goal.put_table-requires
put_table-requires g c =
    let lent = lent_of c.under.result in
    subst (λ (s : StoreParts). MayCall (view_of g.F.Fold.fold lent s) (λ met. PutsTable c.args.id c.args.table)) (sym c.under.ensures.store) (c.requires.fits lent)
