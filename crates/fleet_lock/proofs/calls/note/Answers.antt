use Rattle.std.proofs.Common.{subst, sym}
use Rattle.fleet_store.specs.Asks.{MayCall}
use Rattle.fleet_store.specs.Exchanges.{noted_exchange}
use Rattle.fleet_store.specs.Memory.{StoreParts}
use Rattle.fleet_store.specs.Under.{lent_of, view_of}
use Rattle.fleet_lock.proofs.calls.note.Goals as goal

pub note-requires : goal.note-requires
note-requires g c =
    let lent = lent_of c.under.result in
    subst (λ (s : StoreParts). MayCall (view_of g.F.Fold.fold lent s) (λ met. noted_exchange c.args.note)) (sym c.under.ensures.store) (c.requires.fits lent)
