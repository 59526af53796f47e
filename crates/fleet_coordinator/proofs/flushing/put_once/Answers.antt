use Rattle.std.proofs.Common.{subst}
use Rattle.fleet_coordinator.specs.Flushes.{MayPutOnce, asked_of}
use Rattle.fleet_coordinator.proofs.flushing.put_once.Goals as goal

pub put_table-requires : goal.put_table-requires
put_table-requires g c =
    rw (c.id_of.ensures, c.in_ok-table.ensures.copy) (subst (MayPutOnce (g.S.Store.view c.args.store.now) (asked_of c.args.flush.now)) c.if-is_put.false c.requires)
