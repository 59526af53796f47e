use Rattle.std.proofs.Common.{◌∙◌}
use Rattle.fleet_store.specs.Under.{lent_of, store_of}
use Rattle.fleet_rival.proofs.Rivals.{after_others, manifest_may}
use Rattle.fleet_rival.proofs.rival.RivalStore.put_manifest.Goals as goal

pub returns : goal.returns
returns c =
    after_others (store_of c.put_manifest_again.new.under) (store_of c.set_actor.new.self) (store_of c.put_manifest.new.self) (store_of c.args.self.now.under)
    c.args.self.now.line c.args.self.now.party c.set_actor.ensures.store (lent_of c.args.self.now.under) (lent_of c.set_actor.new.self) (lent_of c.put_manifest.new.self)
    c.put_manifest_again.ensures.rivals c.put_manifest_again.ensures.faults c.put_manifest_again.ensures.whole (c.set_actor.ensures.same_reference ∙ c.put_manifest_again.ensures.same_reference)
    _ _ _ c.put_manifest.result c.put_manifest.ensures

pub put_manifest-requires : goal.put_manifest-requires
put_manifest-requires c =
    manifest_may (store_of c.put_manifest_again.new.under) (store_of c.set_actor.new.self) (store_of c.set_actor.new.self) (store_of c.args.self.now.under)
    c.args.self.now.line c.args.self.now.party c.set_actor.ensures.store (lent_of c.args.self.now.under) (lent_of c.set_actor.new.self) (lent_of c.set_actor.new.self)
    c.args.version c.args.value c.args.why _ c.put_manifest_again.ensures.rivals c.requires
