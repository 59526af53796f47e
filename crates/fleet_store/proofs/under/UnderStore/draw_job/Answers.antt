use Rattle.fleet_store.proofs.Ends.{called_of}
use Rattle.fleet_store.proofs.under.UnderStore.draw_job.Goals as goal

pub returns : goal.returns
returns g c = called_of _ _ c.args.self.now.store.now c.make_draw_job.new.self _ _ _ _ c.make_draw_job.result c.ended.result c.ended.ensures c.make_draw_job.ensures
