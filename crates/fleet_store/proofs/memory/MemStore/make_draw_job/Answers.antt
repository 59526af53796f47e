use Rattle.fleet_store.proofs.Kept.{job_drawn}
use Rattle.fleet_store.proofs.memory.MemStore.make_draw_job.Goals as goal

pub invariant_of-self-2 : goal.invariant_of-self-2
invariant_of-self-2 c = job_drawn c.self.inside.log c.add.new.self _ _ _ _ _ _ _ c.in_ok-strike.ensures.ok c.self.invariant
