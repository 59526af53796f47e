use Rattle.fleet_store.proofs.Kept.{plain_kept}
use Rattle.fleet_store.proofs.memory.MemStore.make_note.Goals as goal

pub invariant_of-self-2 : goal.invariant_of-self-2
invariant_of-self-2 c = plain_kept c.self.inside.log c.add_plain.new.self _ _ _ _ _ _ _ c.in_ok-strike.ensures.ok c.self.invariant
