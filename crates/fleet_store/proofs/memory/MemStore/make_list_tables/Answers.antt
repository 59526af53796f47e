use Rattle.std.proofs.Common.{refl, ap, sym, ◌∙◌, length}
use Rattle.fleet_model.specs.History.{ListTables}
use Rattle.fleet_store.proofs.Kept.{list_kept}
use Rattle.fleet_store.proofs.Memories.{ids_are, ids_many}
use Rattle.fleet_store.proofs.memory.MemStore.make_list_tables.Goals as goal

pub add-requires : goal.add-requires
add-requires c =
    let ids = c.from_vec-ids.ensures ∙ (c.in_ok-ids_of.ensures ∙ ids_are _ _ _ _ _ _ _ c.self.invariant) in
    record {
      event_is = ap ListTables (c.len-count.ensures ∙ (ap length ids ∙ ids_many c.self.inside.log.world.store));
      answer_is = refl;
    }

pub invariant_of-self-2 : goal.invariant_of-self-2
invariant_of-self-2 c = list_kept c.self.inside.log c.add.new.self _ _ _ _ _ _ c.in_ok-strike.ensures.ok c.self.invariant

pub returns : goal.returns
returns c =
    let a = c.in_ok-strike.ensures.ok in
    rw (sym c.self.view_is) (record {
      strike_is = a.strike_is;
      world_is = a.world_is;
      line_is = a.line_is;
      party_is = a.party_is;
      faults_are = a.faults_are;
      waits_is = a.waits_is;
      processed_is = refl;
      room = tt;
      fits = c.from_vec-ids.ensures ∙ (c.in_ok-ids_of.ensures ∙ ids_are _ _ _ _ _ _ _ c.self.invariant);
    })
