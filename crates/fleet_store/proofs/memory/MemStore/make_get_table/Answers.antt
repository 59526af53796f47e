use Rattle.std.proofs.Common.{ap, refl, sym, ◌∙◌, if◌then◌else◌}
use Rattle.std.specs.Option.{is_some}
use Rattle.fleet_model.specs.History.{Done, Absent}
use Rattle.fleet_store.proofs.Kept.{plain_kept}
use Rattle.fleet_store.proofs.Memories.{held_is, held_some}
use Rattle.fleet_store.proofs.memory.MemStore.make_get_table.Goals as goal

pub add_plain-requires : goal.add_plain-requires
add_plain-requires c =
    c.table_answer-answer.ensures
    ∙ ap (λ b. if b then Done 0 else Absent) (ap is_some (c.in_ok-table.ensures ∙ held_is _ _ _ _ _ _ _ c.args.id c.self.invariant) ∙ held_some c.self.inside.log.world.store c.args.id)

pub invariant_of-self-2 : goal.invariant_of-self-2
invariant_of-self-2 c = plain_kept c.self.inside.log c.add_plain.new.self _ _ _ _ _ _ _ c.in_ok-strike.ensures.ok c.self.invariant

pub returns : goal.returns
returns c =
    let a = c.in_ok-strike.ensures.ok in
    rw (sym c.self.view_is) (record {
      strike_is = a.strike_is;
      world_is = a.world_is;
      line_is = a.line_is;
      party_is = a.party_is;
      faults_are = a.faults_are;
      waits_is = a.waits_is;
      processed_is = refl;
      room = tt;
      fits = c.in_ok-table.ensures ∙ held_is _ _ _ _ _ _ _ c.args.id c.self.invariant;
    })
