use Rattle.std.proofs.Common.{refl, ap, sym, ◌∙◌, subst, length, length-append}
use Rattle.fleet_history.specs.Entries.{event_of}
use Rattle.fleet_store.specs.Log.{IsCall, LogParts}
use Rattle.fleet_store.proofs.Logs.{log_remembered, world_of-remembered}
use Rattle.fleet_store.proofs.log.Log.add.Goals as goal

pub invariant_of-self-2 : goal.invariant_of-self-2
invariant_of-self-2 c =
    let is = subst (λ (p : LogParts). IsCall c.args.made c.args.event c.args.answer p.world) (sym c.self.view_is) c.requires in
    log_remembered c.self.inside.calls.items c.remember.new.calls.items c.of.result c.self.inside.history.items c.remember.new.history.items c.self.inside.faults _ c.self.inside.line c.self.inside.party c.args.made c.args.event c.args.answer c.struck_answer.result c.strike-strike.result
    c.in_ok-remember.ensures.calls c.of.ensures c.in_ok-remember.ensures.history c.counted-self-inside.ensures c.self.invariant is c.struck_answer.ensures c.in_ok-remember.ensures.room

pub returns-clause-ok : goal.returns-clause-ok
returns-clause-ok c =
    let is = subst (λ (p : LogParts). IsCall c.args.made c.args.event c.args.answer p.world) (sym c.self.view_is) c.requires in
    rw (sym c.self.view_is) (record {
      strike_is = rw (sym is.event_is) (c.strike-strike.ensures (event_of c.args.event) (sym c.is_get_or_put-counts.ensures));
      world_is = world_of-remembered c.self.inside.calls.items c.remember.new.calls.items c.of.result _ c.in_ok-remember.ensures.calls c.of.ensures;
      line_is = refl;
      party_is = refl;
      faults_are = c.counted-self-inside.ensures;
      waits_is = rw (sym is.event_is) (c.left-self-inside.ensures (event_of c.args.event) (sym c.is_get_or_put-counts.ensures));
      longer = ap length c.in_ok-remember.ensures.history ∙ length-append c.self.inside.history.items _;
      room = c.in_ok-remember.ensures.room;
    })
