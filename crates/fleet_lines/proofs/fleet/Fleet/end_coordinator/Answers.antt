use Rattle.std.proofs.Common.{[], ◌∷◌, ◌∙◌, ap, false, subst, sym}
use Rattle.std.specs.Prelude.{not}
use Rattle.script_model.specs.Lines.Starts.{end_coordinator}
use Rattle.fleet_history.specs.declared.party.Party.TheVariants as party
use Rattle.fleet_lines.specs.Fleets.{FleetParts, state_of}
use Rattle.fleet_lines.specs.Steps.{Noted, note_event}
use Rattle.fleet_lines.proofs.Seen.{seen_runs}
use Rattle.fleet_lines.proofs.Takes.{Takes, ended_runs, no_end_runs}
use Rattle.fleet_lines.proofs.fleet.Fleet.end_coordinator.Goals as goal

pub returns-then-is_none-clause-ran : goal.returns-then-is_none-clause-ran
returns-then-is_none-clause-ran g c =
    let merge = g.O.MergeOperator.merged (g.O.MergeOperator.settings c.args.operator.now) in
    let old = c.args.self.now in
    let takes =
    subst (λ (f : FleetParts). Takes c.args.coordinator f c.take_coordinator.result c.take_coordinator.new.coordinators.items) c.self.view_is
    (record { found = c.take_coordinator.ensures.found; others = c.take_coordinator.ensures.others; place = c.take_coordinator.ensures.place }) in
    seen_runs merge c.args.number (state_of old) (end_coordinator c.args.coordinator (state_of old)) old _ (λ (f : FleetParts). record f { coordinators = c.take_coordinator.new.coordinators.items }) c.no_such_party.result _ c.self.view_is
    (λ answer says. no_end_runs c.args.coordinator old c.take_coordinator.result c.take_coordinator.new.coordinators.items takes merge c.args.number answer c.requires (c.is_none.ensures ∙ ap not c.if-is_none.true) says) c.no_such_party.ensures.reply

pub returns-clause-ran : goal.returns-clause-ran
returns-clause-ran g c =
    let merge = g.O.MergeOperator.merged (g.O.MergeOperator.settings c.args.operator.now) in
    let old = c.args.self.now in
    let takes =
    subst (λ (f : FleetParts). Takes c.args.coordinator f c.take_coordinator.result c.take_coordinator.new.coordinators.items) c.self.view_is
    (record { found = c.take_coordinator.ensures.found; others = c.take_coordinator.ensures.others; place = c.take_coordinator.ensures.place }) in
    let noted = subst (λ (f : FleetParts). Noted merge c.args.number (party.Coordinator c.args.coordinator) (note_event false (party.Coordinator c.args.coordinator) ∷ []) f.store c.noted.new.store) c.self.view_is c.in_ok-noted.ensures.made in
    seen_runs merge c.args.number (state_of old) (end_coordinator c.args.coordinator (state_of old)) old _ (λ (f : FleetParts). record f { store = c.noted.new.store; coordinators = c.take_coordinator.new.coordinators.items }) c.done.result _ c.self.view_is
    (λ answer says. ended_runs c.args.coordinator old c.take_coordinator.result c.take_coordinator.new.coordinators.items takes merge c.args.number c.noted.new.store answer ((g.met.O.MergeOperator g.world.𝓛 g.world.𝓜 g.world.𝓡 ((λ s x. x), (λ x. x), (λ x. x), λ x. x)).lawful _) c.requires
    (sym (c.is_none.ensures ∙ ap not c.if-is_none.false)) noted says) c.done.ensures.reply
