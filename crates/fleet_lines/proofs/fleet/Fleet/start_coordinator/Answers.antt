use Rattle.std.proofs.Common.{◌∙◌, ap, subst, Result}
use Rattle.fleet_model.specs.History.{Coordinator}
use Rattle.fleet_model.specs.Work.Parties.{LiveCoordinator}
use Rattle.step_model.specs.Courses.StepEnds.{Reports}
use Rattle.step_model.specs.Steps.PollSteps.{start}
use Rattle.script_model.specs.Lines.Starts.{killed_first, start_coordinator}
use Rattle.fleet_rows.specs.declared.errors.SlateDBError.{SlateDBError}
use Rattle.fleet_history.specs.declared.party.Party.TheVariants as party
use Rattle.fleet_lines.specs.Fleets.{FleetParts, state_of}
use Rattle.fleet_lines.specs.Steps.{Made, Noted, epoch_said}
use Rattle.fleet_lines.proofs.Seen.{seen_runs}
use Rattle.fleet_lines.proofs.StartLines.{start_fails, start_runs}
use Rattle.fleet_lines.proofs.Takes.{Takes, was_live}
use Rattle.fleet_lines.proofs.fleet.Fleet.start_coordinator.Goals as goal

pub returns-in_ok-put_coordinator-in-Ok-clause-ran : goal.returns-in_ok-put_coordinator-in-Ok-clause-ran
returns-in_ok-put_coordinator-in-Ok-clause-ran g c =
    let merge = g.O.MergeOperator.merged (g.O.MergeOperator.settings c.args.operator.now) in
    let old = c.args.self.now in
    let n = c.args.coordinator in
    let b = c.is_some-was_live.result in
    let takes =
    subst (λ (f : FleetParts). Takes c.args.coordinator f c.take_coordinator.result c.take_coordinator.new.coordinators.items) c.self.view_is
    (record { found = c.take_coordinator.ensures.found; others = c.take_coordinator.ensures.others; place = c.take_coordinator.ensures.place }) in
    let killed = subst (λ (f : FleetParts). Noted merge c.args.number (party.Coordinator n) (killed_first b (Coordinator n)) f.store c.killed.new.store) c.self.view_is c.in_ok-killed.ensures.made in
    let made = subst (λ (r : Result LiveCoordinator SlateDBError). Made (λ (d : LiveCoordinator). Reports d.epoch) start merge c.args.number (party.Coordinator n) c.killed.new.store c.started.new.store r) c.in-Ok.is c.started.ensures.made in
    seen_runs merge c.args.number (state_of old) (start_coordinator n (state_of old)) old _ (λ (f : FleetParts). record f { store = c.noted.new.store; coordinators = c.put_coordinator.new.coordinators.items }) c.started-in-Ok.result _ c.self.view_is
    (λ answer says. start_runs merge c.args.number n old b c.killed.new.store ((g.met.O.MergeOperator g.world.𝓛 g.world.𝓜 g.world.𝓡 ((λ s x. x), (λ x. x), (λ x. x), λ x. x)).lawful _) c.requires
    (was_live n old c.take_coordinator.result c.take_coordinator.new.coordinators.items takes b c.is_some-was_live.ensures) killed c.started.new.store c.noted.new.store c.in-Ok.started c.take_coordinator.new.coordinators.items c.put_coordinator.new.coordinators.items answer c.in-Ok.ensures.number
    c.started.ensures.keeps made c.in-Ok.ensures.holds c.in_ok-noted-in-Ok.ensures.made (says ∙ ap epoch_said c.epoch-epoch.ensures) takes.others c.in_ok-put_coordinator-in-Ok.ensures.items) c.started-in-Ok.ensures.reply

pub returns-in-Err-clause-ran : goal.returns-in-Err-clause-ran
returns-in-Err-clause-ran g c =
    let merge = g.O.MergeOperator.merged (g.O.MergeOperator.settings c.args.operator.now) in
    let old = c.args.self.now in
    let n = c.args.coordinator in
    let b = c.is_some-was_live.result in
    let takes =
    subst (λ (f : FleetParts). Takes c.args.coordinator f c.take_coordinator.result c.take_coordinator.new.coordinators.items) c.self.view_is
    (record { found = c.take_coordinator.ensures.found; others = c.take_coordinator.ensures.others; place = c.take_coordinator.ensures.place }) in
    let killed = subst (λ (f : FleetParts). Noted merge c.args.number (party.Coordinator n) (killed_first b (Coordinator n)) f.store c.killed.new.store) c.self.view_is c.in_ok-killed.ensures.made in
    let made = subst (λ (r : Result LiveCoordinator SlateDBError). Made (λ (d : LiveCoordinator). Reports d.epoch) start merge c.args.number (party.Coordinator n) c.killed.new.store c.started.new.store r) c.in-Err.is c.started.ensures.made in
    seen_runs merge c.args.number (state_of old) (start_coordinator n (state_of old)) old _ (λ (f : FleetParts). record f { store = c.started.new.store; coordinators = c.take_coordinator.new.coordinators.items }) c.refused.result _ c.self.view_is
    (λ answer says. start_fails merge c.args.number n old b c.killed.new.store ((g.met.O.MergeOperator g.world.𝓛 g.world.𝓜 g.world.𝓡 ((λ s x. x), (λ x. x), (λ x. x), λ x. x)).lawful _) c.requires
    (was_live n old c.take_coordinator.result c.take_coordinator.new.coordinators.items takes b c.is_some-was_live.ensures) killed c.started.new.store c.take_coordinator.new.coordinators.items c.in-Err.error answer made takes.others says) c.refused.ensures.reply
