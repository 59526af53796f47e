use Rattle.std.proofs.Common.{ap, sym, subst, ℕ, None, Option, Result}
use Rattle.std.specs.Prelude.{is_some}
use Rattle.fleet_model.specs.Work.Parties.{LiveCoordinator}
use Rattle.step_model.specs.Fits.{CoordinatorHolds}
use Rattle.step_model.specs.Steps.PollSteps.{poll}
use Rattle.script_model.specs.Lines.PollLines.{poll_ask, polls}
use Rattle.script_model.specs.States.{Inputs}
use Rattle.line_laws.specs.Lines.PollLines.{spell_poll}
use Rattle.fleet_rows.specs.declared.errors.SlateDBError.{SlateDBError}
use Rattle.fleet_poll.specs.declared.report.PollReport.{PollReport}
use Rattle.fleet_lines.specs.Fleets.{FleetParts, state_of}
use Rattle.fleet_lines.specs.Steps.{Polled}
use Rattle.fleet_lines.proofs.PollLines.{live_fits, no_poll_runs, poll_fails, poll_reports}
use Rattle.fleet_lines.proofs.Seen.{seen_runs}
use Rattle.fleet_lines.proofs.Takes.{Takes, one_live, one_taken}
use Rattle.fleet_lines.proofs.fleet.Fleet.poll.Goals as goal

pub returns-in_default-clause-ran : goal.returns-in_default-clause-ran
returns-in_default-clause-ran g c =
    let merge = g.O.MergeOperator.merged (g.O.MergeOperator.settings c.args.operator.now) in
    let inputs : Inputs = record { merge = merge; scheduler = (goal.CompactionScheduler-dyn g c.args.scheduler.now).answers c.args.scheduler.now.1 } in
    let old = c.args.self.now in
    let n = c.args.coordinator in
    let b = c.args.commits_only in
    let takes =
    subst (λ (f : FleetParts). Takes c.args.coordinator f c.take_coordinator.result c.take_coordinator.new.coordinators.items) c.self.view_is
    (record { found = c.take_coordinator.ensures.found; others = c.take_coordinator.ensures.others; place = c.take_coordinator.ensures.place }) in
    seen_runs merge c.args.number (state_of old) (polls b (spell_poll b) inputs n (state_of old)) old _ (λ (f : FleetParts). record f { coordinators = c.take_coordinator.new.coordinators.items }) c.no_such_party.result _ c.self.view_is
    (λ answer says. no_poll_runs inputs c.args.number n b old c.take_coordinator.result c.take_coordinator.new.coordinators.items answer takes c.requires (ap (λ (o : Option (ℕ × LiveCoordinator)). is_some o) c.in_default.is) says) c.no_such_party.ensures.reply

pub polled-polled-requires-clause-holds : goal.polled-polled-requires-clause-holds
polled-polled-requires-clause-holds g c κs within =
    let merge = g.O.MergeOperator.merged (g.O.MergeOperator.settings c.args.operator.now) in
    let old = c.args.self.now in
    let takes =
    subst (λ (f : FleetParts). Takes c.args.coordinator f c.take_coordinator.result c.take_coordinator.new.coordinators.items) c.self.view_is
    (record { found = c.take_coordinator.ensures.found; others = c.take_coordinator.ensures.others; place = c.take_coordinator.ensures.place }) in
    subst (λ (f : FleetParts). CoordinatorHolds f.store.world c.in-Some.live None) (sym c.self.view_is)
    (live_fits merge c.args.coordinator old c.in-Some.live c.requires (one_live c.args.coordinator old c.take_coordinator.result c.take_coordinator.new.coordinators.items takes c.in-Some.place c.in-Some.live c.in-Some.is))

pub returns-in_ok-put_back-in-Ok-clause-ran : goal.returns-in_ok-put_back-in-Ok-clause-ran
returns-in_ok-put_back-in-Ok-clause-ran g c =
    let merge = g.O.MergeOperator.merged (g.O.MergeOperator.settings c.args.operator.now) in
    let inputs : Inputs = record { merge = merge; scheduler = (goal.CompactionScheduler-dyn g c.args.scheduler.now).answers c.args.scheduler.now.1 } in
    let old = c.args.self.now in
    let n = c.args.coordinator in
    let b = c.args.commits_only in
    let takes =
    subst (λ (f : FleetParts). Takes c.args.coordinator f c.take_coordinator.result c.take_coordinator.new.coordinators.items) c.self.view_is
    (record { found = c.take_coordinator.ensures.found; others = c.take_coordinator.ensures.others; place = c.take_coordinator.ensures.place }) in
    let there = one_live n old c.take_coordinator.result c.take_coordinator.new.coordinators.items takes c.in-Some.place c.in-Some.live c.in-Some.is in
    let polled =
    subst (λ (r : Result (LiveCoordinator × PollReport) SlateDBError). Polled (poll (poll_ask inputs (state_of old) c.in-Some.live b)) merge c.args.number c.in-Some.live old.store c.polled-polled.new.store r) c.in-Ok.is
    (subst (λ (f : FleetParts). Polled (poll (poll_ask inputs (state_of f) c.in-Some.live b)) merge c.args.number c.in-Some.live f.store c.polled-polled.new.store c.polled-polled.result) c.self.view_is c.polled-polled.ensures) in
    seen_runs merge c.args.number (state_of old) (polls b (spell_poll b) inputs n (state_of old)) old _ (λ (f : FleetParts). record f { store = c.polled-polled.new.store; coordinators = c.put_back.new.coordinators.items }) c.report_reply.result _ c.self.view_is
    (λ answer says. poll_reports inputs c.args.number n b old c.in-Some.live ((g.met.O.MergeOperator g.world.𝓛 g.world.𝓜 g.world.𝓡 ((λ s x. x), (λ x. x), (λ x. x), λ x. x)).lawful _) c.requires there c.polled-polled.new.store c.take_coordinator.new.coordinators.items c.put_back.new.coordinators.items c.in-Some.place c.in-Ok.live c.in-Ok.report answer
    (one_taken n old c.take_coordinator.result c.take_coordinator.new.coordinators.items takes c.in-Some.place c.in-Some.live c.in-Some.is) polled c.in_ok-put_back-in-Ok.ensures.items says) c.report_reply.ensures.reply

pub returns-in-Err-clause-ran : goal.returns-in-Err-clause-ran
returns-in-Err-clause-ran g c =
    let merge = g.O.MergeOperator.merged (g.O.MergeOperator.settings c.args.operator.now) in
    let inputs : Inputs = record { merge = merge; scheduler = (goal.CompactionScheduler-dyn g c.args.scheduler.now).answers c.args.scheduler.now.1 } in
    let old = c.args.self.now in
    let n = c.args.coordinator in
    let b = c.args.commits_only in
    let takes =
    subst (λ (f : FleetParts). Takes c.args.coordinator f c.take_coordinator.result c.take_coordinator.new.coordinators.items) c.self.view_is
    (record { found = c.take_coordinator.ensures.found; others = c.take_coordinator.ensures.others; place = c.take_coordinator.ensures.place }) in
    let there = one_live n old c.take_coordinator.result c.take_coordinator.new.coordinators.items takes c.in-Some.place c.in-Some.live c.in-Some.is in
    let polled =
    subst (λ (r : Result (LiveCoordinator × PollReport) SlateDBError). Polled (poll (poll_ask inputs (state_of old) c.in-Some.live b)) merge c.args.number c.in-Some.live old.store c.polled-polled.new.store r) c.in-Err.is
    (subst (λ (f : FleetParts). Polled (poll (poll_ask inputs (state_of f) c.in-Some.live b)) merge c.args.number c.in-Some.live f.store c.polled-polled.new.store c.polled-polled.result) c.self.view_is c.polled-polled.ensures) in
    seen_runs merge c.args.number (state_of old) (polls b (spell_poll b) inputs n (state_of old)) old _ (λ (f : FleetParts). record f { store = c.polled-polled.new.store; coordinators = c.take_coordinator.new.coordinators.items }) c.refused.result _ c.self.view_is
    (λ answer says. poll_fails inputs c.args.number n b old c.in-Some.live ((g.met.O.MergeOperator g.world.𝓛 g.world.𝓜 g.world.𝓡 ((λ s x. x), (λ x. x), (λ x. x), λ x. x)).lawful _) c.requires there c.polled-polled.new.store c.take_coordinator.new.coordinators.items c.in-Err.error answer polled takes.others says) c.refused.ensures.reply
