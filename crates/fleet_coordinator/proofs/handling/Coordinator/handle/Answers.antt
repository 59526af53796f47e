use Rattle.std.proofs.Common.{ap, refl, subst, sym}
use Rattle.fleet_coordinator.specs.Handling.{CoordinatorParts}
use Rattle.fleet_coordinator.specs.Polling.{MayPoll, ask_of}
use Rattle.fleet_coordinator.specs.declared.polling.Turn.{Turn}
use Rattle.fleet_coordinator.proofs.Handled as law
use Rattle.fleet_coordinator.proofs.handling.Coordinator.handle.Goals as goal

pub returns-in-LogStats-clause-ran : goal.returns-in-LogStats-clause-ran
returns-in-LogStats-clause-ran g c = rw c.in-LogStats.is (law.nothing_handled _ c.new.result c.new.ensures)

pub returns-in-LogStats-clause-keeps : goal.returns-in-LogStats-clause-keeps
returns-in-LogStats-clause-keeps g c = c.requires.ready.keeps

pub returns-clause-ready : goal.returns-clause-ready
returns-clause-ready g c =
    let s = (goal.CompactionScheduler-dyn g c.args.scheduler.now).answers c.args.scheduler.now.1 in
    let turn : Turn = record { epoch = c.self.inside.epoch; moment = c.args.moment; commits_only = c.match-message.commits_only } in
    let may = subst (MayPoll (g.S.Store.view c.args.store.now)) (ap (λ (p : CoordinatorParts). p.epoch) (sym c.self.view_is)) c.requires.ready in
    law.ready_after (g.S.Store.view c.args.store.now) _ (ask_of s c.args.options.now turn) c.report_poll-done.result c.stops-self-inside.result c.self.inside.epoch refl (g.met.S.Store.lawful _) may c.report_poll-done.ensures

pub returns-clause-keeps : goal.returns-clause-keeps
returns-clause-keeps g c =
    let s = (goal.CompactionScheduler-dyn g c.args.scheduler.now).answers c.args.scheduler.now.1 in
    let turn : Turn = record { epoch = c.self.inside.epoch; moment = c.args.moment; commits_only = c.match-message.commits_only } in
    let may = subst (MayPoll (g.S.Store.view c.args.store.now)) (ap (λ (p : CoordinatorParts). p.epoch) (sym c.self.view_is)) c.requires.ready in
    law.keeps_after (g.S.Store.view c.args.store.now) _ (ask_of s c.args.options.now turn) c.report_poll-done.result (g.met.S.Store.lawful _) may c.report_poll-done.ensures
