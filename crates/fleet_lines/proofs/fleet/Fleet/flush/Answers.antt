use Rattle.std.proofs.Common.{sym, subst}
use Rattle.std.specs.Prelude.{IfOk}
use Rattle.std.proofs.lemmas.Result.{IfOk-weaker}
use Rattle.step_model.specs.Steps.FlushSteps.{flush}
use Rattle.script_model.specs.Lines.Flushes.{flush_line}
use Rattle.fleet_history.specs.declared.party.Party.TheVariants as party
use Rattle.fleet_coordinator.specs.Flushes as coordinator
use Rattle.fleet_lines.specs.Fleets.{FleetParts, state_of}
use Rattle.fleet_lines.specs.Lines.{RunsAlone}
use Rattle.fleet_lines.specs.Steps.{Made}
use Rattle.fleet_lines.proofs.FlushLines.{flush_runs}
use Rattle.fleet_lines.proofs.fleet.Fleet.flush.Goals as goal

pub returns-clause-ran : goal.returns-clause-ran
returns-clause-ran g c =
    let merge = g.O.MergeOperator.merged (g.O.MergeOperator.settings c.args.operator.now) in
    let old = c.args.self.now in
    let ask = coordinator.ask_of c.args.ask in
    subst (λ (f : FleetParts). IfOk c.flush_reply.result (RunsAlone merge c.args.number (state_of old) (flush_line ask.name ask.segment ask.floor ask.tick ask.rows (state_of old)) old (record f { store = c.flushed-fault.new.store }))) (sym c.self.view_is)
    (IfOk-weaker c.flush_reply.result _ _
    (λ answer says. flush_runs merge c.args.number ask old c.flushed-fault.new.store c.flushed-fault.result answer ((g.met.O.MergeOperator g.world.𝓛 g.world.𝓜 g.world.𝓡 ((λ s x. x), (λ x. x), (λ x. x), λ x. x)).lawful _) c.requires.serving c.requires.may
    (subst (λ (f : FleetParts). Made coordinator.ends (flush f.moment f.options.worker.retention_ms f.last_name ask) merge c.args.number party.Writer f.store c.flushed-fault.new.store c.flushed-fault.result) c.self.view_is c.flushed-fault.ensures) says)
    c.flush_reply.ensures.says)
