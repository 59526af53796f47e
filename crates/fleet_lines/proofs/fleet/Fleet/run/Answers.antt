use Rattle.std.proofs.Common.{ap, subst}
use Rattle.script_model.specs.Script as model
use Rattle.script_model.specs.Script.{IsInBounds}
use Rattle.fleet_text.specs.Lines.{line_of}
use Rattle.fleet_text.specs.declared.line.Line.{Line}
use Rattle.fleet_lines.proofs.ServeLines.{clock_serves, fault_serves, options_serves, served_as}
use Rattle.fleet_lines.proofs.fleet.Fleet.run.Goals as goal

pub returns-in-Options-clause-served : goal.returns-in-Options-clause-served
returns-in-Options-clause-served g c =
    let i = c.in-Options in
    served_as _ c.args.number _ (model.Options i.timeout i.concurrent i.slots i.ranges i.table_size i.moves i.retention) c.args.self.now c.set_options.new.self _ _ c.set_options.result (ap line_of i.is) c.set_options.ensures.set
    (λ answer says. options_serves _ c.args.number c.args.self.now answer i.timeout i.concurrent i.slots i.ranges i.table_size i.moves i.retention c.requires.serving.stands (subst (λ (l : Line). IsInBounds (line_of l)) c.in-Options.is c.requires.bounds) says)
    c.set_options.ensures.reply

pub returns-in-Clock-clause-served : goal.returns-in-Clock-clause-served
returns-in-Clock-clause-served g c =
    served_as _ c.args.number _ (model.Clock c.in-Clock.moment) c.args.self.now c.set_clock.new.self _ _ c.set_clock.result (ap line_of c.in-Clock.is) c.set_clock.ensures.set
    (λ answer says. clock_serves _ c.args.number c.args.self.now answer c.in-Clock.moment c.requires.serving.stands says) c.set_clock.ensures.reply

pub returns-in-Fault-clause-served : goal.returns-in-Fault-clause-served
returns-in-Fault-clause-served g c =
    served_as _ c.args.number _ (model.SetFault c.in-Fault.k c.in-Fault.stands) c.args.self.now c.set_fault.new.self _ _ c.set_fault.result (ap line_of c.in-Fault.is) c.set_fault.ensures.set
    (λ answer says. fault_serves _ c.args.number c.args.self.now answer c.in-Fault.k c.in-Fault.stands c.requires.serving.stands says) c.set_fault.ensures.reply
