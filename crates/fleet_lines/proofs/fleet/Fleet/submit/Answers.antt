use Rattle.std.proofs.Common.{rules, map, sym, subst}
use Rattle.std.specs.Prelude.{IfOk}
use Rattle.std.proofs.lemmas.Result.{IfOk-weaker}
use Rattle.step_model.specs.Courses.StepEnds.{Reports}
use Rattle.step_model.specs.Steps.SubmitSteps.{submit}
use Rattle.script_model.specs.Lines.Submits.{submit_line}
use Rattle.fleet_jobs.specs.Specs.{spec_of}
use Rattle.fleet_history.specs.declared.party.Party.TheVariants as party
use Rattle.fleet_lines.specs.Fleets.{FleetParts, state_of}
use Rattle.fleet_lines.specs.Lines.{RunsAlone}
use Rattle.fleet_lines.specs.Steps.{Made}
use Rattle.fleet_lines.proofs.SubmitLines.{submit_runs}
use Rattle.fleet_lines.proofs.fleet.Fleet.submit.Goals as goal

pub returns-clause-ran : goal.returns-clause-ran
returns-clause-ran g c =
    let merge = g.O.MergeOperator.merged (g.O.MergeOperator.settings c.args.operator.now) in
    let old = c.args.self.now in
    let specs = map spec_of c.push.new.self.items in
    subst (λ (f : FleetParts). IfOk c.submit_reply.result (RunsAlone merge c.args.number (state_of old) (submit_line (spec_of c.args.spec) (state_of old)) old (record f { store = c.submitted-jobs.new.store }))) (sym c.self.view_is)
    (IfOk-weaker c.submit_reply.result _ _
    (λ answer says. submit_runs merge c.args.number specs (spec_of c.args.spec) old c.submitted-jobs.new.store c.submitted-jobs.result answer ((g.met.O.MergeOperator g.world.𝓛 g.world.𝓜 g.world.𝓡 ((λ s x. x), (λ x. x), (λ x. x), λ x. x)).lawful _) c.requires (search rules)
    (subst (λ (f : FleetParts). Made Reports (submit f.moment specs) merge c.args.number party.Submitter f.store c.submitted-jobs.new.store c.submitted-jobs.result) c.self.view_is c.submitted-jobs.ensures) says)
    c.submit_reply.ensures.says)
