use Rattle.std.proofs.Common.{sym, ◌∙◌, ◌+◌, drop, get_or, arith}
use Rattle.std.proofs.lemmas.List.{drop_more}
use Rattle.fleet_lines.specs.Fleets.{state_of}
use Rattle.fleet_settle.specs.Steps.{inputs_of}
use Rattle.fleet_settle.proofs.StepsTaken.{finish_ends, finish_more, finish_on}
use Rattle.fleet_settle.proofs.steps.finish_jobs.Goals as goal

pub returns-then-is_some-clause-finishes : goal.returns-then-is_some-clause-finishes
returns-then-is_some-clause-finishes g c =
    let inputs = inputs_of (g.O.MergeOperator.merged (g.O.MergeOperator.settings c.args.operator.now)) ((goal.CompactionScheduler-dyn g c.args.scheduler.now).answers c.args.scheduler.now.1) in
    let jobs = c.args.jobs.now in
    let i = c.jobs.job-index in
    let old = state_of c.args.fleet.now in
    finish_ends inputs c.args.number c.args.worker jobs old (drop (i + 1) jobs) (state_of c.step.new.fleet) c.in_ok-refused.refused (sym c.is_some.ensures ∙ c.if-is_some.true)
    (finish_more inputs c.args.number c.args.worker jobs old (drop i jobs) (get_or jobs i 0) (drop (i + 1) jobs) (state_of c.jobs.fleet) (state_of c.step.new.fleet) c.in_ok-refused.refused
    (drop_more jobs i 0 (omega arith)) c.jobs.invariant.so_far c.in_ok-refused.ensures.step)

pub jobs-preserved : goal.jobs-preserved
jobs-preserved g c =
    let inputs = inputs_of (g.O.MergeOperator.merged (g.O.MergeOperator.settings c.args.operator.now)) ((goal.CompactionScheduler-dyn g c.args.scheduler.now).answers c.args.scheduler.now.1) in
    let jobs = c.args.jobs.now in
    let i = c.jobs.job-index in
    let old = state_of c.args.fleet.now in
    record {
      so_far = finish_on inputs c.args.number c.args.worker jobs old (drop (i + 1) jobs) (state_of c.step.new.fleet) c.in_ok-refused.refused (sym c.is_some.ensures ∙ c.if-is_some.false)
          (finish_more inputs c.args.number c.args.worker jobs old (drop i jobs) (get_or jobs i 0) (drop (i + 1) jobs) (state_of c.jobs.fleet) (state_of c.step.new.fleet) c.in_ok-refused.refused
          (drop_more jobs i 0 (omega arith)) c.jobs.invariant.so_far c.in_ok-refused.ensures.step);
      serving = c.in_ok-refused.ensures.serving;
    }
