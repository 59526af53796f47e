use Rattle.std.proofs.Common.{sym, ◌∙◌}
use Rattle.fleet_lines.specs.Fleets.{state_of}
use Rattle.fleet_settle.specs.Steps.{inputs_of}
use Rattle.fleet_settle.proofs.RoundsTaken.{claim_ends, works}
use Rattle.fleet_settle.proofs.rounds.work.Goals as goal

pub returns-then-is_some-clause-works : goal.returns-then-is_some-clause-works
returns-then-is_some-clause-works g c = λ coordinator left begun.
    let inputs = inputs_of (g.O.MergeOperator.merged (g.O.MergeOperator.settings c.args.operator.now)) ((goal.CompactionScheduler-dyn g c.args.scheduler.now).answers c.args.scheduler.now.1) in
    claim_ends inputs c.args.number coordinator c.args.worker left begun (state_of c.args.fleet.now) (state_of c.step.new.fleet) c.in_ok-refused.refused c.requires.active (sym c.is_some.ensures ∙ c.if-is_some.true) c.in_ok-refused.ensures.step

pub returns-clause-works : goal.returns-clause-works
returns-clause-works g c = λ coordinator left begun.
    let inputs = inputs_of (g.O.MergeOperator.merged (g.O.MergeOperator.settings c.args.operator.now)) ((goal.CompactionScheduler-dyn g c.args.scheduler.now).answers c.args.scheduler.now.1) in
    works inputs c.args.number coordinator c.args.worker left begun (state_of c.args.fleet.now) (state_of c.step.new.fleet) (state_of c.finish_jobs.new.fleet) c.deref.result.now c.in_ok-refused.refused c.finish_jobs.result c.requires.active
    (sym c.is_some.ensures ∙ c.if-is_some.false) c.in_ok-refused.ensures.step (c.deref.ensures.value ∙ c.in_ok-jobs.ensures.jobs) c.finish_jobs.ensures.finishes
