use Rattle.std.proofs.Common.{◌∙◌, ap, max, arith}
use Rattle.fleet_sched.proofs.Ids.{no_run_left, one_run_less}
use Rattle.fleet_sched.proofs.planning.above_tree.Goals as goal

pub runs-preserved : goal.runs-preserved
runs-preserved c =
    let step = c.max-next.ensures ∙ ap (max c.runs.next) c.saturating_add.ensures in (
      omega (arith, step, c.runs.invariant.0),
      one_run_less c.in-Some.run'.now c.runs.run-iterator _ c.runs.next c.max-next.result c.in-Some.ensures.steps step ∙ c.runs.invariant.1,
    )

pub returns : goal.returns
returns c = no_run_left c.runs.run-iterator c.runs.next _ c.runs.invariant.0 c.in-None.ensures.steps.0 c.runs.invariant.1
