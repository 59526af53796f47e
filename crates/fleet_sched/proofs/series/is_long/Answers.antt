use Rattle.std.proofs.Common.{ap, arith, sym}
use Rattle.std.proofs.lemmas.Bool.{le-leb}
use Rattle.sched_model.specs.Series.{TieredOptions}
use Rattle.fleet_sched.proofs.Joined.{midway_is_long, similar}
use Rattle.fleet_sched.proofs.series.is_long.Goals as goal

pub returns-then-i-wanted : goal.returns-then-i-wanted
returns-then-i-wanted c =
    let long = midway_is_long (similar c.args.options.now) c.args.runs.now c.runs.i c.runs.invariant.midway in
    let most = ap (λ (o : TieredOptions). o.most) c.options.view_is in
    sym (le-leb _ _ (omega (arith, long, most)))
