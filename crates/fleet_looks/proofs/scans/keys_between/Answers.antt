use Rattle.std.proofs.lemmas.Result.{IfOk-weaker}
use Rattle.fleet_range.specs.Keys.{range_of}
use Rattle.fleet_looks.proofs.KeyScans.{between_alike}
use Rattle.fleet_looks.proofs.scans.keys_between.Goals as goal

pub returns-clause-keys : goal.returns-clause-keys
returns-clause-keys c =
    IfOk-weaker c.range_between.result _ _ (λ range alike. between_alike c.in_ok-start.start c.in_ok-end.end c.args.from.now c.args.to.now (range_of range) c.in_ok-start.ensures.bound c.in_ok-end.ensures.bound alike)
    c.range_between.ensures.keys
