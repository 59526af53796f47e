use Rattle.std.proofs.Common.{◌≡◌, ◌∙◌, ap, max, arith, rules}
use Rattle.std.specs.Prelude.{Option}
use Rattle.sched_model.specs.FreshRuns.{above_all, capped_id}
use Rattle.fleet_book.specs.VersionedRecords.{VersionedRecords}
use Rattle.fleet_sched.specs.Ids.{destinations_in}
use Rattle.fleet_sched.specs.Views.{open_records}
use Rattle.fleet_sched.proofs.Ids.{fresh_is}
use Rattle.fleet_sched.proofs.planning.fresh_run_id.Goals as goal

pub returns-in-Some : goal.returns-in-Some
returns-in-Some c flushes =
    fresh_is flushes c.args.state.now c.above_runs-above.result c.above_destinations.result (search rules)
    (c.above_destinations.ensures ∙ ap (λ (records : Option VersionedRecords). capped_id (max c.above_runs-above.result (above_all (destinations_in (open_records records))))) c.in-Some.ensures)

pub returns-in-None : goal.returns-in-None
returns-in-None c flushes =
    let is : c.above_runs-above.result ≡ capped_id (max c.above_runs-above.result 0) = omega (arith, c.above_runs-above.ensures) in
    fresh_is flushes c.args.state.now c.above_runs-above.result c.above_runs-above.result (search rules)
    (is ∙ ap (λ (records : Option VersionedRecords). capped_id (max c.above_runs-above.result (above_all (destinations_in (open_records records))))) c.in-None.ensures)
