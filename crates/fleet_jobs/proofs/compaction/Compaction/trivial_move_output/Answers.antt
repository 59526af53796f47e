use Rattle.std.proofs.Common.{◌∙◌, ap}
use Rattle.std.proofs.lemmas.Result.{IfOk-weaker}
use Rattle.fleet_jobs.specs.Moves.{moved_run}
use Rattle.fleet_jobs.specs.Specs.{destination_of}
use Rattle.fleet_jobs.specs.Taken.{taken_tables}
use Rattle.fleet_jobs.proofs.compaction.Compaction.trivial_move_output.Goals as goal

pub returns-clause-run : goal.returns-clause-run
returns-clause-run c =
    let same = ap (λ spec. moved_run (destination_of spec) (taken_tables spec c.args.core.now)) c.spec.ensures in
    IfOk-weaker c.moved_run.result _ _ (λ run e. e ∙ same) c.moved_run.ensures.run
