use Rattle.std.proofs.Common.{◌∙◌}
use Rattle.fleet_tree.specs.Trees.{trees_of}
use Rattle.fleet_poll.proofs.Records.{opened_is}
use Rattle.fleet_poll.proofs.opening.opened.Goals as goal

pub returns-clause-job : goal.returns-clause-job
returns-clause-job c = λ flushes.
    opened_is (trees_of flushes c.args.core.now) c.args.job.now _ _ _ c.set_ctx.new.self c.spec.result.now _ c.in_ok-made.ensures.copy c.set_status.ensures (c.from_vec.ensures ∙ c.in_ok-tables.ensures flushes)
    c.spec.ensures c.set_source_tables.ensures c.set_ctx.ensures
