use Rattle.fleet_iter.proofs.Lists.{none_failed}
use Rattle.case_jobs.proofs.iter_calls.any_merge.Goals as goal

pub new_with_order-requires-clause-alive : goal.new_with_order-requires-clause-alive
new_with_order-requires-clause-alive c _ = none_failed c.in_ok-lists.lists.items
