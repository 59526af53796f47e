use Rattle.std.proofs.Common.{◌≡◌, rules}
use Rattle.std.specs.Ordering.{is_lt}
use Rattle.std.proofs.lemmas.Fn.{always_returns_same}
use Rattle.fleet_sched.proofs.Sorted.{by_flushes_is, is_before, ranks}
use Rattle.fleet_sched.proofs.planning.by_flushes.Goals as goal

pub returns : goal.returns
returns c =
    let answers = always_returns_same _ (λ a r. is_lt r ≡ is_before a.0.now a.1.0.now) _ (λ a r f k. search rules) in
    by_flushes_is c.args.trees.items c.sort_by.new.self.items (c.in_ok-sort_by.ensures.sorted is_before ranks answers) (c.sort_by.ensures.stable is_before ranks answers)
