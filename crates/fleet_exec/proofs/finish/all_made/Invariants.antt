use Rattle.std.proofs.Common.{◌≡◌, ◌++◌, map, Ok}
use Rattle.std.specs.Vec.Iter.{into_iter_items}
use Rattle.fleet_exec.proofs.finish.all_made.Given as goal

abbrev pub invariant-answers : goal.invariant-answers
invariant-answers l =
    record {
      next : (goal.iterator-answers).can_next l.answer-iterator;
      finite : (goal.iterator-answers).is_finite l.answer-iterator;
      all : l.fn.made.items ≡ map (λ range. Ok range) l.ranges.items ++ into_iter_items l.answer-iterator;
    }
