use Rattle.std.proofs.Common.{◌≡◌, ◌<◌, ◌^◌, max, map}
use Rattle.sched_model.specs.FreshRuns.{above_all, capped_id}
use Rattle.fleet_sched.proofs.planning.above_tree.Given as goal

-- The id so far, and those left, say what is above all.
abbrev pub invariant-runs : goal.invariant-runs
invariant-runs l =
    (l.next < 2 ^ 32)
    × (capped_id (max l.next (above_all (map (λ run. run.id) l.run-iterator))) ≡ capped_id (max l.above (above_all (map (λ run. run.id) l.tree.compacted))))
