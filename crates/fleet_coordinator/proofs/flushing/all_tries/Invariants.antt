use Rattle.std.proofs.Common.{◌≡◌, ◌-◌, true, false}
use Rattle.step_model.specs.Steps.FlushSteps.{flushes_from}
use Rattle.fleet_step.specs.Steps.{Leads}
use Rattle.fleet_coordinator.specs.Flushes.{IsPutTable, asked_of}
use Rattle.fleet_coordinator.proofs.flushing.all_tries.Given as goal

-- So far the flush came to the tries that are left, and its table is there if it was put.
abbrev pub invariant-tries : goal.invariant-tries
invariant-tries g l =
    Leads (flushes_from l.moment l.retention_ms (asked_of l.flush) 64 false 0) (g.S.Store.view l.initial.store) (flushes_from l.moment l.retention_ms (asked_of l.flush) (64 - l.tries) l.is_put l.seen) (g.S.Store.view l.store)
    × (l.is_put ≡ true → IsPutTable (g.S.Store.view l.store) (asked_of l.flush))
