use Rattle.std.proofs.Common.{◌-◌, ◌+◌, arith}
use Rattle.std.proofs.lemmas.Result.{err_from_is_err_and}
use Rattle.fleet_coordinator.specs.Polling.{ask_of}
use Rattle.fleet_coordinator.proofs.Handled as law
use Rattle.fleet_coordinator.proofs.handling.poll_all.Goals as goal

pub tries-init : goal.tries-init
tries-init g c =
    let s = (goal.CompactionScheduler-dyn g c.args.scheduler.now).answers c.args.scheduler.now.1 in
    law.first_try (g.S.Store.view c.args.store.now) (ask_of s c.args.options.now c.args.turn)

pub try_poll-requires : goal.try_poll-requires
try_poll-requires g c =
    let s = (goal.CompactionScheduler-dyn g c.args.scheduler.now).answers c.args.scheduler.now.1 in
    record {
      few = omega (arith, c.tries-test.true);
      may = law.may_try _ _ (ask_of s c.args.options.now c.args.turn) (g.met.S.Store.lawful _) c.requires.may (64 - c.tries.tries) c.tries.seen c.tries.invariant (64 - (c.tries.tries + 1)) (omega (arith, c.tries-test.true));
    }

pub returns-in_err-poll : goal.returns-in_err-poll
returns-in_err-poll g c =
    let s = (goal.CompactionScheduler-dyn g c.args.scheduler.now).answers c.args.scheduler.now.1 in
    let p = err_from_is_err_and c.from_residual.result c.from_residual.ensures.1 in
    rw (p.1, p.2)
    (law.try_fails _ _ (ask_of s c.args.options.now c.args.turn) (g.met.S.Store.lawful _) c.requires.may (64 - c.tries.tries) c.tries.seen c.tries.invariant (64 - (c.tries.tries + 1)) (omega (arith, c.tries-test.true)) _ c.in_err-poll.field-0.0 c.in_err-poll.ensures)

pub returns-in-Done : goal.returns-in-Done
returns-in-Done g c =
    let s = (goal.CompactionScheduler-dyn g c.args.scheduler.now).answers c.args.scheduler.now.1 in
    law.try_done _ _ (ask_of s c.args.options.now c.args.turn) (g.met.S.Store.lawful _) c.requires.may (64 - c.tries.tries) c.tries.seen c.tries.invariant (64 - (c.tries.tries + 1)) (omega (arith, c.tries-test.true)) _ c.in-Done.poll (rw c.in-Done.is at c.in_ok-poll.ensures)

pub tries-preserved : goal.tries-preserved
tries-preserved g c =
    let s = (goal.CompactionScheduler-dyn g c.args.scheduler.now).answers c.args.scheduler.now.1 in
    law.try_refused _ _ (ask_of s c.args.options.now c.args.turn) (g.met.S.Store.lawful _) c.requires.may (64 - c.tries.tries) c.tries.seen c.tries.invariant (64 - (c.tries.tries + 1)) (omega (arith, c.tries-test.true)) _ c.in-Refused.version (rw c.in-Refused.is at c.in_ok-poll.ensures)

pub returns : goal.returns
returns g c =
    let s = (goal.CompactionScheduler-dyn g c.args.scheduler.now).answers c.args.scheduler.now.1 in
    law.none_left _ _ (ask_of s c.args.options.now c.args.turn) (g.met.S.Store.lawful _) c.requires.may (64 - c.tries.tries) c.tries.seen c.tries.invariant (omega (arith, c.tries-test.false))
