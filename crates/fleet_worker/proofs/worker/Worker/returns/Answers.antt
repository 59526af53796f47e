use Rattle.std.proofs.Common.{◌∙◌, ◌-◌, ◌+◌, sym, ap, arith}
use Rattle.std.specs.Option.{option_copied}
use Rattle.fleet_worker.specs.Messages.{gone_ends, one_return}
use Rattle.fleet_worker.specs.Workers.{attempt_of, live_of}
use Rattle.fleet_worker.proofs.Returns.{ended_so, failed_safe, first_return, not_run}
use Rattle.fleet_worker.proofs.Ready.{ready_midway}
use Rattle.fleet_step.proofs.Retries.{tries_end, tries_on}
use Rattle.fleet_worker.proofs.worker.Worker.returns.Goals as goal

pub returns-in_default : goal.returns-in_default
returns-in_default g c = not_run c.args.self.now c.args.job c.args.number _ _ (sym c.attempt_with.ensures ∙ ap option_copied c.in_default.is)

pub tries-init : goal.tries-init
tries-init g c = first_return c.args.self.now c.args.job c.args.number c.in-Some.attempt.now (sym c.attempt_with.ensures ∙ ap option_copied c.in-Some.is) _

pub try_return-tried-requires : goal.try_return-tried-requires
try_return-tried-requires g c =
    record { ready = ready_midway _ _ c.args.self.now _ _ _ (g.met.S.Store.lawful _) c.requires.ready (failed_safe _ (live_of c.args.self.now) c.args.job c.args.number (g.met.S.Store.lawful _) c.requires.ready.may) c.tries.invariant }

pub returns-in_default-refused_at : goal.returns-in_default-refused_at
returns-in_default-refused_at g c =
    let w = live_of c.args.self.now in
    let a = c.in-Some.attempt.now in
    ended_so c.args.self.now c.args.job c.args.number a (sym c.attempt_with.ensures ∙ ap option_copied c.in-Some.is)
    (tries_end (gone_ends c.args.self.now a) (λ left seen. one_return w (attempt_of a)) (64 - c.tries.tries) c.tries.seen c.tries.invariant
    (64 - (c.tries.tries + 1)) (omega (arith, c.tries-test.true)) (sym c.refused_at.ensures ∙ c.in_default-refused_at.is) (c.try_return-tried.ensures _))

pub tries-preserved : goal.tries-preserved
tries-preserved g c =
    let w = live_of c.args.self.now in
    let a = c.in-Some.attempt.now in
    tries_on (gone_ends c.args.self.now a) (λ left seen. one_return w (attempt_of a)) (64 - c.tries.tries) c.tries.seen c.tries.invariant
    (64 - (c.tries.tries + 1)) c.in-Some-refused_at.version (omega (arith, c.tries-test.true)) (sym c.refused_at.ensures ∙ c.in-Some-refused_at.is) (c.try_return-tried.ensures _)
