use Rattle.std.proofs.Common.{◌∙◌, ◌-◌, ◌+◌, sym, arith}
use Rattle.fleet_worker.specs.Finishes.{done_ends, one_finish}
use Rattle.fleet_worker.proofs.Finishes.{first_end, may_finish, still_shown}
use Rattle.fleet_step.proofs.Retries.{tries_end, tries_on}
use Rattle.fleet_worker.proofs.worker.Worker.end_tries.Goals as goal

pub tries-init : goal.tries-init
tries-init g c = first_end c.args.moment c.args.self.now c.args.attempt.now c.args.outputs.now _

pub try_finish-tried-requires : goal.try_finish-tried-requires
try_finish-tried-requires g c =
    let w = c.args.self.now in
    let a = c.args.attempt.now in
    let outputs = c.args.outputs.now in
    record {
      lawful = may_finish c.args.moment w a outputs _ _ (64 - c.tries.tries) c.tries.seen (64 - (c.tries.tries + 1)) c.requires.lawful c.tries.invariant (omega (arith, c.tries-test.true));
      shown = still_shown _ _ outputs c.tries.invariant.later c.requires.shown;
    }

pub returns-in_default : goal.returns-in_default
returns-in_default g c =
    let w = c.args.self.now in
    let a = c.args.attempt.now in
    let outputs = c.args.outputs.now in
    tries_end (done_ends w a outputs) (λ left seen. one_finish c.args.moment w a outputs) (64 - c.tries.tries) c.tries.seen c.tries.invariant
    (64 - (c.tries.tries + 1)) (omega (arith, c.tries-test.true)) (sym c.refused_at.ensures ∙ c.in_default.is) (c.try_finish-tried.ensures _)

pub tries-preserved : goal.tries-preserved
tries-preserved g c =
    let w = c.args.self.now in
    let a = c.args.attempt.now in
    let outputs = c.args.outputs.now in
    tries_on (done_ends w a outputs) (λ left seen. one_finish c.args.moment w a outputs) (64 - c.tries.tries) c.tries.seen c.tries.invariant
    (64 - (c.tries.tries + 1)) c.in-Some.version (omega (arith, c.tries-test.true)) (sym c.refused_at.ensures ∙ c.in-Some.is) (c.try_finish-tried.ensures _)
