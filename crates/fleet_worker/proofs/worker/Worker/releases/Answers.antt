use Rattle.std.proofs.Common.{◌∙◌, ◌-◌, ◌+◌, sym, ap, arith}
use Rattle.step_model.specs.Courses.StepEnds.{Reports}
use Rattle.fleet_worker.specs.Workers.{WorkerParts, live_of}
use Rattle.fleet_worker.specs.Releases.{one_release}
use Rattle.fleet_worker.proofs.Releases.{first_try, release_safe, runs_nothing}
use Rattle.fleet_worker.proofs.Ready.{ready_midway}
use Rattle.fleet_step.proofs.Retries.{tries_end, tries_on}
use Rattle.fleet_worker.proofs.worker.Worker.releases.Goals as goal

pub returns-then-is_empty : goal.returns-then-is_empty
returns-then-is_empty g c = runs_nothing c.args.self.now _ c.new.result (sym (ap (λ (w : WorkerParts). w.attempts) c.self.view_is) ∙ c.is_empty.ensures.0 c.if-is_empty.true) c.new.ensures

pub tries-init : goal.tries-init
tries-init g c = first_try c.args.self.now _ (λ none. absurd (cc (sym c.if-is_empty.false ∙ c.is_empty.ensures.1 (ap (λ (w : WorkerParts). w.attempts) c.self.view_is ∙ none))))

pub try_release-tried-requires : goal.try_release-tried-requires
try_release-tried-requires g c =
    record { ready = ready_midway _ _ c.args.self.now _ _ _ (g.met.S.Store.lawful _) c.requires.ready (release_safe _ (live_of c.args.self.now) (g.met.S.Store.lawful _) c.requires.ready.may) c.tries.invariant }

pub returns-in_default : goal.returns-in_default
returns-in_default g c =
    let w = live_of c.args.self.now in
    tries_end Reports (λ left seen. one_release w) (64 - c.tries.tries) c.tries.seen c.tries.invariant
    (64 - (c.tries.tries + 1)) (omega (arith, c.tries-test.true)) (sym c.refused_at.ensures ∙ c.in_default.is) (c.try_release-tried.ensures _)

pub tries-preserved : goal.tries-preserved
tries-preserved g c =
    let w = live_of c.args.self.now in
    tries_on Reports (λ left seen. one_release w) (64 - c.tries.tries) c.tries.seen c.tries.invariant
    (64 - (c.tries.tries + 1)) c.in-Some.version (omega (arith, c.tries-test.true)) (sym c.refused_at.ensures ∙ c.in-Some.is) (c.try_release-tried.ensures _)
