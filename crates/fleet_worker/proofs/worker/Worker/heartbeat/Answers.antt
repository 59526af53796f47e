use Rattle.std.proofs.Common.{◌∙◌, ap, subst, sym, refl, Ok, Err}
use Rattle.std.specs.Bool.{OnFalse}
use Rattle.step_model.specs.Steps.BeatSteps.{Beaten, heartbeat}
use Rattle.fleet_model.specs.Work.Parties.{is_live}
use Rattle.fleet_jobs.specs.Jobs.{jobs_of}
use Rattle.fleet_store.specs.Records.{jobs_or_none}
use Rattle.fleet_worker.specs.Beats.{beat_ends_over, beaten_with, live_parts}
use Rattle.fleet_step.specs.Steps.{StepRan, stops}
use Rattle.fleet_worker.specs.Workers.{IsReady, WorkerParts, attempt_of, live_of}
use Rattle.fleet_worker.proofs.Beats.{beat_safe}
use Rattle.fleet_worker.proofs.Later.{some_noted}
use Rattle.fleet_worker.proofs.Ready.{ready_after}
use Rattle.fleet_worker.proofs.worker.Worker.heartbeat.Goals as goal

pub returns-in-Ok-clause-ready : goal.returns-in-Ok-clause-ready
returns-in-Ok-clause-ready g c =
    let w = c.args.self.now in
    let jobs = jobs_or_none c.in-Ok.got in
    let stopped = c.stops-self-inside.result in
    rw c.keep_live.ensures
    (subst (λ (w : WorkerParts). OnFalse stopped (IsReady (g.S.Store.view c.beats-beaten.new.store) (record w { attempts = live_parts jobs w.number w.attempts; stopped = stopped }))) (sym c.self.view_is)
    (ready_after (λ answer. beaten_with (live_parts (jobs_or_none answer.1) w.number w.attempts) answer.0) (λ (report : Beaten). report.attempts) _ _ w _ (g.met.S.Store.lawful _) c.requires.ready
    (beat_safe _ c.args.moment (live_of w) (g.met.S.Store.lawful _) c.requires.ready.may) (Ok (c.in-Ok.report, c.in-Ok.got))
    (subst (StepRan (beat_ends_over w) (heartbeat c.args.moment (live_of w)) _ _) c.in-Ok.is c.beats-beaten.ensures) stopped (c.stops-self-inside.ensures ∙ ap stops c.in-Ok.is)
    (live_parts jobs w.number w.attempts) refl (λ store noted. some_noted store (λ a. is_live (jobs_of jobs) w.number (attempt_of a)) w.attempts noted)))

pub returns-in-Err-clause-ready : goal.returns-in-Err-clause-ready
returns-in-Err-clause-ready g c =
    let w = c.args.self.now in
    let stopped = c.stops-self-inside.result in
    subst (λ (w : WorkerParts). OnFalse stopped (IsReady (g.S.Store.view c.beats-beaten.new.store) (record w { stopped = stopped }))) (sym c.self.view_is)
    (ready_after (λ answer. beaten_with (live_parts (jobs_or_none answer.1) w.number w.attempts) answer.0) (λ (report : Beaten). report.attempts) _ _ w _ (g.met.S.Store.lawful _) c.requires.ready
    (beat_safe _ c.args.moment (live_of w) (g.met.S.Store.lawful _) c.requires.ready.may) (Err c.in-Err.error)
    (subst (StepRan (beat_ends_over w) (heartbeat c.args.moment (live_of w)) _ _) c.in-Err.is c.beats-beaten.ensures) stopped (c.stops-self-inside.ensures ∙ ap stops c.in-Err.is)
    w.attempts refl (λ store noted. noted))
