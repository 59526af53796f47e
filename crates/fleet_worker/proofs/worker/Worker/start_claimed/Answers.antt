use Rattle.std.proofs.lemmas.Result.{err_from_is_err_and}
use Rattle.std.proofs.Common.{refl}
use Rattle.step_model.specs.Courses.Course.{Ends}
use Rattle.step_laws.proofs.Later.{later_then}
use Rattle.fleet_step.proofs.Steps.{then_leads, then_tried}
use Rattle.fleet_step.proofs.Turns.{ends_with, manifest_is, wants_memory}
use Rattle.fleet_worker.specs.Claims.{claim_ends_with}
use Rattle.fleet_worker.proofs.Claims.{begun_named, got_here, may_note, noted_then, to_notes}
use Rattle.fleet_worker.proofs.worker.Worker.start_claimed.Goals as goal

pub returns-in_err-start-clause-ran : goal.returns-in_err-start-clause-ran
returns-in_err-start-clause-ran g c = λ again.
    let p = err_from_is_err_and c.from_residual-in_err-start.result c.from_residual-in_err-start.ensures.1 in
    rw (p.1, p.2, c.in_err-start.ensures.memory) (wants_memory (got_here _ _ c.args.options.now c.args.moment c.args.self.now c.args.claimed.now c.args.stopped c.in_ok-manifest.manifest c.in_ok-manifest.ensures))

pub note_each-requires : goal.note_each-requires
note_each-requires g c = record {
  lawful = may_note _ _ c.args.options.now c.args.moment c.args.self.now c.args.claimed.now c.args.stopped c.in_ok-manifest.manifest c.in_ok-manifest.ensures c.in_ok-start.start c.in_ok-start.ensures.start (g.met.S.Store.lawful _) c.requires.keeps c.requires.may c.requires.new c.requires.lawful;
}

pub returns-in_err-note_each-clause-ran : goal.returns-in_err-note_each-clause-ran
returns-in_err-note_each-clause-ran g c = λ again.
    let p = err_from_is_err_and c.from_residual-in_err-note_each.result c.from_residual-in_err-note_each.ensures.1 in
    let start = c.in_ok-start.start in
    rw (p.1, p.2)
    (then_tried claim_ends_with
    (to_notes _ _ c.args.options.now c.args.moment c.args.self.now c.args.claimed.now c.args.stopped c.in_ok-manifest.manifest c.in_ok-manifest.ensures start c.in_ok-start.ensures.start (g.met.S.Store.lawful _) c.requires.keeps c.requires.may c.requires.new)
    (c.in_err-note_each.ensures (Ends (claim_ends_with (start.report, start.attempts))) again))

pub returns-clause-ran : goal.returns-clause-ran
returns-clause-ran g c = λ again.
    let start = c.in_ok-start.start in
    ends_with
    (then_leads
    (to_notes _ _ c.args.options.now c.args.moment c.args.self.now c.args.claimed.now c.args.stopped c.in_ok-manifest.manifest c.in_ok-manifest.ensures start c.in_ok-start.ensures.start (g.met.S.Store.lawful _) c.requires.keeps c.requires.may c.requires.new)
    (c.in_ok-note_each.ensures (Ends (claim_ends_with (start.report, start.attempts)))))
    (start.report, start.attempts) refl

pub returns-clause-noted : goal.returns-clause-noted
returns-clause-noted g c = λ later after.
    let start = c.in_ok-start.start in
    let made = c.in_ok-note_each.ensures (Ends (claim_ends_with (start.report, start.attempts))) in
    noted_then c.args.options.now c.args.moment c.args.self.now c.in_ok-manifest.manifest c.args.claimed.now c.args.stopped start c.in_ok-start.ensures.start _ (manifest_is c.in_ok-manifest.ensures) later (later_then _ _ later made.later after)

pub returns-clause-named : goal.returns-clause-named
returns-clause-named g c =
    begun_named _ _ c.args.options.now c.args.moment c.args.self.now c.args.claimed.now c.args.stopped c.in_ok-manifest.manifest c.in_ok-manifest.ensures c.in_ok-start.start c.in_ok-start.ensures.start (g.met.S.Store.lawful _) c.requires.keeps c.requires.may c.requires.new
