use Rattle.std.proofs.Common.{subst, zero}
use Rattle.std.proofs.lemmas.Result.{err_from_is_err_and}
use Rattle.step_model.specs.Steps.BeatSteps.{beat_try}
use Rattle.step_model.specs.Courses.Tries.{tries}
use Rattle.step_model.specs.Courses.Course.{Ends}
use Rattle.fleet_worker.specs.Beats.{IsBeatOf, beat_ends_over}
use Rattle.fleet_worker.specs.Workers.{live_of}
use Rattle.fleet_worker.proofs.Beats.{try_lawful}
use Rattle.fleet_worker.proofs.Later.{still_noted}
use Rattle.step_laws.proofs.Later.{later_then}
use Rattle.fleet_step.proofs.Puts.{got_described, got_records}
use Rattle.fleet_step.proofs.Turns.{ends_with, put_ends, records_put_fits, wants_memory}
use Rattle.fleet_worker.proofs.worker.Worker.try_beat.Goals as goal

pub returns-in_err-report : goal.returns-in_err-report
returns-in_err-report g c = λ again.
    let p = err_from_is_err_and c.from_residual-in_err-report.result c.from_residual-in_err-report.ensures.1 in
    rw (p.1, p.2, c.in_err-report.ensures.memory) (wants_memory (got_records c.in_ok-got.ensures _))

pub returns-in_default : goal.returns-in_default
returns-in_default g c = λ again.
    ends_with (got_records c.in_ok-got.ensures _) (c.in_ok-report.report, c.in_ok-got.got)
    (subst (IsBeatOf c.args.moment c.args.self.now c.in_ok-got.got c.in_ok-report.report) c.in_default.is c.in_ok-report.ensures.beat again)

pub put_records-made-requires : goal.put_records-made-requires
put_records-made-requires g c =
    let w = c.args.self.now in
    let put = c.in-Some.put in
    let puts = subst (IsBeatOf c.args.moment w c.in_ok-got.got c.in_ok-report.report) c.in-Some.is c.in_ok-report.ensures.beat in
    let more = tries (beat_try c.args.moment (live_of w)) 63 in
    let lead = got_records c.in_ok-got.ensures (λ r. Ends zero) in
    records_put_fits (got_records c.in_ok-got.ensures _) put.version put.value put.why (Ends (beat_ends_over w (c.in_ok-report.report, c.in_ok-got.got))) more
    (puts.next more) (try_lawful _ c.args.moment w (g.met.S.Store.lawful _) c.requires.ready.may c.requires.some)
    (λ met later. puts.described met.store (got_described c.in_ok-got.ensures met.store later) (still_noted _ met.store w.attempts (later_then _ _ met.store lead.later later) c.requires.ready.noted))

pub returns : goal.returns
returns g c = λ again.
    let put = c.in-Some.put in
    let puts = subst (IsBeatOf c.args.moment c.args.self.now c.in_ok-got.got c.in_ok-report.report) c.in-Some.is c.in_ok-report.ensures.beat in
    rw c.put_answer.ensures (put_ends (got_records c.in_ok-got.ensures _) (c.in_ok-report.report, c.in_ok-got.got) put.version put.value put.why (puts.next again) c.put_records-made.ensures)
