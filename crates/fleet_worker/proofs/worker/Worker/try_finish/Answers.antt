use Rattle.std.proofs.Common.{subst, zero}
use Rattle.std.proofs.lemmas.Result.{err_from_is_err_and}
use Rattle.step_model.specs.Courses.Course.{Ends}
use Rattle.step_laws.proofs.Later.{later_then}
use Rattle.fleet_worker.specs.Finishes.{IsFinishOf, done_ends}
use Rattle.fleet_worker.proofs.Finishes.{is_not_owner, still_shown}
use Rattle.fleet_step.proofs.Puts.{got_described, got_records}
use Rattle.fleet_step.proofs.Turns.{put_ends, records_put_fits, wants_memory}
use Rattle.fleet_worker.proofs.worker.Worker.try_finish.Goals as goal

pub returns-in_err-put : goal.returns-in_err-put
returns-in_err-put g c = λ again.
    let p = err_from_is_err_and c.from_residual-in_err-put.result c.from_residual-in_err-put.ensures.1 in
    rw (p.1, p.2, c.in_err-put.ensures.memory) (wants_memory (got_records c.in_ok-got.ensures _))

pub returns-in_default : goal.returns-in_default
returns-in_default g c = λ again.
    is_not_owner (got_records c.in_ok-got.ensures _) (subst (IsFinishOf c.args.moment c.args.self.now c.args.attempt.now c.args.outputs.now c.in_ok-got.got) c.in_default.is c.in_ok-put.ensures.put again)

pub put_records-made-requires : goal.put_records-made-requires
put_records-made-requires g c =
    let w = c.args.self.now in
    let a = c.args.attempt.now in
    let outputs = c.args.outputs.now in
    let put = c.in-Some.put in
    let puts = subst (IsFinishOf c.args.moment w a outputs c.in_ok-got.got) c.in-Some.is c.in_ok-put.ensures.put in
    let more = c.requires.lawful.0 in
    let lead = got_records c.in_ok-got.ensures (λ r. Ends zero) in
    records_put_fits (got_records c.in_ok-got.ensures _) put.version put.value put.why (Ends (done_ends w a outputs tt)) more
    (puts.next more) c.requires.lawful.1
    (λ met later. puts.described met.store (still_shown _ met.store outputs (later_then _ _ met.store lead.later later) c.requires.shown) (got_described c.in_ok-got.ensures met.store later))

pub returns : goal.returns
returns g c = λ again.
    let put = c.in-Some.put in
    let puts = subst (IsFinishOf c.args.moment c.args.self.now c.args.attempt.now c.args.outputs.now c.in_ok-got.got) c.in-Some.is c.in_ok-put.ensures.put in
    rw c.put_answer.ensures (put_ends (got_records c.in_ok-got.ensures _) tt put.version put.value put.why (puts.next again) c.put_records-made.ensures)
