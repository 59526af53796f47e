use Rattle.std.proofs.Common.{subst, zero}
use Rattle.std.proofs.lemmas.Result.{err_from_is_err_and}
use Rattle.step_model.specs.Courses.Course.{Ends}
use Rattle.step_model.specs.Courses.Tries.{tries}
use Rattle.fleet_worker.specs.Messages.{IsReturnOf, gone_ends, one_return}
use Rattle.fleet_worker.specs.Workers.{attempt_of, live_of}
use Rattle.fleet_step.proofs.Puts.{got_described, got_records}
use Rattle.fleet_worker.proofs.Returns.{try_lawful}
use Rattle.fleet_step.proofs.Turns.{ends_with, put_ends, records_put_fits, wants_memory}
use Rattle.fleet_worker.proofs.worker.Worker.try_return.Goals as goal

pub returns-in_err-put : goal.returns-in_err-put
returns-in_err-put g c = λ again.
    let p = err_from_is_err_and c.from_residual-in_err-put.result c.from_residual-in_err-put.ensures.1 in
    rw (p.1, p.2, c.in_err-put.ensures.memory) (wants_memory (got_records c.in_ok-got.ensures _))

pub returns-in_default : goal.returns-in_default
returns-in_default g c = λ again. ends_with (got_records c.in_ok-got.ensures _) tt (subst (IsReturnOf c.args.self.now c.args.attempt.now c.in_ok-got.got) c.in_default.is c.in_ok-put.ensures.put again)

pub put_records-made-requires : goal.put_records-made-requires
put_records-made-requires g c =
    let w = live_of c.args.self.now in
    let a = attempt_of c.args.attempt.now in
    let put = c.in-Some.put in
    let puts = subst (IsReturnOf c.args.self.now c.args.attempt.now c.in_ok-got.got) c.in-Some.is c.in_ok-put.ensures.put in
    let more = tries (one_return w a) zero in
    records_put_fits (got_records c.in_ok-got.ensures _) put.version put.value put.why (Ends (gone_ends c.args.self.now c.args.attempt.now tt)) more
    (puts.next more) (try_lawful _ w a c.requires.ready.may) (λ met later. puts.described met.store (got_described c.in_ok-got.ensures met.store later))

pub returns : goal.returns
returns g c = λ again.
    let put = c.in-Some.put in
    let puts = subst (IsReturnOf c.args.self.now c.args.attempt.now c.in_ok-got.got) c.in-Some.is c.in_ok-put.ensures.put in
    rw c.put_answer.ensures (put_ends (got_records c.in_ok-got.ensures _) tt put.version put.value put.why (puts.next again) c.put_records-made.ensures)
