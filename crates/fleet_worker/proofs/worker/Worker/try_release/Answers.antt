use Rattle.std.proofs.Common.{◌∙◌, sym, ap, subst, zero}
use Rattle.std.proofs.lemmas.Result.{err_from_is_err_and}
use Rattle.step_model.specs.Courses.Tries.{tries}
use Rattle.fleet_worker.specs.Releases.{IsReleaseOf, one_release, released_are}
use Rattle.fleet_worker.specs.Workers.{live_of}
use Rattle.fleet_step.proofs.Puts.{got_described, got_records}
use Rattle.fleet_worker.proofs.Releases.{try_lawful}
use Rattle.fleet_step.proofs.Turns.{ends_with, put_ends, records_put_fits, wants_memory}
use Rattle.fleet_worker.proofs.worker.Worker.try_release.Goals as goal

pub returns-in_err-put : goal.returns-in_err-put
returns-in_err-put g c = λ again.
    let p = err_from_is_err_and c.from_residual-in_err-put.result c.from_residual-in_err-put.ensures.1 in
    rw (p.1, p.2, c.in_err-put.ensures.memory) (wants_memory (got_records c.in_ok-got.ensures _))

pub returns-in_default : goal.returns-in_default
returns-in_default g c = λ again.
    ends_with (got_records c.in_ok-got.ensures _) c.new.result
    (subst (IsReleaseOf c.args.self.now c.in_ok-got.got) c.in_default.is c.in_ok-put.ensures.put again ∙ ap released_are (sym c.new.ensures))

pub put_records-made-requires : goal.put_records-made-requires
put_records-made-requires g c =
    let w = live_of c.args.self.now in
    let put = c.in-Some.put in
    let puts = subst (IsReleaseOf c.args.self.now c.in_ok-got.got) c.in-Some.is c.in_ok-put.ensures.put in
    let more = tries (one_release w) zero in
    records_put_fits (got_records c.in_ok-got.ensures _) put.version put.value put.why (released_are put.jobs) more
    (puts.next more) (try_lawful _ w c.requires.ready.may) (λ met later. puts.described met.store (got_described c.in_ok-got.ensures met.store later))

pub returns : goal.returns
returns g c = λ again.
    let put = c.in-Some.put in
    let puts = subst (IsReleaseOf c.args.self.now c.in_ok-got.got) c.in-Some.is c.in_ok-put.ensures.put in
    rw c.put_answer.ensures (put_ends (got_records c.in_ok-got.ensures _) put.jobs put.version put.value put.why (puts.next again) c.put_records-made.ensures)
