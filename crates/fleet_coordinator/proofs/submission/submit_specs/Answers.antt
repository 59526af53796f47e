use Rattle.std.proofs.Common.{◌∙◌, sym}
use Rattle.std.proofs.lemmas.Result.{err_from_is_err_and}
use Rattle.fleet_step.proofs.Turns.{put_ends, wants_memory}
use Rattle.fleet_coordinator.proofs.Submits as law
use Rattle.fleet_coordinator.proofs.submission.submit_specs.Goals as goal

pub returns-in_err-ids : goal.returns-in_err-ids
returns-in_err-ids g c = λ again.
    let p = err_from_is_err_and c.from_residual.result c.from_residual.ensures.1 in
    let until = c.in_err-ids.ensures in
    rw (p.1, p.2) (law.draws_fail _ _ c.args.moment c.args.got.now c.args.specs.now again _ until)

pub submit_put-requires-clause-new : goal.submit_put-requires-clause-new
submit_put-requires-clause-new g c = rw c.as_slice.ensures (law.new_to _ _ c.args.moment c.args.got.now c.args.specs.now c.requires.may (g.met.S.Store.lawful _) c.in_ok-ids.ids c.in_ok-ids.ensures.0 c.in_ok-ids.ensures.1)

pub returns-in_err-put : goal.returns-in_err-put
returns-in_err-put g c = λ again.
    let p = err_from_is_err_and c.from_residual-in_err-put.result c.from_residual-in_err-put.ensures.1 in
    rw (p.1, p.2, c.in_err-put.ensures.memory)
    (wants_memory (law.at_drawn _ _ c.args.moment c.args.got.now c.args.specs.now c.requires.may (g.met.S.Store.lawful _) c.in_ok-ids.ids c.in_ok-ids.ensures.0 c.in_ok-ids.ensures.1 again))

pub put_records-made-requires : goal.put_records-made-requires
put_records-made-requires g c =
    law.put_fits _ _ c.args.moment c.args.got.now c.args.specs.now c.requires.may (g.met.S.Store.lawful _) c.in_ok-ids.ids c.in_ok-ids.ensures.0 c.in_ok-ids.ensures.1 c.in_ok-put.put
    (rw c.as_slice.ensures at c.in_ok-put.ensures.put) (law.some_specs c.args.specs.now (sym c.is_empty.ensures ∙ c.if-is_empty.false))

pub returns : goal.returns
returns g c = λ again.
    rw c.put_answer.ensures
    (put_ends (law.at_drawn _ _ c.args.moment c.args.got.now c.args.specs.now c.requires.may (g.met.S.Store.lawful _) c.in_ok-ids.ids c.in_ok-ids.ensures.0 c.in_ok-ids.ensures.1 again) c.in_ok-ids.ids c.in_ok-put.put.version c.in_ok-put.put.value c.in_ok-put.put.why
    (law.put_is _ _ c.args.moment c.args.got.now c.args.specs.now c.requires.may (g.met.S.Store.lawful _) c.in_ok-ids.ids c.in_ok-ids.ensures.0 c.in_ok-ids.ensures.1 c.in_ok-put.put
    (rw c.as_slice.ensures at c.in_ok-put.ensures.put) (law.some_specs c.args.specs.now (sym c.is_empty.ensures ∙ c.if-is_empty.false)) again) c.put_records-made.ensures)
