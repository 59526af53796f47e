use Rattle.std.proofs.Common.{subst}
use Rattle.std.proofs.lemmas.Result.{err_from_is_err_and}
use Rattle.fleet_change.specs.Puts.{IsRecordsPut}
use Rattle.fleet_coordinator.proofs.RecordPuts as law
use Rattle.fleet_coordinator.proofs.recording.put_once.Goals as goal

pub returns-in_err-put : goal.returns-in_err-put
returns-in_err-put g c = λ flushes again.
    let p = err_from_is_err_and c.from_residual.result c.from_residual.ensures.1 in
    rw (p.1, p.2, c.in_err-put.ensures.memory) (law.no_put flushes _ c.args.poll.now c.args.got again)

pub returns-in_default : goal.returns-in_default
returns-in_default g c = λ flushes again.
    law.puts_none flushes _ c.args.poll.now c.args.got again (subst (IsRecordsPut c.args.poll.now c.args.got) c.in_default.is c.in_ok-put.ensures.put)

pub put_records-made-requires : goal.put_records-made-requires
put_records-made-requires g c =
    law.put_fits _ c.args.poll.now c.args.got c.in-Some.put (subst (IsRecordsPut c.args.poll.now c.args.got) c.in-Some.is c.in_ok-put.ensures.put) c.requires.lawful c.requires.described

pub returns : goal.returns
returns g c = λ flushes again.
    rw c.put_answer.ensures
    (law.puts_one _ c.args.poll.now c.args.got c.in-Some.put (subst (IsRecordsPut c.args.poll.now c.args.got) c.in-Some.is c.in_ok-put.ensures.put) flushes again _ _ c.put_records-made.ensures)
