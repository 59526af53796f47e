use Rattle.std.proofs.Common.{sym, subst, []}
use Rattle.std.proofs.lemmas.Result.{err_from_is_err_and}
use Rattle.row_model.specs.Rows.{Row}
use Rattle.fleet_rows.specs.Row.{row_of}
use Rattle.fleet_fold.specs.Groups.{Closes}
use Rattle.fleet_fold.proofs.AlikeGroups.{IsAlike}
use Rattle.fleet_fold.proofs.GroupAtOnce.{closes_alone_at_once, alike_closes, alike_refuses}
use Rattle.fleet_fold.proofs.group.Group.close.Goals as goal

pub returns-in-Some-clause-ok : goal.returns-in-Some-clause-ok
returns-in-Some-clause-ok g c =
    let merge = g.B.BatchMerger.fold c.args.operator.now in
    let e = c.merged_at_once.ensures in
    let alike : IsAlike c.args.self c.merged_at_once.new.self = record { key = e.key; seq = e.seq; stamp = e.stamp; created = e.created; expires = e.expires; late = e.late; batch = e.batch; folded = e.folded } in
    subst (λ (r : Row). Closes merge c.args.self [] r) (sym c.into_row.ensures)
    (closes_alone_at_once merge (g.met.B.BatchMerger.lawful c.args.operator.now) c.args.self c.merged_at_once.new.self c.in-Some.bytes alike (record { folded = c.in-Some.ensures.unmerged; late = c.in-Some.ensures.ordered; answer = c.in-Some.ensures.merged }))

pub returns-in_ok-close_in_batches-in-None-clause-ok : goal.returns-in_ok-close_in_batches-in-None-clause-ok
returns-in_ok-close_in_batches-in-None-clause-ok g c =
    let merge = g.B.BatchMerger.fold c.args.operator.now in
    let e = c.merged_at_once.ensures in
    let alike : IsAlike c.args.self c.merged_at_once.new.self = record { key = e.key; seq = e.seq; stamp = e.stamp; created = e.created; expires = e.expires; late = e.late; batch = e.batch; folded = e.folded } in
    alike_closes merge c.args.self c.merged_at_once.new.self [] (row_of c.in_ok-close_in_batches-in-None.field-0) alike c.in_ok-close_in_batches-in-None.ensures.ok

pub returns-in_err-close_in_batches-in-None-clause-err : goal.returns-in_err-close_in_batches-in-None-clause-err
returns-in_err-close_in_batches-in-None-clause-err g c =
    let merge = g.B.BatchMerger.fold c.args.operator.now in
    let e = c.merged_at_once.ensures in
    let alike : IsAlike c.args.self c.merged_at_once.new.self = record { key = e.key; seq = e.seq; stamp = e.stamp; created = e.created; expires = e.expires; late = e.late; batch = e.batch; folded = e.folded } in
    let p = err_from_is_err_and c.from_residual.result c.from_residual.ensures.1 in
    rw (p.1, p.2) (alike_refuses merge c.args.self c.merged_at_once.new.self [] c.in_err-close_in_batches-in-None.field-0.0 alike c.in_err-close_in_batches-in-None.ensures.err)
