use Rattle.std.proofs.Common.{◌∙◌, sym, subst, Option, [], ◌∷◌, ℕ, List}
use Rattle.std.proofs.lemmas.Result.{err_from_is_err_and}
use Rattle.row_model.specs.Rows.{Row}
use Rattle.fleet_rows.specs.Row.{row_of}
use Rattle.fleet_fold.specs.Groups.{Closes}
use Rattle.fleet_fold.proofs.AlikeGroups.{IsAlike, MergesAtOnce}
use Rattle.fleet_fold.proofs.GroupAtOnce.{closes_over_at_once, refuses_base_at_once, alike_closes, alike_refuses}
use Rattle.fleet_fold.proofs.GroupCloses.{base_is}
use Rattle.fleet_fold.proofs.group.Group.close_over.Goals as goal

pub returns-in_err-check-in-Some-clause-err : goal.returns-in_err-check-in-Some-clause-err
returns-in_err-check-in-Some-clause-err g c =
    let merge = g.B.BatchMerger.fold c.args.operator.now in
    let e = c.merged_at_once.ensures in
    let alike : IsAlike c.args.self c.merged_at_once.new.self = record { key = e.key; seq = e.seq; stamp = e.stamp; created = e.created; expires = e.expires; late = e.late; batch = e.batch; folded = e.folded } in
    let p = err_from_is_err_and c.from_residual-in_err-check-in-Some.result c.from_residual-in_err-check-in-Some.ensures.1 in
    let base = c.in_ok-existing.ensures.copy ∙ sym (base_is c.args.base.value c.requires.base) in
    let once = subst (λ (b : Option (List ℕ)). MergesAtOnce merge c.args.self b c.in-Some.bytes) base (record { folded = c.in-Some.ensures.unmerged; late = c.in-Some.ensures.ordered; answer = c.in-Some.ensures.merged }) in
    rw (p.1, p.2) (refuses_base_at_once merge (g.met.B.BatchMerger.lawful c.args.operator.now) c.args.self c.merged_at_once.new.self c.note.new.self (row_of c.args.base) c.in-Some.bytes c.in_err-check-in-Some.field-0.0 alike once c.note.ensures c.requires.base (sym c.in_err-check-in-Some.ensures))

pub returns-in_ok-check-in-Some-clause-ok : goal.returns-in_ok-check-in-Some-clause-ok
returns-in_ok-check-in-Some-clause-ok g c =
    let merge = g.B.BatchMerger.fold c.args.operator.now in
    let e = c.merged_at_once.ensures in
    let alike : IsAlike c.args.self c.merged_at_once.new.self = record { key = e.key; seq = e.seq; stamp = e.stamp; created = e.created; expires = e.expires; late = e.late; batch = e.batch; folded = e.folded } in
    let base = c.in_ok-existing.ensures.copy ∙ sym (base_is c.args.base.value c.requires.base) in
    let once = subst (λ (b : Option (List ℕ)). MergesAtOnce merge c.args.self b c.in-Some.bytes) base (record { folded = c.in-Some.ensures.unmerged; late = c.in-Some.ensures.ordered; answer = c.in-Some.ensures.merged }) in
    subst (λ (r : Row). Closes merge c.args.self (row_of c.args.base ∷ []) r) (sym c.into_row.ensures)
    (closes_over_at_once merge (g.met.B.BatchMerger.lawful c.args.operator.now) c.args.self c.merged_at_once.new.self c.note.new.self (row_of c.args.base) c.in-Some.bytes alike once c.note.ensures (sym c.in_ok-check-in-Some.ensures) c.requires.base)

pub returns-in_ok-close_over_in_batches-in-None-clause-ok : goal.returns-in_ok-close_over_in_batches-in-None-clause-ok
returns-in_ok-close_over_in_batches-in-None-clause-ok g c =
    let merge = g.B.BatchMerger.fold c.args.operator.now in
    let e = c.merged_at_once.ensures in
    let alike : IsAlike c.args.self c.merged_at_once.new.self = record { key = e.key; seq = e.seq; stamp = e.stamp; created = e.created; expires = e.expires; late = e.late; batch = e.batch; folded = e.folded } in
    alike_closes merge c.args.self c.merged_at_once.new.self (row_of c.args.base ∷ []) (row_of c.in_ok-close_over_in_batches-in-None.field-0) alike c.in_ok-close_over_in_batches-in-None.ensures.ok

pub returns-in_err-close_over_in_batches-in-None-clause-err : goal.returns-in_err-close_over_in_batches-in-None-clause-err
returns-in_err-close_over_in_batches-in-None-clause-err g c =
    let merge = g.B.BatchMerger.fold c.args.operator.now in
    let e = c.merged_at_once.ensures in
    let alike : IsAlike c.args.self c.merged_at_once.new.self = record { key = e.key; seq = e.seq; stamp = e.stamp; created = e.created; expires = e.expires; late = e.late; batch = e.batch; folded = e.folded } in
    let p = err_from_is_err_and c.from_residual-in_err-close_over_in_batches-in-None.result c.from_residual-in_err-close_over_in_batches-in-None.ensures.1 in
    rw (p.1, p.2) (alike_refuses merge c.args.self c.merged_at_once.new.self (row_of c.args.base ∷ []) c.in_err-close_over_in_batches-in-None.field-0.0 alike c.in_err-close_over_in_batches-in-None.ensures.err)
