use Rattle.std.proofs.Common.{◌≡◌, ◌∙◌, sym, subst, reverse, Option, Ok, [], ◌∷◌, ℕ, List}
use Rattle.std.proofs.lemmas.Result.{err_from_is_err_and}
use Rattle.row_model.specs.Fold.{fold_bytes}
use Rattle.row_model.specs.Rows.{Row}
use Rattle.fleet_rows.specs.Row.{row_of}
use Rattle.fleet_fold.specs.Folded.{answer_of}
use Rattle.fleet_fold.specs.Groups.{RefusesAs, Closes}
use Rattle.fleet_fold.proofs.GroupRows.{no_operand}
use Rattle.fleet_fold.proofs.GroupCloses.{refuses_flush, refuses_base, refuses_over, closes_over, base_is}
use Rattle.fleet_fold.proofs.group.Group.close_over_in_batches.Goals as goal

pub returns-in_err-flush-clause-err : goal.returns-in_err-flush-clause-err
returns-in_err-flush-clause-err g c =
    let merge = g.B.BatchMerger.fold c.args.operator.now in
    let p = err_from_is_err_and c.from_residual.result c.from_residual.ensures.1 in
    let base = row_of c.args.base in
    rw (p.1, p.2) (refuses_flush merge c.args.self (base ∷ []) c.in_err-flush.field-0.0 (no_operand base c.requires.base) c.in_err-flush.ensures.err)

pub returns-in_err-check-clause-err : goal.returns-in_err-check-clause-err
returns-in_err-check-clause-err g c =
    let merge = g.B.BatchMerger.fold c.args.operator.now in
    let p = err_from_is_err_and c.from_residual-in_err-check.result c.from_residual-in_err-check.ensures.1 in
    rw (p.1, p.2) (refuses_base merge c.args.self c.flush.new.self c.note.new.self (row_of c.args.base) c.in_err-check.field-0.0 c.in_ok-flush.ensures.ok c.note.ensures c.requires.base (sym c.in_err-check.ensures))

pub returns-in_err-bytes-clause-err : goal.returns-in_err-bytes-clause-err
returns-in_err-bytes-clause-err g c =
    let merge = g.B.BatchMerger.fold c.args.operator.now in
    let p = err_from_is_err_and c.from_residual-in_err-bytes.result c.from_residual-in_err-bytes.ensures.1 in
    let e = c.in_err-bytes.field-0.0 in
    let noted = c.note.new.self in
    let base = c.into_bytes-existing.ensures ∙ sym (base_is c.args.base.value c.requires.base) in
    let stated = subst (λ (w : List (List ℕ)). RefusesAs (answer_of (fold_bytes merge noted.key c.into_bytes-existing.result w)) e) (c.deref.ensures.value ∙ c.reverse.ensures.items) c.in_err-bytes.ensures.err in
    rw (p.1, p.2) (refuses_over merge c.args.self c.flush.new.self noted (row_of c.args.base) e c.in_ok-flush.ensures.ok c.note.ensures c.requires.base (sym c.in_ok-check.ensures)
    (subst (λ (b : Option (List ℕ)). RefusesAs (answer_of (fold_bytes merge noted.key b (reverse noted.folded.items))) e) base stated))

pub returns-clause-ok : goal.returns-clause-ok
returns-clause-ok g c =
    let merge = g.B.BatchMerger.fold c.args.operator.now in
    let noted = c.note.new.self in
    let bytes = c.in_ok-bytes.bytes in
    let base = c.into_bytes-existing.ensures ∙ sym (base_is c.args.base.value c.requires.base) in
    let stated = subst (λ (w : List (List ℕ)). answer_of (fold_bytes merge noted.key c.into_bytes-existing.result w) ≡ Ok bytes) (c.deref.ensures.value ∙ c.reverse.ensures.items) c.in_ok-bytes.ensures.ok in
    subst (λ (r : Row). Closes merge c.args.self (row_of c.args.base ∷ []) r) (sym c.into_row.ensures)
    (closes_over merge c.args.self c.flush.new.self noted (row_of c.args.base) bytes c.in_ok-flush.ensures.ok c.note.ensures (sym c.in_ok-check.ensures) c.requires.base
    (subst (λ (b : Option (List ℕ)). answer_of (fold_bytes merge noted.key b (reverse noted.folded.items)) ≡ Ok bytes) base stated))
