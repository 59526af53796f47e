use Rattle.std.proofs.Common.{rules, ◌≡◌, [], ◌∷◌, sym, subst, true, false, Option, Some, None}
use Rattle.std.proofs.lemmas.Result.{err_from_is_err_and}
use Rattle.row_model.specs.Rows.{Row, is_operand}
use Rattle.fleet_iter.specs.Iteration.{IteratorState}
use Rattle.fleet_rows.specs.Row.{row_of}
use Rattle.fleet_rows.specs.declared.row.RowEntry.{RowEntry}
use Rattle.fleet_fold.specs.Folded.{same_group}
use Rattle.fleet_fold.specs.Groups.{Joins, JoinsSoFar}
use Rattle.fleet_fold.proofs.Joining.{joins_operand, joins_no_more, joins_base, joins_all, refuses_operand}
use Rattle.fleet_fold.proofs.fold.take_rows.Goals as goal

pub returns-then-not-takes-clause-ok : goal.returns-then-not-takes-clause-ok
returns-then-not-takes-clause-ok g c =
    let merge = g.B.BatchMerger.fold c.args.operator.now in
    let old = g.T.RowSource.state c.args.inner.now in
    let s = g.T.RowSource.state c.rows.inner in
    let new = g.T.RowSource.state c.next_row.new.self in
    let next : s ≡ record new { rows = row_of c.in-Some.row ∷ new.rows } = search rules in
    let takes : same_group c.args.rule c.rows.group.key c.rows.group.stamp (row_of c.in-Some.row) ≡ false = search rules in
    record {
      group = λ first before so_far. joins_no_more merge c.args.rule first before c.rows.group s new c.in-Some.row next takes (c.rows.invariant.so_far first before so_far);
      plain = tt;
      readable = search rules;
      whole = search rules;
      steady = search rules;
    }

pub returns-then-not-is_operand-clause-ok : goal.returns-then-not-is_operand-clause-ok
returns-then-not-is_operand-clause-ok g c =
    let merge = g.B.BatchMerger.fold c.args.operator.now in
    let old = g.T.RowSource.state c.args.inner.now in
    let s = g.T.RowSource.state c.rows.inner in
    let new = g.T.RowSource.state c.next_row.new.self in
    let next : s ≡ record new { rows = row_of c.in-Some.row ∷ new.rows } = search rules in
    let takes : same_group c.args.rule c.rows.group.key c.rows.group.stamp (row_of c.in-Some.row) ≡ true = search rules in
    let plain : is_operand (row_of c.in-Some.row) ≡ false = search rules in
    record {
      group = λ first before so_far. subst (λ (o : Option RowEntry). Joins merge c.args.rule first before (Some c.in-Some.row) c.rows.group o new) (sym c.rows.invariant.none)
          (joins_base merge c.args.rule first before c.rows.group s new c.in-Some.row next takes plain (c.rows.invariant.so_far first before so_far));
      plain = plain;
      readable = search rules;
      whole = search rules;
      steady = search rules;
    }

pub rows-preserved : goal.rows-preserved
rows-preserved g c =
    let merge = g.B.BatchMerger.fold c.args.operator.now in
    let old = g.T.RowSource.state c.args.inner.now in
    let s = g.T.RowSource.state c.rows.inner in
    let new = g.T.RowSource.state c.next_row.new.self in
    let next : s ≡ record new { rows = row_of c.in-Some.row ∷ new.rows } = search rules in
    let takes : same_group c.args.rule c.rows.group.key c.rows.group.stamp (row_of c.in-Some.row) ≡ true = search rules in
    let operand : is_operand (row_of c.in-Some.row) ≡ true = search rules in
    record {
      sound = search rules;
      readable = search rules;
      whole = search rules;
      steady = search rules;
      none = c.rows.invariant.none;
      so_far = λ first before so_far. joins_operand merge c.args.rule first before c.rows.group c.add.new.self s new c.in-Some.row next takes operand c.in_ok-add.ensures.ok (c.rows.invariant.so_far first before so_far);
    }

pub returns-in_err-add-clause-err : goal.returns-in_err-add-clause-err
returns-in_err-add-clause-err g c =
    let merge = g.B.BatchMerger.fold c.args.operator.now in
    let old = g.T.RowSource.state c.args.inner.now in
    let s = g.T.RowSource.state c.rows.inner in
    let new = g.T.RowSource.state c.next_row.new.self in
    let next : s ≡ record new { rows = row_of c.in-Some.row ∷ new.rows } = search rules in
    let takes : same_group c.args.rule c.rows.group.key c.rows.group.stamp (row_of c.in-Some.row) ≡ true = search rules in
    let operand : is_operand (row_of c.in-Some.row) ≡ true = search rules in
    let alive : new.failure ≡ None = search rules in
    let p = err_from_is_err_and c.from_residual-in_err-add.result c.from_residual-in_err-add.ensures.1 in
    rw (p.1, p.2) (λ first before so_far. refuses_operand merge c.args.rule first before old c.rows.group s new c.in-Some.row c.in_err-add.field-0.0 next takes operand alive (c.rows.invariant.so_far first before so_far) c.in_err-add.ensures.err)

pub returns-clause-ok : goal.returns-clause-ok
returns-clause-ok g c =
    let merge = g.B.BatchMerger.fold c.args.operator.now in
    let old = g.T.RowSource.state c.args.inner.now in
    let s = g.T.RowSource.state c.rows.inner in
    let new = g.T.RowSource.state c.next_row.new.self in
    let none : s.rows ≡ [] = search rules in
    let same : s ≡ new = search rules in
    let joins : (o : Option RowEntry) → o ≡ None → (first : Row) (before : IteratorState) → JoinsSoFar merge c.args.rule first before c.args.group.now old → Joins merge c.args.rule first before None c.rows.group o new =
    λ o e first before so_far. subst (λ (o : Option RowEntry). Joins merge c.args.rule first before None c.rows.group o new) (sym e)
    (subst (λ (t : IteratorState). Joins merge c.args.rule first before None c.rows.group None t) same (joins_all merge c.args.rule first before c.rows.group s none (c.rows.invariant.so_far first before so_far))) in
    record {
      group = joins c.rows.ahead c.rows.invariant.none;
      plain = tt;
      readable = search rules;
      whole = search rules;
      steady = search rules;
    }
