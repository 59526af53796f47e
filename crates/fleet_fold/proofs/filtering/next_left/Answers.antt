use Rattle.std.proofs.Common.{◌≡◌, ◌∙◌, sym, ap, subst, [], Option}
use Rattle.std.specs.Option.{option_to_list}
use Rattle.std.proofs.lemmas.Result.{err_from_is_err_and}
use Rattle.fleet_rows.specs.Row.{row_of, rows_of}
use Rattle.fleet_rows.specs.declared.row.RowEntry.{RowEntry}
use Rattle.fleet_iter.specs.Iteration.{AreRising}
use Rattle.fleet_fold.specs.Retention.{from_ahead}
use Rattle.fleet_fold.specs.Filter.{decided_rows, filtered_rows}
use Rattle.fleet_fold.proofs.Filters.{refused_by, leaves_out, reads}
use Rattle.fleet_fold.proofs.filtering.next_left.Goals as goal

pub returns-in_err-decision-clause-refused : goal.returns-in_err-decision-clause-refused
returns-in_err-decision-clause-refused g c =
    let answers = g.F.RowFilter.answers c.rows.filter in
    let closing = g.F.RowFilter.closing c.rows.filter in
    let s = g.T.RowSource.state c.rows.inner in
    let p = err_from_is_err_and c.from_residual.result c.from_residual.ensures.1 in
    let all = sym c.rows.invariant.rows ∙ ap (λ (w : Option RowEntry). filtered_rows answers closing (from_ahead w s)) c.in-Some.is in
    rw (p.1, p.2) (refused_by answers closing (row_of c.in-Some.row) s.rows _ s c.in_err-decision.field-0.0 all c.in_err-decision.ensures.answer)

pub rows-preserved : goal.rows-preserved
rows-preserved g c =
    let answers = g.F.RowFilter.answers in
    let closing = g.F.RowFilter.closing in
    let s = g.T.RowSource.state c.rows.inner in
    let t = g.T.RowSource.state c.next_row.new.self in
    let read = reads s t c.in_ok-next-in-None.next c.rows.invariant.readable c.in_ok-next-in-None.ensures.next in
    let none : decided_rows c.in_ok-decision.decision (row_of c.in-Some.row) ≡ [] = sym c.decided.ensures ∙ ap (λ (w : Option RowEntry). rows_of (option_to_list w)) c.in-None.is in
    let a = answers c.rows.filter in
    let b = answers c.filter_row.new.self in
    let d = closing c.rows.filter in
    let e = closing c.filter_row.new.self in
    record {
      sound = c.in_ok-next-in-None.ensures.sound;
      readable = read.readable;
      rising = subst AreRising (sym read.rows) (subst (λ (w : Option RowEntry). AreRising (from_ahead w s)) c.in-Some.is c.rows.invariant.rising).1;
      whole = read.whole ∙ c.rows.invariant.whole;
      is_open = c.in_ok-decision.ensures.open;
      ended = read.ended;
      rows = ap (filtered_rows b e) read.rows
          ∙ (leaves_out a b d e (row_of c.in-Some.row) s.rows c.in_ok-decision.decision (c.in_ok-decision.ensures.answer (λ q. cc q)) c.in_ok-decision.ensures.later none
          ∙ (ap (λ (w : Option RowEntry). filtered_rows a d (from_ahead w s)) (sym c.in-Some.is) ∙ c.rows.invariant.rows));
    }
