use Rattle.std.proofs.Common.{rules, ◌≡◌, ◌∙◌, sym, ap, subst, ℕ, ◌+◌, ◌≤◌, List, [], ◌∷◌, true, false}
use Rattle.std.specs.Prelude.{nat_lt}
use Rattle.std.specs.List.{AllByRecursion}
use Rattle.std.proofs.lemmas.Bool.{ltb-false}
use Rattle.row_model.specs.Bounds.{IsInBounds}
use Rattle.row_model.specs.Rows.{Row}
use Rattle.row_model.specs.Written.Sizes.{estimated_size}
use Rattle.row_model.specs.Written.Tables.{cut_from, cut_tables}
use Rattle.fleet_rows.specs.Row.{row_of, rows_of}
use Rattle.fleet_exec.specs.Cut.{open_with}
use Rattle.fleet_exec.specs.Taking.{left_after}
use Rattle.fleet_exec.proofs.Cuts.{packed_left, reads_further, goes_on, ends_full, ends_last, some_rows}
use Rattle.fleet_exec.proofs.finish.take_table.Goals as goal

pub returns-then-full-clause-ok : goal.returns-then-full-clause-ok
returns-then-full-clause-ok g c =
    let f = g.T.RowSource.state in
    let L : List Row → List Row = left_after c.args.cursor.now in
    let takes = c.in_ok-row.ensures.ok in
    let new = f c.next_left.new.source in
    let next = packed_left c.args.cursor.now (f c.rows.source) new c.in_ok-row.field-0 c.in-Some.row c.pack_row.new.row takes c.in-Some.is c.pack_row.ensures.same in
    record {
      tables = ends_full c.args.size c.rows.filled c.rows.table.items c.push.new.self.items c.pack_row.new.row (L (f c.rows.source).rows) (L new.rows) (cut_tables c.args.size (L (f c.args.source.now).rows)) next c.in_ok-push.ensures.items (sym c.if-full.true ∙ c.is_full-full.ensures) c.rows.invariant.tables;
      reads = reads_further c.rows.invariant.reads takes.reads;
      ends = λ none. absurd (some_rows c.rows.table.items c.pack_row.new.row (sym c.in_ok-push.ensures.items ∙ none));
    }

pub rows-preserved : goal.rows-preserved
rows-preserved g c =
    let f = g.T.RowSource.state in
    let L : List Row → List Row = left_after c.args.cursor.now in
    let takes = c.in_ok-row.ensures.ok in
    let new = f c.next_left.new.source in
    let next = packed_left c.args.cursor.now (f c.rows.source) new c.in_ok-row.field-0 c.in-Some.row c.pack_row.new.row takes c.in-Some.is c.pack_row.ensures.same in
    let size = estimated_size (row_of c.pack_row.new.row) in
    let room : false ≡ nat_lt c.args.size (c.rows.filled + size) = sym c.if-full.false ∙ c.is_full-full.ensures in
    let bounded : AllByRecursion IsInBounds (row_of c.pack_row.new.row ∷ L new.rows) = subst (AllByRecursion IsInBounds) next c.rows.invariant.bounded in
    record {
      sound = search rules;
      reads = reads_further c.rows.invariant.reads takes.reads;
      filled = subst (λ (n : ℕ). c.rows.filled + n ≤ c.args.size) (sym c.estimated_size-bytes.ensures) (ltb-false c.args.size (c.rows.filled + size) (sym room));
      bounded = bounded.1;
      tables = subst (λ (n : ℕ). cut_tables c.args.size (L (f c.args.source.now).rows) ≡ open_with (rows_of c.push.new.self.items) (cut_from c.args.size (c.rows.filled + n) (L new.rows))) (sym c.estimated_size-bytes.ensures)
          (goes_on c.args.size c.rows.filled c.rows.table.items c.push.new.self.items c.pack_row.new.row (L (f c.rows.source).rows) (L new.rows) (cut_tables c.args.size (L (f c.args.source.now).rows)) next c.in_ok-push.ensures.items room c.rows.invariant.tables);
    }

pub returns-clause-ok : goal.returns-clause-ok
returns-clause-ok g c =
    let f = g.T.RowSource.state in
    let L : List Row → List Row = left_after c.args.cursor.now in
    let takes = c.in_ok-row.ensures.ok in
    let new = f c.next_left.new.source in
    let ends : (new.rows ≡ []) × ((f c.rows.source).whole ≡ true) = search rules in
    let left : L (f c.rows.source).rows ≡ [] = search rules in
    record {
      tables = ends_last c.args.size c.rows.filled c.rows.table.items (L (f c.rows.source).rows) (L new.rows) (cut_tables c.args.size (L (f c.args.source.now).rows)) left (ap L ends.0) c.rows.invariant.tables;
      reads = reads_further c.rows.invariant.reads takes.reads;
      ends = λ _. sym c.rows.invariant.reads.whole ∙ ends.1;
    }
