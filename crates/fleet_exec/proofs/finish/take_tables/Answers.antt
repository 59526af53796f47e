use Rattle.std.proofs.Common.{rules, ◌≢◌, ◌∙◌, ap, List, [], ◌∷◌, ◌++◌, map, arith}
use Rattle.std.proofs.lemmas.Grind.{common_steps}
use Rattle.std.proofs.lemmas.List.{map-append}
use Rattle.row_model.specs.Written.Tables.{cut_tables}
use Rattle.fleet_rows.specs.Row.{rows_of}
use Rattle.fleet_rows.specs.declared.row.RowEntry.{RowEntry}
use Rattle.fleet_exec.specs.Taking.{left_after}
use Rattle.fleet_exec.proofs.Cuts.{reads_further, goes_on_after, stays_bounded}
use Rattle.fleet_exec.proofs.finish.take_tables.Goals as goal

pub tables-preserved : goal.tables-preserved
tables-preserved g c =
    let f = g.T.RowSource.state in
    let takes = c.in_ok-table.ensures.ok in
    let s = f c.tables.source in
    let new = f c.take_table.new.source in
    let more = ap (map rows_of) c.in_ok-push.ensures.ok
    ∙ (map-append rows_of c.tables.tables (c.from_vec.result ∷ [])
    ∙ ap (λ (w : List RowEntry). map rows_of c.tables.tables ++ rows_of w ∷ []) c.from_vec.ensures) in
    let some : c.in_ok-table.table.items ≢ [] = λ e. grind (arith, common_steps, e) in
    record {
      sound = search rules;
      reads = reads_further c.tables.invariant.reads takes.reads;
      bounded = stays_bounded c.args.size c.args.cursor.now s new c.in_ok-table.table.items takes some c.tables.invariant.bounded;
      tables = goes_on_after c.args.size c.args.cursor.now s new c.in_ok-table.table.items takes some (map rows_of c.tables.tables) (map rows_of c.push.new.self) (cut_tables c.args.size (left_after c.args.cursor.now (f c.args.source.now).rows)) c.tables.invariant.tables more;
    }
