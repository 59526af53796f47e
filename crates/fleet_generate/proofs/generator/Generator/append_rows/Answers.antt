use Rattle.std.proofs.Common.{◌-◌, ◌+◌, ◌++◌, ◌∷◌, [], string_bytes, ap, ◌∙◌, append_assoc, arith}
use Rattle.script_model.specs.Words.{row_text, comma}
use Rattle.script_model.specs.Generated.{generated_row}
use Rattle.fleet_generate.proofs.Turns.{one_more, all_made, rows_spelt}
use Rattle.fleet_generate.proofs.generator.Generator.append_rows.Goals as goal

pub rows-preserved : goal.rows-preserved
rows-preserved c =
    let r = (generated_row c.args.seq c.rows.place c.rows.self.state).0 in
    one_more (λ r. comma ∷ row_text r) (generated_row c.args.seq) _ _ (4 - c.rows.place) (4 - (c.rows.place + 1)) c.rows.place (string_bytes c.rows.out) _ c.rows.self.state _ (omega (arith, c.rows-test.true)) c.rows.invariant
    (c.in_ok-append_row-2.ensures.text ∙ ap (λ t. t ++ row_text r) c.in_ok-push_str.ensures.bytes ∙ append_assoc (string_bytes c.rows.out) (comma ∷ []) (row_text r))
    c.in_ok-append_row-2.ensures.state

pub returns-clause-text : goal.returns-clause-text
returns-clause-text c =
    (rows_spelt c.args.seq _ _ _ _ _ _ c.in_ok-append_row.ensures.text c.in_ok-append_row.ensures.state (all_made _ _ _ _ (4 - c.rows.place) c.rows.place _ _ (omega (arith, c.rows-test.false)) c.rows.invariant)).0

pub returns-clause-state : goal.returns-clause-state
returns-clause-state c =
    (rows_spelt c.args.seq _ _ _ _ _ _ c.in_ok-append_row.ensures.text c.in_ok-append_row.ensures.state (all_made _ _ _ _ (4 - c.rows.place) c.rows.place _ _ (omega (arith, c.rows-test.false)) c.rows.invariant)).1
