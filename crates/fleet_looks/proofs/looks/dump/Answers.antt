use Rattle.std.proofs.Common.{rules, ◌∙◌, ap, flat_map, Some, None}
use Rattle.std.proofs.lemmas.Result.{IfOk-weaker}
use Rattle.fleet_rows.specs.Row.{rows_of}
use Rattle.fleet_text.specs.Lines.{node_of}
use Rattle.fleet_looks.proofs.LookLines.{absent_said, look, rows_said}
use Rattle.fleet_looks.proofs.looks.dump.Goals as goal

pub returns-in_default-clause-reply : goal.returns-in_default-clause-reply
returns-in_default-clause-reply c =
    let store = c.args.store.now.world.store in
    IfOk-weaker c.absent.result _ _ (λ answer says. (absent_said store (node_of c.args.node) c.args.segment.now answer (look c.manifest.result.now store (node_of c.args.node) c.args.segment.now None c.manifest.ensures (search rules)) says).1) c.absent.ensures.reply

pub returns-clause-reply : goal.returns-clause-reply
returns-clause-reply c =
    let store = c.args.store.now.world.store in
    IfOk-weaker c.rows.result _ _
    (λ answer says. rows_said store (node_of c.args.node) c.args.segment.now c.in-Some.handles.items (rows_of c.deref-2.result.now) answer c.requires.held
    (look c.manifest.result.now store (node_of c.args.node) c.args.segment.now (Some c.in-Some.handles.items) c.manifest.ensures (search rules))
    (ap rows_of c.deref-2.ensures.value ∙ (c.in_ok-rows.ensures.rows ∙ ap (flat_map _) c.deref.ensures.value)) says)
    c.rows.ensures.reply
