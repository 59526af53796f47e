use Rattle.std.proofs.Common.{rules, Some, None}
use Rattle.std.proofs.lemmas.Result.{IfOk-weaker}
use Rattle.fleet_text.specs.Lines.{node_of}
use Rattle.fleet_looks.proofs.LookLines.{absent_said, look, shown_said}
use Rattle.fleet_looks.proofs.looks.show_tables.Goals as goal

pub returns-in_default-clause-reply : goal.returns-in_default-clause-reply
returns-in_default-clause-reply c =
    let store = c.args.store.now.world.store in
    IfOk-weaker c.absent.result _ _ (λ answer says. (absent_said store (node_of c.args.node) c.args.segment.now answer (look c.manifest.result.now store (node_of c.args.node) c.args.segment.now None c.manifest.ensures (search rules)) says).0) c.absent.ensures.reply

pub returns-clause-reply : goal.returns-clause-reply
returns-clause-reply c =
    let store = c.args.store.now.world.store in
    IfOk-weaker c.tables-2.result _ _
    (λ answer says. shown_said store (node_of c.args.node) c.args.segment.now c.in-Some.handles.items c.in_ok-from_vec.field-0 answer (look c.manifest.result.now store (node_of c.args.node) c.args.segment.now (Some c.in-Some.handles.items) c.manifest.ensures (search rules)) (search rules) says)
    c.tables-2.ensures.reply
