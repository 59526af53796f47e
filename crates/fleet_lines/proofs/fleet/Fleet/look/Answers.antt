use Rattle.std.proofs.Common.{rules, ◌∙◌, refl, ap, subst, ℕ, List}
use Rattle.fleet_model.specs.Nodes.{node_named, tree_at}
use Rattle.script_model.specs.LineRuns.{if_some}
use Rattle.script_model.specs.Lines.Looks.{dump_reply}
use Rattle.script_model.specs.Replies.{absent_reply, jobs_reply, tables_reply, trees_reply}
use Rattle.script_model.specs.Script as model
use Rattle.script_model.specs.Script.{IsInBounds}
use Rattle.fleet_text.specs.Lines.{line_of, node_of}
use Rattle.fleet_text.specs.declared.line.Line.{Line}
use Rattle.fleet_lines.specs.Fleets.{FleetParts}
use Rattle.fleet_lines.proofs.FlushAsks.{tick_back}
use Rattle.fleet_looks.proofs.KeyReads.{read_seen}
use Rattle.fleet_looks.proofs.KeyScans.{scan_seen}
use Rattle.fleet_lines.proofs.ServeLines.{dump_serves, jobs_serves, read_serves, scan_serves, served_as, tables_serves, trees_serves}
use Rattle.fleet_lines.proofs.fleet.Fleet.look.Goals as goal

pub returns-in-Trees-clause-served : goal.returns-in-Trees-clause-served
returns-in-Trees-clause-served g c =
    let old = c.args.self.now in
    served_as _ c.args.number _ model.ShowTrees old old old _ c.show_trees.result (ap line_of c.in-Trees.is) refl
    (λ answer says. trees_serves _ c.args.number old answer c.requires.serving.stands (says ∙ ap (λ (f : FleetParts). trees_reply f.store.world.store.manifest.trees) c.self.view_is)) c.show_trees.ensures.reply

pub returns-in-Jobs-clause-served : goal.returns-in-Jobs-clause-served
returns-in-Jobs-clause-served g c =
    let old = c.args.self.now in
    served_as _ c.args.number _ model.ShowJobs old old old _ c.show_jobs.result (ap line_of c.in-Jobs.is) refl
    (λ answer says. jobs_serves _ c.args.number old answer c.requires.serving.stands (says ∙ ap (λ (f : FleetParts). if_some f.store.world.store.records absent_reply (λ records. jobs_reply records.jobs)) c.self-in-Jobs.view_is)) c.show_jobs.ensures.reply

pub returns-in-Tables-clause-served : goal.returns-in-Tables-clause-served
returns-in-Tables-clause-served g c =
    let old = c.args.self.now in
    let i = c.in-Tables in
    served_as _ c.args.number _ (model.ShowTables i.segment (node_of i.node)) old old old _ c.show_tables.result (ap line_of i.is) refl
    (λ answer says. tables_serves _ c.args.number old answer i.segment (node_of i.node) c.requires.serving.stands
    (says ∙ (ap (λ (f : FleetParts). tables_reply f.store.world.store.tables (node_named (node_of i.node) (tree_at c.as_slice.result.now f.store.world.store.manifest.trees))) c.self-in-Tables.view_is
    ∙ ap (λ (segment : List ℕ). tables_reply old.store.world.store.tables (node_named (node_of i.node) (tree_at segment old.store.world.store.manifest.trees))) (search rules)))) c.show_tables.ensures.reply

pub returns-in-Dump-clause-served : goal.returns-in-Dump-clause-served
returns-in-Dump-clause-served g c =
    let old = c.args.self.now in
    let i = c.in-Dump in
    served_as _ c.args.number _ (model.Dump i.segment (node_of i.node)) old old old _ c.dump.result (ap line_of i.is) refl
    (λ answer says. dump_serves _ c.args.number old answer i.segment (node_of i.node) c.requires.serving.stands
    (says ∙ (ap (λ (f : FleetParts). dump_reply f.store.world.store.tables (node_named (node_of i.node) (tree_at c.as_slice-in-Dump.result.now f.store.world.store.manifest.trees))) c.self-in-Dump.view_is
    ∙ ap (λ (segment : List ℕ). dump_reply old.store.world.store.tables (node_named (node_of i.node) (tree_at segment old.store.world.store.manifest.trees))) (search rules)))) c.dump.ensures.reply

pub returns-in-Read-clause-served : goal.returns-in-Read-clause-served
returns-in-Read-clause-served g c =
    let old = c.args.self.now in
    let i = c.in-Read in
    let merge = g.O.MergeOperator.merged (g.O.MergeOperator.settings c.args.operator.now) in
    let bounds = subst (λ (l : Line). IsInBounds (line_of l)) i.is c.requires.bounds in
    served_as _ c.args.number _ (model.ReadKey i.segment i.key i.seq i.now) old old old _ c.read_key.result (ap line_of i.is) refl
    (λ answer says. read_serves _ c.args.number old answer i.segment i.key i.seq i.now c.requires.serving.stands
    (read_seen merge _ old.store.world.store c.as_slice-segment.result.now i.segment c.as_slice-key.result.now i.key i.seq _ i.now answer (ap (λ (f : FleetParts). f.store.world.store) c.self-in-Read.view_is) (search rules) (search rules) (tick_back i.now bounds.3) says))
    c.read_key.ensures.reply

pub returns-in-Scan-clause-served : goal.returns-in-Scan-clause-served
returns-in-Scan-clause-served g c =
    let old = c.args.self.now in
    let i = c.in-Scan in
    let merge = g.O.MergeOperator.merged (g.O.MergeOperator.settings c.args.operator.now) in
    let bounds = subst (λ (l : Line). IsInBounds (line_of l)) i.is c.requires.bounds in
    served_as _ c.args.number _ (model.Scan i.segment i.from i.to i.seq i.now i.limit) old old old _ c.scan_keys.result (ap line_of i.is) refl
    (λ answer says. scan_serves _ c.args.number old answer i.segment i.from i.to i.seq i.now i.limit c.requires.serving.stands
    (scan_seen merge _ old.store.world.store c.as_slice-segment-in-Scan.result.now i.segment c.as_slice-from.result.now i.from c.as_slice-to.result.now i.to i.seq _ i.now i.limit answer (ap (λ (f : FleetParts). f.store.world.store) c.self-in-Scan.view_is)
    (search rules) (search rules) (search rules) (tick_back i.now bounds.4) says))
    c.scan_keys.ensures.reply
