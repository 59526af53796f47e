use Rattle.std.proofs.Common.{◌≡◌, ◌++◌, map, string_bytes}
use Rattle.fleet_model.specs.Nodes.{L0, Run}
use Rattle.fleet_tree.specs.Views.{View}
use Rattle.fleet_tree.specs.declared.run.SortedRun.{SortedRun}
use Rattle.script_model.specs.Words.{node_text}
use Rattle.fleet_text.proofs.job_texts.nodes_text.Given as goal

abbrev pub invariant-flushes : goal.invariant-flushes
invariant-flushes l = map string_bytes l.nodes.items ++ map node_text (map (λ (view : View). L0 view.id) l.view-iterator) ≡ map node_text (map (λ (view : View). L0 view.id) l.tree.l0)

abbrev pub invariant-runs : goal.invariant-runs
invariant-runs l =
    map string_bytes l.nodes.items ++ map node_text (map (λ (run : SortedRun). Run run.id) l.run-iterator)
    ≡ map node_text (map (λ (view : View). L0 view.id) l.tree.l0 ++ map (λ (run : SortedRun). Run run.id) l.tree.compacted)
