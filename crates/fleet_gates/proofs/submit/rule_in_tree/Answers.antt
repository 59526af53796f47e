use Rattle.std.proofs.Common.{◌∙◌, ◌&&◌, sym, ap, map, not}
use Rattle.std.specs.Prelude.{is_some}
use Rattle.fleet_model.specs.Jobs.{is_drain}
use Rattle.fleet_model.specs.Nodes.{L0, names, tree_at}
use Rattle.fleet_model.specs.Sources.{older_nodes}
use Rattle.fleet_model.specs.Work.Gates.{names_older}
use Rattle.fleet_jobs.specs.Sources.{name_of}
use Rattle.fleet_jobs.specs.Specs.{segment_of, sources_of, spec_of}
use Rattle.fleet_gates.specs.Places.{names_of_runs}
use Rattle.fleet_gates.proofs.Stands.{join_passes}
use Rattle.fleet_gates.proofs.submit.rule_in_tree.Goals as goal

pub returns-then-joins_runs : goal.returns-then-joins_runs
returns-then-joins_runs c = λ trees jobs lost same.
    let spec = c.args.job.now.spec in
    let sources = map name_of (sources_of spec) in
    let runs = c.args.tree.now.compacted in
    let nodes = names (tree_at (segment_of spec) trees) in
    join_passes (is_drain (spec_of spec)) sources nodes (map (λ view. L0 view.id) c.args.tree.now.l0) runs (names_older sources nodes) same
    (sym c.if-joins_runs.true ∙ c.joins_runs.ensures ∙ ap (λ s. not (is_drain (spec_of s)) && is_some (older_nodes (map name_of (sources_of s)) (names_of_runs runs))) c.spec.ensures)

pub returns : goal.returns
returns c = λ trees jobs lost same.
    c.place_rule.ensures trees jobs lost (same ∙ sym c.in_ok-nodes.ensures ∙ ap (map name_of) (sym c.deref.ensures.value))
