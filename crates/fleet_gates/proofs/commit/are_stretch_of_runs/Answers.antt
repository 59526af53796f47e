use Rattle.std.proofs.Common.{◌≡◌, ◌∙◌, sym, ap, map}
use Rattle.std.specs.Prelude.{is_some, Some}
use Rattle.std.specs.Option.{option_copied}
use Rattle.fleet_model.specs.Nodes.{L0, names, tree_at}
use Rattle.fleet_model.specs.Sources.{older_nodes}
use Rattle.fleet_tree.specs.Trees.{trees_of}
use Rattle.fleet_jobs.specs.Places.{nodes_if_there}
use Rattle.fleet_jobs.specs.Sources.{name_of}
use Rattle.fleet_jobs.specs.Specs.{segment_of, sources_of}
use Rattle.fleet_jobs.specs.Taken.{tree_in}
use Rattle.fleet_jobs.proofs.ModelPlaces.{nodes_are_the_models}
use Rattle.fleet_gates.specs.Places.{names_of_runs}
use Rattle.fleet_gates.proofs.Stands.{runs_stand}
use Rattle.fleet_gates.proofs.commit.are_stretch_of_runs.Goals as goal

pub returns-in-Some : goal.returns-in-Some
returns-in-Some c = λ flushes stands.
    let core = c.args.core.now in
    let p = segment_of c.args.spec.now in
    let tree = c.in-Some.tree.now in
    let at = c.as_slice.ensures ∙ c.segment.ensures in
    let found : tree_in p core ≡ Some tree = sym (ap option_copied (sym c.in-Some.is) ∙ c.tree_for_segment.ensures ∙ ap (λ q. tree_in q core) at) in
    let nodes = nodes_are_the_models flushes p core ∙ ap nodes_if_there found in
    runs_stand (map name_of (sources_of c.args.spec.now)) (names (tree_at p (trees_of flushes core))) (map (λ view. L0 view.id) tree.l0) tree.compacted nodes
    (sym (c.is_run_stretch.ensures ∙ ap (λ sources. is_some (older_nodes (map name_of sources) (names_of_runs tree.compacted))) c.sources.ensures) ∙ stands)
