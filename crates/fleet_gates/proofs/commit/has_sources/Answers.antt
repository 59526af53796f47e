use Rattle.std.proofs.Common.{◌≡◌, ◌∙◌, sym, ap, map, subst, IfOk}
use Rattle.std.specs.List.{list_all}
use Rattle.fleet_model.specs.Nodes.{names_contain}
use Rattle.fleet_jobs.specs.Places.{nodes_at}
use Rattle.fleet_jobs.specs.Sources.{name_of}
use Rattle.fleet_jobs.specs.Specs.{segment_of, sources_of}
use Rattle.fleet_jobs.proofs.ModelPlaces.{nodes_are_the_models}
use Rattle.fleet_gates.proofs.commit.has_sources.Goals as goal

pub returns-then-are_stretch_of_runs : goal.returns-then-are_stretch_of_runs
returns-then-are_stretch_of_runs c = λ flushes. sym (c.are_stretch_of_runs.ensures flushes c.if-are_stretch_of_runs.true)

pub returns : goal.returns
returns c = λ flushes.
    let core = c.args.core.now in
    let p = segment_of c.args.spec.now in
    let at = c.as_slice.ensures ∙ c.segment.ensures in
    let nodes = ap (map name_of) c.deref.ensures.value ∙ c.in_ok-nodes.ensures ∙ ap (λ q. nodes_at q core) at ∙ sym (nodes_are_the_models flushes p core) in
    let has = subst (λ sources. IfOk c.has_all.result (λ has. has ≡ list_all (names_contain (map name_of c.deref.result.now)) (map name_of sources))) c.sources.ensures c.has_all.ensures in
    subst (λ names. IfOk c.has_all.result (λ has. has ≡ list_all (names_contain names) (map name_of (sources_of c.args.spec.now)))) nodes has
